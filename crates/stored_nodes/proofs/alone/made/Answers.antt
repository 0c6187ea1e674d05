use Rattle.std.proofs.Common.{refl}
use Rattle.acceptor.specs.Content.{no_content}
use Rattle.stored_nodes.proofs.alone.made.Goals as goal

pub returns-in-Ok-clause-made : goal.returns-in-Ok-clause-made
returns-in-Ok-clause-made g c = λ clean blank. (c.in-Ok.ensures.made clean no_content (blank, refl)).serves

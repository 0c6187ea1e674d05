use Rattle.node_lines.proofs.Asked.{one_thing}
use Rattle.node_lines.proofs.laws.one_meaning.Goals as goal

pub returns : goal.returns
returns c = one_thing

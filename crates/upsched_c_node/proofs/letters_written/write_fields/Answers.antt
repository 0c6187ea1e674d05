use Rattle.std.proofs.Common.{refl}
use Rattle.upsched_c_node.proofs.Letters.{all_fit}
use Rattle.upsched_c_node.proofs.letters_written.write_fields.Goals as goal

pub returns-then-not-fit : goal.returns-then-not-fit
returns-then-not-fit c = (λ has. let told = c.fit.ensures.1 (all_fit _ _ has) in cc, refl)

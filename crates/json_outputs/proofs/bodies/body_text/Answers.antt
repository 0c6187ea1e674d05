use Rattle.json_outputs.proofs.Callers.{body_plain}
use Rattle.json_outputs.proofs.bodies.body_text.Goals as goal

pub text_of-requires : goal.text_of-requires
text_of-requires c = rw c.in_ok-value.ensures (body_plain c.args.body.now)

pub returns : goal.returns
returns c = rw c.in_ok-value.ensures at c.text_of.ensures

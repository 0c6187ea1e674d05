use Rattle.json_stats.proofs.Plain.{delays_plain}
use Rattle.json_stats.proofs.flows.delays_text.Goals as goal

pub text_of-requires : goal.text_of-requires
text_of-requires c = rw c.in_ok-value.ensures (delays_plain c.args.lease c.args.delays.now)

pub returns : goal.returns
returns c = rw c.in_ok-value.ensures at c.text_of.ensures

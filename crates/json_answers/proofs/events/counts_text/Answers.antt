use Rattle.json_answers.proofs.Plain.{counts_plain}
use Rattle.json_answers.proofs.events.counts_text.Goals as goal

pub text_of-requires : goal.text_of-requires
text_of-requires c = rw c.in_ok-value.ensures (counts_plain c.args.letters c.args.outputs c.args.transmissions)

pub returns : goal.returns
returns c = rw c.in_ok-value.ensures at c.text_of.ensures

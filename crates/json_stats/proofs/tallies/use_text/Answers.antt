use Rattle.json_stats.proofs.Plain.{use_plain}
use Rattle.json_stats.proofs.tallies.use_text.Goals as goal

pub text_of-requires : goal.text_of-requires
text_of-requires c = rw c.in_ok-value.ensures (use_plain c.args.key c.args.tally.now c.args.whole)

pub returns : goal.returns
returns c = rw c.in_ok-value.ensures at c.text_of.ensures

use Rattle.std.proofs.Common.{ap, ◌∙◌}
use Rattle.modem.specs.State.{channel_of}
use Rattle.modem.proofs.Clocks.{found_id}
use Rattle.modem.proofs.LeftOut.{run_left_out}
use Rattle.modem.proofs.skipped.quiet_ticks.Goals as goal

pub returns-clause-silent : goal.returns-clause-silent
returns-clause-silent c = λ v w k d ch m n answers h.
    (run_left_out n v w k d m answers (ap (channel_of v.channels) (found_id v.channels ch k h.known) ∙ h.known) h.from_clock h.quiet h.runs).0

pub returns-clause-left_out : goal.returns-clause-left_out
returns-clause-left_out c = λ v w k d ch m n answers h.
    (run_left_out n v w k d m answers (ap (channel_of v.channels) (found_id v.channels ch k h.known) ∙ h.known) h.from_clock h.quiet h.runs).1

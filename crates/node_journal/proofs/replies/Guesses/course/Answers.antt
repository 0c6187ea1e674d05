use Rattle.std.proofs.Common.{[], refl}
use Rattle.node_service.specs.Texts.{acted_text}
use Rattle.proposer.specs.declared.fault.NodeFault.TheVariants.{Down}
use Rattle.seats.specs.declared.acted.Acted.TheVariants.{Fault}
use Rattle.node_journal.proofs.replies.Guesses.course.Goals as goal

pub returns-then-skips-2 : goal.returns-then-skips-2
returns-then-skips-2 c = (([], refl, (c.args.after.now, refl), (Down, tt, (acted_text (Fault Down), refl))), λ no. absurd (cc (no)))

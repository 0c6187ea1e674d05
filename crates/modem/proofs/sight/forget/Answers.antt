use Rattle.modem.proofs.Sights.{AreSights-forgotten}
use Rattle.modem.proofs.sight.forget.Goals as goal

pub returns : goal.returns
returns c = λ n grants opens. rw c.forget_all.ensures (AreSights-forgotten n grants opens c.args.sights.now.items)

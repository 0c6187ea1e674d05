use Rattle.modem.proofs.Windows.{long_past}
use Rattle.modem.proofs.kept.known_past.Goals as goal

pub returns-then-past-eq0 : goal.returns-then-past-eq0
returns-then-past-eq0 c =
    long_past c.args.kept.now c.count_before.result c.args.ch c.args.«at» c.requires.kept (rw c.saturating_sub.ensures at c.count_before.ensures)

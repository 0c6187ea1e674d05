use Rattle.scheduler_lines.proofs.Asked.{one_asked}
use Rattle.scheduler_lines.proofs.laws.one_meaning.Goals as goal

pub returns : goal.returns
returns c = one_asked c.one_spelling.ensures.spelled

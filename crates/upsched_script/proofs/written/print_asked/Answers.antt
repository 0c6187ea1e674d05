use Rattle.std.proofs.Common.{string_bytes}
use Rattle.upsched_script.proofs.Tried.{no_plan_asked}
use Rattle.upsched_script.proofs.written.print_asked.Goals as goal

pub returns-clause-printed : goal.returns-clause-printed
returns-clause-printed g c = (string_bytes c.in_ok-text.text, c.in_ok-text.ensures.asked, rw c.as_str.ensures.value at c.in_ok-write_text.ensures)

pub returns-clause-no_plan : goal.returns-clause-no_plan
returns-clause-no_plan g c = λ none. absurd (no_plan_asked (g.R.Read.remaining c.args.plan.now) c.args.words.now (string_bytes c.in_ok-text.text) none c.in_ok-text.ensures.asked)

pub returns-in_err-write_text-clause-no_plan : goal.returns-in_err-write_text-clause-no_plan
returns-in_err-write_text-clause-no_plan g c = λ none. absurd (no_plan_asked (g.R.Read.remaining c.args.plan.now) c.args.words.now (string_bytes c.in_ok-text.text) none c.in_ok-text.ensures.asked)

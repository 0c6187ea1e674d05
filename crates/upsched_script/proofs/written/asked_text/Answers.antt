use Rattle.std.proofs.lemmas.Result.{IfErr-weaker}
use Rattle.upsched_script.proofs.Tried.{asked_for, of_no_words}
use Rattle.upsched_script.proofs.written.asked_text.Goals as goal

pub returns-clause-asked : goal.returns-clause-asked
returns-clause-asked g c =
    asked_for c.made_text.result (g.R.Read.remaining c.args.plan.now) c.args.words.now c.in_ok-commands.commands.items _ c.in-Some.members c.in_ok-ids.ids.items _
    c.in_ok-commands.ensures.plan c.as_slice-2.ensures.value c.in-Some.ensures c.in_ok-ids.ensures.ids c.as_slice.ensures.value c.made_text.ensures.asked

pub returns-clause-deserved : goal.returns-clause-deserved
returns-clause-deserved g c = IfErr-weaker c.made_text.result _ _ (λ r other. of_no_words (g.R.Read.remaining c.args.plan.now) c.args.words.now r other) c.made_text.ensures.understood

pub returns-clause-members : goal.returns-clause-members
returns-clause-members g c = λ none. absurd (none c.in-Some.members c.in-Some.ensures)

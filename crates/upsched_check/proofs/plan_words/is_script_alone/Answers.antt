use Rattle.std.proofs.Common.{◌≡◌, [], length, sym, ◌∙◌, ap}
use Rattle.std.proofs.lemmas.Bool.{false≢true, both_ways, eq-eqb}
use Rattle.upsched_check.proofs.Scripts.{only_plan}
use Rattle.upsched_check.proofs.plan_words.is_script_alone.Goals as goal

pub returns-else-is_empty-clause-alone : goal.returns-else-is_empty-clause-alone
returns-else-is_empty-clause-alone c = (
  λ same. absurd (false≢true same),
  λ alone.
      let none : c.args.commands.now ≡ [] = only_plan c.args.text.now c.args.commands.now alone.0 c.requires in
      absurd (both_ways _ (sym c.is_empty.ensures ∙ c.if-is_empty.false) (eq-eqb (length c.args.commands.now) 0 (ap length none))),
)

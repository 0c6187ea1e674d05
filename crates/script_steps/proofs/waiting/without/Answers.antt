use Rattle.std.proofs.Common.{rules, filter, not, ap, ◌∙◌}
use Rattle.std.proofs.lemmas.Fn.{filter_same}
use Rattle.script_steps.specs.Plain.{fits_any}
use Rattle.script_steps.proofs.waiting.without.Goals as goal

pub returns : goal.returns
returns c = filter_same _ (λ i. not (fits_any c.args.except.now c.args.letters.now i)) _ (λ x b f k. search rules) _ _ c.retain.ensures.filtered
    ∙ ap (filter (λ i. not (fits_any c.args.except.now c.args.letters.now i))) (search rules)

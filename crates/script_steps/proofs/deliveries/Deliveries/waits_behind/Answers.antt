use Rattle.std.proofs.Common.{◌≡◌, ◌-◌, List, find, length, map, ap, subst, ◌∙◌}
use Rattle.std.specs.List.{range_with_len}
use Rattle.script_steps.specs.Came.{Came}
use Rattle.script_steps.specs.Kept.{IsPassed, waits_and_fits}
use Rattle.script_steps.specs.Names.{about_of, fits_at, parts_of, waiting}
use Rattle.script_steps.specs.declared.kept.Sent.{Sent}
use Rattle.script_steps.specs.declared.name.Parts.{Parts}
use Rattle.script_steps.proofs.Finding.{first_named}
use Rattle.script_steps.proofs.deliveries.Deliveries.waits_behind.Goals as goal

pub returns-clause-found : goal.returns-clause-found
returns-clause-found c = λ all.
    let sent : List Sent = c.self.inside.sent.items in
    let same : map (λ (s : Sent). s.about) sent ≡ map about_of c.args.letters.now = ap (λ (d : Came). d.sent) c.self.view_is ∙ all in
    let passed : IsPassed sent (record { parts = parts_of c.args.name.now; below = c.in_ok-from.from }) =
    subst (λ (p : Parts). IsPassed sent (record { parts = p; below = c.in_ok-from.from })) c.parts.ensures
    (subst (λ (s : List Sent). IsPassed s (record { parts = c.parts.result; below = c.in_ok-from.from })) c.as_slice.ensures.value c.in_ok-from.ensures.passed) in
    c.first_fit.ensures
    ∙ ap (λ (s : List Sent). find (waits_and_fits c.args.name.now c.args.letters.now s) (range_with_len c.in_ok-from.from (length s - c.in_ok-from.from))) c.as_slice-2.ensures.value
    ∙ first_named c.args.name.now c.args.letters.now sent c.self.inside.came.items c.in_ok-from.from c.self.inside.kept.marked same passed
    ∙ ap (λ (d : Came). find (fits_at c.args.name.now c.args.letters.now) (waiting (length c.args.letters.now) d.came)) c.self.view_is

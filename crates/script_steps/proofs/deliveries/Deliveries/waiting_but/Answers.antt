use Rattle.std.proofs.Common.{rules, ◌≡◌, ℕ, ◌-◌, ◌++◌, List, filter, length, not, slice_get, ap, sym, ◌∙◌}
use Rattle.std.specs.List.{range_with_len}
use Rattle.std.proofs.lemmas.List.{length-map}
use Rattle.script_steps.specs.Came.{Came}
use Rattle.script_steps.specs.Kept.{is_waiting}
use Rattle.script_steps.specs.Names.{about_of, waiting}
use Rattle.script_steps.specs.Plain.{fits_any}
use Rattle.script_steps.specs.declared.kept.Sent.{Sent}
use Rattle.script_steps.proofs.Listed.{counted_up, listed_all}
use Rattle.script_steps.proofs.deliveries.Deliveries.waiting_but.Goals as goal

pub invariant_of-self-inside-2 : goal.invariant_of-self-inside-2
invariant_of-self-inside-2 c =
    let sent : List Sent = c.self.inside.sent.items in
    let waits : ℕ → _ = λ i. is_waiting (slice_get sent i) in
    let more : c.add_numbers.new.waiting.items ≡ c.self.inside.waiting.items ++ range_with_len c.self.inside.counted (length sent - c.self.inside.counted) = search rules in
    let out : c.take_out.new.waiting.items ≡ waiting (length sent) c.self.inside.came.items = c.take_out.ensures
    ∙ ap (λ (s : List Sent). filter (λ i. is_waiting (slice_get s i)) c.add_numbers.new.waiting.items) c.as_slice.ensures.value
    ∙ ap (filter waits) more
    ∙ counted_up sent c.self.inside.came.items c.self.inside.waiting.items c.self.inside.counted c.self.inside.taken c.self.inside.kept.marked c.self.inside.listed in
    (c.self.inside.kept, (listed_all (length sent) c.self.inside.came.items c.take_out.new.waiting.items _ _ out (search rules) (search rules), tt))

pub returns-clause-waiting : goal.returns-clause-waiting
returns-clause-waiting c = λ all.
    let sent : List Sent = c.self.inside.sent.items in
    let waits : ℕ → _ = λ i. is_waiting (slice_get sent i) in
    let more : c.add_numbers.new.waiting.items ≡ c.self.inside.waiting.items ++ range_with_len c.self.inside.counted (length sent - c.self.inside.counted) = search rules in
    let out : c.take_out.new.waiting.items ≡ waiting (length sent) c.self.inside.came.items = c.take_out.ensures
    ∙ ap (λ (s : List Sent). filter (λ i. is_waiting (slice_get s i)) c.add_numbers.new.waiting.items) c.as_slice.ensures.value
    ∙ ap (filter waits) more
    ∙ counted_up sent c.self.inside.came.items c.self.inside.waiting.items c.self.inside.counted c.self.inside.taken c.self.inside.kept.marked c.self.inside.listed in
    let size : length sent ≡ length c.args.letters.now = sym (length-map sent (λ (s : Sent). s.about)) ∙ ap length (ap (λ (d : Came). d.sent) c.self.view_is ∙ all) ∙ length-map c.args.letters.now about_of in
    let kept : ℕ → _ = λ i. not (fits_any c.args.except.now c.args.letters.now i) in
    c.in_ok-left.ensures ∙ ap (filter kept) (c.as_slice-2.ensures.value ∙ out)
    ∙ ap (λ n. filter kept (waiting n c.self.inside.came.items)) size
    ∙ ap (λ (d : Came). filter kept (waiting (length c.args.letters.now) d.came)) c.self.view_is

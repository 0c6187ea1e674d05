use Rattle.std.proofs.Common.{◌≡◌, ◌-◌, ◌<◌, ◌∷◌, ◌++◌, [], List, ℕ, length, set, slice_get, Some, None, rules, sym, ap}
use Rattle.std.proofs.Common.{subst, ◌∙◌, arith}
use Rattle.std.proofs.lemmas.Option.{slice_get-get_or}
use Rattle.ballots.specs.Rows.{at, put}
use Rattle.place_table.specs.Entries.{Entries, AreStored, entries_of}
use Rattle.place_table.proofs.Places.{found_before, found_in, found_after, is_nothing, put_before_run, stored_before}
use Rattle.place_table.proofs.Places.{put_in_run, put_behind, stored_behind, put_at_end, stored_at_end}
use Rattle.place_table.proofs.table.Table.insert.Goals as goal

pub invariant_of-self-then-place-self : goal.invariant_of-self-then-place-self
invariant_of-self-then-place-self g c =
    let s = c.self.inside in
    let held : c.insert.new.self.entries ≡ put s.before.entries c.args.place c.args.value = search rules in
    subst (λ (r : List (ℕ × g.row.V.Denot)). AreStored r s.first s.run.items s.after.entries) (sym held) (stored_before s.before.entries s.first s.run.items s.after.entries c.self.invariant c.args.place c.args.value c.if-place-self.true)

pub returns-then-place-self-clause-ok : goal.returns-then-place-self-clause-ok
returns-then-place-self-clause-ok g c =
    let s = c.self.inside in
    let held : c.insert.new.self.entries ≡ put s.before.entries c.args.place c.args.value = search rules in
    let seen : entries_of s.before.entries s.first s.run.items s.after.entries ≡ c.args.self.now.entries = ap (λ (t : Entries g.row.V.Denot). t.entries) (c.self.view_is ∙ c.make_ready.ensures) in
    ap (λ (r : List (ℕ × g.row.V.Denot)). entries_of r s.first s.run.items s.after.entries) held
    ∙ put_before_run s.before.entries s.first s.run.items s.after.entries c.self.invariant c.args.place c.args.value c.if-place-self.true
    ∙ ap (λ (r : List (ℕ × g.row.V.Denot)). put r c.args.place c.args.value) seen

pub returns-then-place-self-clause-old : goal.returns-then-place-self-clause-old
returns-then-place-self-clause-old g c =
    let s = c.self.inside in
    let old : c.in_ok-old.old ≡ at s.before.entries c.args.place = search rules in
    let seen : entries_of s.before.entries s.first s.run.items s.after.entries ≡ c.args.self.now.entries = ap (λ (t : Entries g.row.V.Denot). t.entries) (c.self.view_is ∙ c.make_ready.ensures) in
    old ∙ sym (found_before s.before.entries s.first s.run.items s.after.entries c.self.invariant c.args.place c.if-place-self.true) ∙ ap (λ (r : List (ℕ × g.row.V.Denot)). at r c.args.place) seen

pub returns-then-index-len-clause-ok : goal.returns-then-index-len-clause-ok
returns-then-index-len-clause-ok g c =
    let s = c.self.inside in
    let seen : entries_of s.before.entries s.first s.run.items s.after.entries ≡ c.args.self.now.entries = ap (λ (t : Entries g.row.V.Denot). t.entries) (c.self.view_is ∙ c.make_ready.ensures) in
    ap (λ (v : g.row.V.Denot). entries_of s.before.entries s.first (set s.run.items (c.args.place - s.first) v) s.after.entries) c.replace.ensures.after
    ∙ put_in_run s.before.entries s.first s.run.items s.after.entries c.self.invariant c.args.place (c.args.place - s.first) c.args.value (omega arith) (omega arith)
    ∙ ap (λ (r : List (ℕ × g.row.V.Denot)). put r c.args.place c.args.value) seen

pub returns-then-index-len-clause-old : goal.returns-then-index-len-clause-old
returns-then-index-len-clause-old g c =
    let s = c.self.inside in
    let i = c.args.place - s.first in
    let within : i < length s.run.items = omega arith in
    let here : Some c.replace.result ≡ slice_get s.run.items i = ap (λ (v : g.row.V.Denot). Some v) (c.replace.ensures.value ∙ c.index_mut.ensures.value) ∙ sym (slice_get-get_or s.run.items i c.index_mut.result.now within) in
    let seen : entries_of s.before.entries s.first s.run.items s.after.entries ≡ c.args.self.now.entries = ap (λ (t : Entries g.row.V.Denot). t.entries) (c.self.view_is ∙ c.make_ready.ensures) in
    here ∙ sym (found_in s.before.entries s.first s.run.items s.after.entries c.self.invariant c.args.place i (omega arith) within) ∙ ap (λ (r : List (ℕ × g.row.V.Denot)). at r c.args.place) seen

pub invariant_of-self-2 : goal.invariant_of-self-2
invariant_of-self-2 g c =
    let s = c.self.inside in
    let held : c.push.new.self.items ≡ s.run.items ++ c.args.value ∷ [] = search rules in
    let none : at s.after.entries c.args.place ≡ None = is_nothing (at s.after.entries c.args.place) (sym c.contains_key.ensures ∙ c.if-contains_key.false) in
    subst (λ (r : List g.row.V.Denot). AreStored s.before.entries s.first r s.after.entries) (sym held) (stored_at_end s.before.entries s.first s.run.items s.after.entries c.self.invariant c.args.place c.args.value (omega arith) none)

pub returns-clause-ok : goal.returns-clause-ok
returns-clause-ok g c =
    let s = c.self.inside in
    let held : c.push.new.self.items ≡ s.run.items ++ c.args.value ∷ [] = search rules in
    let none : at s.after.entries c.args.place ≡ None = is_nothing (at s.after.entries c.args.place) (sym c.contains_key.ensures ∙ c.if-contains_key.false) in
    let seen : entries_of s.before.entries s.first s.run.items s.after.entries ≡ c.args.self.now.entries = ap (λ (t : Entries g.row.V.Denot). t.entries) (c.self.view_is ∙ c.make_ready.ensures) in
    ap (λ (r : List g.row.V.Denot). entries_of s.before.entries s.first r s.after.entries) held
    ∙ put_at_end s.before.entries s.first s.run.items s.after.entries c.self.invariant c.args.place c.args.value (omega arith) none
    ∙ ap (λ (r : List (ℕ × g.row.V.Denot)). put r c.args.place c.args.value) seen

pub returns-clause-old : goal.returns-clause-old
returns-clause-old g c =
    let s = c.self.inside in
    let none : at s.after.entries c.args.place ≡ None = is_nothing (at s.after.entries c.args.place) (sym c.contains_key.ensures ∙ c.if-contains_key.false) in
    let seen : entries_of s.before.entries s.first s.run.items s.after.entries ≡ c.args.self.now.entries = ap (λ (t : Entries g.row.V.Denot). t.entries) (c.self.view_is ∙ c.make_ready.ensures) in
    sym (sym (ap (λ (r : List (ℕ × g.row.V.Denot)). at r c.args.place) seen) ∙ found_after s.before.entries s.first s.run.items s.after.entries c.self.invariant c.args.place (omega arith) ∙ none)

pub invariant_of-self-then-index-len-2 : goal.invariant_of-self-then-index-len-2
invariant_of-self-then-index-len-2 g c =
    let s = c.self.inside in
    let held : c.insert-then-index-len-2.new.self.entries ≡ put s.after.entries c.args.place c.args.value = search rules in
    subst (λ (r : List (ℕ × g.row.V.Denot)). AreStored s.before.entries s.first s.run.items r) (sym held) (stored_behind s.before.entries s.first s.run.items s.after.entries c.self.invariant c.args.place c.args.value (omega arith))

pub returns-then-index-len-2-clause-ok : goal.returns-then-index-len-2-clause-ok
returns-then-index-len-2-clause-ok g c =
    let s = c.self.inside in
    let held : c.insert-then-index-len-2.new.self.entries ≡ put s.after.entries c.args.place c.args.value = search rules in
    let seen : entries_of s.before.entries s.first s.run.items s.after.entries ≡ c.args.self.now.entries = ap (λ (t : Entries g.row.V.Denot). t.entries) (c.self.view_is ∙ c.make_ready.ensures) in
    ap (λ (r : List (ℕ × g.row.V.Denot)). entries_of s.before.entries s.first s.run.items r) held
    ∙ put_behind s.before.entries s.first s.run.items s.after.entries c.self.invariant c.args.place c.args.value (omega arith)
    ∙ ap (λ (r : List (ℕ × g.row.V.Denot)). put r c.args.place c.args.value) seen

pub returns-then-index-len-2-clause-old : goal.returns-then-index-len-2-clause-old
returns-then-index-len-2-clause-old g c =
    let s = c.self.inside in
    let old : c.in_ok-old-2.old ≡ at s.after.entries c.args.place = search rules in
    let seen : entries_of s.before.entries s.first s.run.items s.after.entries ≡ c.args.self.now.entries = ap (λ (t : Entries g.row.V.Denot). t.entries) (c.self.view_is ∙ c.make_ready.ensures) in
    old ∙ sym (found_after s.before.entries s.first s.run.items s.after.entries c.self.invariant c.args.place (omega arith)) ∙ ap (λ (r : List (ℕ × g.row.V.Denot)). at r c.args.place) seen

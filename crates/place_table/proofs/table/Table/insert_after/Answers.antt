use Rattle.std.proofs.Common.{◌≡◌, ◌++◌, ◌∷◌, [], ℕ, ◌+◌, length, List, None, sym, ap, subst, ◌∙◌, arith}
use Rattle.ballots.specs.Rows.{at, put}
use Rattle.place_table.specs.Entries.{Entries, AreStored, entries_of}
use Rattle.place_table.proofs.Places.{found_before, found_after, put_before_run, stored_before, put_behind}
use Rattle.place_table.proofs.Places.{stored_behind, put_at_end, stored_at_end, is_behind, ok_weaker, by_written}
use Rattle.place_table.proofs.table.Table.insert_after.Goals as goal

pub insert_after-requires-clause-none : goal.insert_after-requires-clause-none
insert_after-requires-clause-none g c =
    let s = c.self.inside in
    let seen : entries_of s.before.entries s.first s.run.items s.after.entries ≡ c.args.self.now.entries = ap (λ (t : Entries g.row.V.Denot). t.entries) (c.self.view_is ∙ c.make_ready.ensures) in
    sym (found_before s.before.entries s.first s.run.items s.after.entries c.self.invariant c.args.place c.if-place-self.true) ∙ ap (λ (r : List (ℕ × g.row.V.Denot)). at r c.args.place) seen ∙ c.requires.none

pub returns-then-place-self-clause-put : goal.returns-then-place-self-clause-put
returns-then-place-self-clause-put g c =
    let s = c.self.inside in
    let seen : entries_of s.before.entries s.first s.run.items s.after.entries ≡ c.args.self.now.entries = ap (λ (t : Entries g.row.V.Denot). t.entries) (c.self.view_is ∙ c.make_ready.ensures) in
    ok_weaker c.insert_after.result
    (λ (held : c.insert_after.new.tree.entries ≡ put s.before.entries c.args.place c.args.value).
    ap (λ (r : List (ℕ × g.row.V.Denot)). entries_of r s.first s.run.items s.after.entries) held
    ∙ put_before_run s.before.entries s.first s.run.items s.after.entries c.self.invariant c.args.place c.args.value c.if-place-self.true
    ∙ ap (λ (r : List (ℕ × g.row.V.Denot)). put r c.args.place c.args.value) seen)
    c.insert_after.ensures.put

pub invariant_of-self : goal.invariant_of-self
invariant_of-self g c =
    let s = c.self.inside in
    by_written c.insert_after.result c.insert_after.ensures.put c.insert_after.ensures.refused c.insert_after.ensures.err
    (λ (held : c.insert_after.new.tree.entries ≡ put s.before.entries c.args.place c.args.value).
    subst (λ (r : List (ℕ × g.row.V.Denot)). AreStored r s.first s.run.items s.after.entries) (sym held) (stored_before s.before.entries s.first s.run.items s.after.entries c.self.invariant c.args.place c.args.value c.if-place-self.true))
    (λ (same : c.insert_after.new.tree.entries ≡ s.before.entries). subst (λ (r : List (ℕ × g.row.V.Denot)). AreStored r s.first s.run.items s.after.entries) (sym same) c.self.invariant)

pub insert_after-requires-then-place-self-2-clause-none : goal.insert_after-requires-then-place-self-2-clause-none
insert_after-requires-then-place-self-2-clause-none g c =
    let s = c.self.inside in
    let seen : entries_of s.before.entries s.first s.run.items s.after.entries ≡ c.args.self.now.entries = ap (λ (t : Entries g.row.V.Denot). t.entries) (c.self.view_is ∙ c.make_ready.ensures) in
    let none : at (entries_of s.before.entries s.first s.run.items s.after.entries) c.args.place ≡ None = ap (λ (r : List (ℕ × g.row.V.Denot)). at r c.args.place) seen ∙ c.requires.none in
    let behind = is_behind s.before.entries s.first s.run.items s.after.entries c.self.invariant c.args.place c.if-place-self.false none in
    sym (found_after s.before.entries s.first s.run.items s.after.entries c.self.invariant c.args.place behind) ∙ none

pub returns-then-place-self-2-clause-put : goal.returns-then-place-self-2-clause-put
returns-then-place-self-2-clause-put g c =
    let s = c.self.inside in
    let seen : entries_of s.before.entries s.first s.run.items s.after.entries ≡ c.args.self.now.entries = ap (λ (t : Entries g.row.V.Denot). t.entries) (c.self.view_is ∙ c.make_ready.ensures) in
    let none : at (entries_of s.before.entries s.first s.run.items s.after.entries) c.args.place ≡ None = ap (λ (r : List (ℕ × g.row.V.Denot)). at r c.args.place) seen ∙ c.requires.none in
    let behind = is_behind s.before.entries s.first s.run.items s.after.entries c.self.invariant c.args.place c.if-place-self.false none in
    ok_weaker c.insert_after-then-place-self-2.result
    (λ (held : c.insert_after-then-place-self-2.new.tree.entries ≡ put s.after.entries c.args.place c.args.value).
    ap (λ (r : List (ℕ × g.row.V.Denot)). entries_of s.before.entries s.first s.run.items r) held
    ∙ put_behind s.before.entries s.first s.run.items s.after.entries c.self.invariant c.args.place c.args.value behind
    ∙ ap (λ (r : List (ℕ × g.row.V.Denot)). put r c.args.place c.args.value) seen)
    c.insert_after-then-place-self-2.ensures.put

pub invariant_of-self-then-place-self-2 : goal.invariant_of-self-then-place-self-2
invariant_of-self-then-place-self-2 g c =
    let s = c.self.inside in
    let seen : entries_of s.before.entries s.first s.run.items s.after.entries ≡ c.args.self.now.entries = ap (λ (t : Entries g.row.V.Denot). t.entries) (c.self.view_is ∙ c.make_ready.ensures) in
    let none : at (entries_of s.before.entries s.first s.run.items s.after.entries) c.args.place ≡ None = ap (λ (r : List (ℕ × g.row.V.Denot)). at r c.args.place) seen ∙ c.requires.none in
    let behind = is_behind s.before.entries s.first s.run.items s.after.entries c.self.invariant c.args.place c.if-place-self.false none in
    by_written c.insert_after-then-place-self-2.result c.insert_after-then-place-self-2.ensures.put c.insert_after-then-place-self-2.ensures.refused c.insert_after-then-place-self-2.ensures.err
    (λ (held : c.insert_after-then-place-self-2.new.tree.entries ≡ put s.after.entries c.args.place c.args.value).
    subst (λ (r : List (ℕ × g.row.V.Denot)). AreStored s.before.entries s.first s.run.items r) (sym held) (stored_behind s.before.entries s.first s.run.items s.after.entries c.self.invariant c.args.place c.args.value behind))
    (λ (same : c.insert_after-then-place-self-2.new.tree.entries ≡ s.after.entries). subst (λ (r : List (ℕ × g.row.V.Denot)). AreStored s.before.entries s.first s.run.items r) (sym same) c.self.invariant)

pub returns-clause-put : goal.returns-clause-put
returns-clause-put g c =
    let s = c.self.inside in
    let seen : entries_of s.before.entries s.first s.run.items s.after.entries ≡ c.args.self.now.entries = ap (λ (t : Entries g.row.V.Denot). t.entries) (c.self.view_is ∙ c.make_ready.ensures) in
    let none : at (entries_of s.before.entries s.first s.run.items s.after.entries) c.args.place ≡ None = ap (λ (r : List (ℕ × g.row.V.Denot)). at r c.args.place) seen ∙ c.requires.none in
    let behind = is_behind s.before.entries s.first s.run.items s.after.entries c.self.invariant c.args.place c.if-place-self.false none in
    let absent : at s.after.entries c.args.place ≡ None = sym (found_after s.before.entries s.first s.run.items s.after.entries c.self.invariant c.args.place behind) ∙ none in
    let here : c.args.place ≡ s.first + length s.run.items = omega (arith, c.if-place-self-2.false, c.len.ensures) in
    ok_weaker c.push_after.result
    (λ (held : c.push_after.new.list.items ≡ s.run.items ++ c.args.value ∷ []).
    ap (λ (r : List g.row.V.Denot). entries_of s.before.entries s.first r s.after.entries) held
    ∙ put_at_end s.before.entries s.first s.run.items s.after.entries c.self.invariant c.args.place c.args.value here absent
    ∙ ap (λ (r : List (ℕ × g.row.V.Denot)). put r c.args.place c.args.value) seen)
    c.push_after.ensures.put

pub invariant_of-self-2 : goal.invariant_of-self-2
invariant_of-self-2 g c =
    let s = c.self.inside in
    let seen : entries_of s.before.entries s.first s.run.items s.after.entries ≡ c.args.self.now.entries = ap (λ (t : Entries g.row.V.Denot). t.entries) (c.self.view_is ∙ c.make_ready.ensures) in
    let none : at (entries_of s.before.entries s.first s.run.items s.after.entries) c.args.place ≡ None = ap (λ (r : List (ℕ × g.row.V.Denot)). at r c.args.place) seen ∙ c.requires.none in
    let behind = is_behind s.before.entries s.first s.run.items s.after.entries c.self.invariant c.args.place c.if-place-self.false none in
    let absent : at s.after.entries c.args.place ≡ None = sym (found_after s.before.entries s.first s.run.items s.after.entries c.self.invariant c.args.place behind) ∙ none in
    let here : c.args.place ≡ s.first + length s.run.items = omega (arith, c.if-place-self-2.false, c.len.ensures) in
    by_written c.push_after.result c.push_after.ensures.put c.push_after.ensures.refused c.push_after.ensures.err
    (λ (held : c.push_after.new.list.items ≡ s.run.items ++ c.args.value ∷ []).
    subst (λ (r : List g.row.V.Denot). AreStored s.before.entries s.first r s.after.entries) (sym held) (stored_at_end s.before.entries s.first s.run.items s.after.entries c.self.invariant c.args.place c.args.value here absent))
    (λ (same : c.push_after.new.list.items ≡ s.run.items). subst (λ (r : List g.row.V.Denot). AreStored s.before.entries s.first r s.after.entries) (sym same) c.self.invariant)

use Rattle.std.proofs.Common.{◌≡◌, ◌+◌, ◌∷◌, ◌++◌, [], List, length, ap, ◌∙◌, arith, length-append}
use Rattle.place_table.specs.Entries.{entries_of}
use Rattle.place_table.proofs.Places.{drawn, first_from, above_rows, from_less, same_place}
use Rattle.place_table.proofs.table.Table.draw.Goals as goal

pub overflow_sub-place : goal.overflow_sub-place
overflow_sub-place g c =
    let s = c.self.inside in
    omega (arith, first_from (s.first + length s.run.items) s.after.entries c.in-Some.place.now c.in-Some.field-0-1.now c.self.invariant.1 c.in-Some.ensures.first)

pub invariant_of-self-in-Some-pop_first : goal.invariant_of-self-in-Some-pop_first
invariant_of-self-in-Some-pop_first g c =
    let s = c.self.inside in
    let q = c.in-Some-pop_first.field-0-0 in
    let first = first_from (s.first + length s.run.items) s.after.entries c.in-Some.place.now c.in-Some.field-0-1.now c.self.invariant.1 c.in-Some.ensures.first in
    let same : c.in-Some.place.now ≡ q = same_place s.after.entries c.in-Some.place.now c.in-Some.field-0-1.now q c.in-Some-pop_first.value c.pop_first.new.self.entries c.in-Some.ensures.first c.in-Some-pop_first.ensures.removal in
    let items : c.push_reserved.new.self.items ≡ s.run.items ++ c.in-Some-pop_first.value ∷ [] = c.push_reserved.ensures.items ∙ ap (λ (r : List g.row.V.Denot). r ++ c.in-Some-pop_first.value ∷ []) c.reserve.ensures.items in
    let place : q ≡ s.first + length s.run.items = omega (arith, same, c.if-place-self.false, c.len.ensures, first) in (
      c.self.invariant.0,
      from_less (q + 1) (s.first + length c.push_reserved.new.self.items) c.pop_first.new.self.entries (omega (arith, place, ap length items, length-append s.run.items (c.in-Some-pop_first.value ∷ [])))
          (above_rows q c.pop_first.new.self.entries c.in-Some-pop_first.ensures.all_above),
    )

pub returns-in-Some-pop_first : goal.returns-in-Some-pop_first
returns-in-Some-pop_first g c =
    let s = c.self.inside in
    let q = c.in-Some-pop_first.field-0-0 in
    let v = c.in-Some-pop_first.value in
    let first = first_from (s.first + length s.run.items) s.after.entries c.in-Some.place.now c.in-Some.field-0-1.now c.self.invariant.1 c.in-Some.ensures.first in
    let same : c.in-Some.place.now ≡ q = same_place s.after.entries c.in-Some.place.now c.in-Some.field-0-1.now q c.in-Some-pop_first.value c.pop_first.new.self.entries c.in-Some.ensures.first c.in-Some-pop_first.ensures.removal in
    let items : c.push_reserved.new.self.items ≡ s.run.items ++ v ∷ [] = c.push_reserved.ensures.items ∙ ap (λ (r : List g.row.V.Denot). r ++ v ∷ []) c.reserve.ensures.items in
    let place : q ≡ s.first + length s.run.items = omega (arith, same, c.if-place-self.false, c.len.ensures, first) in
    let held = ap (λ (r : List g.row.V.Denot). entries_of s.before.entries s.first r c.pop_first.new.self.entries) items ∙ drawn s.before.entries s.first s.run.items s.after.entries c.pop_first.new.self.entries q v place c.in-Some-pop_first.ensures.removal in
    (λ i. record { entries = held i }) ∙ c.self.view_is

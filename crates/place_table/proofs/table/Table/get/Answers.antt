use Rattle.std.proofs.Common.{◌≡◌, ◌-◌, ◌<◌, length, slice_get, Some, refl, sym, ap, ◌∙◌, arith}
use Rattle.std.proofs.lemmas.Option.{slice_get_read}
use Rattle.ballots.specs.Rows.{at}
use Rattle.place_table.specs.Entries.{Entries}
use Rattle.place_table.proofs.Places.{found_before, found_in, found_after}
use Rattle.place_table.proofs.table.Table.get.Goals as goal

pub returns-then-place-self : goal.returns-then-place-self
returns-then-place-self g c =
    let s = c.self.inside in
    c.get.ensures.value ∙ sym (found_before s.before.entries s.first s.run.items s.after.entries c.self.invariant c.args.place (omega arith)) ∙ ap (λ (t : Entries g.row.V.Denot). at t.entries c.args.place) c.self.view_is

pub returns-then-index-len : goal.returns-then-index-len
returns-then-index-len g c =
    let s = c.self.inside in
    let within : c.args.place - s.first < length s.run.items = omega arith in
    let here : slice_get s.run.items (c.args.place - s.first) ≡ Some c.index.result.now = slice_get_read s.run.items (length s.run.items) (c.args.place - s.first) c.index.result.now refl within c.index.ensures in
    sym here
    ∙ sym (found_in s.before.entries s.first s.run.items s.after.entries c.self.invariant c.args.place (c.args.place - s.first) (omega arith) within)
    ∙ ap (λ (t : Entries g.row.V.Denot). at t.entries c.args.place) c.self.view_is

pub returns : goal.returns
returns g c =
    let s = c.self.inside in
    c.get-2.ensures.value ∙ sym (found_after s.before.entries s.first s.run.items s.after.entries c.self.invariant c.args.place (omega arith)) ∙ ap (λ (t : Entries g.row.V.Denot). at t.entries c.args.place) c.self.view_is

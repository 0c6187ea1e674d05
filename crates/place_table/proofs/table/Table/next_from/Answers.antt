use Rattle.std.proofs.Common.{◌≡◌, ◌+◌, ◌++◌, [], List, MatchOption, length, subst, arith}
use Rattle.ballots.specs.Rows.{rows_from}
use Rattle.place_table.specs.Entries.{Entries, IsNext, numbered}
use Rattle.place_table.proofs.Places.{behind, below_numbered, next_of_first, next_of_rest, none_of_all, by_option}
use Rattle.place_table.proofs.table.Table.next_from.Goals as goal

pub returns-in-Some-clause-row : goal.returns-in-Some-clause-row
returns-in-Some-clause-row g c =
    let s = c.self.inside in
    let row = c.in-Some.row in
    let is = next_of_first s.first c.args.place s.before.entries (numbered s.first s.run.items ++ s.after.entries) row.0 row.1.now c.self.invariant.0 (behind s.before.entries s.first s.run.items s.after.entries c.self.invariant c.args.place) c.in-Some.ensures.row in
    subst (λ (t : Entries g.row.V.Denot). IsNext t.entries c.args.place row.0 row.1.now) c.self.view_is is

pub returns-in-Some-next_in_run-clause-row : goal.returns-in-Some-next_in_run-clause-row
returns-in-Some-next_in_run-clause-row g c =
    let s = c.self.inside in
    let row = c.in-Some-next_in_run.row in
    let here : IsNext (numbered s.first s.run.items) c.args.place row.0 row.1.now = subst (λ (r : List g.row.V.Denot). IsNext (numbered s.first r) c.args.place row.0 row.1.now) c.as_slice.ensures.value c.in-Some-next_in_run.ensures.row in
    let run = next_of_first (s.first + length s.run.items) c.args.place (numbered s.first s.run.items) s.after.entries row.0 row.1.now (below_numbered (s.first + length s.run.items) s.first s.run.items (omega arith)) c.self.invariant.1 here in
    let is = next_of_rest c.args.place s.before.entries (numbered s.first s.run.items ++ s.after.entries) row.0 row.1.now c.in_default.ensures.row run in
    subst (λ (t : Entries g.row.V.Denot). IsNext t.entries c.args.place row.0 row.1.now) c.self.view_is is

pub returns-clause-row : goal.returns-clause-row
returns-clause-row g c =
    let s = c.self.inside in
    let p = c.args.place in
    let none : rows_from (numbered s.first s.run.items) p ≡ [] = subst (λ (r : List g.row.V.Denot). rows_from (numbered s.first r) p ≡ []) c.as_slice.ensures.value c.in_default-next_in_run.ensures.row in
    subst (λ (t : Entries g.row.V.Denot). MatchOption c.next_in_tree-2.result (rows_from t.entries p ≡ []) (λ row. IsNext t.entries p row.0 row.1.now)) c.self.view_is
    (by_option c.next_in_tree-2.result c.next_in_tree-2.ensures.row
    (λ (no_more : rows_from s.after.entries p ≡ []). none_of_all p s.before.entries (numbered s.first s.run.items ++ s.after.entries) c.in_default.ensures.row (none_of_all p (numbered s.first s.run.items) s.after.entries none no_more))
    (λ row is. next_of_rest p s.before.entries (numbered s.first s.run.items ++ s.after.entries) row.0 row.1.now c.in_default.ensures.row (next_of_rest p (numbered s.first s.run.items) s.after.entries row.0 row.1.now none is)))

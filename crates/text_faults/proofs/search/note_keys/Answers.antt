use Rattle.toml.specs.View.{view}
use Rattle.text_faults.specs.Rows.{rows_of}
use Rattle.text_faults.specs.Faults.{fault_at}
use Rattle.text_faults.proofs.Noted.{none_more, one_more}
use Rattle.text_faults.proofs.search.note_keys.Goals.{in-Some+in_ok-push, in_default}
use Rattle.text_faults.proofs.search.note_keys.Goals as goal

pub loop-row-preserved : goal.loop-row-preserved
loop-row-preserved c =
    let h = fault_at c.args.place c.args.told (view c.args.table.now) in
    let within = rw c.rows-row-items.ensures at c.loop-row-test.true in
    let rows = rows_of c.args.kind in
    elim c.match-fault_at.branch [
      | in-Some+in_ok-push w ↦ (
          let found = rw c.rows-row-items.ensures at w.in-Some.ensures in
          rw (w.faults-is, w.in_ok-push.ensures.items) (one_more h rows c.loop-row.row-index _ _ _ _ within c.loop-row.invariant found)
          )
      | in_default w ↦ (
          let found = rw c.rows-row-items.ensures at w.in_default.ensures in
          rw w.faults-is (none_more h rows c.loop-row.row-index _ _ _ within c.loop-row.invariant found)
          )
    ]

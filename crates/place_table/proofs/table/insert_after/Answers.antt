use Rattle.std.proofs.Common.{◌≡◌, rules, ap, ◌∙◌}
use Rattle.std.specs.Map.{remove_entry}
use Rattle.std.specs.BTreeMap.{is_at}
use Rattle.std.specs.Ordering.{nat_cmp}
use Rattle.ballots.specs.Rows.{put}
use Rattle.place_table.proofs.Places.{any_err, put_back}
use Rattle.place_table.proofs.table.insert_after.Goals as goal

pub returns-then-is_err-clause-refused : goal.returns-then-is_err-clause-refused
returns-then-is_err-clause-refused g c =
    let p = c.args.place in
    let rows = c.args.tree.now.entries in
    let held : c.insert.new.self.entries ≡ put rows p c.args.value = search rules in
    any_err _ (c.remove.ensures.entries ∙ ap (remove_entry (is_at (nat_cmp p))) held ∙ put_back p c.args.value rows c.requires.none)

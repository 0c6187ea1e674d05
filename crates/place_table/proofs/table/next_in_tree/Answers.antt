use Rattle.std.proofs.Common.{◌≡◌, rules, sym, ◌∙◌}
use Rattle.ballots.specs.Rows.{rows_from}
use Rattle.place_table.proofs.Places.{next_is}
use Rattle.place_table.proofs.table.next_in_tree.Goals as goal

pub returns-clause-row : goal.returns-clause-row
returns-clause-row g c =
    let ranged : c.range.result ≡ rows_from c.args.tree.now.entries c.args.place = search rules in
    next_is c.args.place c.args.tree.now.entries c.in_ok-at.at.now c.in_ok-at.value.now c.next.new.self c.range.ensures.ordered (sym ranged ∙ c.in_ok-at.ensures.steps)

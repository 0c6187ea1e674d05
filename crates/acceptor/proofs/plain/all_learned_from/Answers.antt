use Rattle.std.proofs.Common.{◌≡◌, ◌+◌, rules, sym, subst, arith}
use Rattle.ballots.specs.Limits.{IsValue}
use Rattle.ballots.specs.Rows.{rows_from}
use Rattle.acceptor.proofs.SoundRows.{next_fits, next_is_value}
use Rattle.acceptor.proofs.plain.all_learned_from.Goals as goal

pub overflow_add-next : goal.overflow_add-next
overflow_add-next c =
    let learned = c.args.learned.now.entries in
    let fits = next_fits c.loop-at.next c.in-Some.at c.in-Some.kept.now learned (rows_from learned (c.in-Some.at + 1)) c.requires.rows c.in-Some.ensures.row in
    omega (arith, fits.1)

pub place_of-requires : goal.place_of-requires
place_of-requires c =
    let learned = c.args.learned.now.entries in
    next_fits c.loop-at.next c.in-Some.at c.in-Some.kept.now learned (rows_from learned (c.in-Some.at + 1)) c.requires.rows c.in-Some.ensures.row

pub value_of-value-requires : goal.value_of-value-requires
value_of-value-requires c =
    let learned = c.args.learned.now.entries in
    let value : c.in_ok-to_bytes.field-0 ≡ c.in-Some.kept.now = search rules in
    subst IsValue (sym value) (next_is_value c.loop-at.next c.in-Some.at c.in-Some.kept.now learned (rows_from learned (c.in-Some.at + 1)) c.requires.values c.in-Some.ensures.row)

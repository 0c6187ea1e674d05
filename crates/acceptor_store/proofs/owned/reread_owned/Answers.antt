use Rattle.std.proofs.Common.{Err, sym, ap, ◌∙◌, arith}
use Rattle.acceptor_store.proofs.Words.{HasCleanDisk, state, Third}
use Rattle.acceptor_store.proofs.Refusing.{fails_anew, told_stop}
use Rattle.acceptor_store.proofs.owned.reread_owned.Goals as goal

pub returns-in-Err-clause-refused : goal.returns-in-Err-clause-refused
returns-in-Err-clause-refused g c refused clean = absurd (c.in-Err.ensures.told (told_stop _ _ c.stopped.ensures.value refused))

pub returns-in-Err-examined_owned-clause-refused : goal.returns-in-Err-examined_owned-clause-refused
returns-in-Err-examined_owned-clause-refused g c refused clean =
    let late : HasCleanDisk (state g.S.Store c.examined_owned.new.conn) = omega (arith, c.into_store-in-Err-examined_owned.ensures.quiet.clean, clean) in
    let early : HasCleanDisk (state g.S.Store c.in-Ok.again) = omega (arith, c.examined_owned.ensures.survives.clean, late) in
    let schema = sym c.schema.ensures.value ∙ c.in-Ok-true.ensures.ok c.in-Ok-true.field-0-test in
    let stops = c.in-Err-examined_owned.ensures.refused late schema (ap Err refused) in
    fails_anew g.S.Store Third c.args.conn c.in-Ok.again c.examined_owned.new.conn _ (c.in-Ok.ensures.committed early) c.in-Ok.ensures.unlimited stops c.into_store-in-Err-examined_owned.ensures.quiet.counts

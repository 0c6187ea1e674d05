use Rattle.std.proofs.Common.{◌≡◌, Err, ap, subst, sym, ◌∙◌, arith}
use Rattle.acceptor_store.proofs.Words.{Database, HasCleanDisk, HoldsNone, state, Foreign, version_read, IsReread, schema_of}
use Rattle.acceptor_store.specs.declared.OpenFault.TheVariants.{Refused}
use Rattle.acceptor_store.proofs.Owning.{examines_for, has_read, none_owned, reread_read, two_leave, unnamed}
use Rattle.acceptor_store.proofs.Refusing.{stopped_since}
use Rattle.acceptor_store.proofs.owned.examined_owned.Goals as goal

pub returns-in-Ok-examined-clause-tables : goal.returns-in-Ok-examined-clause-tables
returns-in-Ok-examined-clause-tables g c clean schema =
    let count = c.in-Ok.found.1 in
    let mid : HasCleanDisk (state g.S.Store c.owner_in.new.conn) = omega (arith, c.examined.ensures.survives.clean, clean) in
    let same = c.in-Ok.ensures.same mid schema in
    let has = has_read count (state g.S.Store c.args.conn.now) (state g.S.Store c.owner_in.new.conn) schema same in
    let at = rw c.version_read.ensures at (c.in-Ok-examined.ensures.tables clean) in
    let kept = rw c.version_read.ensures at (c.in-Ok-examined.ensures.same clean) in
    examines_for g.S.Store c.args.conn.now c.owner_in.new.conn c.examined.new.conn c.in-Ok.found.0 count c.in-Ok-examined.numbers c.at.result schema same (kept has).0 c.at.ensures.ballots c.at.ensures.count (at has) (c.in-Ok.ensures.held mid)

pub returns-in-Ok-examined-clause-survives : goal.returns-in-Ok-examined-clause-survives
returns-in-Ok-examined-clause-survives g c =
    two_leave c.in-Ok.found.1 (state g.S.Store c.args.conn.now) (state g.S.Store c.owner_in.new.conn) (state g.S.Store c.examined.new.conn) c.owner_in.ensures.survives (rw c.version_read.ensures at c.examined.ensures.survives)
    (λ clean has. c.in-Ok.ensures.same clean has) (λ clean. omega (arith, c.examined.ensures.survives.clean, clean))

pub returns-in-Err-examined-clause-survives : goal.returns-in-Err-examined-clause-survives
returns-in-Err-examined-clause-survives g c =
    two_leave c.in-Ok.found.1 (state g.S.Store c.args.conn.now) (state g.S.Store c.owner_in.new.conn) (state g.S.Store c.examined.new.conn) c.owner_in.ensures.survives (rw c.version_read.ensures at c.examined.ensures.survives)
    (λ clean has. c.in-Ok.ensures.same clean has) (λ clean. omega (arith, c.examined.ensures.survives.clean, clean))

pub returns-in-Err-clause-foreign : goal.returns-in-Err-clause-foreign
returns-in-Err-clause-foreign g c clean schema foreign it =
    let is : c.in-Err.fault ≡ Foreign = cc in
    unnamed (state g.S.Store c.args.conn.now).now.trees (c.in-Err.ensures.foreign clean (ap Err is) schema)

pub returns-in-Err-examined-clause-foreign : goal.returns-in-Err-examined-clause-foreign
returns-in-Err-examined-clause-foreign g c clean schema foreign it =
    let count = c.in-Ok.found.1 in
    let is : c.in-Err-examined.fault ≡ Foreign = cc in
    let mid : HasCleanDisk (state g.S.Store c.owner_in.new.conn) = omega (arith, c.examined.ensures.survives.clean, clean) in
    let same = c.in-Ok.ensures.same mid schema in
    let none = rw c.version_read.ensures at (c.in-Err-examined.ensures.foreign clean) in
    let there = none (has_read count (state g.S.Store c.args.conn.now) (state g.S.Store c.owner_in.new.conn) schema same) (ap Err is) (reread_read count (state g.S.Store c.args.conn.now) (state g.S.Store c.owner_in.new.conn) same it) in
    none_owned count (state g.S.Store c.args.conn.now).now.trees (subst (λ (d : Database). HoldsNone (version_read count) d.trees) same.0.now_is there) (c.in-Ok.ensures.only mid schema)

pub returns-in-Err-clause-refused : goal.returns-in-Err-clause-refused
returns-in-Err-clause-refused g c clean schema refused =
    let is : c.in-Err.fault ≡ Refused = cc in
    c.in-Err.ensures.refused clean schema (ap Err is)

pub returns-in-Err-examined-clause-refused : goal.returns-in-Err-examined-clause-refused
returns-in-Err-examined-clause-refused g c clean schema refused =
    let is : c.in-Err-examined.fault ≡ Refused = cc in
    let mid : HasCleanDisk (state g.S.Store c.owner_in.new.conn) = omega (arith, c.examined.ensures.survives.clean, clean) in
    let same = c.in-Ok.ensures.same mid schema in
    let stops = rw c.version_read.ensures at (c.in-Err-examined.ensures.refused clean) in
    let stopped = stops (has_read c.in-Ok.found.1 (state g.S.Store c.args.conn.now) (state g.S.Store c.owner_in.new.conn) schema same) (ap Err is) in
    stopped_since (state g.S.Store c.args.conn.now) (state g.S.Store c.owner_in.new.conn) (state g.S.Store c.examined.new.conn) mid c.owner_in.ensures.survives c.examined.ensures.survives stopped

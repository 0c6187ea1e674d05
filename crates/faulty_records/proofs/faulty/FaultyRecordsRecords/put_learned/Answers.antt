use Rattle.std.proofs.Common.{◌≡◌, Err, rules}
use Rattle.faulty_records.proofs.Told.{told_broken, told_alike}
use Rattle.faulty_records.proofs.faulty.FaultyRecordsRecords.put_learned.Goals as goal

pub returns-in_err-put_learned-in-Some-BrokenWritten-clause-writes : goal.returns-in_err-put_learned-in-Some-BrokenWritten-clause-writes
returns-in_err-put_learned-in-Some-BrokenWritten-clause-writes c honest =
    let is : c.from_residual.result ≡ Err c.in_err-put_learned-in-Some-BrokenWritten.field-0.0 = search rules in
    told_alike _ _ _ _ _ (c.in_err-put_learned-in-Some-BrokenWritten.ensures.writes honest) is

pub returns-in_ok-put_learned-in-Some-BrokenWritten-clause-writes : goal.returns-in_ok-put_learned-in-Some-BrokenWritten-clause-writes
returns-in_ok-put_learned-in-Some-BrokenWritten-clause-writes c honest = told_broken _ _ _ _ _ (c.in_ok-put_learned-in-Some-BrokenWritten.ensures.writes honest) c.fail.ensures.fault

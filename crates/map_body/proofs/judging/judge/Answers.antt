use Rattle.std.proofs.Common.{refl, arith}
use Rattle.map_body.proofs.Readings.{parts_spell}
use Rattle.map_body.proofs.judging.judge.Goals as goal

pub returns-clause-read : goal.returns-clause-read
returns-clause-read c =
    let head = c.take_head-count.result.0 in
    let told = c.in_ok-len.ensures in
    let es = told.0 in
    let laid = told.1 in
    let spells = parts_spell c.args.bytes.now c.take_head-count.result.2.now head c.take_head-count.result.1 c.take_head-count.ensures.bytes.0 es c.take_head-count.ensures.bytes.1 c.take_head-count.ensures.fits (omega arith) laid.bytes_are laid.as_many laid.fit in
    (record { head = head; elements = es }, (c.take_head-count.ensures.bytes.0, spells, told.2.0), refl, told.2.1)

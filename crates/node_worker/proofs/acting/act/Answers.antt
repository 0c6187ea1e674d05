use Rattle.std.proofs.Common.{[], ◌∙◌, refl, rules}
use Rattle.seats.specs.Acted.{ask_of as asked_of, letters_of, outputs_of, told}
use Rattle.node_worker.specs.Replays.{ask_of}
use Rattle.node_worker.proofs.Received.{acts_as, carries, rises}
use Rattle.node_worker.proofs.acting.act.Goals as goal

pub returns-in-Ok : goal.returns-in-Ok
returns-in-Ok g c =
    let acted = c.act-acted.result in
    let first = c.of-first.result in
    let ended = c.of-first.ensures.ended ∙ c.ended_by.ensures in
    let done = acts_as c.args.seat.now c.act-acted.new.self (asked_of c.asked.result) (ask_of c.args.cause.now) (told acted) c.told-told.result (letters_of acted) first.letters.items (outputs_of acted) first.outputs.items
    c.asked.ensures c.told-told.ensures c.of-first.ensures.letters c.of-first.ensures.outputs c.act-acted.ensures in
    record {
      who = c.act-acted.ensures.same;
      honesty = c.act-acted.ensures.honesty;
      carries = carries c.args.seat.now c.act-acted.new.self c.args.cause.now c.told-told.result first.letters.items first.outputs.items first.ended ended done;
      rose = rises c.args.seat.now c.act-acted.new.self c.args.cause.now c.told-told.result first.letters.items first.outputs.items first.ended ended done;
      same = search rules;
    }

pub returns-in-Err : goal.returns-in-Err
returns-in-Err g c =
    let acted = c.act-acted.result in
    let done = acts_as c.args.seat.now c.act-acted.new.self (asked_of c.asked.result) (ask_of c.args.cause.now) (told acted) c.told-told.result (letters_of acted) (letters_of acted) (outputs_of acted) (outputs_of acted)
    c.asked.ensures c.told-told.ensures refl refl c.act-acted.ensures in
    let settled = c.settle.ensures.settles c.args.seat.now (ask_of c.args.cause.now) (letters_of acted) (outputs_of acted) done in
    let first = c.silent.result in
    let ended = c.silent.ensures.ended ∙ c.ended_by-ended.ensures in
    let silent = acts_as c.args.seat.now c.settle.new.self (ask_of c.args.cause.now) (ask_of c.args.cause.now) c.settle.result c.settle.result [] first.letters.items [] first.outputs.items refl refl c.silent.ensures.letters c.silent.ensures.outputs settled in
    record {
      who = settled.same;
      honesty = settled.honesty;
      carries = carries c.args.seat.now c.settle.new.self c.args.cause.now c.settle.result first.letters.items first.outputs.items first.ended ended silent;
      rose = rises c.args.seat.now c.settle.new.self c.args.cause.now c.settle.result first.letters.items first.outputs.items first.ended ended silent;
      same = search rules;
    }

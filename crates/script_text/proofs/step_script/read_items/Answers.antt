use Rattle.std.proofs.Common.{map}
use Rattle.toml.specs.View.{view}
use Rattle.script_text.specs.EntryTable.{MeansEntry}
use Rattle.script_text.proofs.Reading.{read_more, sound_before, item_at}
use Rattle.script_text.proofs.step_script.read_items.Goals as goal

pub returns-in-Ok-None-clause-fault : goal.returns-in-Ok-None-clause-fault
returns-in-Ok-None-clause-fault c =
    let items = c.args.items.now in
    let item = c.index-items-i.result in
    record {
      bad = view item;
      here = item_at items c.loop-i.i item c.loop-i-test.true c.index-items-i.is;
      means_nothing = λ entry means. c.in-Ok-None.ensures.none c.in-Ok-None.field-0-is entry means;
      sound_before = sound_before MeansEntry (map view items) _ c.loop-i.i c.loop-i.invariant;
    }

pub loop-i-preserved : goal.loop-i-preserved
loop-i-preserved c =
    let items = c.args.items.now in
    let item = c.index-items-i.result in
    let here = item_at items c.loop-i.i item c.loop-i-test.true c.index-items-i.is in
    let more = read_more MeansEntry (map view items) _ c.loop-i.i (view item) c.in-Ok-Some.entry here c.loop-i.invariant (rw c.in-Ok-Some.field-0-is at c.in-Ok-Some.ensures.found) in
    rw c.in_ok-push-in-Ok-Some.ensures.items more

use Rattle.std.proofs.Common.{map}
use Rattle.toml.specs.View.{view}
use Rattle.script_text.specs.Script.{IsId}
use Rattle.script_text.proofs.Reading.{read_more, means_some, item_at}
use Rattle.script_text.proofs.script.read_ids.Goals as goal

pub returns-in-None-clause-fault : goal.returns-in-None-clause-fault
returns-in-None-clause-fault c = λ ids listed.
    let items = c.args.items.now in
    let item = c.item-item.result in
    let here = item_at items c.loop-item.item-index item c.loop-item-test.true c.item-item.is in
    let id = means_some IsId (map view items) ids c.loop-item.item-index (view item) listed here in
    let found = c.in-None.ensures.only id.0 id.1 in
    cc

pub loop-item-preserved : goal.loop-item-preserved
loop-item-preserved c =
    let items = c.args.items.now in
    let item = c.item-item.result in
    let here = item_at items c.loop-item.item-index item c.loop-item-test.true c.item-item.is in
    let more = read_more IsId (map view items) _ c.loop-item.item-index (view item) c.in-Some.id here c.loop-item.invariant c.in-Some.ensures.found in
    rw c.in_ok-push-in-Some.ensures.items more

use Rattle.std.proofs.Common.{map}
use Rattle.toml.specs.View.{view}
use Rattle.script_text.specs.EntryTable.{IsExcept}
use Rattle.script_text.proofs.Reading.{read_more, means_some, item_at}
use Rattle.script_text.proofs.entry_table.all_but.Goals as goal

pub returns-in-None-clause-none : goal.returns-in-None-clause-none
returns-in-None-clause-none c = λ none names listed.
    let items = c.args.items.now in
    let item = c.item-item.result in
    let here = item_at items c.loop-item.item-index item c.loop-item-test.true c.item-item.is in
    let one = means_some IsExcept (map view items) names c.loop-item.item-index (view item) listed here in
    let found = c.in-None.ensures.only one.0 one.1 in
    cc

pub loop-item-preserved : goal.loop-item-preserved
loop-item-preserved c =
    let items = c.args.items.now in
    let item = c.item-item.result in
    let here = item_at items c.loop-item.item-index item c.loop-item-test.true c.item-item.is in
    let before = c.loop-item.invariant in
    let more = read_more IsExcept (map view items) _ c.loop-item.item-index (view item) c.in-Some.name here before.read c.in-Some.ensures.found in
    rw c.in_ok-leave-in-Some.ensures.ok (record { read = more; rounds = before.rounds })

use Rattle.std.proofs.Common.{◌+◌, sym}
use Rattle.std.proofs.lemmas.List.Elements.{filter_passes}
use Rattle.modem.specs.Wants.{is_lasting, lasting}
use Rattle.modem.proofs.Spans.{all_last, AreSpans-filter, AreSpans-with}
use Rattle.modem.proofs.span.keep_lasting.Goals as goal

pub returns-then-all_stay-clause-wants : goal.returns-then-all_stay-clause-wants
returns-then-all_stay-clause-wants c =
    let all = rw c.as_slice.ensures.value at c.all_stay.ensures in
    sym (all_last c.args.leases.now c.args.ch (c.args.«at» + 1) c.args.wants.now.items (all c.if-all_stay.true c.args.leases.now c.args.wants.now.items c.requires.spans))

pub returns-clause-spans : goal.returns-clause-spans
returns-clause-spans c =
    let ls = c.args.leases.now in
    let ch = c.args.ch in
    let test = is_lasting ls ch (c.args.«at» + 1) in
    let left = lasting ls ch (c.args.«at» + 1) c.args.wants.now.items in
    rw (c.keep_lasting.ensures, c.set.ensures) (AreSpans-with ls left c.from_minislot.result c.args.spans.now.items (AreSpans-filter ls c.args.wants.now.items test c.args.spans.now.items c.requires.spans) (c.from_minislot.ensures left (filter_passes test c.args.wants.now.items)))

use Rattle.std.proofs.Common.{◌∙◌, sym}
use Rattle.map_body.proofs.Scan.{tested, untested}
use Rattle.map_body.proofs.Walks.{walk_behind, walk_null, walk_before, walk_expansion, walk_fall}
use Rattle.map_body.proofs.reading.step.Goals as goal

pub returns-then-is_some-clause-walked : goal.returns-then-is_some-clause-walked
returns-then-is_some-clause-walked c = λ es len walked.
    let plain = untested c.eq.result c.args.element.now.iuc 15 c.eq.ensures c.if-eq.false in
    rw c.get-last.ensures.same (walk_behind es c.args.element.now c.args.walk walked plain (sym c.is_some.ensures ∙ c.if-is_some.true))

pub returns-then-eq-2-clause-walked : goal.returns-then-eq-2-clause-walked
returns-then-eq-2-clause-walked c = λ es len walked.
    let plain = untested c.eq.result c.args.element.now.iuc 15 c.eq.ensures c.if-eq.false in
    let unseen = sym c.is_some.ensures ∙ c.if-is_some.false in
    let is = tested c.eq-2.result c.args.element.now.iuc 7 c.eq-2.ensures c.if-eq-2.true in
    let order = rw c.get-last.ensures.same at c.if-last-walk.false in
    rw c.get-last.ensures.same (walk_null es c.args.element.now c.args.walk c.args.i walked len plain unseen order is)

pub returns-clause-walked : goal.returns-clause-walked
returns-clause-walked c = λ es len walked.
    let plain = untested c.eq.result c.args.element.now.iuc 15 c.eq.ensures c.if-eq.false in
    let unseen = sym c.is_some.ensures ∙ c.if-is_some.false in
    let isnt = untested c.eq-2.result c.args.element.now.iuc 7 c.eq-2.ensures c.if-eq-2.false in
    let order = rw c.get-last.ensures.same at c.if-last-walk.false in
    rw c.get-last.ensures.same (walk_before es c.args.element.now c.args.walk walked plain unseen order isnt)

pub returns-then-eq-clause-fault : goal.returns-then-eq-clause-fault
returns-then-eq-clause-fault c = λ es rest len walked. walk_expansion es rest c.args.element.now c.args.walk walked (tested c.eq.result c.args.element.now.iuc 15 c.eq.ensures c.if-eq.true)

pub returns-then-last-walk-clause-fault : goal.returns-then-last-walk-clause-fault
returns-then-last-walk-clause-fault c = λ es rest len walked.
    let plain = untested c.eq.result c.args.element.now.iuc 15 c.eq.ensures c.if-eq.false in
    let unseen = sym c.is_some.ensures ∙ c.if-is_some.false in
    let below = rw c.get-last.ensures.same at c.if-last-walk.true in
    walk_fall es rest c.args.element.now c.args.walk walked plain unseen below

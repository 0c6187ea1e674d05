use Rattle.std.proofs.Common.{◌≡◌, length, sym, ◌∙◌, arith}
use Rattle.map_body.proofs.Walks.{walked_all, laid_none, laid_fault}
use Rattle.map_body.proofs.reading.elements_of.Goals as goal

pub returns-in-Some-null-clause-sound : goal.returns-in-Some-null-clause-sound
returns-in-Some-null-clause-sound c = (walked_all c.loop-i.elements.items c.loop-i.walk c.in-Some-null.null c.loop-i.invariant.walked c.in-Some-null.is).0

pub returns-in-Some-null-clause-null : goal.returns-in-Some-null-clause-null
returns-in-Some-null-clause-null c = (walked_all c.loop-i.elements.items c.loop-i.walk c.in-Some-null.null c.loop-i.invariant.walked c.in-Some-null.is).1

pub returns-in-None-clause-fault : goal.returns-in-None-clause-fault
returns-in-None-clause-fault c = λ es laid are.
    let most = c.loop-i.auto.i-end in
    let len : length c.loop-i.elements.items ≡ c.args.count = omega (arith, c.loop-i.invariant.read, c.loop-i-test.false, most) in
    laid_none c.args.bytes.now c.loop-i.rest.now c.loop-i.elements.items es c.loop-i.walk c.args.count c.loop-i.invariant.bytes c.loop-i.invariant.fit len laid c.loop-i.invariant.walked c.in-None.is are

pub returns-in_default-clause-fault : goal.returns-in_default-clause-fault
returns-in_default-clause-fault c = λ es laid are.
    let len : length c.loop-i.elements.items ≡ c.from-in-loop-i.result = c.loop-i.invariant.read ∙ sym c.from-in-loop-i.ensures in
    laid_fault c.args.bytes.now c.loop-i.rest.now c.take_u32-word.result.1.now c.loop-i.elements.items es c.element_of-element.result c.take_u32-word.result.0 c.args.count c.loop-i.i
    c.loop-i.invariant.bytes c.take_u32-word.ensures c.element_of-element.ensures.same c.loop-i.invariant.fit c.element_of-element.ensures.fits c.loop-i.invariant.read c.loop-i-test.true laid
    (λ tail. c.in_default.ensures.fault c.loop-i.elements.items tail len c.loop-i.invariant.walked) are

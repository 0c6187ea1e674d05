use Rattle.std.proofs.Common.{refl}
use Rattle.node.specs.Calls.{answer}
use Rattle.node.specs.Calls.Cause.{Lead, Offer, Receive, Tell}
use Rattle.seats.proofs.Acting.{calls, crashes, owes_lead, owes_letter, goes_on_last, owes_offer, owes_tell, releases}
use Rattle.seats.proofs.Acting.{same_err, same_trust, stays_up_so, takes, turn_fails}
use Rattle.seats.specs.Owes.{outside}
use Rattle.seats.proofs.seat.Seat.act_up.Goals as goal

pub returns-in-Lead : goal.returns-in-Lead
returns-in-Lead g c = rw (c.in-Lead.is, c.of_call.ensures) (
    let was = c.args.self.now in
    let call = c.lead-given.ensures in
    let up = was.runs c.requires in
    calls was _ Lead c.lead-given.result c.requires c.stays_up-self.ensures call.trust call.err call.kept call.tells
    (owes_lead (g.N.Node.who was.node).members (g.N.Node.who was.node).id (outside was) c.lead-given.result (call.full up) (call.heard up)) call.done call.order)

pub returns-in-Offer : goal.returns-in-Offer
returns-in-Offer g c = rw (c.in-Offer.is, c.of_call-in-Offer.ensures) (
    let was = c.args.self.now in
    let call = c.offer-given.ensures in
    let turn = call.turn (was.runs c.requires) in
    let fails = turn_fails (g.N.Node.who was.node).members (g.N.Node.who was.node).id (g.N.Node.role was.node) c.in-Offer.value.now c.offer-given.result turn in
    calls was _ (Offer c.in-Offer.value.now) c.offer-given.result c.requires c.stays_up-self-in-Offer.ensures call.trust call.err call.kept fails (owes_offer _ c.offer-given.result turn) call.done call.order)

pub returns-in-Tell : goal.returns-in-Tell
returns-in-Tell g c = rw (c.in-Tell.is, c.of_call-in-Tell.ensures) (
    let was = c.args.self.now in
    let call = c.tell-given.ensures in
    calls was _ (Tell c.in-Tell.to.now c.in-Tell.place) c.tell-given.result c.requires c.stays_up-self-in-Tell.ensures (same_trust g.N.Node.honest g.N.Node.clean was.node) (same_err (g.N.Node.rest was.node) c.tell-given.result) call.kept (call.tells (was.runs c.requires))
    (owes_tell _ c.tell-given.result call.letters (call.no_memory (was.runs c.requires))) (λ honest s stands. (s, call.done s stands, stands))
    (λ honest view stands. goes_on_last (g.N.Node.who was.node).members (g.N.Node.who was.node).id view (Tell c.in-Tell.to.now c.in-Tell.place) (answer c.tell-given.result) tt))

pub returns-in-Receive : goal.returns-in-Receive
returns-in-Receive g c = rw (c.in-Receive.is, c.of_call-in-Receive.ensures) (
    let was = c.args.self.now in
    let call = c.receive-given.ensures in
    calls was _ (Receive c.in-Receive.letter.now) c.receive-given.result c.requires c.stays_up-self-in-Receive.ensures call.trust call.err call.kept call.tells
    (owes_letter (g.N.Node.who was.node).members (g.N.Node.who was.node).id (outside was) c.in-Receive.letter.now c.receive-given.result (call.passed_over (was.runs c.requires)) (call.no_memory (was.runs c.requires))).0 call.done
    (λ honest view stands. goes_on_last (g.N.Node.who was.node).members (g.N.Node.who was.node).id view (Receive c.in-Receive.letter.now) (answer c.receive-given.result) tt))

pub returns-in-ReceiveThenCrash : goal.returns-in-ReceiveThenCrash
returns-in-ReceiveThenCrash g c = rw (c.in-ReceiveThenCrash.is, c.of_lost_call.ensures) (
    let was = c.args.self.now in
    let call = c.receive-given-in-ReceiveThenCrash.ensures in
    takes was _ c.in-ReceiveThenCrash.letter.now c.receive-given-in-ReceiveThenCrash.result c.requires refl call.trust call.err call.kept call.tells
    (owes_letter (g.N.Node.who was.node).members (g.N.Node.who was.node).id (outside was) c.in-ReceiveThenCrash.letter.now c.receive-given-in-ReceiveThenCrash.result (call.passed_over (was.runs c.requires)) (call.no_memory (was.runs c.requires))).1 call.done)

pub returns-in-Release : goal.returns-in-Release
returns-in-Release g c = rw (c.in-Release.is, c.of_release.ensures) (
    let call = c.release-given.ensures in
    releases c.args.self.now _ c.in-Release.now c.release-given.result c.requires c.stays_up-self-in-Release.ensures call.trust call.err call.kept call.tells call.done)

pub returns-in-Crash : goal.returns-in-Crash
returns-in-Crash g c = rw c.in-Crash.is (crashes c.args.self.now _ c.requires)

pub returns-in-Restart : goal.returns-in-Restart
returns-in-Restart g c = rw c.in-Restart.is (stays_up_so c.args.self.now c.requires)

use Rattle.std.proofs.Common.{◌≡◌, Some, refl, sym, ap, subst, ◌∙◌, arith}
use Rattle.modem.specs.State.{channel_of}
use Rattle.modem.specs.LetsGo.{HasNoOld}
use Rattle.modem.proofs.Clocks.{found_id}
use Rattle.modem.proofs.modem.Modem.due.Goals as goal

pub pass-requires : goal.pass-requires
pass-requires c =
    let cs = c.self.inside.channels.items in
    let ch = c.args.head.channel in
    let kept : channel_of cs ch ≡ Some c.in-Some.channel = rw c.as_slice.ensures.value at (sym c.in-Some.ensures) in
    rw (← c.self.view_is) (ap (channel_of cs) (found_id cs ch c.in-Some.channel kept) ∙ kept)

pub returns-then-stop-max-clause-other : goal.returns-then-stop-max-clause-other
returns-then-stop-max-clause-other c =
    let cs = c.self.inside.channels.items in
    let ch = c.args.head.channel in
    let kept : channel_of cs ch ≡ Some c.in-Some.channel = rw c.as_slice.ensures.value at (sym c.in-Some.ensures) in
    let over = rw (c.max.ensures, c.get.ensures.same) at c.if-stop-max.true in
    (c.in-Some.channel, (rw (← c.self.view_is) kept, c.if-channel-head.false), omega (arith, over), c.pass.ensures.passes, subst (HasNoOld c.pass.new.self) (found_id cs ch c.in-Some.channel kept) c.pass.ensures.lets_go)

pub returns-clause-due : goal.returns-clause-due
returns-clause-due c =
    let cs = c.self.inside.channels.items in
    let kept : channel_of cs c.args.head.channel ≡ Some c.in-Some.channel = rw c.as_slice.ensures.value at (sym c.in-Some.ensures) in
    ((rw (← c.self.view_is) kept, c.if-channel-head.false), rw (c.max.ensures, c.get.ensures.same) at c.if-stop-max.false, refl)

use Rattle.std.proofs.Common.{◌≡◌, ℕ, ◌<◌, ◌≤◌, ◌^◌, ◌⊎◌, inl, inr, Some, IfSome, sym, arith}
use Rattle.std.proofs.lemmas.Bool.{cases_lt}
use Rattle.modem.specs.State.{State, channel_of}
use Rattle.modem.specs.NextEvent.{AreQuiet}
use Rattle.modem.specs.Idle.{IsIdle}
use Rattle.modem.proofs.NextEdges.{if_none}
use Rattle.modem.proofs.Quiet.{idle_quiet}
use Rattle.modem.proofs.Windows.{still_past_of}
use Rattle.modem.proofs.modem.Modem.next_event.Goals as goal

-- nothing comes up to the next edge
idle_on : (v : State) (ch «at» m : ℕ) → (m < «at» → IsIdle v ch m) → («at» ≤ m → IsIdle v ch m) → IsIdle v ch m
idle_on v ch «at» m before after = by_side (cases_lt m «at»)
  where
    by_side : (m < «at») ⊎ («at» ≤ m) → IsIdle v ch m
    by_side (inl early) = before early
    by_side (inr late) = after late

pub loop-at-init : goal.loop-at-init
loop-at-init c =
    let top = c.max-at.ensures in
    let from = c.get.ensures.same in
    (omega (arith, top, from), c.windows_from-near.ensures, λ m late before limit. absurd (omega (arith, top, from, late, before)))

pub windows_at-near-requires-clause-past_grants : goal.windows_at-near-requires-clause-past_grants
windows_at-near-requires-clause-past_grants c =
    let on = c.in_ok-next-in-None.ensures.after in
    let near = c.loop-at.invariant.1 in
    still_past_of c.in_ok-channel.channel.id c.loop-at.«at» c.in_ok-next-in-None.next c.loop-at.near.own.past _ (omega (arith, on)) (λ ks same. (near.own ks same).past)

pub windows_at-near-requires-clause-past_open : goal.windows_at-near-requires-clause-past_open
windows_at-near-requires-clause-past_open c =
    let on = c.in_ok-next-in-None.ensures.after in
    let near = c.loop-at.invariant.1 in
    still_past_of c.in_ok-channel.channel.id c.loop-at.«at» c.in_ok-next-in-None.next c.loop-at.near.«open».past _ (omega (arith, on)) (λ ks same. (near.«open» ks same).past)

pub loop-at-preserved : goal.loop-at-preserved
loop-at-preserved c =
    let on = c.in_ok-next-in-None.ensures.after in
    let so_far = c.loop-at.invariant.0 in (
      omega (arith, on, so_far),
      c.windows_at-near.ensures,
      λ m late before limit.
          idle_on c.args.self.now c.in_ok-channel.channel.id c.loop-at.«at» m (λ early. c.loop-at.invariant.2 m late early limit) (λ later. c.in_ok-next-in-None.ensures.idle m later limit before c.in-None.ensures.none),
    )

pub returns-in-Some-clause-next : goal.returns-in-Some-clause-next
returns-in-Some-clause-next c =
    let known : channel_of c.args.self.now.channels c.args.ch ≡ Some c.in_ok-channel.channel = rw (← c.self.view_is) (rw c.as_slice.ensures.value at (sym c.in_ok-channel.ensures)) in
    let limit = c.loop-at-test.true in
    rw known (record {
      from_on = c.loop-at.invariant.0;
      below = limit;
      before = λ m late lt. idle_quiet c.args.self.now c.in_ok-channel.channel m (c.loop-at.invariant.2 m late lt (omega (arith, lt, limit)));
      acts = c.in-Some.ensures.some;
    })

pub returns-in_err-next-in-None-clause-never : goal.returns-in_err-next-in-None-clause-never
returns-in_err-next-in-None-clause-never c =
    let known : channel_of c.args.self.now.channels c.args.ch ≡ Some c.in_ok-channel.channel = rw (← c.self.view_is) (rw c.as_slice.ensures.value at (sym c.in_ok-channel.ensures)) in
    if_none (IfSome (channel_of c.args.self.now.channels c.args.ch) (λ k. AreQuiet c.args.self.now k c.args.from (2 ^ 63))) c.from_residual-in_err-next-in-None.result (rw known (λ m late limit. idle_quiet c.args.self.now c.in_ok-channel.channel m (idle_on c.args.self.now c.in_ok-channel.channel.id c.loop-at.«at» m (λ early. c.loop-at.invariant.2 m late early limit) (λ later. c.in_err-next-in-None.ensures.idle m later limit tt c.in-None.ensures.none))))

pub returns-clause-never : goal.returns-clause-never
returns-clause-never c =
    let known : channel_of c.args.self.now.channels c.args.ch ≡ Some c.in_ok-channel.channel = rw (← c.self.view_is) (rw c.as_slice.ensures.value at (sym c.in_ok-channel.ensures)) in
    let past = c.loop-at-test.false in
    rw known (λ m late limit. idle_quiet c.args.self.now c.in_ok-channel.channel m (c.loop-at.invariant.2 m late (omega (arith, past, limit)) limit))

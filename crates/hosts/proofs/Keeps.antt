-- A host whose nodes keep what they did.
use Rattle.std.proofs.Common.{◌≡◌, ◌∙◌, inl, inr, ℕ, ◌+◌, ◌-◌, ◌<◌, ◌≤◌, Bool, true, false, ◌&&◌, Option, Some, None, refl, sym, ap}
use Rattle.std.proofs.Common.{arith, subst}
use Rattle.std.specs.Prelude.{IsTrue}
use Rattle.node.specs.Calls.{Who}
use Rattle.node.specs.View.{Standing}
use Rattle.node.specs.declared.node.Node.{Ghosts as Nodes}
use Rattle.proposer.specs.declared.fault.NodeFault.{NodeFault}
use Rattle.seats.specs.Occupant.{Stands, is_up, node_of}
use Rattle.seats.specs.Seat.{Shown}
use Rattle.seats.specs.declared.seat.Seat.{Seat}
use Rattle.epochs.specs.Epochs.{AreFull}
use Rattle.epochs.specs.Scheduling.{scheduled}
use Rattle.hosts.specs.Hosts.{AreMembers, KeepsTrust, SameHost, StandsAs, are_up, is_up_if_any, seat_of}
use Rattle.hosts.specs.Keeping.{FailsIfAny, FailsInSeat, HasKeptIfAny, HaveKept, IsSameSeat}
use Rattle.hosts.specs.Keeping.{KeepsSeat, NoneOrBoth, RelatesSeats}
use Rattle.hosts.specs.Slots.{slot}
use Rattle.hosts.specs.Views.{HostView, values}
use Rattle.hosts.specs.declared.host.Host.{Host}
use Rattle.hosts.specs.declared.opens.Opens.{Ghosts}
use Rattle.hosts.proofs.KeptStates.{same_states}
use Rattle.hosts.proofs.Openings.{keeps_same}
use Rattle.hosts.proofs.SlotLemmas.{same_inside, slot_after, slot_before, slot_cases, slot_own, slots_all}

-- a node that did nothing is the same
pub same_seat : {N : Type 0} {h : Nodes N} (seat : Seat N h) → IsSameSeat seat seat
same_seat seat = record { who = refl; honest = refl; clean = refl; role = refl; stands = λ s stands. stands }

pub same_if_any : {N : Type 0} {h : Nodes N} (found : Option (Seat N h)) → NoneOrBoth IsSameSeat found found
same_if_any None = tt
same_if_any (Some seat) = same_seat seat

-- what is related so is related in another way too
pub both_weaker : {S : Type 0} (R Q : S → S → Type 0) → ((x y : S) → R x y → Q x y) → (x y : Option S) → NoneOrBoth R x y → NoneOrBoth Q x y
both_weaker R Q f None None both = tt
both_weaker R Q f (Some x) (Some y) both = f x y both
both_weaker R Q f None (Some y) none = absurd none
both_weaker R Q f (Some x) None none = absurd none

both_old : {S : Type 0} (R : S → S → Type 0) (x y : Option S) → NoneOrBoth R x y → (s : S) → y ≡ Some s → (t : S) × (x ≡ Some t) × R t s
both_old R None None both s is = absurd (cc (is))
both_old {S} R (Some x) (Some y) both s is = (x, refl, subst (λ (z : S). R x z) (same_inside y s is) both)
both_old R None (Some y) none s is = absurd none
both_old R (Some x) None none s is = absurd none

both_new : {S : Type 0} (R : S → S → Type 0) (x y : Option S) → NoneOrBoth R x y → (s : S) → x ≡ Some s → (t : S) × (y ≡ Some t) × R s t
both_new R None None both s is = absurd (cc (is))
both_new {S} R (Some x) (Some y) both s is = (y, refl, subst (λ (z : S). R z y) (same_inside x s is) both)
both_new R None (Some y) none s is = absurd none
both_new R (Some x) None none s is = absurd none

-- each node that is there is related to the one that was there, and each that was there to one that is
pub was_there : {O N : Type 0} {g : Ghosts O N} {h : Nodes N} (R : Seat N h → Seat N h → Type 0) (old new : Host O N g h) → RelatesSeats R old new → (e : ℕ) (seat : Seat N h) → seat_of new e ≡ Some seat
    → (was : Seat N h) × (seat_of old e ≡ Some was) × R was seat
was_there {O} {N} {g} {h} R old new is e seat at =
    slots_all (λ f x. (was : Seat N h) × (seat_of old f ≡ Some was) × R was x) old.number new.before new.own new.after (old.own, slot_own old.number old.before old.own old.after, is.own)
    (old.after, slot_after old.number old.before old.own old.after, is.after)
    (λ f s below there. let found = both_old R old.before new.before is.before s there in (found.0, slot_before old.number old.before old.own old.after f below ∙ found.1, found.2))
    e seat (ap (λ n. slot n new.before new.own new.after e) (sym is.rest.number) ∙ at)

pub is_there : {O N : Type 0} {g : Ghosts O N} {h : Nodes N} (R : Seat N h → Seat N h → Type 0) (old new : Host O N g h) → RelatesSeats R old new → (e : ℕ) (seat : Seat N h) → seat_of old e ≡ Some seat
    → (now : Seat N h) × (seat_of new e ≡ Some now) × R seat now
is_there {O} {N} {g} {h} R old new is e seat at =
    let seats : (f : ℕ) → seat_of new f ≡ slot old.number new.before new.own new.after f = λ f. ap (λ n. slot n new.before new.own new.after f) is.rest.number in
    slots_all (λ f x. (now : Seat N h) × (seat_of new f ≡ Some now) × R x now) old.number old.before old.own old.after
    (new.own, seats old.number ∙ slot_own old.number new.before new.own new.after, is.own)
    (new.after, seats (old.number + 1) ∙ slot_after old.number new.before new.own new.after, is.after)
    (λ f s below there.
    let found = both_new R old.before new.before is.before s there in (found.0, seats f ∙ slot_before old.number new.before new.own new.after f below ∙ found.1, found.2))
    e seat at

pub same_trust : {O N : Type 0} {g : Ghosts O N} {h : Nodes N} (old new : Host O N g h) → RelatesSeats IsSameSeat old new → KeepsTrust old new
same_trust {O} {N} {g} {h} old new is = record {
  honest = λ t e seat low at. let now = is_there IsSameSeat old new is e seat at in subst (λ b. IsTrue b) now.2.honest (t e now.0 now.1);
  clean = λ t e seat low at. let now = is_there IsSameSeat old new is e seat at in subst (λ b. IsTrue b) now.2.clean (t e now.0 now.1);
  sure = λ c t e seat at. let was = was_there IsSameSeat old new is e seat at in subst (λ b. IsTrue b) (sym was.2.honest) (t e was.0 was.1);
}

pub same_members : {O N : Type 0} {g : Ghosts O N} {h : Nodes N} (old new : Host O N g h) → RelatesSeats IsSameSeat old new → AreMembers old → AreMembers new
same_members {O} {N} {g} {h} old new is members e seat at =
    let was = was_there IsSameSeat old new is e seat at in
    ap (λ (w : Who). (w.id, w.members)) was.2.who ∙ members e was.0 was.1 ∙ ap g.member (sym is.rest.opens)

pub same_host : {O N : Type 0} {g : Ghosts O N} {h : Nodes N} (old new : Host O N g h) → RelatesSeats IsSameSeat old new → SameHost old new
same_host {O} {N} {g} {h} old new is =
    let keeps = keeps_same g old.opens new.opens is.rest.opens in
    record { member = keeps.member; places = is.rest.places; begins = keeps.begins }

pub have_kept : {O N : Type 0} {g : Ghosts O N} {h : Nodes N} (old new : Host O N g h) → RelatesSeats (KeepsSeat g) old new → HaveKept new
have_kept {O} {N} {g} {h} old new is e seat at = (was_there (KeepsSeat g) old new is e seat at).2.kept

-- a node that is up as it was stands where it stood
shown_more : (up : Bool) (P Q : Standing → Type 0) (s : Standing) → ((t : Standing) → P t → Q t) → Shown up P s → Shown up Q s
shown_more true P Q s f (stands, view, is) = (f s stands, view, is)
shown_more false P Q s f (t, stands, is) = (t, f t stands, is)

seat_stands : {O N : Type 0} {h : Nodes N} (g : Ghosts O N) (old new : Seat N h) (s : Standing) → KeepsSeat g old new → Stands old s → Stands new s
seat_stands {O} {N} {h} g old new s keeps stands =
    subst (λ up. Shown up (h.stands (node_of new)) s) (sym keeps.up) (shown_more (is_up old) (h.stands (node_of old)) (h.stands (node_of new)) s keeps.same.stands stands)

pub keeps_stands : {O N : Type 0} {g : Ghosts O N} {h : Nodes N} (old new : Host O N g h) → RelatesSeats (KeepsSeat g) old new → (v : HostView) → StandsAs old v → StandsAs new v
keeps_stands {O} {N} {g} {h} old new is v stands = record {
  epoch = is.rest.number ∙ stands.epoch;
  taken = is.rest.taken ∙ stands.taken;
  cursor = is.rest.cursor ∙ stands.cursor;
  full = subst (λ p. AreFull p v.passed) (sym is.rest.places) stands.full;
  scheduler = is.rest.scheduler ∙ stands.scheduler ∙ ap (λ p. scheduled (values p v) v.cursor) (sym is.rest.places);
  nodes = λ e seat at. let was = was_there (KeepsSeat g) old new is e seat at in seat_stands g was.0 seat (v.nodes e) was.2 (stands.nodes e was.0 was.1);
  some = stands.some;
  since = stands.since;
  before = is.rest.before ∙ stands.before;
  states = same_states old.places new.places v.passed v.own old.states new.states is.rest.places is.rest.states stands.states;
}

-- whether they are up
up_if_any : {O N : Type 0} {h : Nodes N} (g : Ghosts O N) (x y : Option (Seat N h)) → NoneOrBoth (KeepsSeat g) x y → is_up_if_any y ≡ is_up_if_any x
up_if_any g None None both = refl
up_if_any g (Some x) (Some y) both = both.up
up_if_any g None (Some y) none = absurd none
up_if_any g (Some x) None none = absurd none

pub keeps_up : {O N : Type 0} {g : Ghosts O N} {h : Nodes N} (old new : Host O N g h) → RelatesSeats (KeepsSeat g) old new → are_up new ≡ are_up old
keeps_up {O} {N} {g} {h} old new is =
    let own : is_up new.own ≡ is_up old.own = is.own.up in
    let after : is_up new.after ≡ is_up old.after = is.after.up in
    let before : is_up_if_any new.before ≡ is_up_if_any old.before = up_if_any g old.before new.before is.before in
    λ i. own i && (after i && before i)

and_first : (a b : Bool) → a ≡ false → (a && b) ≡ false
and_first false b is = refl
and_first true b is = absurd (cc (is))

and_second : (a b : Bool) → b ≡ false → (a && b) ≡ false
and_second false b is = refl
and_second true b is = is

pub own_down : {O N : Type 0} {g : Ghosts O N} {h : Nodes N} (host : Host O N g h) → is_up host.own ≡ false → are_up host ≡ false
own_down host down = and_first (is_up host.own) (is_up host.after && is_up_if_any host.before) down

pub after_down : {O N : Type 0} {g : Ghosts O N} {h : Nodes N} (host : Host O N g h) → is_up host.after ≡ false → are_up host ≡ false
after_down host down =
    and_second (is_up host.own) (is_up host.after && is_up_if_any host.before) (and_first (is_up host.after) (is_up_if_any host.before) down)

pub before_down : {O N : Type 0} {g : Ghosts O N} {h : Nodes N} (host : Host O N g h) → is_up_if_any host.before ≡ false → are_up host ≡ false
before_down host down =
    and_second (is_up host.own) (is_up host.after && is_up_if_any host.before) (and_second (is_up host.after) (is_up_if_any host.before) down)

-- one that failed is there, and is down
pub failed_down : {O N : Type 0} {h : Nodes N} (g : Ghosts O N) (why : NodeFault) (x y : Option (Seat N h)) → FailsIfAny g why x y → is_up_if_any y ≡ false
failed_down g why (Some x) (Some y) fails = fails.down
failed_down g why None y none = absurd none
failed_down g why (Some x) None none = absurd none

pub failed_there : {O N : Type 0} {h : Nodes N} (g : Ghosts O N) (why : NodeFault) (x y : Option (Seat N h)) → FailsIfAny g why x y → (s t : Seat N h) × (x ≡ Some s) × (y ≡ Some t) × FailsInSeat g why s t
failed_there g why (Some x) (Some y) fails = (x, y, refl, refl, fails)
failed_there g why None y none = absurd none
failed_there g why (Some x) None none = absurd none

-- whether something waits
pub kept_all : {O N : Type 0} {g : Ghosts O N} {h : Nodes N} (host : Host O N g h) → HasKeptIfAny g host.before → g.has_kept (node_of host.own) → g.has_kept (node_of host.after) → HaveKept host
kept_all {O} {N} {g} {h} host before own after =
    slots_all (λ f x. g.has_kept (node_of x)) host.number host.before host.own host.after own after
    (λ f s below there. subst (λ (x : Option (Seat N h)). HasKeptIfAny g x) there before)

-- what has been kept where one fails to: nothing is below the one before
abbrev pub KeptBelow : {O N : Type 0} {h : Nodes N} → Ghosts O N → ℕ → ℕ → Option (Seat N h) → Seat N h → Seat N h → Type 0
KeptBelow {O} {N} {h} g below number before own after = (e : ℕ) (seat : Seat N h) → e < below → slot number before own after e ≡ Some seat → g.has_kept (node_of seat)

pub none_below : {O N : Type 0} {h : Nodes N} (g : Ghosts O N) (number : ℕ) (before : Option (Seat N h)) (own after : Seat N h) → 1 ≤ number → KeptBelow g (number - 1) number before own after
none_below g number before own after first e seat low at =
    elim (slot_cases number before own after e seat at) [
      | inl found ↦ absurd (omega (arith, found.0, low))
      | inr more ↦ elim more [
        | inl found ↦ absurd (omega (arith, found.0, low))
        | inr found ↦ absurd (omega (arith, found.0, low, first))
      ]
    ]

-- the one before is below the own one, and both are below the one after
pub before_below : {O N : Type 0} {h : Nodes N} (g : Ghosts O N) (number : ℕ) (before : Option (Seat N h)) (own after : Seat N h) → HasKeptIfAny g before → KeptBelow g number number before own after
before_below {O} {N} {h} g number before own after kept e seat low at =
    elim (slot_cases number before own after e seat at) [
      | inl found ↦ absurd (omega (arith, found.0, low))
      | inr more ↦ elim more [
        | inl found ↦ absurd (omega (arith, found.0, low))
        | inr found ↦ subst (λ (x : Option (Seat N h)). HasKeptIfAny g x) found.1 kept
      ]
    ]

pub own_below : {O N : Type 0} {h : Nodes N} (g : Ghosts O N) (number : ℕ) (before : Option (Seat N h)) (own after : Seat N h) → HasKeptIfAny g before → g.has_kept (node_of own)
    → KeptBelow g (number + 1) number before own after
own_below {O} {N} {h} g number before own after kept owned e seat low at =
    elim (slot_cases number before own after e seat at) [
      | inl found ↦ subst (λ (x : Seat N h). g.has_kept (node_of x)) found.1 owned
      | inr more ↦ elim more [
        | inl found ↦ absurd (omega (arith, found.0, low))
        | inr found ↦ subst (λ (x : Option (Seat N h)). HasKeptIfAny g x) found.1 kept
      ]
    ]

-- one that may be there has kept what it did
pub kept_if_any : {O N : Type 0} {h : Nodes N} (g : Ghosts O N) (x y : Option (Seat N h)) → NoneOrBoth (KeepsSeat g) x y → HasKeptIfAny g y
kept_if_any g None None both = tt
kept_if_any g (Some x) (Some y) both = both.kept
kept_if_any g None (Some y) none = absurd none
kept_if_any g (Some x) None none = absurd none

-- one that is down is there
pub down_there : {N : Type 0} {h : Nodes N} (found : Option (Seat N h)) → is_up_if_any found ≡ false → (seat : Seat N h) × (found ≡ Some seat) × (is_up seat ≡ false)
down_there None is = absurd (cc (is))
down_there (Some seat) is = (seat, refl, is)

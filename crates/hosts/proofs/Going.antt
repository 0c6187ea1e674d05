-- A host that goes on in the next epoch, and a whole release, as the host stands.
use Rattle.std.proofs.Common.{◌≡◌, ◌≢◌, ◌∙◌, ℕ, ◌+◌, ◌<◌, ◌≤◌, Bool, true, false, cond, eqb, ltb, ◌&&◌, List, [], ◌∷◌, ◌++◌}
use Rattle.std.proofs.Common.{length, None, Option, Some, take, refl, sym, ap, subst, inl, inr, eqb-true, eq-eqb, arith}
use Rattle.std.proofs.Common.{length-append}
use Rattle.std.proofs.lemmas.Bool.{lt-ltb, ltb-true}
use Rattle.std.proofs.lemmas.List.{append-nil}
use Rattle.std.proofs.Math.Seq.{take-nil}
use Rattle.node.specs.View.{Standing, started}
use Rattle.node.specs.View.Standing.{Running}
use Rattle.proposer.specs.declared.fault.NodeFault.{NodeFault}
use Rattle.proposer.specs.declared.fault.NodeFault.TheVariants.{OutOfMemory}
use Rattle.seats.specs.Occupant.{IsClean as IsSeatClean, IsHonest as IsSeatHonest, Stands, member as member_of_seat}
use Rattle.seats.specs.Occupant.{node_of}
use Rattle.seats.specs.declared.seat.Seat.{Seat}
use Rattle.epochs.specs.Epochs.{AreFull, ValuesGoOn}
use Rattle.epochs.specs.Scheduling.{AppliesNext, HandsOutRest, most_applied, scheduled}
use Rattle.hosts.specs.Hosts.{AreMembers, IsHonest, KeepsTrust, SameHost, StandsAs, begins_of, member_of, places_of}
use Rattle.hosts.specs.Hosts.{seat_of}
use Rattle.hosts.specs.Keeping.{HaveKept}
use Rattle.hosts.specs.Opening.{KeepsState}
use Rattle.hosts.specs.Shifting.{CanGoOn, GivesOut, GoesOn, KeepsNodes, Shifts, Stays, StoresNext, TakesOwn}
use Rattle.hosts.specs.Slots.{slot}
use Rattle.hosts.specs.States.{IsNextState, IsStateOf, StatesView, gone_on}
use Rattle.hosts.specs.Taking.{IsAllOf}
use Rattle.hosts.specs.Views.{Gives, GoesFrom, HostView, IsAll, Releases, TakesUp, all_given, is_passed, number}
use Rattle.hosts.specs.Views.{shifted, values, with_more, with_node}
use Rattle.hosts.specs.declared.acted.Given.{Given}
use Rattle.hosts.specs.declared.acted.Given.TheVariants.{Outputs, Failed}
use Rattle.hosts.specs.declared.host.Host.{Host}
use Rattle.hosts.specs.declared.opens.Opens.{Ghosts}
use Rattle.node.specs.declared.node.Node.{Ghosts as Nodes}
use Rattle.std.specs.Prelude.{is_some}
use Rattle.hosts.proofs.KeptStates.{gone_states, same_states}
use Rattle.hosts.proofs.Openings.{opened_stands}
use Rattle.hosts.proofs.SlotLemmas.{eqb_no, same_inside, slot_after, slot_before, slot_own, slots_all}
use Rattle.hosts.proofs.Taken.{applied_is, gives_as, gives_stands, keeps_clean, keeps_honest, keeps_trust, takes_all}
use Rattle.hosts.proofs.Taken.{takes_stands, takes_up}

and_parts : (a b c : Bool) → (a && (b && c)) ≡ true → (a ≡ true) × (b ≡ true) × (c ≡ true)
and_parts true true true is = (refl, refl, refl)
and_parts true true false is = absurd (let wrong : false ≡ true = is in cc (wrong))
and_parts true false c is = absurd (let wrong : false ≡ true = is in cc (wrong))
and_parts false b c is = absurd (let wrong : false ≡ true = is in cc (wrong))

-- the host tells by its counts whether its epoch is passed
passed_is : {O N : Type 0} {g : Ghosts O N} {h : Nodes N} (host : Host O N g h) (v : HostView) → StandsAs host v → CanGoOn host → is_passed (places_of host) v ≡ true
passed_is host v stands can =
    let applied : host.scheduler.applied ≡ length (values host.places v) = applied_is host v stands in
    let full : eqb (length v.own) host.places ≡ true = eq-eqb (length v.own) host.places (sym stands.taken ∙ can.taken) in
    let given : eqb v.cursor (length (values host.places v)) ≡ true = eq-eqb v.cursor (length (values host.places v)) (sym stands.cursor ∙ can.given ∙ applied) in
    let room : ltb (length (values host.places v) + host.places) most_applied ≡ true =
    lt-ltb (length (values host.places v) + host.places) most_applied (subst (λ n. n + host.places < most_applied) applied can.room) in
    λ i. full i && (given i && room i)

not_passed : {O N : Type 0} {g : Ghosts O N} {h : Nodes N} (host : Host O N g h) (v : HostView) → StandsAs host v → ¬ CanGoOn host → is_passed (places_of host) v ≡ false
not_passed host v stands cannot = by (is_passed (places_of host) v) refl
  where
    by : (b : Bool) → is_passed (places_of host) v ≡ b → is_passed (places_of host) v ≡ false
    by false is = is
    by true is =
        let applied : host.scheduler.applied ≡ length (values host.places v) = applied_is host v stands in
        let parts = and_parts (eqb (length v.own) host.places) (eqb v.cursor (length (values host.places v))) (ltb (length (values host.places v) + host.places) most_applied) is in
        absurd (cannot (record {
          taken = stands.taken ∙ eqb-true (length v.own) host.places parts.0;
          given = stands.cursor ∙ eqb-true v.cursor (length (values host.places v)) parts.1 ∙ sym applied;
          room = subst (λ n. n + host.places < most_applied) (sym applied) (ltb-true (length (values host.places v) + host.places) most_applied parts.2);
        }))

-- one epoch more that is full
full_more : (places : ℕ) (cs : List (List (List ℕ))) (c : List (List ℕ)) → AreFull places cs → places ≤ length c → AreFull places (cs ++ c ∷ [])
full_more places [] c full le = (le, tt)
full_more places (first ∷ cs) c (this, others) le = (this, full_more places cs c others le)

-- what is there of an epoch after the host went on
shifted_seats : {O N : Type 0} {g : Ghosts O N} {h : Nodes N} (old new : Host O N g h) → Shifts old new → (e : ℕ) → seat_of new e ≡ slot (old.number + 1) (Some old.own) old.after new.after e
shifted_seats {O} {N} {g} {h} old new shifts e = λ i. slot (shifts.number i) (shifts.before i) (shifts.own i) new.after e

of_shifted : {O N : Type 0} {g : Ghosts O N} {h : Nodes N} (old new : Host O N g h) → Shifts old new → (P : ℕ → Seat N h → Type 0) → P old.number old.own → P (old.number + 1) old.after → P (old.number + 1 + 1) new.after
    → (e : ℕ) (seat : Seat N h) → seat_of new e ≡ Some seat → P e seat
of_shifted {O} {N} {g} {h} old new shifts P own after opened e seat at =
    slots_all P (old.number + 1) (Some old.own) old.after new.after after opened
    (λ f s is same. let below : f ≡ old.number = omega (arith, is) in
    subst (λ (x : Seat N h). P f x) (same_inside old.own s same) (subst (λ n. P n old.own) (sym below) own))
    e seat (sym (shifted_seats old new shifts e) ∙ at)

-- what holds of each node afterwards held of those that stayed
old_own_at : {O N : Type 0} {g : Ghosts O N} {h : Nodes N} (old new : Host O N g h) → Shifts old new → seat_of new old.number ≡ Some old.own
old_own_at {O} {N} {g} {h} old new shifts = shifted_seats old new shifts old.number ∙ slot_before (old.number + 1) (Some old.own) old.after new.after old.number refl

old_after_at : {O N : Type 0} {g : Ghosts O N} {h : Nodes N} (old new : Host O N g h) → Shifts old new → seat_of new (old.number + 1) ≡ Some old.after
old_after_at {O} {N} {g} {h} old new shifts = shifted_seats old new shifts (old.number + 1) ∙ slot_own (old.number + 1) (Some old.own) old.after new.after

opened_at : {O N : Type 0} {g : Ghosts O N} {h : Nodes N} (old new : Host O N g h) → Shifts old new → seat_of new (old.number + 1 + 1) ≡ Some new.after
opened_at {O} {N} {g} {h} old new shifts = shifted_seats old new shifts (old.number + 1 + 1) ∙ slot_after (old.number + 1) (Some old.own) old.after new.after

shift_trust : {O N : Type 0} {g : Ghosts O N} {h : Nodes N} (old new : Host O N g h) → Shifts old new → KeepsTrust old new
shift_trust {O} {N} {g} {h} old new shifts = record {
  honest = λ t f seat low at. slots_all (λ e x. new.number ≤ e + 1 → IsSeatHonest x) old.number old.before old.own old.after
      (λ is. t old.number old.own (old_own_at old new shifts)) (λ is. t (old.number + 1) old.after (old_after_at old new shifts))
      (λ e x below there is. absurd (omega (arith, below, is, shifts.number))) f seat at low;
  clean = λ t f seat low at. slots_all (λ e x. new.number ≤ e + 1 → IsSeatClean x) old.number old.before old.own old.after
      (λ is. t old.number old.own (old_own_at old new shifts)) (λ is. t (old.number + 1) old.after (old_after_at old new shifts))
      (λ e x below there is. absurd (omega (arith, below, is, shifts.number))) f seat at low;
  sure = λ c t. of_shifted old new shifts (λ f x. IsSeatHonest x) (t old.number old.own (slot_own old.number old.before old.own old.after))
      (t (old.number + 1) old.after (slot_after old.number old.before old.own old.after)) (shifts.opened.sure (c (old.number + 1 + 1) new.after (opened_at old new shifts)));
}

shift_same : {O N : Type 0} {g : Ghosts O N} {h : Nodes N} (old new : Host O N g h) → Shifts old new → SameHost old new
shift_same old new shifts = record { member = shifts.keeps.member; places = shifts.places; begins = shifts.keeps.begins }

shift_kept : {O N : Type 0} {g : Ghosts O N} {h : Nodes N} (old new : Host O N g h) → Shifts old new → HaveKept old → HaveKept new
shift_kept {O} {N} {g} {h} old new shifts kept =
    of_shifted old new shifts (λ f seat. g.has_kept (node_of seat)) (kept old.number old.own (slot_own old.number old.before old.own old.after))
    (kept (old.number + 1) old.after (slot_after old.number old.before old.own old.after)) shifts.opened.kept

shift_members : {O N : Type 0} {g : Ghosts O N} {h : Nodes N} (old new : Host O N g h) → Shifts old new → AreMembers old → AreMembers new
shift_members {O} {N} {g} {h} old new shifts members =
    let same : member_of old ≡ member_of new = sym shifts.keeps.member in
    let opened : member_of_seat new.after ≡ member_of old = λ i. (shifts.opened.opened.id i, shifts.opened.opened.members i) in
    of_shifted old new shifts (λ f seat. member_of_seat seat ≡ member_of new) (members old.number old.own (slot_own old.number old.before old.own old.after) ∙ same)
    (members (old.number + 1) old.after (slot_after old.number old.before old.own old.after) ∙ same) (opened ∙ same)

-- no values more
pub nothing_more : (places : ℕ) (vs : List (List ℕ)) → vs ++ take places [] ≡ vs
nothing_more places vs = ap (λ (xs : List (List ℕ)). vs ++ xs) (none_of places) ∙ append-nil vs
  where
    none_of : (n : ℕ) → take {A = List ℕ} n [] ≡ []
    none_of n = take-nil n

-- of each epoch but one the node stands as before
pub elsewhere : (v : HostView) (e : ℕ) (t : Standing) (f : ℕ) → f ≢ e → (with_node v e t).nodes f ≡ v.nodes f
elsewhere v e t f differ = ap (λ b. cond b t (v.nodes f)) (eqb_no f e differ)

pub there : (v : HostView) (e : ℕ) (t : Standing) (f : ℕ) → f ≡ e → (with_node v e t).nodes f ≡ t
there v e t f same = ap (λ b. cond b t (v.nodes f)) (eq-eqb f e same)

shift_nodes : {O N : Type 0} {g : Ghosts O N} {h : Nodes N} (old new : Host O N g h) → Shifts old new → (v : HostView) → StandsAs old v → (t : Standing) → Stands new.after t
    → (e : ℕ) (seat : Seat N h) → seat_of new e ≡ Some seat → Stands seat ((with_node (shifted v) (number v + 2) t).nodes e)
shift_nodes {O} {N} {g} {h} old new shifts v stands t last =
    let view : HostView = with_node (shifted v) (number v + 2) t in
    of_shifted old new shifts (λ f seat. Stands seat (view.nodes f))
    (subst (λ (s : Standing). Stands old.own s) (sym (elsewhere (shifted v) (number v + 2) t old.number (λ is. omega (arith, is, stands.epoch))))
    (stands.nodes old.number old.own (slot_own old.number old.before old.own old.after)))
    (subst (λ (s : Standing). Stands old.after s) (sym (elsewhere (shifted v) (number v + 2) t (old.number + 1) (λ is. omega (arith, is, stands.epoch))))
    (stands.nodes (old.number + 1) old.after (slot_after old.number old.before old.own old.after)))
    (subst (λ (s : Standing). Stands new.after s) (sym (there (shifted v) (number v + 2) t (old.number + 1 + 1) (omega (arith, stands.epoch)))) last)

shift_stands : {O N : Type 0} {g : Ghosts O N} {h : Nodes N} → ValuesGoOn → (old new : Host O N g h) → CanGoOn old → Shifts old new → (v : HostView) → StandsAs old v → (t : Standing) → Stands new.after t
    → StandsAs new (with_node (shifted v) (number v + 2) t)
shift_stands {O} {N} {g} {h} on old new can shifts v stands t last =
    let next : number (shifted v) ≡ number v + 1 = ap (λ n. n + 1) (length-append v.passed (v.own ∷ [])) in
    let whole : old.places ≤ length v.own = omega (arith, can.taken, stands.taken) in
    let full : AreFull old.places (v.passed ++ v.own ∷ []) = full_more old.places v.passed v.own stands.full whole in
    record {
      epoch = shifts.number ∙ ap (λ n. n + 1) stands.epoch ∙ sym next;
      taken = shifts.taken;
      cursor = shifts.cursor ∙ stands.cursor;
      full = subst (λ p. AreFull p (v.passed ++ v.own ∷ [])) (sym shifts.places) full;
      scheduler = shifts.scheduler ∙ stands.scheduler
          ∙ ap (λ (vs : List (List ℕ)). scheduled vs v.cursor) (sym (on old.places (v.passed ++ v.own ∷ []) [] full ∙ nothing_more old.places (values old.places v)))
          ∙ ap (λ p. scheduled (values p (shifted v)) v.cursor) (sym shifts.places);
      nodes = shift_nodes old new shifts v stands t last;
      some = stands.some;
      since = omega (arith, stands.since, next);
      before = ap (λ (x : Option (Seat N h)). is_some x) shifts.before ∙ sym (lt-ltb v.first (number (shifted v)) (omega (arith, stands.since, next)));
      states = same_states old.places new.places (v.passed ++ v.own ∷ []) [] (gone_on old.states) new.states shifts.places shifts.states.0
          (gone_states old.places v.passed v.own old.states shifts.states.1 stands.states);
    }

-- the host goes on, or stays
pub goes_trust : {O N : Type 0} {g : Ghosts O N} {h : Nodes N} (old new : Host O N g h) → GoesOn old new → KeepsTrust old new
goes_trust {O} {N} {g} {h} old new (inl went) = shift_trust old new went.1
goes_trust {O} {N} {g} {h} old new (inr stays) = subst (λ (x : Host O N g h). KeepsTrust old x) (sym stays.1) (record { honest = λ t e seat low. t e seat; clean = λ t e seat low. t e seat; sure = λ c t. t })

pub goes_same : {O N : Type 0} {g : Ghosts O N} {h : Nodes N} (old new : Host O N g h) → GoesOn old new → SameHost old new
goes_same old new (inl went) = shift_same old new went.1
goes_same {O} {N} {g} {h} old new (inr stays) = subst (λ (x : Host O N g h). SameHost old x) (sym stays.1) (record { member = refl; places = refl; begins = λ e c b. b })

pub goes_members : {O N : Type 0} {g : Ghosts O N} {h : Nodes N} (old new : Host O N g h) → GoesOn old new → AreMembers old → AreMembers new
goes_members old new (inl went) members = shift_members old new went.1 members
goes_members {O} {N} {g} {h} old new (inr stays) members = subst (λ (x : Host O N g h). AreMembers x) (sym stays.1) members

pub goes_kept : {O N : Type 0} {g : Ghosts O N} {h : Nodes N} (old new : Host O N g h) → GoesOn old new → HaveKept old → HaveKept new
goes_kept old new (inl went) kept = shift_kept old new went.1 kept
goes_kept {O} {N} {g} {h} old new (inr stays) kept = subst (λ (x : Host O N g h). HaveKept x) (sym stays.1) kept

goes_stands : {O N : Type 0} {g : Ghosts O N} {h : Nodes N} → ValuesGoOn → (old new : Host O N g h) → GoesOn old new → IsHonest new → (v : HostView) → StandsAs old v
    → (w : HostView) × GoesFrom (begins_of old) (places_of old) v w × StandsAs new w
goes_stands {O} {N} {g} {h} on old new (inl went) honest v stands =
    let opened = opened_stands g old.opens (old.number + 2) new.after went.1.opened (honest (old.number + 1 + 1) new.after (opened_at old new went.1)) in
    let t : Standing = Running (started opened.0) in
    let begins : g.begins old.opens (number v + 2) opened.0 = subst (λ n. g.begins old.opens (n + 2) opened.0) stands.epoch opened.1 in (
      with_node (shifted v) (number v + 2) t,
      inl (passed_is old v stands went.0, (opened.0, begins, refl)),
      shift_stands on old new went.0 went.1 v stands t opened.2,
    )
goes_stands {O} {N} {g} {h} on old new (inr stays) honest v stands =
    (v, inr (not_passed old v stands stays.0, refl), subst (λ (x : Host O N g h). StandsAs x v) (sym stays.1) stands)

-- the next epoch's node couldn't be opened
pub stays_seats : {O N : Type 0} {g : Ghosts O N} {h : Nodes N} (old new : Host O N g h) → Stays old new → (e : ℕ) → seat_of new e ≡ seat_of old e
stays_seats {O} {N} {g} {h} old new stays e = λ i. slot (stays.number i) (stays.before i) (stays.own i) (stays.after i) e

pub stays_trust : {O N : Type 0} {g : Ghosts O N} {h : Nodes N} (old new : Host O N g h) → Stays old new → KeepsTrust old new
stays_trust {O} {N} {g} {h} old new stays = record {
  honest = λ t e seat low at. t e seat (stays_seats old new stays e ∙ at);
  clean = λ t e seat low at. t e seat (stays_seats old new stays e ∙ at);
  sure = λ c t e seat at. t e seat (sym (stays_seats old new stays e) ∙ at);
}

pub stays_same : {O N : Type 0} {g : Ghosts O N} {h : Nodes N} (old new : Host O N g h) → Stays old new → SameHost old new
stays_same old new stays = record { member = stays.keeps.member; places = stays.places; begins = stays.keeps.begins }

pub stays_kept : {O N : Type 0} {g : Ghosts O N} {h : Nodes N} (old new : Host O N g h) → Stays old new → HaveKept old → HaveKept new
stays_kept {O} {N} {g} {h} old new stays kept e seat at = kept e seat (sym (stays_seats old new stays e) ∙ at)

pub stays_members : {O N : Type 0} {g : Ghosts O N} {h : Nodes N} (old new : Host O N g h) → Stays old new → AreMembers old → AreMembers new
stays_members {O} {N} {g} {h} old new stays members e seat at = members e seat (sym (stays_seats old new stays e) ∙ at) ∙ sym stays.keeps.member

pub stays_stands : {O N : Type 0} {g : Ghosts O N} {h : Nodes N} (old new : Host O N g h) → Stays old new → (v : HostView) → StandsAs old v → StandsAs new v
stays_stands {O} {N} {g} {h} old new stays v stands = record {
  epoch = stays.number ∙ stands.epoch;
  taken = stays.taken ∙ stands.taken;
  cursor = stays.cursor ∙ stands.cursor;
  full = subst (λ p. AreFull p v.passed) (sym stays.places) stands.full;
  scheduler = stays.scheduler ∙ stands.scheduler ∙ ap (λ p. scheduled (values p v) v.cursor) (sym stays.places);
  nodes = λ e seat at. stands.nodes e seat (sym (stays_seats old new stays e) ∙ at);
  some = stands.some;
  since = stands.since;
  before = ap (λ (x : Option (Seat N h)). is_some x) stays.before ∙ stands.before;
  states = same_states old.places new.places v.passed v.own old.states new.states stays.places stays.states stands.states;
}

-- a step behind which the nodes stay keeps what the one before it keeps
pub then_trust : {O N : Type 0} {g : Ghosts O N} {h : Nodes N} (old mid new : Host O N g h) → KeepsTrust old mid → KeepsNodes mid new → KeepsTrust old new
then_trust {O} {N} {g} {h} old mid new first keeps = record {
  honest = λ t e seat low. first.honest (keeps_honest mid new keeps t) e seat (subst (λ n. n ≤ e + 1) keeps.number low);
  clean = λ t e seat low. first.clean (keeps_clean mid new keeps t) e seat (subst (λ n. n ≤ e + 1) keeps.number low);
  sure = λ c t. (keeps_trust mid new keeps).sure c (first.sure (keeps_clean mid new keeps c) t);
}

pub then_same : {O N : Type 0} {g : Ghosts O N} {h : Nodes N} (old mid new : Host O N g h) → SameHost old mid → SameHost mid new → SameHost old new
then_same old mid new first then =
    record { member = then.member ∙ first.member; places = then.places ∙ first.places; begins = λ e c b. first.begins e c (then.begins e c b) }

-- where its epoch is another one it went on, and kept the state at the start of that
same_next : (s : StatesView) (places : ℕ) (known : List (List (List ℕ))) (next : Option (List ℕ)) (bytes : List ℕ) → next ≡ Some bytes → IsNextState s places known next → IsStateOf s.id s.members places known bytes
same_next s places known None bytes is state = absurd (cc (is))
same_next s places known (Some found) bytes is state = subst (λ (b : List ℕ). IsStateOf s.id s.members places known b) (same_inside found bytes is) state

shift_stores : {O N : Type 0} {g : Ghosts O N} {h : Nodes N} (old new : Host O N g h) → Shifts old new → StoresNext old new
shift_stores {O} {N} {g} {h} old new shifts =
    let state = shifts.state in (
      state.0,
      state.2,
      λ v stands. subst (λ m. IsStateOf m.0 m.1 old.places (v.passed ++ v.own ∷ []) state.0) (sym old.who)
          (same_next old.states old.places (v.passed ++ v.own ∷ []) old.states.next state.0 state.1 stands.states.next_state),
    )

pub goes_stores : {O N : Type 0} {g : Ghosts O N} {h : Nodes N} (old new : Host O N g h) → GoesOn old new → new.number ≢ old.number → StoresNext old new
goes_stores old new (inl went) other = shift_stores old new went.1
goes_stores {O} {N} {g} {h} old new (inr stays) other = absurd (other (ap (λ (x : Host O N g h). x.number) stays.1))

pub then_stores : {O N : Type 0} {g : Ghosts O N} {h : Nodes N} (old mid new : Host O N g h) → KeepsNodes mid new → (mid.number ≢ old.number → StoresNext old mid) → new.number ≢ old.number → StoresNext old new
then_stores {O} {N} {g} {h} old mid new keeps first other =
    let stored = first (λ same. other (keeps.number ∙ same)) in
    (stored.0, subst (λ (o : O). KeepsState g.opens_node g.keeps_state g.lets_go ((old.number + 2) ∷ []) (old.number + 1) stored.0 old.opens o) (sym keeps.opens) stored.1, stored.2)

-- what each end of a release comes to
pub fails_to_open : {O N : Type 0} {g : Ghosts O N} {h : Nodes N} (old new : Host O N g h) (now : ℕ) (fault : NodeFault) → CanGoOn old → Stays old new → g.may_fail fault → (v : HostView) → StandsAs old v
    → (v' : HostView) × Releases (begins_of old) g.may_fail (places_of old) v now (Failed fault) v' × StandsAs new v'
fails_to_open old new now fault can stays may v stands = (v, inl (passed_is old v stands can, may, refl), stays_stands old new stays v stands)

pub lacks_memory : {O N : Type 0} {g : Ghosts O N} {h : Nodes N} → AppliesNext → ValuesGoOn → (old mid new : Host O N g h) (now : ℕ) → GoesOn old mid → TakesOwn mid new → IsHonest new → (v : HostView) → StandsAs old v
    → (v' : HostView) × Releases (begins_of old) g.may_fail (places_of old) v now (Failed OutOfMemory) v' × StandsAs new v'
lacks_memory next on old mid new now goes takes honest v stands =
    let went = goes_stands on old mid goes (keeps_honest mid new takes.nodes honest) v stands in
    let w : HostView = went.0 in
    let same : places_of mid ≡ places_of old = (goes_same old mid goes).places in (
      with_more w takes.takes.more,
      inr (w, went.1, (takes.takes.more, subst (λ p. TakesUp p w takes.takes.more) same (takes_up mid new takes w went.2), refl, refl)),
      takes_stands next on mid new takes w went.2,
    )

-- what is given doesn't depend on the nodes
pub gives_all : {O N : Type 0} {g : Ghosts O N} {h : Nodes N} → AppliesNext → HandsOutRest → ValuesGoOn → (old mid last new : Host O N g h) (now : ℕ) (given : Given) → GoesOn old mid → (takes : TakesOwn mid last) → IsAllOf mid.own mid.places last.taken
    → GivesOut last now given new → IsHonest new → (v : HostView) → StandsAs old v → (v' : HostView) × Releases (begins_of old) g.may_fail (places_of old) v now given v' × StandsAs new v'
gives_all next rest on old mid last new now (Outputs outputs epoch place) goes takes all gives honest v stands =
    let more : List (List ℕ) = takes.takes.more in
    let honest_last : IsHonest last = keeps_honest last new gives.nodes honest in
    let went = goes_stands on old mid goes (keeps_honest mid last takes.nodes honest_last) v stands in
    let w : HostView = went.0 in
    let took : StandsAs last (with_more w more) = takes_stands next on mid last takes w went.2 in
    let same : places_of mid ≡ places_of old = (goes_same old mid goes).places in
    let same_last : places_of last ≡ places_of old = takes.nodes.places ∙ same in (
      all_given (places_of old) (with_more w more),
      (
        w,
        went.1,
        (
          more,
          subst (λ p. TakesUp p w more) same (takes_up mid last takes w went.2),
          subst (λ p. IsAll p (with_more w more)) same (takes_all mid last takes w went.2 all),
          subst (λ p. Gives p (with_more w more) now (Outputs outputs epoch place)) same_last (gives_as last now (Outputs outputs epoch place) (with_more w more) took gives.says),
          refl,
        ),
      ),
      subst (λ p. StandsAs new (all_given p (with_more w more))) same_last (gives_stands rest last now (Outputs outputs epoch place) new gives (with_more w more) took),
    )
gives_all next rest on old mid last new now (Failed fault) goes takes all gives honest v stands = absurd gives.says

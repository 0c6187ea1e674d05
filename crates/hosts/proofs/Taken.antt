-- A host that takes up and gives, as it stands.
use Rattle.std.proofs.Common.{◌≡◌, ◌∙◌, ℕ, ◌+◌, ◌≤◌, List, [], ◌∷◌, ◌++◌, length, Option, Some, None, sym, ap, subst}
use Rattle.std.proofs.Common.{inl, inr}
use Rattle.std.proofs.Common.{arith, append_assoc, length-append, fold}
use Rattle.std.specs.declared.alloc.Global.{Global}
use Rattle.std.specs.Prelude.{Contains, Err, IfOk, IsTrue, Ok, Result, Vec, filter, is_some, not}
use Rattle.flow_state.specs.Rows.{Rows}
use Rattle.grant_machine.specs.declared.output.Output.{Output}
use Rattle.command_log.specs.Values.{outputs_of_values}
use Rattle.epochs.specs.Again.{again_of}
use Rattle.std.proofs.lemmas.List.{append-nil, take_all}
use Rattle.map_release.specs.Released.{has_ended}
use Rattle.seats.specs.Occupant.{Stands}
use Rattle.seats.specs.declared.seat.Seat.{Seat}
use Rattle.epochs.specs.Epochs.{AreFull, ValuesGoOn, values_of}
use Rattle.epochs.specs.Scheduling.{AppliesNext, HandsOutRest, SchedulerView, applied_to, scheduled}
use Rattle.epochs.specs.Scheduling.{tables_after}
use Rattle.hosts.specs.Hosts.{AreMembers, IsClean, IsHonest, KeepsTrust, SameHost, StandsAs, places_of, seat_of}
use Rattle.hosts.specs.Keeping.{HaveKept}
use Rattle.hosts.specs.Shifting.{GivesOut, KeepsNodes, KeepsStates, SaysNext, TakesOwn}
use Rattle.hosts.specs.Slots.{slot}
use Rattle.hosts.specs.States.{AreStates, StatesView}
use Rattle.hosts.specs.Taking.{IsAllOf}
use Rattle.hosts.specs.Views.{Gives, HostView, IsAll, TakesUp, TellsAgain, all_given, learned_at, number, values}
use Rattle.hosts.specs.Views.{with_more}
use Rattle.hosts.specs.declared.acted.Given.{Given}
use Rattle.hosts.specs.declared.acted.Given.TheVariants.{Outputs, Failed}
use Rattle.hosts.specs.declared.host.Host.{Host}
use Rattle.hosts.specs.declared.opens.Opens.{Ghosts}
use Rattle.node.specs.declared.node.Node.{Ghosts as Nodes}
use Rattle.hosts.proofs.Openings.{keeps_same as same_opens}
use Rattle.hosts.proofs.KeptStates.{made_state, more_states, next_states, same_states}
use Rattle.hosts.proofs.SlotLemmas.{slot_own}

-- where the nodes stay, what is there of an epoch stays
pub same_seats : {O N : Type 0} {g : Ghosts O N} {h : Nodes N} (old new : Host O N g h) → KeepsNodes old new → (e : ℕ) → seat_of new e ≡ seat_of old e
same_seats {O} {N} {g} {h} old new keeps e = λ i. slot (keeps.number i) (keeps.before i) (keeps.own i) (keeps.after i) e

pub keeps_trust : {O N : Type 0} {g : Ghosts O N} {h : Nodes N} (old new : Host O N g h) → KeepsNodes old new → KeepsTrust old new
keeps_trust {O} {N} {g} {h} old new keeps = record {
  honest = λ t e seat low at. t e seat (same_seats old new keeps e ∙ at);
  clean = λ t e seat low at. t e seat (same_seats old new keeps e ∙ at);
  sure = λ c t e seat at. t e seat (sym (same_seats old new keeps e) ∙ at);
}

-- and it stays honest both ways
pub keeps_honest : {O N : Type 0} {g : Ghosts O N} {h : Nodes N} (old new : Host O N g h) → KeepsNodes old new → IsHonest new → IsHonest old
keeps_honest {O} {N} {g} {h} old new keeps honest e seat at = honest e seat (same_seats old new keeps e ∙ at)

pub keeps_clean : {O N : Type 0} {g : Ghosts O N} {h : Nodes N} (old new : Host O N g h) → KeepsNodes old new → IsClean new → IsClean old
keeps_clean {O} {N} {g} {h} old new keeps clean e seat at = clean e seat (same_seats old new keeps e ∙ at)

pub keeps_members : {O N : Type 0} {g : Ghosts O N} {h : Nodes N} (old new : Host O N g h) → KeepsNodes old new → AreMembers old → AreMembers new
keeps_members {O} {N} {g} {h} old new keeps members e seat at = members e seat (sym (same_seats old new keeps e) ∙ at) ∙ ap g.member (sym keeps.opens)

pub keeps_same : {O N : Type 0} {g : Ghosts O N} {h : Nodes N} (old new : Host O N g h) → KeepsNodes old new → SameHost old new
keeps_same {O} {N} {g} {h} old new keeps =
    let begins = same_opens g old.opens new.opens keeps.opens in
    record { member = begins.member; places = keeps.places; begins = begins.begins }

pub keeps_kept : {O N : Type 0} {g : Ghosts O N} {h : Nodes N} (old new : Host O N g h) → KeepsNodes old new → HaveKept old → HaveKept new
keeps_kept {O} {N} {g} {h} old new keeps kept e seat at = kept e seat (sym (same_seats old new keeps e) ∙ at)

-- values that are applied one after another are all applied
applied_all : AppliesNext → (front more : List (List ℕ)) (cursor : ℕ) → cursor ≤ length front → fold applied_to (scheduled front cursor) more ≡ scheduled (front ++ more) cursor
applied_all next front [] cursor le = ap (λ (vs : List (List ℕ)). scheduled vs cursor) (sym (append-nil front))
applied_all next front (x ∷ more) cursor le =
    let le_more : cursor ≤ length (front ++ x ∷ []) = omega (arith, le, length-append front (x ∷ [])) in
    ap (λ (s : SchedulerView). fold applied_to s more) (next front x cursor le)
    ∙ applied_all next (front ++ x ∷ []) more cursor le_more
    ∙ ap (λ (vs : List (List ℕ)). scheduled vs cursor) (append_assoc front (x ∷ []) more)

-- values of the own epoch that fit follow those that were there
more_values : ValuesGoOn → (places : ℕ) (passed : List (List (List ℕ))) (own more : List (List ℕ)) → AreFull places passed → length own + length more ≤ places
    → values_of places (passed ++ (own ++ more) ∷ []) ≡ values_of places (passed ++ own ∷ []) ++ more
more_values on places passed own more full fits =
    let front : List (List ℕ) = values_of places passed in
    let all : length (own ++ more) ≤ places = omega (arith, fits, length-append own more) in
    let some : length own ≤ places = omega (arith, fits) in
    on places passed (own ++ more) full
    ∙ ap (λ (vs : List (List ℕ)). front ++ vs) (take_all places (own ++ more) all)
    ∙ sym (append_assoc front own more)
    ∙ ap (λ (vs : List (List ℕ)). vs ++ more) (sym (on places passed own full ∙ ap (λ (vs : List (List ℕ)). front ++ vs) (take_all places own some)))

-- how many values are applied
pub applied_is : {O N : Type 0} {g : Ghosts O N} {h : Nodes N} (host : Host O N g h) (v : HostView) → StandsAs host v → host.scheduler.applied ≡ length (values host.places v)
applied_is host v stands = ap (λ (s : SchedulerView). s.applied) stands.scheduler

cursor_within : {O N : Type 0} {g : Ghosts O N} {h : Nodes N} (host : Host O N g h) (v : HostView) → StandsAs host v → v.cursor ≤ length (values host.places v)
cursor_within host v stands = omega (arith, host.given, stands.cursor, applied_is host v stands)

own_stands : {O N : Type 0} {g : Ghosts O N} {h : Nodes N} (host : Host O N g h) (v : HostView) → StandsAs host v → Stands host.own (v.nodes (number v))
own_stands {O} {N} {g} {h} host v stands = subst (λ e. Stands host.own (v.nodes e)) stands.epoch (stands.nodes host.number host.own (slot_own host.number host.before host.own host.after))

fits_own : {O N : Type 0} {g : Ghosts O N} {h : Nodes N} (old new : Host O N g h) (takes : TakesOwn old new) (v : HostView) → StandsAs old v → length v.own + length takes.takes.more ≤ old.places
fits_own old new takes v stands = omega (arith, takes.takes.fits, takes.takes.taken, stands.taken)

pub takes_up : {O N : Type 0} {g : Ghosts O N} {h : Nodes N} (old new : Host O N g h) (takes : TakesOwn old new) (v : HostView) → StandsAs old v → TakesUp (places_of old) v takes.takes.more
takes_up old new takes v stands = record {
  learned = λ i x at.
      subst (λ n. learned_at (v.nodes (number v)) (n + i + 1) ≡ Some x) stands.taken (takes.takes.learned i x at (v.nodes (number v)) (own_stands old v stands));
  fits = fits_own old new takes v stands;
}

-- the tables and counts of a host with more values
took_scheduler : {O N : Type 0} {g : Ghosts O N} {h : Nodes N} → AppliesNext → ValuesGoOn → (old new : Host O N g h) (takes : TakesOwn old new) (v : HostView) → StandsAs old v
    → new.scheduler ≡ scheduled (values old.places (with_more v takes.takes.more)) v.cursor
took_scheduler next on old new takes v stands =
    let more : List (List ℕ) = takes.takes.more in
    takes.takes.scheduler ∙ ap (λ (s : SchedulerView). fold applied_to s more) stands.scheduler
    ∙ applied_all next (values old.places v) more v.cursor (cursor_within old v stands)
    ∙ ap (λ (vs : List (List ℕ)). scheduled vs v.cursor) (sym (more_values on old.places v.passed v.own more stands.full (fits_own old new takes v stands)))

took_states : {O N : Type 0} {g : Ghosts O N} {h : Nodes N} → AppliesNext → ValuesGoOn → (old new : Host O N g h) (takes : TakesOwn old new) (v : HostView) → StandsAs old v
    → AreStates old.places v.passed (v.own ++ takes.takes.more) new.states
took_states {O} {N} {g} {h} next on old new takes v stands = by takes.states
  where
    none : IsTrue (is_some old.states.next) → length takes.takes.more ≤ 0
    none some = omega (arith, takes.takes.taken, takes.takes.fits, old.full some)

    epoch : old.number + 1 ≡ length (v.passed ++ (v.own ++ takes.takes.more) ∷ []) + 1
    epoch = omega (arith, stands.epoch, length-append v.passed ((v.own ++ takes.takes.more) ∷ []))

    by : KeepsStates old new → AreStates old.places v.passed (v.own ++ takes.takes.more) new.states
    by (inl same) = subst (λ (s : StatesView). AreStates old.places v.passed (v.own ++ takes.takes.more) s) (sym same) (more_states old.places v.passed v.own takes.takes.more old.states none stands.states)
    by (inr made) =
        let is = took_scheduler next on old new takes v stands in
        let state = made_state old.states (old.number + 1) old.places new.scheduler.applied new.scheduler.rows made.0 (v.passed ++ (v.own ++ takes.takes.more) ∷ []) epoch
        (ap (λ (s : SchedulerView). s.applied) is) (ap (λ (s : SchedulerView). s.rows) is) made.1 in
        subst (λ (s : StatesView). AreStates old.places v.passed (v.own ++ takes.takes.more) s) (sym made.2)
        (next_states old.places v.passed (v.own ++ takes.takes.more) old.states made.0 stands.states.own_state state)

pub takes_stands : {O N : Type 0} {g : Ghosts O N} {h : Nodes N} → AppliesNext → ValuesGoOn → (old new : Host O N g h) (takes : TakesOwn old new) (v : HostView) → StandsAs old v → StandsAs new (with_more v takes.takes.more)
takes_stands {O} {N} {g} {h} next on old new takes v stands =
    let more : List (List ℕ) = takes.takes.more in
    let keeps : KeepsNodes old new = takes.nodes in
    record {
      epoch = keeps.number ∙ stands.epoch;
      taken = takes.takes.taken ∙ ap (λ n. n + length more) stands.taken ∙ sym (length-append v.own more);
      cursor = takes.cursor ∙ stands.cursor;
      full = subst (λ p. AreFull p v.passed) (sym keeps.places) stands.full;
      scheduler = took_scheduler next on old new takes v stands ∙ ap (λ p. scheduled (values p (with_more v more)) v.cursor) (sym keeps.places);
      nodes = λ e seat at. stands.nodes e seat (sym (same_seats old new keeps e) ∙ at);
      some = stands.some;
      since = stands.since;
      before = ap (λ (x : Option (Seat N h)). is_some x) keeps.before ∙ stands.before;
      states = subst (λ p. AreStates p v.passed (v.own ++ more) new.states) (sym keeps.places) (took_states next on old new takes v stands);
    }

pub takes_all : {O N : Type 0} {g : Ghosts O N} {h : Nodes N} (old new : Host O N g h) (takes : TakesOwn old new) (v : HostView) → StandsAs old v → IsAllOf old.own old.places new.taken → IsAll (places_of old) (with_more v takes.takes.more)
takes_all {O} {N} {g} {h} old new takes v stands all =
    let more : List (List ℕ) = takes.takes.more in
    let is : new.taken ≡ length (v.own ++ more) = takes.takes.taken ∙ ap (λ n. n + length more) stands.taken ∙ sym (length-append v.own more) in
    elim all [
      | inl full ↦ inl (sym is ∙ full)
      | inr none ↦ inr (subst (λ n. learned_at (v.nodes (number v)) (n + 1) ≡ None) is (none (v.nodes (number v)) (own_stands old v stands)))
    ]

-- it gives what is behind its cursor
pub gives_as : {O N : Type 0} {g : Ghosts O N} {h : Nodes N} (old : Host O N g h) (now : ℕ) (given : Given) (v : HostView) → StandsAs old v → SaysNext old now given → Gives (places_of old) v now given
gives_as old now (Outputs outputs epoch place) v stands (are, number, next) =
    (are ∙ ap (λ (s : SchedulerView). filter (λ x. not (has_ended now x.output)) s.waiting) stands.scheduler, number ∙ stands.epoch, next ∙ ap (λ n. n + 1) stands.taken)
gives_as old now (Failed fault) v stands none = absurd none

pub gives_stands : {O N : Type 0} {g : Ghosts O N} {h : Nodes N} → HandsOutRest → (old : Host O N g h) (now : ℕ) (given : Given) (new : Host O N g h) → GivesOut old now given new → (v : HostView) → StandsAs old v → StandsAs new (all_given (places_of old) v)
gives_stands {O} {N} {g} {h} rest old now given new gives v stands =
    let keeps : KeepsNodes old new = gives.nodes in
    record {
      epoch = keeps.number ∙ stands.epoch;
      taken = gives.taken ∙ stands.taken;
      cursor = gives.cursor ∙ applied_is old v stands;
      full = subst (λ p. AreFull p v.passed) (sym keeps.places) stands.full;
      scheduler = gives.scheduler ∙ ap (λ (s : SchedulerView). record s { waiting = [] }) stands.scheduler ∙ rest (values old.places v) v.cursor
          ∙ ap (λ p. scheduled (values p v) (length (values old.places v))) (sym keeps.places);
      nodes = λ e seat at. stands.nodes e seat (sym (same_seats old new keeps e) ∙ at);
      some = stands.some;
      since = stands.since;
      before = ap (λ (x : Option (Seat N h)). is_some x) keeps.before ∙ stands.before;
      states = same_states old.places new.places v.passed v.own old.states new.states keeps.places gives.states stands.states;
    }

-- what it tells again
pub tells_again : {E : Type 0} (places : ℕ) (v : HostView) (r : Result (Vec Output Global) E) (rows : Rows) → rows ≡ tables_after (values places v) → IfOk r (λ outputs. outputs.items ≡ again_of rows)
    → IfOk r (λ outputs. (o : Output) → Contains outputs.items o → Contains (outputs_of_values (values places v)) o) → IfOk r (λ outputs. TellsAgain places v outputs.items)
tells_again places v (Ok outputs) rows is all told = record { all = all ∙ ap again_of is; told = told }
tells_again places v (Err e) rows is all told = tt

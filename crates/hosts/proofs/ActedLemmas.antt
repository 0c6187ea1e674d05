-- What a host's node does, as the host stands.
use Rattle.std.proofs.Common.{◌≡◌, ◌≢◌, ◌∙◌, ℕ, ◌+◌, ◌<◌, Bool, true, false, cond, eqb, Option, Some, refl, sym}
use Rattle.std.proofs.Common.{ap, subst, inl, inr, eqb-true, eq-eqb, arith}
use Rattle.std.specs.Prelude.{is_some}
use Rattle.node.specs.View.{Standing}
use Rattle.seats.specs.Acted.{letters_of, outputs_of, told}
use Rattle.seats.specs.Acts.{GoesTo}
use Rattle.seats.specs.Moves.{Ask}
use Rattle.seats.specs.Occupant.{IsClean as IsSeatClean, IsHonest as IsSeatHonest, Stands, member as member_of_seat}
use Rattle.seats.specs.declared.acted.Acted.{Acted}
use Rattle.seats.specs.declared.seat.Seat.{Seat}
use Rattle.epochs.specs.Epochs.{AreFull}
use Rattle.epochs.specs.Scheduling.{scheduled}
use Rattle.hosts.specs.Acting.{ActsIn, IsRefusedSo, NodeActs, SeatActs}
use Rattle.hosts.specs.Beyond.{is_beyond}
use Rattle.hosts.specs.Hosts.{AreMembers, IsHonest, KeepsTrust, SameHost, StandsAs, member_of, places_of, seat_of}
use Rattle.hosts.specs.Views.{HostView, IsNear, MovesIn, number, values, with_node}
use Rattle.hosts.specs.declared.acted.HostActed.{HostActed}
use Rattle.hosts.specs.declared.acted.HostActed.TheVariants.{Of, Ended, Ahead, Gone, OtherPlaces}
use Rattle.hosts.specs.declared.host.Host.{Host}
use Rattle.hosts.specs.declared.opens.Opens.{Ghosts}
use Rattle.node.specs.declared.node.Node.{Ghosts as Nodes}
use Rattle.hosts.proofs.KeptStates.{same_states}
use Rattle.hosts.proofs.Openings.{keeps_same}
use Rattle.hosts.proofs.Windows.{above_first, is_gone}
use Rattle.hosts.proofs.SlotLemmas.{eqb_no, same_inside, slot_cases}

-- what a node owes where it was asked within its epoch: it stays the member that it was
seat_member : {N : Type 0} {h : Nodes N} (places : ℕ) (old : Seat N h) (ask : Ask) (acted : HostActed) (new : Seat N h) → SeatActs places old ask acted new → member_of_seat new ≡ member_of_seat old
seat_member places old ask (Of acted) new (within, acts) = let same = acts.same in λ i. (same.0 i, same.1 i)
seat_member places old ask Ended new (beyond, same) = ap member_of_seat same
seat_member places old ask Ahead new none = absurd none
seat_member places old ask Gone new none = absurd none
seat_member places old ask OtherPlaces new none = absurd none

seat_honest : {N : Type 0} {h : Nodes N} (places : ℕ) (old : Seat N h) (ask : Ask) (acted : HostActed) (new : Seat N h) → SeatActs places old ask acted new → IsSeatHonest new → IsSeatHonest old
seat_honest places old ask (Of acted) new (within, acts) honest = acts.honesty honest
seat_honest {N} {h} places old ask Ended new (beyond, same) honest = subst (λ (x : Seat N h). IsSeatHonest x) same honest
seat_honest places old ask Ahead new none honest = absurd none
seat_honest places old ask Gone new none honest = absurd none
seat_honest places old ask OtherPlaces new none honest = absurd none

seat_clean : {N : Type 0} {h : Nodes N} (places : ℕ) (old : Seat N h) (ask : Ask) (acted : HostActed) (new : Seat N h) → SeatActs places old ask acted new → IsSeatClean new → IsSeatClean old
seat_clean places old ask (Of acted) new (within, acts) clean = acts.trust.clean clean
seat_clean {N} {h} places old ask Ended new (beyond, same) clean = subst (λ (x : Seat N h). IsSeatClean x) same clean
seat_clean places old ask Ahead new none clean = absurd none
seat_clean places old ask Gone new none clean = absurd none
seat_clean places old ask OtherPlaces new none clean = absurd none

seat_sure : {N : Type 0} {h : Nodes N} (places : ℕ) (old : Seat N h) (ask : Ask) (acted : HostActed) (new : Seat N h) → SeatActs places old ask acted new → IsSeatClean new → IsSeatHonest old → IsSeatHonest new
seat_sure places old ask (Of acted) new (within, acts) clean honest = acts.trust.sure clean honest
seat_sure {N} {h} places old ask Ended new (beyond, same) clean honest = subst (λ (x : Seat N h). IsSeatHonest x) (sym same) honest
seat_sure places old ask Ahead new none clean honest = absurd none
seat_sure places old ask Gone new none clean honest = absurd none
seat_sure places old ask OtherPlaces new none clean honest = absurd none

-- what was so of each node is so of each now, if it goes over the one that was asked
over_nodes : {O N : Type 0} {g : Ghosts O N} {h : Nodes N} (old new : Host O N g h) (e : ℕ) (ask : Ask) (acted : HostActed) (P : ℕ → Seat N h → Type 0) (Q : ℕ → Seat N h → Type 0) (acts : NodeActs old e ask acted new)
    → (P e acts.before → Q e acts.after) → ((f : ℕ) (seat : Seat N h) → f ≢ e → P f seat → Q f seat)
    → ((f : ℕ) (seat : Seat N h) → seat_of old f ≡ Some seat → P f seat) → (f : ℕ) (seat : Seat N h) → seat_of new f ≡ Some seat → Q f seat
over_nodes {O} {N} {g} {h} old new e ask acted P Q acts here there each f seat at = by (eqb f e) refl
  where
    by : (b : Bool) → eqb f e ≡ b → Q f seat
    by true is =
        let same : f ≡ e = eqb-true f e is in
        let after : acts.after ≡ seat = same_inside acts.after seat (sym acts.is ∙ ap (λ x. seat_of new x) (sym same) ∙ at) in
        subst (λ (x : Seat N h). Q f x) after (subst (λ x. Q x acts.after) (sym same) (here (each e acts.before acts.was)))
    by false is =
        let differ : f ≢ e = λ same. (let yes : eqb f e ≡ true = eq-eqb f e same in let wrong : true ≡ false = sym yes ∙ is in cc (wrong)) in
        there f seat differ (each f seat (sym (acts.others f differ) ∙ at))

-- and the other way
back_over : {O N : Type 0} {g : Ghosts O N} {h : Nodes N} (old new : Host O N g h) (e : ℕ) (ask : Ask) (acted : HostActed) (P : Seat N h → Type 0) (acts : NodeActs old e ask acted new)
    → (P acts.after → P acts.before) → ((f : ℕ) (seat : Seat N h) → seat_of new f ≡ Some seat → P seat) → (f : ℕ) (seat : Seat N h) → seat_of old f ≡ Some seat → P seat
back_over {O} {N} {g} {h} old new e ask acted P acts here each f seat at = by (eqb f e) refl
  where
    by : (b : Bool) → eqb f e ≡ b → P seat
    by true is =
        let same : f ≡ e = eqb-true f e is in
        let before : acts.before ≡ seat = same_inside acts.before seat (sym acts.was ∙ ap (λ x. seat_of old x) (sym same) ∙ at) in
        subst P before (here (each e acts.after acts.is))
    by false is =
        let differ : f ≢ e = λ same. (let yes : eqb f e ≡ true = eq-eqb f e same in let wrong : true ≡ false = sym yes ∙ is in cc (wrong)) in
        each f seat (acts.others f differ ∙ at)

node_trust : {O N : Type 0} {g : Ghosts O N} {h : Nodes N} (old new : Host O N g h) (e : ℕ) (ask : Ask) (acted : HostActed) → NodeActs old e ask acted new → KeepsTrust old new
node_trust {O} {N} {g} {h} old new e ask acted acts = record {
  honest = λ t f seat low. back_over old new e ask acted (λ x. IsSeatHonest x) acts (seat_honest (places_of old) acts.before ask acted acts.after acts.acts) t f seat;
  clean = λ t f seat low. back_over old new e ask acted (λ x. IsSeatClean x) acts (seat_clean (places_of old) acts.before ask acted acts.after acts.acts) t f seat;
  sure = λ c t. over_nodes old new e ask acted (λ f x. IsSeatHonest x) (λ f x. IsSeatHonest x) acts
      (seat_sure (places_of old) acts.before ask acted acts.after acts.acts (c e acts.after acts.is)) (λ f x differ honest. honest) t;
}

node_members : {O N : Type 0} {g : Ghosts O N} {h : Nodes N} (old new : Host O N g h) (e : ℕ) (ask : Ask) (acted : HostActed) → NodeActs old e ask acted new → AreMembers old → AreMembers new
node_members {O} {N} {g} {h} old new e ask acted acts members =
    let same : member_of new ≡ member_of old = ap g.member acts.rest.opens in
    over_nodes old new e ask acted (λ f seat. member_of_seat seat ≡ member_of old) (λ f seat. member_of_seat seat ≡ member_of new) acts
    (λ is. seat_member (places_of old) acts.before ask acted acts.after acts.acts ∙ is ∙ sym same) (λ f seat differ is. is ∙ sym same) members

node_same : {O N : Type 0} {g : Ghosts O N} {h : Nodes N} (old new : Host O N g h) (e : ℕ) (ask : Ask) (acted : HostActed) → NodeActs old e ask acted new → SameHost old new
node_same {O} {N} {g} {h} old new e ask acted acts =
    let keeps = keeps_same g old.opens new.opens acts.rest.opens in
    record { member = keeps.member; places = acts.rest.places; begins = keeps.begins }

stays_trust : {O N : Type 0} {g : Ghosts O N} {h : Nodes N} (old new : Host O N g h) → new ≡ old → KeepsTrust old new
stays_trust {O} {N} {g} {h} old new same = subst (λ (x : Host O N g h). KeepsTrust old x) (sym same) (record { honest = λ t e seat low. t e seat; clean = λ t e seat low. t e seat; sure = λ c t. t })

stays_members : {O N : Type 0} {g : Ghosts O N} {h : Nodes N} (old new : Host O N g h) → new ≡ old → AreMembers old → AreMembers new
stays_members {O} {N} {g} {h} old new same members = subst (λ (x : Host O N g h). AreMembers x) (sym same) members

stays_same : {O N : Type 0} {g : Ghosts O N} {h : Nodes N} (old new : Host O N g h) → new ≡ old → SameHost old new
stays_same {O} {N} {g} {h} old new same = subst (λ (x : Host O N g h). SameHost old x) (sym same) (record { member = refl; places = refl; begins = λ e c b. b })

pub acts_trust : {O N : Type 0} {g : Ghosts O N} {h : Nodes N} (old new : Host O N g h) (e said : ℕ) (ask : Ask) (acted : HostActed) → ActsIn old e said ask acted new → KeepsTrust old new
acts_trust old new e said ask (Of acted) (is, acts) = node_trust old new e ask (Of acted) acts
acts_trust old new e said ask Ended (is, acts) = node_trust old new e ask Ended acts
acts_trust old new e said ask Ahead (is, far, same) = stays_trust old new same
acts_trust old new e said ask Gone (is, far, same) = stays_trust old new same
acts_trust old new e said ask OtherPlaces (is, same) = stays_trust old new same

pub acts_members : {O N : Type 0} {g : Ghosts O N} {h : Nodes N} (old new : Host O N g h) (e said : ℕ) (ask : Ask) (acted : HostActed) → ActsIn old e said ask acted new → AreMembers old → AreMembers new
acts_members old new e said ask (Of acted) (is, acts) = node_members old new e ask (Of acted) acts
acts_members old new e said ask Ended (is, acts) = node_members old new e ask Ended acts
acts_members old new e said ask Ahead (is, far, same) = stays_members old new same
acts_members old new e said ask Gone (is, far, same) = stays_members old new same
acts_members old new e said ask OtherPlaces (is, same) = stays_members old new same

pub acts_same : {O N : Type 0} {g : Ghosts O N} {h : Nodes N} (old new : Host O N g h) (e said : ℕ) (ask : Ask) (acted : HostActed) → ActsIn old e said ask acted new → SameHost old new
acts_same old new e said ask (Of acted) (is, acts) = node_same old new e ask (Of acted) acts
acts_same old new e said ask Ended (is, acts) = node_same old new e ask Ended acts
acts_same old new e said ask Ahead (is, far, same) = stays_same old new same
acts_same old new e said ask Gone (is, far, same) = stays_same old new same
acts_same old new e said ask OtherPlaces (is, same) = stays_same old new same

-- a node that is there is one of the window
is_there : {S : Type 0} (o : Option S) (s : S) → o ≡ Some s → is_some o ≡ true
is_there {S} o s is = ap (λ (x : Option S). is_some x) is

pub is_near : {O N : Type 0} {g : Ghosts O N} {h : Nodes N} (host : Host O N g h) (v : HostView) → StandsAs host v → (e : ℕ) (seat : Seat N h) → seat_of host e ≡ Some seat → IsNear v e
is_near {O} {N} {g} {h} host v stands e seat at =
    let is : host.number ≡ number v = stands.epoch in
    elim (slot_cases host.number host.before host.own host.after e seat at) [
      | inl found ↦
          let own = found.0 in
          record { some = omega (arith, own, host.first); there = omega (arith, own, is, stands.since); low = omega (arith, own, is); high = omega (arith, own, is) }
      | inr more ↦ elim more [
        | inl found ↦
            let after = found.0 in
            record { some = omega (arith, after); there = omega (arith, after, is, stands.since); low = omega (arith, after, is); high = omega (arith, after, is) }
        | inr found ↦
            let before = found.0 in
            let has : is_some host.before ≡ true = is_there host.before seat found.1 in
            let some : 1 < host.number = host.window has in
            let above : v.first < number v = above_first v.first (number v) (is_some host.before) stands.before has in
            record { some = omega (arith, before, some); there = omega (arith, before, is, above); low = omega (arith, before, is); high = omega (arith, before, is) }
      ]
    ]

-- a view of the host, where one node moved
stands_on : {O N : Type 0} {g : Ghosts O N} {h : Nodes N} (old new : Host O N g h) (e : ℕ) (ask : Ask) (acted : HostActed) (acts : NodeActs old e ask acted new) (v : HostView) → StandsAs old v → (t : Standing) → Stands acts.after t → StandsAs new (with_node v e t)
stands_on {O} {N} {g} {h} old new e ask acted acts v stands t after = record {
  epoch = acts.rest.number ∙ stands.epoch;
  taken = acts.rest.taken ∙ stands.taken;
  cursor = acts.rest.cursor ∙ stands.cursor;
  full = subst (λ p. AreFull p v.passed) (sym acts.rest.places) stands.full;
  scheduler = acts.rest.scheduler ∙ stands.scheduler ∙ ap (λ p. scheduled (values p v) v.cursor) (sym acts.rest.places);
  nodes = over_nodes old new e ask acted (λ f seat. Stands seat (v.nodes f)) (λ f seat. Stands seat ((with_node v e t).nodes f)) acts
      (λ was. subst (λ (s : Standing). Stands acts.after s) (sym (ap (λ b. cond b t (v.nodes e)) (eq-eqb e e refl))) after)
      (λ f seat differ is. subst (λ (s : Standing). Stands seat s) (sym (ap (λ b. cond b t (v.nodes f)) (eqb_no f e differ))) is)
      stands.nodes;
  some = stands.some;
  since = stands.since;
  before = acts.rest.before ∙ stands.before;
  states = same_states old.places new.places v.passed v.own old.states new.states acts.rest.places acts.rest.states stands.states;
}

-- where nothing moved it stands as before
ended : {O N : Type 0} {g : Ghosts O N} {h : Nodes N} (old new : Host O N g h) (e : ℕ) (ask : Ask) (acts : NodeActs old e ask Ended new) (v : HostView) → StandsAs old v → StandsAs new v
ended {O} {N} {g} {h} old new e ask acts v stands = record {
  epoch = acts.rest.number ∙ stands.epoch;
  taken = acts.rest.taken ∙ stands.taken;
  cursor = acts.rest.cursor ∙ stands.cursor;
  full = subst (λ p. AreFull p v.passed) (sym acts.rest.places) stands.full;
  scheduler = acts.rest.scheduler ∙ stands.scheduler ∙ ap (λ p. scheduled (values p v) v.cursor) (sym acts.rest.places);
  nodes = over_nodes old new e ask Ended (λ f seat. Stands seat (v.nodes f)) (λ f seat. Stands seat (v.nodes f)) acts
      (λ was. subst (λ (x : Seat N h). Stands x (v.nodes e)) (sym acts.acts.1) was) (λ f seat differ is. is) stands.nodes;
  some = stands.some;
  since = stands.since;
  before = acts.rest.before ∙ stands.before;
  states = same_states old.places new.places v.passed v.own old.states new.states acts.rest.places acts.rest.states stands.states;
}

-- the same member asks of it
as_member : {O N : Type 0} {g : Ghosts O N} {h : Nodes N} (old : Host O N g h) (before : Seat N h) (s : Standing) (ask : Ask) (acted : Acted) (After : Standing → Type 0) → member_of_seat before ≡ member_of old
    → GoesTo (member_of_seat before).1 (member_of_seat before).0 s ask (told acted) (letters_of acted) (outputs_of acted) After → GoesTo (member_of old).1 (member_of old).0 s ask (told acted) (letters_of acted) (outputs_of acted) After
as_member old before s ask acted After is goes = subst (λ (m : ℕ × ℕ). GoesTo m.1 m.0 s ask (told acted) (letters_of acted) (outputs_of acted) After) is goes

pub acts_moves : {O N : Type 0} {g : Ghosts O N} {h : Nodes N} (old new : Host O N g h) (e said : ℕ) (ask : Ask) (acted : HostActed) → ActsIn old e said ask acted new → IsHonest new → AreMembers old → (v : HostView) → StandsAs old v
    → (v' : HostView) × MovesIn (member_of old).1 (member_of old).0 (places_of old) v e said ask acted v' × StandsAs new v'
acts_moves old new e said ask (Of acted) (is, acts) honest members v stands =
    let stood : Stands acts.before (v.nodes e) = stands.nodes e acts.before acts.was in
    let moved = acts.acts.1.moves (honest e acts.after acts.is) (v.nodes e) stood in
    let within : is_beyond (places_of old) (v.nodes e) ask ≡ false = sym (acts.beyond (v.nodes e) stood) ∙ acts.acts.0 in (
      with_node v e moved.0.standing,
      (
        is,
        is_near old v stands e acts.before acts.was,
        within,
        (moved.0.standing, as_member old acts.before (v.nodes e) ask acted (λ u. u ≡ moved.0.standing) (members e acts.before acts.was) (moved.0, moved.1, moved.2, moved.3, refl), refl),
      ),
      stands_on old new e ask (Of acted) acts v stands moved.0.standing moved.4,
    )
acts_moves {O} {N} {g} {h} old new e said ask Ended (is, acts) honest members v stands =
    let stood : Stands acts.before (v.nodes e) = stands.nodes e acts.before acts.was in
    let beyond : is_beyond (places_of old) (v.nodes e) ask ≡ true = sym (acts.beyond (v.nodes e) stood) ∙ acts.acts.0 in
    (v, (is, is_near old v stands e acts.before acts.was, beyond, refl), ended old new e ask acts v stands)
acts_moves {O} {N} {g} {h} old new e said ask Ahead (is, far, same) honest members v stands =
    (v, (is, subst (λ n. n + 1 < e) stands.epoch far, refl), subst (λ (x : Host O N g h). StandsAs x v) (sym same) stands)
acts_moves {O} {N} {g} {h} old new e said ask Gone (is, far, same) honest members v stands =
    (v, (is, is_gone old v stands e far, refl), subst (λ (x : Host O N g h). StandsAs x v) (sym same) stands)
acts_moves {O} {N} {g} {h} old new e said ask OtherPlaces (is, same) honest members v stands = (v, (is, refl), subst (λ (x : Host O N g h). StandsAs x v) (sym same) stands)

-- a node that was asked within the window is asked by who has as many places
pub acts_at : {O N : Type 0} {g : Ghosts O N} {h : Nodes N} (old new : Host O N g h) (n e said : ℕ) (ask : Ask) (acted : HostActed) → said ≡ places_of old → n ≡ e → NodeActs old n ask acted new → ActsIn old e said ask acted new
acts_at {O} {N} {g} {h} old new n e said ask (Of acted) is at acts = (is, subst (λ x. NodeActs old x ask (Of acted) new) at acts)
acts_at {O} {N} {g} {h} old new n e said ask Ended is at acts = (is, subst (λ x. NodeActs old x ask Ended new) at acts)
acts_at old new n e said ask Ahead is at acts = absurd acts.acts
acts_at old new n e said ask Gone is at acts = absurd acts.acts
acts_at old new n e said ask OtherPlaces is at acts = absurd acts.acts

-- what the number refuses is refused whatever is asked, and changes nothing
pub acts_refused : {O N : Type 0} {g : Ghosts O N} {h : Nodes N} (host : Host O N g h) (e said : ℕ) (ask : Ask) (acted : HostActed) → IsRefusedSo host e said acted → ActsIn host e said ask acted host
acts_refused host e said ask (Of acted) refused = absurd refused
acts_refused host e said ask Ended refused = absurd refused
acts_refused host e said ask Ahead refused = (refused.0, refused.1, refl)
acts_refused host e said ask Gone refused = (refused.0, refused.1, refl)
acts_refused host e said ask OtherPlaces refused = (refused, refl)

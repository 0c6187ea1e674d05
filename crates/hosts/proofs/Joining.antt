-- A host that goes to the start of an epoch above its own, as it stands.
use Rattle.std.proofs.Common.{◌≡◌, ◌≢◌, ◌⊎◌, ◌∙◌, ℕ, zero, suc, ◌+◌, ◌*◌, ◌<◌, ◌≤◌, Some, Bool, true, false, cond, ◌&&◌}
use Rattle.std.proofs.Common.{eqb, leb, ltb, List, [], ◌∷◌, ◌++◌, length}
use Rattle.std.proofs.Common.{refl, sym, ap, subst, inl, inr, eqb-true, eq-eqb, le-leb, arith}
use Rattle.std.specs.Prelude.{IfErr, OnOk, Result, Ok, Err}
use Rattle.std.proofs.Math.Nat.{le-mul_of_pos_right, suc-mul}
use Rattle.std.proofs.lemmas.Bool.{cases_lt, false_from_ne_true, leb-false, leb-true, lt-ltb, ltb-true}
use Rattle.acceptor.specs.Content.{Content}
use Rattle.flow_state.specs.Rows.{Rows}
use Rattle.host_states.specs.States.{IsFramed, IsState}
use Rattle.host_states.specs.declared.head.StateHead.{StateHead}
use Rattle.row_bytes.specs.Tables.{Spells}
use Rattle.row_bytes.specs.declared.fault.RowsFault.{RowsFault}
use Rattle.row_bytes.specs.declared.fault.RowsFault.TheVariants as rows_faults
use Rattle.node.specs.View.{started}
use Rattle.node.specs.View.Standing.{Running}
use Rattle.seats.specs.Occupant.{Stands, member as member_of_seat}
use Rattle.seats.specs.declared.seat.Seat.{Seat}
use Rattle.epochs.specs.Epochs.{AreFull, ValuesGoOn, values_of}
use Rattle.epochs.specs.Scheduling.{GoesOnFromTables, begun_from, scheduled, tables_after}
use Rattle.hosts.specs.Hosts.{AreMembers, IsHonest, KeepsTrust, SameHost, StandsAs, begins_of, member_of, places_of}
use Rattle.hosts.specs.Hosts.{seat_of}
use Rattle.hosts.specs.Joining.{Begins, CanJoin, Enters, Joins, JoinsAs, StaysFor}
use Rattle.hosts.specs.Keeping.{HaveKept}
use Rattle.hosts.specs.Shifting.{Stays}
use Rattle.hosts.specs.States.{AreStates, IsStateOf, StatesView}
use Rattle.hosts.specs.Unread.{unread}
use Rattle.hosts.specs.Views.{AreBegun, HostView, first_lacked, is_lacked, joined, number}
use Rattle.hosts.specs.declared.fault.JoinFault.{JoinFault}
use Rattle.hosts.specs.declared.fault.JoinFault.TheVariants.{NoState, Node}
use Rattle.hosts.specs.declared.host.Host.{Host}
use Rattle.hosts.specs.declared.opens.Opens.{Ghosts}
use Rattle.node.specs.declared.node.Node.{Ghosts as Nodes}
use Rattle.hosts.proofs.Contents.{HasOpened, are_begun, content_of}
use Rattle.hosts.proofs.Going.{nothing_more, stays_kept, stays_members, stays_same, stays_stands, stays_trust}
use Rattle.hosts.proofs.KeptStates.{made_state, own_states}
use Rattle.hosts.proofs.SlotLemmas.{slot_after, slot_cases, slot_own}

-- bytes are one state at most
abbrev pub OneState : Type 0
OneState = (bytes : List ℕ) (h g : StateHead) (rows others : Rows) → IsState bytes h rows → IsState bytes g others → (h ≡ g) × (rows ≡ others)

-- and have one head and one spelling where they are whole
abbrev pub OneFrame : Type 0
OneFrame = (bytes : List ℕ) (h g : StateHead) (x y : List ℕ) → IsFramed bytes h x → IsFramed bytes g y → (h ≡ g) × (x ≡ y)

-- nothing changed
nothing_changed : {O N : Type 0} {g : Ghosts O N} {h : Nodes N} (host : Host O N g h) → Stays host host
nothing_changed host = record {
  keeps = record { member = refl; begins = λ e c b. b };
  places = refl;
  number = refl;
  taken = refl;
  cursor = refl;
  scheduler = refl;
  states = refl;
  before = refl;
  own = refl;
  after = refl;
}

-- so many epochs of some places each are no more than their places
pub few_epochs : (e before places : ℕ) → 1 ≤ places → before + places ≡ e * places → e ≤ before + 1
few_epochs zero before places some is = omega arith
few_epochs (suc k) before places some is =
    let product : before + places ≡ k * places + places = is ∙ suc-mul k places in
    let grows : k ≤ k * places = le-mul_of_pos_right k some in
    omega (arith, product, grows)

-- what has to hold of a host at the start of an epoch
pub epoch_within : {O N : Type 0} {g : Ghosts O N} {h : Nodes N} (host : Host O N g h) (head : StateHead) → CanJoin host head → 1 ≤ host.places → head.epoch ≤ head.before + 1
epoch_within host head can some = few_epochs head.epoch head.before head.places (omega (arith, can.of.places, some)) can.of.counts

-- where it begins it is the same host
begins_same : {O N : Type 0} {g : Ghosts O N} {h : Nodes N} (old new : Host O N g h) (head : StateHead) (rows : Rows) → Begins old new head rows → SameHost old new
begins_same old new head rows begins = record { member = begins.enters.keeps.member; places = begins.places; begins = begins.enters.keeps.begins }

begins_kept : {O N : Type 0} {g : Ghosts O N} {h : Nodes N} (old new : Host O N g h) (head : StateHead) (rows : Rows) → Begins old new head rows → HaveKept old → HaveKept new
begins_kept old new head rows begins kept e seat at = elim (begins.enters.each e seat at) [ inl there ↦ kept e seat there | inr opened ↦ opened.2.kept ]

begins_trust : {O N : Type 0} {g : Ghosts O N} {h : Nodes N} (old new : Host O N g h) (head : StateHead) (rows : Rows) → Begins old new head rows → KeepsTrust old new
begins_trust {O} {N} {g} {h} old new head rows begins = record {
  honest = λ t e seat low at. t e seat (begins.enters.kept e seat (omega (arith, low, begins.enters.number)) at);
  clean = λ t e seat low at. t e seat (begins.enters.kept e seat (omega (arith, low, begins.enters.number)) at);
  sure = λ c t e seat at. elim (begins.enters.each e seat at) [ inl there ↦ t e seat there | inr opened ↦ opened.2.sure (c e seat at) ];
}

begins_members : {O N : Type 0} {g : Ghosts O N} {h : Nodes N} (old new : Host O N g h) (head : StateHead) (rows : Rows) → Begins old new head rows → AreMembers old → AreMembers new
begins_members {O} {N} {g} {h} old new head rows begins members e seat at =
    let same : member_of old ≡ member_of new = sym begins.enters.keeps.member in
    elim (begins.enters.each e seat at) [
      | inl there ↦ members e seat there ∙ same
      | inr opened ↦ (let of_old : member_of_seat seat ≡ member_of old = λ i. (opened.2.opened.id i, opened.2.opened.members i) in of_old ∙ same)
    ]

-- the first epoch of which it has a node
first_some : (first lp : ℕ) (b : Bool) → 1 ≤ first → 1 ≤ cond b first (lp + 1)
first_some first lp true le = le
first_some first lp false le = omega arith

first_since : (first lp : ℕ) (b : Bool) → first ≤ lp + 1 → cond b first (lp + 1) ≤ lp + 1
first_since first lp true le = le
first_since first lp false le = omega arith

first_before : (first n lp : ℕ) → first < lp + 1 → leb (lp + 1) (n + 2) ≡ ltb (cond (leb lp (n + 1)) first (lp + 1)) (lp + 1)
first_before first n lp below = by (leb lp (n + 1)) refl
  where
    by : (b : Bool) → leb lp (n + 1) ≡ b → leb (lp + 1) (n + 2) ≡ ltb (cond (leb lp (n + 1)) first (lp + 1)) (lp + 1)
    by true is =
        let le : lp ≤ n + 1 = leb-true lp (n + 1) is in
        le-leb (lp + 1) (n + 2) (omega (arith, le)) ∙ sym (ap (λ b. ltb (cond b first (lp + 1)) (lp + 1)) is ∙ lt-ltb first (lp + 1) below)
    by false is =
        let lt : n + 1 < lp = leb-false lp (n + 1) is in
        false_from_ne_true (leb (lp + 1) (n + 2)) (λ yes. let le : lp + 1 ≤ n + 2 = leb-true (lp + 1) (n + 2) yes in omega (arith, le, lt))
        ∙ sym (ap (λ b. ltb (cond b first (lp + 1)) (lp + 1)) is ∙ false_from_ne_true (ltb (lp + 1) (lp + 1)) (λ yes. let wrong : lp + 1 < lp + 1 = ltb-true (lp + 1) (lp + 1) yes in omega (arith, wrong)))

-- the first epoch whose node is lacked
lacked_from : (n e : ℕ) → n < e → (e ≤ first_lacked n e) × (n + 1 < first_lacked n e)
lacked_from n e above = by (eqb e (n + 1)) refl
  where
    by : (b : Bool) → eqb e (n + 1) ≡ b → (e ≤ first_lacked n e) × (n + 1 < first_lacked n e)
    by true is =
        let first : first_lacked n e ≡ e + 1 = ap (λ b. cond b (e + 1) e) is in
        let next : e ≡ n + 1 = eqb-true e (n + 1) is in
        (omega (arith, first), omega (arith, first, next))
    by false is =
        let first : first_lacked n e ≡ e = ap (λ b. cond b (e + 1) e) is in
        let far : e ≢ n + 1 = λ same. (let wrong : true ≡ false = sym (eq-eqb e (n + 1) same) ∙ is in cc (wrong)) in
        (omega (arith, first), by_far first far (cases_lt (n + 1) e))
      where
        by_far : first_lacked n e ≡ e → e ≢ n + 1 → (n + 1 < e) ⊎ (e ≤ n + 1) → n + 1 < first_lacked n e
        by_far first far (inl more) = omega (arith, first, more)
        by_far first far (inr less) = absurd (far (omega (arith, less, above)))

lacked_within : (n e f : ℕ) → n + 1 < f → e ≤ f → first_lacked n e ≤ f
lacked_within n e f above from = by (eqb e (n + 1)) refl
  where
    by : (b : Bool) → eqb e (n + 1) ≡ b → first_lacked n e ≤ f
    by true is =
        let first : first_lacked n e ≡ e + 1 = ap (λ b. cond b (e + 1) e) is in
        let next : e ≡ n + 1 = eqb-true e (n + 1) is in
        omega (arith, first, next, above)
    by false is = let first : first_lacked n e ≡ e = ap (λ b. cond b (e + 1) e) is in omega (arith, first, from)

-- no node is there of an epoch above the window
pub seat_within : {O N : Type 0} {g : Ghosts O N} {h : Nodes N} (host : Host O N g h) (e : ℕ) (seat : Seat N h) → seat_of host e ≡ Some seat → e ≤ host.number + 1
seat_within host e seat at = elim (slot_cases host.number host.before host.own host.after e seat at) [
  | inl found ↦ omega (arith, found.0)
  | inr more ↦ elim more [ inl found ↦ omega (arith, found.0) | inr found ↦ omega (arith, found.0) ]
]

-- those that it lacked were opened
entered : {O N : Type 0} {g : Ghosts O N} {h : Nodes N} (old new : Host O N g h) (epoch : ℕ) → old.number < epoch → Enters old new epoch → (e : ℕ) → first_lacked old.number epoch ≤ e → e ≤ epoch + 1
    → HasOpened new old.opens e
entered {O} {N} {g} {h} old new epoch above enters e low high = is_new (at (cases_lt new.number e))
  where
    far : (epoch ≤ e) × (old.number + 1 < e)
    far = let from = lacked_from old.number epoch above in (omega (arith, from.0, low), omega (arith, from.1, low))

    at : (new.number < e) ⊎ (e ≤ new.number) → (seat : Seat N h) × (seat_of new e ≡ Some seat)
    at (inl more) =
        let is : e ≡ new.number + 1 = omega (arith, more, high, enters.number) in
        (new.after, ap (λ n. seat_of new n) is ∙ slot_after new.number new.before new.own new.after)
    at (inr less) =
        let is : e ≡ new.number = omega (arith, less, far.0, enters.number) in
        (new.own, ap (λ n. seat_of new n) is ∙ slot_own new.number new.before new.own new.after)

    is_new : (seat : Seat N h) × (seat_of new e ≡ Some seat) → HasOpened new old.opens e
    is_new (seat, there) = elim (enters.each e seat there) [
      | inl was ↦ absurd (omega (arith, far.1, seat_within old e seat was))
      | inr opened ↦ (seat, there, opened.2)
    ]

-- what it has of epochs in its window stands as it did, and what it lacked stands as it was opened
entered_stands : {O N : Type 0} {g : Ghosts O N} {h : Nodes N} (old new : Host O N g h) (epoch : ℕ) → old.number < epoch → Enters old new epoch → (v : HostView) → StandsAs old v → (contents : ℕ → Content)
    → ((e : ℕ) (seat : Seat N h) → seat_of new e ≡ Some seat → first_lacked old.number epoch ≤ e → e ≤ epoch + 1 → Stands seat (Running (started (contents e))))
    → (e : ℕ) (seat : Seat N h) → seat_of new e ≡ Some seat → Stands seat (cond (is_lacked (number v) epoch e) (Running (started (contents e))) (v.nodes e))
entered_stands {O} {N} {g} {h} old new epoch further enters v stands contents opened e seat at = elim (enters.each e seat at) [
  | inl there ↦
      let first = lacked_from (number v) epoch (omega (arith, further, stands.epoch)) in
      let below : leb (first_lacked (number v) epoch) e ≡ false = false_from_ne_true (leb (first_lacked (number v) epoch) e) (λ yes.
      let above : first_lacked (number v) epoch ≤ e = leb-true (first_lacked (number v) epoch) e yes in omega (arith, above, first.1, seat_within old e seat there, stands.epoch)) in
      subst (λ b. Stands seat (cond b (Running (started (contents e))) (v.nodes e))) (sym (ap (λ b. b && leb e (epoch + 1)) below)) (stands.nodes e seat there)
  | inr new_one ↦
      let from : leb (first_lacked (number v) epoch) e ≡ true =
      le-leb (first_lacked (number v) epoch) e (lacked_within (number v) epoch e (omega (arith, new_one.0, stands.epoch)) new_one.1) in
      let within : e ≤ epoch + 1 = omega (arith, seat_within new e seat at, enters.number) in
      let lacked : is_lacked (number v) epoch e ≡ true = ap (λ b. b && leb e (epoch + 1)) from ∙ le-leb e (epoch + 1) within in
      subst (λ b. Stands seat (cond b (Running (started (contents e))) (v.nodes e))) (sym lacked) (opened e seat at (lacked_within old.number epoch e new_one.0 new_one.1) within)
]

-- at the start of an epoch behind full ones
begins_stands : {O N : Type 0} {g : Ghosts O N} {h : Nodes N} → GoesOnFromTables → ValuesGoOn → (old new : Host O N g h) (head : StateHead) (rows : Rows) → CanJoin old head → Begins old new head rows
    → (v : HostView) → StandsAs old v → (passed : List (List (List ℕ))) → AreFull old.places passed → head.epoch ≡ length passed + 1 → head.before ≡ length (values_of old.places passed)
    → rows ≡ tables_after (values_of old.places passed) → (contents : ℕ → Content)
    → ((e : ℕ) (seat : Seat N h) → seat_of new e ≡ Some seat → Stands seat (cond (is_lacked (number v) (length passed + 1) e) (Running (started (contents e))) (v.nodes e)))
    → StandsAs new (joined old.places v passed contents)
begins_stands {O} {N} {g} {h} from on old new head rows can begins v stands passed full epoch before tables contents nodes =
    let vs : List (List ℕ) = values_of old.places passed in
    let above : v.first < length passed + 1 = omega (arith, stands.since, stands.epoch, can.above, epoch) in
    let whole : values_of old.places (passed ++ [] ∷ []) ≡ vs = on old.places passed [] full ∙ nothing_more old.places vs in
    record {
      epoch = begins.enters.number ∙ epoch;
      taken = begins.taken;
      cursor = begins.cursor ∙ before;
      full = subst (λ p. AreFull p passed) (sym begins.places) full;
      scheduler = begins.scheduler ∙ (λ i. begun_from (tables i) (before i)) ∙ from vs ∙ ap (λ (xs : List (List ℕ)). scheduled xs (length vs)) (sym whole)
          ∙ ap (λ p. scheduled (values_of p (passed ++ [] ∷ [])) (length vs)) (sym begins.places);
      nodes = nodes;
      some = first_some v.first (length passed) (leb (length passed) (number v + 1)) stands.some;
      since = first_since v.first (length passed) (leb (length passed) (number v + 1)) (omega (arith, above));
      before = begins.enters.before ∙ (λ i. leb (epoch i) (stands.epoch i + 2)) ∙ first_before v.first (number v) (length passed) above;
      states =
          let made = begins.state in
          subst (λ p. AreStates p passed [] new.states) (sym begins.places)
          (subst (λ (s : StatesView). AreStates old.places passed [] s) (sym made.2)
          (own_states old.places passed old.states made.0 (made_state old.states head.epoch old.places head.before rows made.0 passed epoch before tables made.1)));
    }

-- and what it lacked was opened over some contents
begins_over : {O N : Type 0} {g : Ghosts O N} {h : Nodes N} → GoesOnFromTables → ValuesGoOn → (old new : Host O N g h) (head : StateHead) (rows : Rows) → CanJoin old head → Begins old new head rows → IsHonest new
    → (v : HostView) → StandsAs old v → (passed : List (List (List ℕ))) → AreFull old.places passed → head.epoch ≡ length passed + 1 → head.before ≡ length (values_of old.places passed)
    → rows ≡ tables_after (values_of old.places passed)
    → (contents : ℕ → Content) × AreBegun (begins_of old) (first_lacked (number v) (length passed + 1)) (length passed + 2) contents × StandsAs new (joined old.places v passed contents)
begins_over {O} {N} {g} {h} from on old new head rows can begins honest v stands passed full epoch before tables =
    let at = content_of new old.opens (first_lacked old.number head.epoch) (head.epoch + 1) honest (entered old new head.epoch can.above begins.enters) in
    let contents : ℕ → Content = λ e. (at e).0 in
    let begun : AreBegun (begins_of old) (first_lacked old.number head.epoch) (head.epoch + 1) contents =
    are_begun new old.opens (first_lacked old.number head.epoch) (head.epoch + 1) at in
    let last : head.epoch + 1 ≡ length passed + 2 = omega (arith, epoch) in
    let opened = entered_stands old new head.epoch can.above begins.enters v stands contents (λ e seat there. (at e).1.stands seat there) in
    let nodes : (e : ℕ) (seat : Seat N h) → seat_of new e ≡ Some seat → Stands seat (cond (is_lacked (number v) (length passed + 1) e) (Running (started (contents e))) (v.nodes e)) =
    λ e seat there. subst (λ n. Stands seat (cond (is_lacked (number v) n e) (Running (started (contents e))) (v.nodes e))) epoch (opened e seat there) in (
      contents,
      subst (λ n. AreBegun (begins_of old) (first_lacked (number v) (length passed + 1)) n contents) last
          (subst (λ n. AreBegun (begins_of old) (first_lacked (number v) n) (head.epoch + 1) contents) epoch
          (subst (λ n. AreBegun (begins_of old) (first_lacked n head.epoch) (head.epoch + 1) contents) stands.epoch begun)),
      begins_stands from on old new head rows can begins v stands passed full epoch before tables contents nodes,
    )

-- each end of a join
pub joins_as : {O N : Type 0} {g : Ghosts O N} {h : Nodes N} → OneState → GoesOnFromTables → ValuesGoOn → (old new : Host O N g h) (bytes : List ℕ) → Joins old bytes new → IsHonest new
    → (v : HostView) → StandsAs old v → (me : ℕ) (passed : List (List (List ℕ))) → AreFull (places_of old) passed → IsStateOf me (member_of old).1 (places_of old) passed bytes
    → (contents : ℕ → Content) × AreBegun (begins_of old) (first_lacked (number v) (length passed + 1)) (length passed + 2) contents × StandsAs new (joined (places_of old) v passed contents)
joins_as one from on old new bytes (head, rows, state, can, begins) honest v stands me passed full is =
    let same = one bytes head (record { epoch = length passed + 1; places = old.places; before = length (values_of old.places passed); id = me; members = (member_of old).1 }) rows (tables_after (values_of old.places passed)) state is in
    begins_over from on old new head rows can begins honest v stands passed full (ap (λ (x : StateHead). x.epoch) same.0) (ap (λ (x : StateHead). x.before) same.0) same.1

pub joins_same : {O N : Type 0} {g : Ghosts O N} {h : Nodes N} (old new : Host O N g h) (bytes : List ℕ) → Joins old bytes new → SameHost old new
joins_same old new bytes (head, rows, state, can, begins) = begins_same old new head rows begins

pub joins_trust : {O N : Type 0} {g : Ghosts O N} {h : Nodes N} (old new : Host O N g h) (bytes : List ℕ) → Joins old bytes new → KeepsTrust old new
joins_trust old new bytes (head, rows, state, can, begins) = begins_trust old new head rows begins

pub joins_members : {O N : Type 0} {g : Ghosts O N} {h : Nodes N} (old new : Host O N g h) (bytes : List ℕ) → Joins old bytes new → AreMembers old → AreMembers new
joins_members old new bytes (head, rows, state, can, begins) = begins_members old new head rows begins

joins_kept : {O N : Type 0} {g : Ghosts O N} {h : Nodes N} (old new : Host O N g h) (bytes : List ℕ) → Joins old bytes new → HaveKept old → HaveKept new
joins_kept old new bytes (head, rows, state, can, begins) = begins_kept old new head rows begins

refused_kept : {O N : Type 0} {g : Ghosts O N} {h : Nodes N} (old new : Host O N g h) (bytes : List ℕ) (fault : JoinFault) → StaysFor old bytes fault new → HaveKept old → HaveKept new
refused_kept {O} {N} {g} {h} old new bytes NoState stays kept = subst (λ (x : Host O N g h). HaveKept x) (sym stays.0) kept
refused_kept old new bytes (Node fault) stays kept = stays_kept old new stays.0 kept

pub refused_same : {O N : Type 0} {g : Ghosts O N} {h : Nodes N} (old new : Host O N g h) (bytes : List ℕ) (fault : JoinFault) → StaysFor old bytes fault new → SameHost old new
refused_same {O} {N} {g} {h} old new bytes NoState stays = subst (λ (x : Host O N g h). SameHost old x) (sym stays.0) (record { member = refl; places = refl; begins = λ e c b. b })
refused_same old new bytes (Node fault) stays = stays_same old new stays.0

pub refused_trust : {O N : Type 0} {g : Ghosts O N} {h : Nodes N} (old new : Host O N g h) (bytes : List ℕ) (fault : JoinFault) → StaysFor old bytes fault new → KeepsTrust old new
refused_trust {O} {N} {g} {h} old new bytes NoState stays =
    subst (λ (x : Host O N g h). KeepsTrust old x) (sym stays.0) (record { honest = λ t e seat low. t e seat; clean = λ t e seat low. t e seat; sure = λ c t. t })
refused_trust old new bytes (Node fault) stays = stays_trust old new stays.0

pub refused_members : {O N : Type 0} {g : Ghosts O N} {h : Nodes N} (old new : Host O N g h) (bytes : List ℕ) (fault : JoinFault) → StaysFor old bytes fault new → AreMembers old → AreMembers new
refused_members {O} {N} {g} {h} old new bytes NoState stays members = subst (λ (x : Host O N g h). AreMembers x) (sym stays.0) members
refused_members old new bytes (Node fault) stays members = stays_members old new stays.0 members

pub refused_as : {O N : Type 0} {g : Ghosts O N} {h : Nodes N} (old new : Host O N g h) (bytes : List ℕ) (fault : JoinFault) → StaysFor old bytes fault new → (v : HostView) → StandsAs old v → StandsAs new v
refused_as {O} {N} {g} {h} old new bytes NoState stays v stands = subst (λ (x : Host O N g h). StandsAs x v) (sym stays.0) stands
refused_as old new bytes (Node fault) stays v stands = stays_stands old new stays.0 v stands

-- tables that can't be read are none to join
pub unread_stays : {O N : Type 0} {g : Ghosts O N} {h : Nodes N} → OneFrame → (host : Host O N g h) (bytes : List ℕ) (head : StateHead) (spelling : List ℕ) → IsFramed bytes head spelling → CanJoin host head
    → (why : RowsFault) → ((rows : Rows) → Spells spelling rows → why ≡ rows_faults.OutOfMemory) → StaysFor host bytes (unread why) host
unread_stays {O} {N} {g} {h} one host bytes head spelling framed can why lacks = by why lacks
  where
    none : (why : RowsFault) → ((rows : Rows) → Spells spelling rows → why ≡ rows_faults.OutOfMemory) → why ≢ rows_faults.OutOfMemory → StaysFor host bytes NoState host
    none why lacks differ = (
      refl,
      λ other rows state allowed. differ (lacks rows (subst (λ (t : List ℕ). Spells t rows) (sym (one bytes head other spelling state.0 framed state.1).1) state.2)),
    )

    by : (why : RowsFault) → ((rows : Rows) → Spells spelling rows → why ≡ rows_faults.OutOfMemory) → StaysFor host bytes (unread why) host
    by rows_faults.Short lacks = none rows_faults.Short lacks (λ is. cc (is))
    by rows_faults.Trailing lacks = none rows_faults.Trailing lacks (λ is. cc (is))
    by rows_faults.NoChannel lacks = none rows_faults.NoChannel lacks (λ is. cc (is))
    by rows_faults.NoFlow lacks = none rows_faults.NoFlow lacks (λ is. cc (is))
    by rows_faults.NoRequest lacks = none rows_faults.NoRequest lacks (λ is. cc (is))
    by (rows_faults.NotFirm ch) lacks = none (rows_faults.NotFirm ch) lacks (λ is. cc (is))
    by rows_faults.OutOfMemory lacks = (nothing_changed host, inr refl, (head, spelling, framed, can))

-- a head that can't be joined is of no state to join
pub head_stays : {O N : Type 0} {g : Ghosts O N} {h : Nodes N} → OneFrame → (host : Host O N g h) (bytes : List ℕ) (head : StateHead) (spelling : List ℕ) → IsFramed bytes head spelling → ¬ CanJoin host head
    → StaysFor host bytes NoState host
head_stays one host bytes head spelling framed cannot =
    (refl, λ other rows state can. cannot (subst (λ (x : StateHead). CanJoin host x) (sym (one bytes head other spelling state.0 framed state.1).0) can))

-- either way
pub join_same : {O N : Type 0} {g : Ghosts O N} {h : Nodes N} (old new : Host O N g h) (bytes : List ℕ) (r : Result (Unit {0}) JoinFault) → OnOk r (Joins old bytes new) → IfErr r (λ fault. StaysFor old bytes fault new)
    → SameHost old new
join_same old new bytes (Ok done) joins stays = joins_same old new bytes joins
join_same old new bytes (Err fault) joins stays = refused_same old new bytes fault stays

pub join_trust : {O N : Type 0} {g : Ghosts O N} {h : Nodes N} (old new : Host O N g h) (bytes : List ℕ) (r : Result (Unit {0}) JoinFault) → OnOk r (Joins old bytes new) → IfErr r (λ fault. StaysFor old bytes fault new)
    → KeepsTrust old new
join_trust old new bytes (Ok done) joins stays = joins_trust old new bytes joins
join_trust old new bytes (Err fault) joins stays = refused_trust old new bytes fault stays

pub join_members : {O N : Type 0} {g : Ghosts O N} {h : Nodes N} (old new : Host O N g h) (bytes : List ℕ) (r : Result (Unit {0}) JoinFault) → OnOk r (Joins old bytes new) → IfErr r (λ fault. StaysFor old bytes fault new)
    → AreMembers old → AreMembers new
join_members old new bytes (Ok done) joins stays = joins_members old new bytes joins
join_members old new bytes (Err fault) joins stays = refused_members old new bytes fault stays

pub join_kept : {O N : Type 0} {g : Ghosts O N} {h : Nodes N} (old new : Host O N g h) (bytes : List ℕ) (r : Result (Unit {0}) JoinFault) → OnOk r (Joins old bytes new) → IfErr r (λ fault. StaysFor old bytes fault new)
    → HaveKept old → HaveKept new
join_kept old new bytes (Ok done) joins stays kept = joins_kept old new bytes joins kept
join_kept old new bytes (Err fault) joins stays kept = refused_kept old new bytes fault stays kept

pub join_as : {O N : Type 0} {g : Ghosts O N} {h : Nodes N} → OneState → GoesOnFromTables → ValuesGoOn → (old new : Host O N g h) (bytes : List ℕ) (r : Result (Unit {0}) JoinFault) → OnOk r (Joins old bytes new)
    → IfErr r (λ fault. StaysFor old bytes fault new) → IsHonest new → (v : HostView) → StandsAs old v → JoinsAs old v bytes r new
join_as one from on old new bytes (Ok done) joins stays honest v stands = joins_as one from on old new bytes joins honest v stands
join_as one from on old new bytes (Err fault) joins stays honest v stands = refused_as old new bytes fault stays v stands

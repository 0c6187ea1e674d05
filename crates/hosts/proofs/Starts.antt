-- Hosts at the start of an epoch, as they stand.
use Rattle.std.proofs.Common.{◌≡◌, ◌≢◌, ◌⊎◌, ◌∙◌, ℕ, zero, suc, ◌+◌, ◌*◌, ◌<◌, ◌≤◌, Bool, true, false, cond, ltb, ◌&&◌, List, [], ◌∷◌, ◌++◌}
use Rattle.std.proofs.Common.{length, Option, Some, None, refl, sym, ap, subst, inl, inr, arith}
use Rattle.std.specs.Prelude.{is_some}
use Rattle.std.proofs.lemmas.Bool.{cases_lt, false_from_ne_true, lt-ltb, ltb-true}
use Rattle.acceptor.specs.Content.{Content}
use Rattle.flow_state.specs.Rows.{Rows}
use Rattle.host_states.specs.States.{IsFramed}
use Rattle.host_states.specs.declared.head.StateHead.{StateHead}
use Rattle.row_bytes.specs.Tables.{Spells}
use Rattle.row_bytes.specs.declared.fault.RowsFault.{RowsFault}
use Rattle.row_bytes.specs.declared.fault.RowsFault.TheVariants as rows_faults
use Rattle.node.specs.View.{started}
use Rattle.node.specs.View.Standing.{Running}
use Rattle.node.specs.declared.node.Node.{Ghosts as Nodes}
use Rattle.seats.specs.Occupant.{Stands, member as member_of_seat}
use Rattle.seats.specs.declared.seat.Seat.{Seat}
use Rattle.epochs.specs.Epochs.{AreFull, ValuesGoOn, values_of}
use Rattle.epochs.specs.Scheduling.{GoesOnFromTables, SchedulerView, begun_from, no_values, scheduled, tables_after}
use Rattle.hosts.specs.Hosts.{AreMembers, IsHonest, StandsAs, seat_of}
use Rattle.hosts.specs.Keeping.{HaveKept}
use Rattle.hosts.specs.Opened.{IsOpened}
use Rattle.hosts.specs.Opening.{KeepsBeginnings, OpensAll}
use Rattle.hosts.specs.Slots.{slot}
use Rattle.hosts.specs.Shifting.{Stays}
use Rattle.hosts.specs.Starting.{HasMade, IsAt, IsOpenedBefore, IsWindow, StandsBehind, StartsBehind, StartsOver}
use Rattle.hosts.specs.Starting.{CanStart, IsNoStart, IsNoStartBy, IsNoneToStart, KeepsOwn, StartsBy, StoresOwn, opened_in}
use Rattle.hosts.specs.Starting.{starts_before}
use Rattle.hosts.specs.States.{AreStates, IsMade, IsStateOf, StatesView, no_states}
use Rattle.hosts.specs.declared.starting.Start.{Start}
use Rattle.hosts.specs.Views.{AreBegun, first_from, opening, resuming}
use Rattle.hosts.specs.Unread.{unread}
use Rattle.hosts.specs.declared.fault.JoinFault.{JoinFault}
use Rattle.hosts.specs.declared.fault.JoinFault.TheVariants.{NoState, Node}
use Rattle.hosts.specs.declared.host.Host.{Host}
use Rattle.hosts.specs.declared.opens.Opens.{Ghosts}
use Rattle.hosts.specs.declared.window.Window.{Window}
use Rattle.hosts.proofs.Contents.{HasOpened, are_begun, content_of}
use Rattle.hosts.proofs.Going.{nothing_more, stays_seats, stays_stands}
use Rattle.hosts.proofs.Openings.{keeps_none}
use Rattle.hosts.proofs.Joining.{OneFrame, OneState, few_epochs, seat_within}
use Rattle.hosts.proofs.KeptStates.{made_state, own_states}
use Rattle.hosts.proofs.SlotLemmas.{same_inside, slot_after, slot_before, slot_cases, slot_own, slots_all}

-- the node of the epoch before is there where it is to be
pub window_before : {O N : Type 0} {h : Nodes N} (g : Ghosts O N) (opens : O) (e : ℕ) (has : Bool) (found : Option (Seat N h)) → IsOpenedBefore g opens e has found → is_some found ≡ has
window_before g opens e true (Some seat) is = refl
window_before g opens e false None is = refl
window_before g opens e true None none = absurd none
window_before g opens e false (Some seat) none = absurd none

pub window_opened : {O N : Type 0} {h : Nodes N} (g : Ghosts O N) (opens : O) (e : ℕ) (has : Bool) (found : Option (Seat N h)) → IsOpenedBefore g opens e has found
    → (f : ℕ) (seat : Seat N h) → f + 1 ≡ e → found ≡ Some seat → IsOpened g opens f seat
window_opened {O} {N} {h} g opens e true (Some there) is f seat below same = subst (λ (x : Seat N h). IsOpened g opens f x) (same_inside there seat same) (is f below)
window_opened g opens e false None is f seat below same = absurd (cc (same))
window_opened g opens e true None none f seat below same = absurd none
window_opened g opens e false (Some there) none f seat below same = absurd none

pub window_some : {O N : Type 0} {h : Nodes N} (g : Ghosts O N) (opens : O) (e : ℕ) (has : Bool) (found : Option (Seat N h)) → IsOpenedBefore g opens e has found → has ≡ true → (seat : Seat N h) × (found ≡ Some seat)
window_some g opens e true (Some seat) is there = (seat, refl)
window_some g opens e false None is there = absurd (cc (there))
window_some g opens e true None none there = absurd none
window_some g opens e false (Some seat) none there = absurd none

-- each node was opened
pub at_opened : {O N : Type 0} {g : Ghosts O N} {h : Nodes N} (host : Host O N g h) (old : O) (number before : ℕ) (scheduler : SchedulerView) (window : Window N h) (has : Bool) → IsAt host number before scheduler window
    → IsWindow g old number has window → (e : ℕ) (seat : Seat N h) → seat_of host e ≡ Some seat → IsOpened g old e seat
at_opened {O} {N} {g} {h} host old number before scheduler window has is found e seat at =
    slots_all (λ f x. IsOpened g old f x) number window.before window.own window.after found.own found.after
    (λ f s below there. window_opened g old number has window.before found.before f s below there) e seat
    (sym (λ i. slot (is.number i) (is.before i) (is.own i) (is.after i) e) ∙ at)

pub at_members : {O N : Type 0} {g : Ghosts O N} {h : Nodes N} (host : Host O N g h) (old : O) → KeepsBeginnings g.member g.begins old host.opens
    → ((e : ℕ) (seat : Seat N h) → seat_of host e ≡ Some seat → IsOpened g old e seat) → AreMembers host
at_members {O} {N} {g} {h} host old keeps opened e seat at =
    let is = (opened e seat at).opened in
    let of_old : member_of_seat seat ≡ g.member old = λ i. (is.id i, is.members i) in
    of_old ∙ sym keeps.member

pub at_kept : {O N : Type 0} {g : Ghosts O N} {h : Nodes N} (host : Host O N g h) (old : O) → ((e : ℕ) (seat : Seat N h) → seat_of host e ≡ Some seat → IsOpened g old e seat) → HaveKept host
at_kept host old opened e seat at = (opened e seat at).kept

-- it has a node of each epoch from the first one to the one after its own
at_all : {O N : Type 0} {g : Ghosts O N} {h : Nodes N} (host : Host O N g h) (old : O) (first number before : ℕ) (scheduler : SchedulerView) (window : Window N h) (has : Bool) → IsAt host number before scheduler window
    → IsWindow g old number has window → (first < number → (has ≡ true) × (number ≤ first + 1)) → (e : ℕ) → first ≤ e → e ≤ number + 1 → HasOpened host old e
at_all {O} {N} {g} {h} host old first number before scheduler window has is found below e low high = by (cases_lt e number)
  where
    seats : (f : ℕ) → seat_of host f ≡ slot number window.before window.own window.after f
    seats f = λ i. slot (is.number i) (is.before i) (is.own i) (is.after i) f

    with_it : (seat : Seat N h) → seat_of host e ≡ Some seat → HasOpened host old e
    with_it seat at = (seat, at, at_opened host old number before scheduler window has is found e seat at)

    above : (number < e) ⊎ (e ≤ number) → number ≤ e → HasOpened host old e
    above (inl more) from =
        let same : e ≡ number + 1 = omega (arith, more, high) in
        with_it window.after (ap (λ n. seat_of host n) same ∙ seats (number + 1) ∙ slot_after number window.before window.own window.after)
    above (inr less) from =
        let same : e ≡ number = omega (arith, less, from) in
        with_it window.own (ap (λ n. seat_of host n) same ∙ seats number ∙ slot_own number window.before window.own window.after)

    by : (e < number) ⊎ (number ≤ e) → HasOpened host old e
    by (inr from) = above (cases_lt number e) from
    by (inl less) =
        let may = below (omega (arith, low, less)) in
        let next : e + 1 ≡ number = omega (arith, less, low, may.1) in
        let there = window_some g old number has window.before found.before may.0 in
        with_it there.0 (seats e ∙ slot_before number window.before window.own window.after e next ∙ there.1)

-- and of no other
lowest : {O N : Type 0} {g : Ghosts O N} {h : Nodes N} (host : Host O N g h) (first number before : ℕ) (scheduler : SchedulerView) (window : Window N h) → IsAt host number before scheduler window
    → first ≤ number → is_some window.before ≡ ltb first number → (e : ℕ) (seat : Seat N h) → seat_of host e ≡ Some seat → first ≤ e
lowest host first number before scheduler window is since has e seat at = elim (slot_cases host.number host.before host.own host.after e seat at) [
  | inl found ↦ omega (arith, found.0, is.number, since)
  | inr more ↦ elim more [
    | inl found ↦ omega (arith, found.0, is.number, since)
    | inr found ↦
        let there : is_some window.before ≡ true = ap (λ x. is_some x) (sym is.before ∙ found.1) in
        let below : first < number = ltb-true first number (sym has ∙ there) in
        omega (arith, below, found.0, is.number)
  ]
]

-- it stands at its start
at_stands : {O N : Type 0} {g : Ghosts O N} {h : Nodes N} → ValuesGoOn → (host : Host O N g h) (number before : ℕ) (scheduler : SchedulerView) (window : Window N h) → IsAt host number before scheduler window
    → (places first : ℕ) → host.places ≡ places → (passed : List (List (List ℕ))) → AreFull places passed → number ≡ length passed + 1 → before ≡ length (values_of places passed)
    → scheduler ≡ scheduled (values_of places passed) (length (values_of places passed)) → AreStates places passed [] host.states → 1 ≤ first → first ≤ number → is_some window.before ≡ ltb first number
    → (contents : ℕ → Content) → ((e : ℕ) (seat : Seat N h) → seat_of host e ≡ Some seat → Stands seat (Running (started (contents e)))) → StandsAs host (resuming places passed first contents)
at_stands {O} {N} {g} {h} on host number before scheduler window is places first same passed full epoch cursor tables states some since has contents nodes =
    let vs : List (List ℕ) = values_of places passed in
    let whole : values_of places (passed ++ [] ∷ []) ≡ vs = on places passed [] full ∙ nothing_more places vs in
    record {
      epoch = is.number ∙ epoch;
      taken = is.taken;
      cursor = is.cursor ∙ cursor;
      full = subst (λ p. AreFull p passed) (sym same) full;
      scheduler = is.scheduler ∙ tables ∙ ap (λ (xs : List (List ℕ)). scheduled xs (length vs)) (sym whole)
          ∙ ap (λ p. scheduled (values_of p (passed ++ [] ∷ [])) (length vs)) (sym same);
      nodes = nodes;
      some = some;
      since = omega (arith, since, epoch);
      before = ap (λ (x : Option (Seat N h)). is_some x) is.before ∙ has ∙ ap (λ n. ltb first n) epoch;
      states = subst (λ p. AreStates p passed [] host.states) (sym same) states;
    }

-- the first epoch of which it has a node
pub first_of : (has : Bool) (passed : ℕ) → (1 ≤ first_from has passed) × (first_from has passed ≤ passed + 1) × ((has && ltb 0 passed) ≡ ltb (first_from has passed) (passed + 1))
    × (first_from has passed < passed + 1 → ((has && ltb 0 passed) ≡ true) × (passed + 1 ≤ first_from has passed + 1))
first_of has passed = by (has && ltb 0 passed) refl
  where
    some : (a b : Bool) → (a && b) ≡ true → b ≡ true
    some true b is = is
    some false b is = absurd (cc (is))

    by : (b : Bool) → (has && ltb 0 passed) ≡ b → (1 ≤ first_from has passed) × (first_from has passed ≤ passed + 1) × ((has && ltb 0 passed) ≡ ltb (first_from has passed) (passed + 1))
        × (first_from has passed < passed + 1 → ((has && ltb 0 passed) ≡ true) × (passed + 1 ≤ first_from has passed + 1))
    by true is =
        let first : first_from has passed ≡ passed = ap (λ b. cond b passed (passed + 1)) is in
        let above : 0 < passed = ltb-true 0 passed (some has (ltb 0 passed) is) in (
          omega (arith, first, above),
          omega (arith, first),
          is ∙ sym (lt-ltb (first_from has passed) (passed + 1) (omega (arith, first))),
          λ less. (is, omega (arith, first)),
        )
    by false is =
        let first : first_from has passed ≡ passed + 1 = ap (λ b. cond b passed (passed + 1)) is in (
          omega (arith, first),
          omega (arith, first),
          is ∙ sym (false_from_ne_true (ltb (first_from has passed) (passed + 1)) (λ yes. let less : first_from has passed < passed + 1 = ltb-true (first_from has passed) (passed + 1) yes in omega (arith, less, first))),
          λ less. absurd (omega (arith, less, first)),
        )

-- there is an epoch before exactly where some were passed
pub before_is : (has : Bool) (number passed : ℕ) → number ≡ passed + 1 → (has && ltb 1 number) ≡ (has && ltb 0 passed)
before_is has number passed is = by (ltb 0 passed) refl
  where
    by : (b : Bool) → ltb 0 passed ≡ b → (has && ltb 1 number) ≡ (has && ltb 0 passed)
    by true some =
        let above : 0 < passed = ltb-true 0 passed some in
        ap (λ b. has && b) (lt-ltb 1 number (omega (arith, above, is)) ∙ sym some)
    by false none =
        ap (λ b. has && b) (false_from_ne_true (ltb 1 number) (λ wrong.
        let above : 1 < number = ltb-true 1 number wrong in
        let some : ltb 0 passed ≡ true = lt-ltb 0 passed (omega (arith, above, is)) in
        let differ : true ≡ false = sym some ∙ none in cc (differ)) ∙ sym none)

pub starts_behind : {O N : Type 0} {g : Ghosts O N} {h : Nodes N} → ValuesGoOn → (host : Host O N g h) (old : O) (number before : ℕ) (scheduler : SchedulerView) (window : Window N h) (has : Bool) → IsAt host number before scheduler window
    → IsWindow g old number (has && ltb 1 number) window → (places : ℕ) → host.places ≡ places → IsHonest host → (passed : List (List (List ℕ))) → AreFull places passed → number ≡ length passed + 1
    → before ≡ length (values_of places passed) → scheduler ≡ scheduled (values_of places passed) (length (values_of places passed)) → AreStates places passed [] host.states
    → StandsBehind (g.begins old) places has passed host
starts_behind {O} {N} {g} {h} on host old number before scheduler window has is found places same honest passed full epoch cursor tables states =
    let first : ℕ = first_from has (length passed) in
    let facts = first_of has (length passed) in
    let flag : (has && ltb 1 number) ≡ (has && ltb 0 (length passed)) = before_is has number (length passed) epoch in
    let below : first < number → ((has && ltb 1 number) ≡ true) × (number ≤ first + 1) = λ less.
    let may = facts.3 (omega (arith, less, epoch)) in (flag ∙ may.0, omega (arith, may.1, epoch)) in
    let at = content_of host old first (number + 1) honest (at_all host old first number before scheduler window (has && ltb 1 number) is found below) in
    let contents : ℕ → Content = λ e. (at e).0 in
    let last : number + 1 ≡ length passed + 2 = omega (arith, epoch) in
    let has_is : is_some window.before ≡ ltb first number = window_before g old number (has && ltb 1 number) window.before found.before ∙ flag ∙ facts.2 ∙ ap (λ n. ltb first n) (sym epoch) in (
      contents,
      subst (λ n. AreBegun (g.begins old) first n contents) last (are_begun host old first (number + 1) at),
      at_stands on host number before scheduler window is places first same passed full epoch cursor tables states facts.0 (omega (arith, facts.1, epoch)) has_is contents
          (λ e seat there. (at e).1.stands seat there (lowest host first number before scheduler window is (omega (arith, facts.1, epoch)) has_is e seat there)
          (omega (arith, seat_within host e seat there, is.number))),
    )

-- the state that was made is that of its own epoch
made_states : (me members places : ℕ) (start : Start) (states : StatesView) → HasMade me members start states → start.head.places ≡ places → (passed : List (List (List ℕ))) → StartsBehind start places passed
    → AreStates places passed [] states
made_states me members places start states has same passed behind =
    let made = subst (λ p. IsMade (no_states me members) start.head.epoch p start.head.before start.machine has.bytes) same has.made in
    let state : IsStateOf me members places passed has.bytes =
    made_state (no_states me members) start.head.epoch places start.head.before start.machine has.bytes passed behind.epoch behind.before behind.tables made in
    subst (λ (x : StatesView). AreStates places passed [] x) (sym has.is) (own_states places passed (no_states me members) has.bytes state)

-- a host that started behind these epochs
pub started_behind : {O N : Type 0} {g : Ghosts O N} {h : Nodes N} → GoesOnFromTables → ValuesGoOn → (old : O) (start : Start) (host : Host O N g h) → StartsOver old start host → (places : ℕ) → start.head.places ≡ places
    → IsHonest host → (passed : List (List (List ℕ))) → AreFull places passed → StartsBehind start places passed → StandsBehind (g.begins old) places start.has_before passed host
started_behind {O} {N} {g} {h} from on old start host over places same honest passed full behind =
    let tables : begun_from start.machine start.head.before ≡ scheduled (values_of places passed) (length (values_of places passed)) =
    (λ i. begun_from (behind.tables i) (behind.before i)) ∙ from (values_of places passed) in
    starts_behind on host old start.head.epoch start.head.before (begun_from start.machine start.head.before) over.window start.has_before over.at over.found places (over.places ∙ same) honest passed full
    behind.epoch behind.before tables (made_states (g.member old).0 (g.member old).1 places start host.states over.states same passed behind)

-- one that did nothing
pub first_behind : {O N : Type 0} {g : Ghosts O N} {h : Nodes N} → GoesOnFromTables → ValuesGoOn → (old : O) (host : Host O N g h) (places : ℕ) (window : Window N h) → IsAt host 1 0 no_values window → IsWindow g old 1 false window
    → host.places ≡ places → host.states ≡ no_states (g.member old).0 (g.member old).1 → IsHonest host → (contents : ℕ → Content) × AreBegun (g.begins old) 1 2 contents × StandsAs host (opening contents)
first_behind {O} {N} {g} {h} from on old host places window is found same states honest =
    starts_behind on host old 1 0 no_values window false is found places same honest [] tt refl refl (from [])
    (subst (λ (x : StatesView). AreStates places [] [] x) (sym states) (record { own_state = refl; next_state = tt }))

-- it stands so once its own state was kept
pub stays_behind : {O N : Type 0} {g : Ghosts O N} {h : Nodes N} (mid new : Host O N g h) → Stays mid new → (begins : ℕ → Content → Type 0) (places : ℕ) (has : Bool) (passed : List (List (List ℕ)))
    → StandsBehind begins places has passed mid → StandsBehind begins places has passed new
stays_behind mid new stays begins places has passed (contents, begun, stands) =
    (contents, begun, stays_stands mid new stays (resuming places passed (first_from has (length passed)) contents) stands)

-- what has to hold of a start
pub start_within : {members places : ℕ} (head : StateHead) → CanStart members places head → head.epoch ≤ head.before + 1
start_within head can = few_epochs head.epoch head.before head.places (omega (arith, can.of.places, can.few.some)) can.of.counts

some_epoch : (e before places : ℕ) → 1 ≤ places → before + places ≡ e * places → 1 ≤ e
some_epoch zero before places some is = absurd (omega (arith, is, some))
some_epoch (suc e) before places some is = omega arith

pub start_some : {members places : ℕ} (head : StateHead) → CanStart members places head → 1 ≤ head.epoch
start_some head can = some_epoch head.epoch head.before head.places (omega (arith, can.of.places, can.few.some)) can.of.counts

-- a head at which none can start is of no state at which one can
pub head_starts_none : OneFrame → (members places : ℕ) (bytes : List ℕ) (head : StateHead) (spelling : List ℕ) → IsFramed bytes head spelling → ¬ CanStart members places head → IsNoneToStart members places bytes NoState
head_starts_none one members places bytes head spelling framed cannot other rows state can =
    cannot (subst (λ (x : StateHead). CanStart members places x) (sym (one bytes head other spelling state.0 framed state.1).0) can)

-- nor are tables that can't be read
pub unread_starts_none : OneFrame → (members places : ℕ) (bytes : List ℕ) (head : StateHead) (spelling : List ℕ) → IsFramed bytes head spelling → CanStart members places head
    → (why : RowsFault) → ((rows : Rows) → Spells spelling rows → why ≡ rows_faults.OutOfMemory) → IsNoneToStart members places bytes (unread why)
unread_starts_none one members places bytes head spelling framed can why lacks = by why lacks
  where
    none : (why : RowsFault) → ((rows : Rows) → Spells spelling rows → why ≡ rows_faults.OutOfMemory) → why ≢ rows_faults.OutOfMemory → IsNoneToStart members places bytes NoState
    none why lacks differ other rows state allowed =
        differ (lacks rows (subst (λ (t : List ℕ). Spells t rows) (sym (one bytes head other spelling state.0 framed state.1).1) state.2))

    by : (why : RowsFault) → ((rows : Rows) → Spells spelling rows → why ≡ rows_faults.OutOfMemory) → IsNoneToStart members places bytes (unread why)
    by rows_faults.Short lacks = none rows_faults.Short lacks (λ is. cc (is))
    by rows_faults.Trailing lacks = none rows_faults.Trailing lacks (λ is. cc (is))
    by rows_faults.NoChannel lacks = none rows_faults.NoChannel lacks (λ is. cc (is))
    by rows_faults.NoFlow lacks = none rows_faults.NoFlow lacks (λ is. cc (is))
    by rows_faults.NoRequest lacks = none rows_faults.NoRequest lacks (λ is. cc (is))
    by (rows_faults.NotFirm ch) lacks = none (rows_faults.NotFirm ch) lacks (λ is. cc (is))
    by rows_faults.OutOfMemory lacks = (refl, (head, spelling, framed, can))

-- each node of a host that started was opened
pub over_opened : {O N : Type 0} {g : Ghosts O N} {h : Nodes N} (old : O) (start : Start) (host : Host O N g h) → StartsOver old start host → (e : ℕ) (seat : Seat N h) → seat_of host e ≡ Some seat → IsOpened g old e seat
over_opened old start host over =
    at_opened host old start.head.epoch start.head.before (begun_from start.machine start.head.before) over.window (starts_before start) over.at over.found

pub over_members : {O N : Type 0} {g : Ghosts O N} {h : Nodes N} (old : O) (start : Start) (host : Host O N g h) → StartsOver old start host → AreMembers host
over_members old start host over = at_members host old over.keeps (over_opened old start host over)

pub over_kept : {O N : Type 0} {g : Ghosts O N} {h : Nodes N} (old : O) (start : Start) (host : Host O N g h) → StartsOver old start host → HaveKept host
over_kept old start host over = at_kept host old (over_opened old start host over)

-- and of one whose own state was kept then
pub stored_honest : {O N : Type 0} {g : Ghosts O N} {h : Nodes N} (mid new : Host O N g h) → StoresOwn mid new → IsHonest new → IsHonest mid
stored_honest mid new stores honest e seat at = honest e seat (stays_seats mid new stores.stays e ∙ at)

none_before : (start : Start) → start.has_before ≡ false → starts_before start ≡ false
none_before start alone = ap (λ b. b && ltb 1 start.head.epoch) alone

pub keeps_own : {O N : Type 0} {g : Ghosts O N} {h : Nodes N} (old : O) (start : Start) (mid new : Host O N g h) → start.has_before ≡ false → StartsOver old start mid → StoresOwn mid new → KeepsOwn old start.head start.machine new
keeps_own {O} {N} {g} {h} old start mid new alone over stores =
    let own : Some over.states.bytes ≡ Some stores.bytes = ap (λ (s : StatesView). s.own) (sym over.states.is) ∙ stores.is in
    let same : stores.bytes ≡ over.states.bytes = sym (same_inside over.states.bytes stores.bytes own) in
    record {
      bytes = over.states.bytes;
      made = over.states.made;
      keeps = record {
        opened = mid.opens;
        stored = stores.stored;
        opens = subst (λ b. OpensAll g.opens_node old (opened_in start.head.epoch b) mid.opens) (none_before start alone) over.opens;
        keeps = subst (λ n. g.keeps_state mid.opens n over.states.bytes stores.stored) over.at.number
            (subst (λ (b : List ℕ). g.keeps_state mid.opens mid.number b stores.stored) same stores.keeps);
        lets_go = subst (λ n. g.lets_go stores.stored n new.opens) over.at.number stores.lets_go;
      };
    }

-- why there is none
pub none_at : {O N : Type 0} (g : Ghosts O N) (old : O) (p p' : ℕ) (head : StateHead) (why : JoinFault) (new : O) → p ≡ p' → IsNoStart g old p head why new → IsNoStart g old p' head why new
none_at {O} {N} g old p p' head why new same none = subst (λ n. IsNoStart g old n head why new) same none

pub none_by : {O N : Type 0} (g : Ghosts O N) (old : O) (places : ℕ) (bytes : List ℕ) (start : Start) (why : JoinFault) (new : O) → StartsBy (g.member old).1 places bytes start → IsNoStart g old places start.head why new
    → IsNoStartBy g old places bytes why new
none_by g old places bytes start NoState new by none = absurd (none.0 by.can)
none_by g old places bytes start (Node fault) new by none = ((start.head, by.state.0, by.state.1, by.can), none.1, none.2)

pub nothing_opened : {O N : Type 0} (g : Ghosts O N) (old : O) (places : ℕ) (bytes : List ℕ) (why : JoinFault) → IsNoneToStart (g.member old).1 places bytes why → IsNoStartBy g old places bytes why old
nothing_opened g old places bytes NoState none = (none, refl)
nothing_opened g old places bytes (Node fault) none = (none.1, inr none.0, keeps_none g old)

-- the bytes of the state behind these epochs are a start behind them
pub by_behind : OneState → (members places : ℕ) (bytes : List ℕ) (start : Start) → StartsBy members places bytes start → (me : ℕ) (passed : List (List (List ℕ))) → IsStateOf me members places passed bytes → StartsBehind start places passed
by_behind one members places bytes start by me passed is =
    let head : StateHead = record { epoch = length passed + 1; places = places; before = length (values_of places passed); id = me; members = members } in
    let same = one bytes start.head head start.machine (tables_after (values_of places passed)) by.state is in
    record { epoch = ap (λ (x : StateHead). x.epoch) same.0; before = ap (λ (x : StateHead). x.before) same.0; tables = same.1 }

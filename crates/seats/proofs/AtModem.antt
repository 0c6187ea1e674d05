-- A modem's event, from the one modem to all of them.
use Rattle.std.proofs.Common.{◌≡◌, ◌<◌, ◌≤◌, ℕ, zero, suc, List, [], ◌∷◌, Option, Some, None, length, get_or, slice_get}
use Rattle.std.proofs.Common.{slice_set, refl, sym, ◌∙◌, ap, subst, arith}
use Rattle.std.specs.Prelude.{IfSome, IsErr, Result, Ok, Err}
use Rattle.std.proofs.lemmas.List.Elements.{All-head, All-tail}
use Rattle.std.proofs.lemmas.List.{set-get_or}
use Rattle.std.proofs.lemmas.Option.{slice_get-get_or, slice_get_past, slice_get_read}
use Rattle.grant_machine.specs.declared.output.Output.{Output}
use Rattle.modem.specs.declared.types.Heard.{Heard}
use Rattle.modem.specs.declared.types.Sending.{Sending}
use Rattle.modem.specs.declared.types.TimeBack.{TimeBack}
use Rattle.modem.specs.State.{KnownChannel, channel_clock, State, new_modem, channel_of}
use Rattle.modem.specs.Held.{Hearing, HasHeard}
use Rattle.modem.specs.Hears.{Hears}
use Rattle.modem.specs.Owner.{IsTimely}
use Rattle.modem.specs.Ticks.{Ticks}
use Rattle.seats.specs.declared.answer.Answer.{Answer}
use Rattle.seats.specs.declared.answer.Answer.TheVariants.{Refused, Heard as HeardSo, Ticked}
use Rattle.world_events.specs.declared.refusal.EventRefusal.TheVariants.{NoModem, NoOutput, TimeBack as ClockPast}
use Rattle.seats.specs.declared.answer.ReleasedOutput.{ReleasedOutput}
use Rattle.seats.specs.Receiver.{Receiver, new_receiver}
use Rattle.seats.specs.Modems.{HearsOutput, Listens, ComesTo, OfModem}
use Rattle.seats.specs.Receiving.{IsReceiver, AreReceivers, IsNew, AreNew, new_receivers}

not_less : (a b : ℕ) → (a < b → ⊥) → b ≤ a
not_less a b later = omega arith

less : (a b : ℕ) → (b ≤ a → ⊥) → a < b
less a b soon = omega arith

-- there are as many receivers as modems
length_same : (vs : List State) (rs : List Receiver) → AreReceivers vs rs → length rs ≡ length vs
length_same [] [] are = refl
length_same (v ∷ vs) (r ∷ rs) are = ap suc (length_same vs rs are.1)
length_same vs rs are = absurd are

-- what the modem at a place stands for
receiver_at : (vs : List State) (rs : List Receiver) (m : ℕ) (v : State) → AreReceivers vs rs → m < length vs → v ≡ get_or vs m v → (r : Receiver) × (slice_get rs m ≡ Some r) × IsReceiver v r
receiver_at [] rs m v are within is = absurd (omega arith)
receiver_at (w ∷ vs) [] m v are within is = absurd are
receiver_at (w ∷ vs) (r ∷ rs) zero v are within is = (r, refl, subst (λ (x : State). IsReceiver x r) (sym is) are.0)
receiver_at (w ∷ vs) (r ∷ rs) (suc m) v are within is = receiver_at vs rs m v are.1 (omega arith) is

-- one modem goes on
receivers_set : (vs : List State) (rs : List Receiver) (m : ℕ) (v : State) (r : Receiver) → AreReceivers vs rs → IsReceiver v r → AreReceivers (slice_set vs m v) (slice_set rs m r)
receivers_set [] [] m v r are here = tt
receivers_set (w ∷ vs) (x ∷ rs) zero v r are here = (here, are.1)
receivers_set (w ∷ vs) (x ∷ rs) (suc m) v r are here = (are.0, receivers_set vs rs m v r are.1 here)
receivers_set vs rs m v r are here = absurd are

-- what modem m does, the modems do
pub one_does : (Does : Receiver → Answer → Receiver → Type 0) (answer : Answer) (vs : List State) (rs : List Receiver) (m : ℕ) (v v' : State) → AreReceivers vs rs → m < length vs → v ≡ get_or vs m v → ((r : Receiver) → IsReceiver v r → (after : Receiver) × Does r answer after × IsReceiver v' after) → (after : List Receiver) × OfModem rs m (slice_get rs m) Does answer after × AreReceivers (slice_set vs m v') after
one_does Does answer vs rs m v v' are within is goes =
    let at = receiver_at vs rs m v are within is in
    let one = goes at.0 at.2 in
    (slice_set rs m one.0, rw at.1 (one.0, one.1, refl), receivers_set vs rs m v' one.0 are one.2)

-- modem m stays as it is
pub one_stays : (Does : Receiver → Answer → Receiver → Type 0) (answer : Answer) (vs : List State) (rs : List Receiver) (m : ℕ) → AreReceivers vs rs → m < length vs → ((r : Receiver) → Does r answer r) → (after : List Receiver) × OfModem rs m (slice_get rs m) Does answer after × AreReceivers vs after
one_stays Does answer vs rs m are within stays =
    let r = get_or rs m (new_receiver 0) in
    let Goes = λ (found : Option Receiver). OfModem rs m found Does answer rs in
    (rs, subst Goes (sym (slice_get-get_or rs m (new_receiver 0) (omega (arith, within, length_same vs rs are)))) (r, stays r, sym (set-get_or rs m (new_receiver 0))), are)

-- where there is no modem m, nothing happens
pub none_does : (Does : Receiver → Answer → Receiver → Type 0) (vs : List State) (rs : List Receiver) (m : ℕ) → AreReceivers vs rs → length vs ≤ m → (after : List Receiver) × OfModem rs m (slice_get rs m) Does (Refused NoModem) after × AreReceivers vs after
none_does Does vs rs m are past =
    let none : slice_get rs m ≡ None = slice_get_past rs m (omega (arith, length_same vs rs are)) in
    (rs, rw none (refl, refl), are)

-- a modem that has heard nothing stands for no hearings
pub new_stands : (id : ℕ) → HasHeard (new_modem id) []
new_stands id = record {
  leases = λ ch sid m late. ((λ is. absurd (cc (is))), (λ none. absurd none));
  lasts = λ ch sid m late. ((λ is. absurd (cc (is))), (λ none. absurd none));
  holds = λ ch m sid iuc later. ((λ none. absurd none), (λ none. absurd none));
}

-- new modems stand for new receivers
pub new_are : (vs : List State) → AreNew vs → AreReceivers vs (new_receivers vs)
new_are [] new = tt
new_are (v ∷ vs) new =
    let here : v ≡ new_modem v.id = All-head IsNew v vs new in
    (record { state = sym here; heard = subst (λ (x : State). HasHeard x []) (sym here) (new_stands v.id) }, new_are vs (All-tail IsNew v vs new))

-- a modem that took an output stands for a receiver that heard it
pub hears_on : (v v' : State) (o : Output) (near : ℕ) (h : Heard) → IsTimely o near → Hears v o near h v' → ((hearings : List Hearing) → HasHeard v hearings → HasHeard v' (record { output = o; near = near; answer = h } ∷ hearings)) → (r : Receiver) → IsReceiver v r → (after : Receiver) × HearsOutput r o near (HeardSo h) after × IsReceiver v' after
hears_on v v' o near h timely hears stands r is =
    let after : Receiver = record { state = v'; heard = record { output = o; near = near; answer = h } ∷ r.heard } in
    (after, (timely, rw is.state hears, refl), record { state = refl; heard = stands r.heard is.heard })

-- the output that is there is the one that is heard
pub listens : (outputs : List ReleasedOutput) (i near : ℕ) (x : ReleasedOutput) (answer : Answer) (r after : Receiver) → i < length outputs → x ≡ get_or outputs i x → HearsOutput r x.numbered.output near answer after → Listens r (slice_get outputs i) near answer after
listens outputs i near x answer r after within is hears = rw (slice_get_read outputs (length outputs) i x refl within is) hears

-- no output is there
pub hears_none : (outputs : List ReleasedOutput) (i near : ℕ) (r : Receiver) → length outputs ≤ i → Listens r (slice_get outputs i) near (Refused NoOutput) r
hears_none outputs i near r past = rw (slice_get_past outputs i past) (refl, refl)

-- the answer of a tick that is taken
abbrev the_reply : Option Sending → Result (Option Sending) TimeBack
the_reply sending = Ok sending

-- and of one that isn't
abbrev the_refusal : TimeBack → Result (Option Sending) TimeBack
the_refusal fault = Err fault

-- a modem that came to a minislot stands for a receiver that did
pub comes_on : (v v' : State) (slot random : ℕ) (found : Option KnownChannel) (sending : Option Sending) → (found ≡ None → (the_reply sending ≡ Ok None) × (v' ≡ v)) → IfSome found (λ c. slot < channel_clock c → IsErr (the_reply sending) × (v' ≡ v)) → IfSome found (λ c. channel_clock c ≤ slot → Ticks v c slot random sending v') → ((hearings : List Hearing) → HasHeard v hearings → HasHeard v' hearings) → (r : Receiver) → IsReceiver v r → (after : Receiver) × ComesTo r slot random found (Ticked sending) after × IsReceiver v' after
comes_on v v' slot random None sending unknown back ticks stands r is =
    let same = unknown refl in
    let silent : sending ≡ None = cc (same.0) in
    (r, (silent, refl), record { state = is.state ∙ sym same.1; heard = stands r.heard is.heard })
comes_on v v' slot random (Some c) sending unknown back ticks stands r is =
    let late : channel_clock c ≤ slot = not_less slot (channel_clock c) (λ before. let failed = (back before).0 in cc) in
    let after : Receiver = record { state = v'; heard = r.heard } in
    (after, (late, rw is.state (ticks late), refl), record { state = refl; heard = stands r.heard is.heard })

-- a modem that can't go back in time stands for a receiver that can't
pub comes_back : (v v' : State) (slot random : ℕ) (found : Option KnownChannel) (fault : TimeBack) → (found ≡ None → (the_refusal fault ≡ Ok None) × (v' ≡ v)) → IfSome found (λ c. slot < channel_clock c → IsErr (the_refusal fault) × (v' ≡ v)) → IfSome found (λ c. channel_clock c ≤ slot → ⊥) → (r : Receiver) → IsReceiver v r → (after : Receiver) × ComesTo r slot random found (Refused ClockPast) after × IsReceiver v' after
comes_back v v' slot random None fault unknown back ticks r is = cc ((unknown refl).0)
comes_back v v' slot random (Some c) fault unknown back ticks r is =
    let before : slot < channel_clock c = less slot (channel_clock c) ticks in
    (r, (before, refl), subst (λ (x : State). IsReceiver x r) (sym (back before).1) is)

-- the channel is looked for in the receiver's state
pub comes_at : (v v' : State) (ch slot random : ℕ) (answer : Answer) → ((r : Receiver) → IsReceiver v r → (after : Receiver) × ComesTo r slot random (channel_of v.channels ch) answer after × IsReceiver v' after) → (r : Receiver) → IsReceiver v r → (after : Receiver) × ComesTo r slot random (channel_of r.state.channels ch) answer after × IsReceiver v' after
comes_at v v' ch slot random answer comes r is =
    let one = comes r is in
    let C = λ (x : State). ComesTo r slot random (channel_of x.channels ch) answer one.0 in
    (one.0, subst C (sym is.state) one.1, one.2)

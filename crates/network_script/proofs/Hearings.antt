-- What the modems of a run have heard was released, what they stand for is kept, and what they send is held.
use Rattle.std.proofs.Common.{◌≡◌, ◌≢◌, ◌⊎◌, inl, inr, ⊎_elim, ℕ, List, [], ◌∷◌, ◌++◌, refl, sym, ◌∙◌, ap, subst}
use Rattle.std.proofs.Common.{Option, Some, None, slice_get, slice_set, MatchBool, Bool, true, false, ◌==◌}
use Rattle.std.proofs.lemmas.Bool.Decides.{eqb_tells}
use Rattle.std.proofs.lemmas.Option.{same_Some, slice_get_within}
use Rattle.ballots.specs.Voting.{IsIn}
use Rattle.grant_machine.specs.declared.output.Output.{Output}
use Rattle.grant_machine.specs.declared.output.Output.TheVariants as output
use Rattle.modem.specs.declared.types.Heard.{Heard}
use Rattle.modem.specs.declared.types.Heard.TheVariants as heard
use Rattle.modem.specs.declared.types.Sending.{Sending}
use Rattle.modem.specs.State.{KnownChannel, State, channel_of, lease_of}
use Rattle.modem.specs.Held.{Hearing, Held, HasHeard, unicast_sid}
use Rattle.modem.specs.Hears.{Hears, leases_heard}
use Rattle.modem.specs.Owner.{IsTimely}
use Rattle.modem.proofs.Callers.{Hears-stands, Ticks-stands, Ticks-held}
use Rattle.world_events.specs.declared.event.Event.{Event}
use Rattle.world_events.specs.declared.event.Event.TheVariants as event
use Rattle.seats.specs.declared.answer.Answer.{Answer}
use Rattle.seats.specs.declared.answer.Answer.TheVariants as answer
use Rattle.world_events.specs.declared.refusal.EventRefusal.TheVariants as refusal
use Rattle.seats.specs.declared.answer.ReleasedOutput.{ReleasedOutput}
use Rattle.seats.specs.declared.answer.Transmission.{Transmission}
use Rattle.seats.specs.Receiver.{Receiver}
use Rattle.seats.specs.Modems.{HearsOutput, Listens, Wants, ComesTo, OfModem, ModemNext, sent_at}
use Rattle.network_script.proofs.Lists.{in_append, get_same, get_other, get_set, get_in}

-- each output that was heard was released, and each MAP was heard near its start
abbrev pub AreReleased : List ReleasedOutput → List Hearing → Type 0
AreReleased outputs [] = Unit {0}
AreReleased outputs (h ∷ earlier) = ((x : ReleasedOutput) × IsIn outputs x × (x.numbered.output ≡ h.output)) × IsTimely h.output h.near × AreReleased outputs earlier

pub released_more : (old new : List ReleasedOutput) → ((x : ReleasedOutput) → IsIn old x → IsIn new x) → (hearings : List Hearing) → AreReleased old hearings → AreReleased new hearings
released_more old new stays [] all = tt
released_more old new stays (h ∷ earlier) all = ((all.0.0, stays all.0.0 all.0.1, all.0.2), all.1, released_more old new stays earlier all.2)

-- a modem goes on: its id stays, what it stands for is kept, what it heard was released, and what it held it holds
pub record Follows (outputs : List ReleasedOutput) (r r' : Receiver) : Type 0 where
  pub id : r'.state.id ≡ r.state.id
  pub stands : HasHeard r.state r.heard → HasHeard r'.state r'.heard
  pub heard : AreReleased outputs r.heard → AreReleased outputs r'.heard
  pub held : (n ch m sid : ℕ) → Held n r.heard ch m sid → Held n r'.heard ch m sid

pub follows_same : (outputs : List ReleasedOutput) (r r' : Receiver) → r' ≡ r → Follows outputs r r'
follows_same outputs r r' is = subst (λ (x : Receiver). Follows outputs r x) (sym is) record { id = refl; stands = λ s. s; heard = λ a. a; held = λ n ch m sid h. h }

-- what is sent is held by modem m
abbrev pub SendsHeld : List Receiver → List Transmission → Type 0
SendsHeld modems sent = (x : Transmission) (sid : ℕ) → IsIn sent x → unicast_sid (Some x.sending) ≡ Some sid → (r : Receiver) × (slice_get modems x.modem ≡ Some r) × Held r.state.id r.heard x.channel x.slot sid

hears_id : (old new : State) (o : Output) (near : ℕ) (h : Heard) → Hears old o near h new → new.id ≡ old.id
hears_id old new output.Nothing near h is = ap (λ (s : State). s.id) is.1
hears_id old new (output.Refused n) near h is = ap (λ (s : State). s.id) is.1
hears_id old new (output.ChannelSet ch ucd) near h is = ap (λ (s : State). s.id) is.1
hears_id old new (output.Assigned modem ch sid first last) near h is = go (modem == old.id) is
  where
    go : (mine : Bool) → MatchBool mine ((h ≡ heard.Taken) × (new ≡ record old { leases = leases_heard old (lease_of ch sid first last) })) ((h ≡ heard.NotMine) × (new ≡ old)) → new.id ≡ old.id
    go true is = ap (λ (s : State). s.id) is.1
    go false is = ap (λ (s : State). s.id) is.1
hears_id old new (output.Map ch start len bytes) near heard.Taken is = is.8.id
hears_id old new (output.Map ch start len bytes) near heard.Past is = is.8.id
hears_id old new (output.Map ch start len bytes) near heard.OtherUcd is = ap (λ (s : State). s.id) is.5
hears_id old new (output.Map ch start len bytes) near heard.Unreadable is = ap (λ (s : State). s.id) is.1
hears_id old new (output.Map ch start len bytes) near heard.NotMine is = absurd is

-- after a write at k, where something stood, what stood at j or what was written stands there
set_forth : {X : Type 0} (xs : List X) (k j : ℕ) (x y z : X) → slice_get xs k ≡ Some z → slice_get xs j ≡ Some y → ((j ≡ k) × (slice_get (slice_set xs k x) j ≡ Some x)) ⊎ ((j ≢ k) × (slice_get (slice_set xs k x) j ≡ Some y))
set_forth xs k j x y z there is =
    ⊎_elim
    (λ at. inl (at.1, subst (λ i. slice_get (slice_set xs k x) i ≡ Some x) (sym at.1) (get_same xs k x (slice_get_within xs k z there))))
    (λ apart. inr (apart.1, get_other xs k j x (λ e. apart.1 (sym e)) ∙ is))
    (eqb_tells j k)

-- the modems keep their ids, each stands for what it heard, which was released, and what was sent is held
pub record ModemsOk (ids : List ℕ) (outputs : List ReleasedOutput) (modems : List Receiver) (sent : List Transmission) : Type 0 where
  pub named : (j : ℕ) (r : Receiver) → slice_get modems j ≡ Some r → slice_get ids j ≡ Some r.state.id
  pub stands : (j : ℕ) (r : Receiver) → slice_get modems j ≡ Some r → HasHeard r.state r.heard
  pub heard : (j : ℕ) (r : Receiver) → slice_get modems j ≡ Some r → AreReleased outputs r.heard
  pub sends : SendsHeld modems sent

pub ok_outputs : (ids : List ℕ) (old new : List ReleasedOutput) (modems : List Receiver) (sent : List Transmission) → ((x : ReleasedOutput) → IsIn old x → IsIn new x) → ModemsOk ids old modems sent → ModemsOk ids new modems sent
ok_outputs ids old new modems sent stays ok = record { named = ok.named; stands = ok.stands; heard = λ j r there. released_more old new stays r.heard (ok.heard j r there); sends = ok.sends }

pub ok_more : (ids : List ℕ) (outputs : List ReleasedOutput) (modems : List Receiver) (sent more : List Transmission) → SendsHeld modems more → ModemsOk ids outputs modems sent → ModemsOk ids outputs modems (sent ++ more)
ok_more ids outputs modems sent more held ok = record {
  named = ok.named;
  stands = ok.stands;
  heard = ok.heard;
  sends = λ x sid there is. ⊎_elim (λ old. ok.sends x sid old is) (λ new. held x sid new is) (in_append sent more x there);
}

-- what holds of each at its place, and of the one that is set, holds of each after
set_each : {X : Type 0} (P : ℕ → X → Type 0) (xs : List X) (k : ℕ) (x : X) → ((j : ℕ) (y : X) → slice_get xs j ≡ Some y → P j y) → P k x → (j : ℕ) (y : X) → slice_get (slice_set xs k x) j ≡ Some y → P j y
set_each P xs k x each here j y there = elim (get_set xs k j x y there) [
  | inl is ↦ subst (λ i. P i y) (sym is.0) (subst (P k) (sym is.1) here)
  | inr apart ↦ each j y apart.1
]

-- one modem goes on
pub ok_set : (ids : List ℕ) (outputs : List ReleasedOutput) (modems : List Receiver) (sent : List Transmission) (m : ℕ) (r r' : Receiver) → slice_get modems m ≡ Some r → Follows outputs r r' → ModemsOk ids outputs modems sent → ModemsOk ids outputs (slice_set modems m r') sent
ok_set ids outputs modems sent m r r' here goes ok = record {
  named = set_each (λ (j : ℕ) (s : Receiver). slice_get ids j ≡ Some s.state.id) modems m r' ok.named (ok.named m r here ∙ ap (λ (n : ℕ). Some n) (sym goes.id));
  stands = set_each (λ (j : ℕ) (s : Receiver). HasHeard s.state s.heard) modems m r' ok.stands (goes.stands (ok.stands m r here));
  heard = set_each (λ (j : ℕ) (s : Receiver). AreReleased outputs s.heard) modems m r' ok.heard (goes.heard (ok.heard m r here));
  sends = sends;
}
  where
    still : (x : Transmission) (sid : ℕ) (s : Receiver) → slice_get modems x.modem ≡ Some s → Held s.state.id s.heard x.channel x.slot sid
        → ((x.modem ≡ m) × (slice_get (slice_set modems m r') x.modem ≡ Some r')) ⊎ ((x.modem ≢ m) × (slice_get (slice_set modems m r') x.modem ≡ Some s))
        → (t : Receiver) × (slice_get (slice_set modems m r') x.modem ≡ Some t) × Held t.state.id t.heard x.channel x.slot sid
    still x sid s was held (inl is) =
        let same : s ≡ r = same_Some s r (sym was ∙ ap (slice_get modems) is.0 ∙ here) in
        let mine : Held r.state.id r.heard x.channel x.slot sid = subst (λ (y : Receiver). Held y.state.id y.heard x.channel x.slot sid) same held in
        (r', is.1, subst (λ (n : ℕ). Held n r'.heard x.channel x.slot sid) (sym goes.id) (goes.held r.state.id x.channel x.slot sid mine))
    still x sid s was held (inr there) = (s, there.1, held)

    sends : SendsHeld (slice_set modems m r') sent
    sends x sid there is =
        let old = ok.sends x sid there is in
        still x sid old.0 old.1 old.2 (set_forth modems m x.modem r' old.0 r here old.1)

wants_follow : (outputs : List ReleasedOutput) (r r' : Receiver) (ch sid n : ℕ) (told : Answer) → Wants r ch sid n told r' → Follows outputs r r'
wants_follow outputs r r' ch sid n answer.Finished is = subst (λ (x : Receiver). Follows outputs r x) (sym is.1) record { id = refl; stands = λ s. record { leases = s.leases; lasts = s.lasts; holds = s.holds }; heard = λ a. a; held = λ k c m x h. h }
wants_follow outputs r r' ch sid n (answer.WantRefused fault) is = follows_same outputs r r' is.1
wants_follow outputs r r' ch sid n (answer.Refused refusal.OutOfMemory) is = follows_same outputs r r' is.1
wants_follow outputs r r' ch sid n told none = absurd none

hears_follow : (outputs : List ReleasedOutput) (r r' : Receiver) (x : ReleasedOutput) (near : ℕ) (told : Answer) → IsIn outputs x → HearsOutput r x.numbered.output near told r' → Follows outputs r r'
hears_follow outputs r r' x near (answer.Heard h) there is = record {
  id = hears_id r.state r'.state x.numbered.output near h is.1;
  stands = λ s. subst (λ (hs : List Hearing). HasHeard r'.state hs) (sym is.2) (Hears-stands r.state r'.state x.numbered.output near h r.heard is.1 s);
  heard = λ a. subst (AreReleased outputs) (sym is.2) ((x, there, refl), is.0, a);
  held = λ n ch m sid held. subst (λ (hs : List Hearing). Held n hs ch m sid) (sym is.2) (held.0, inr held.1);
}
hears_follow outputs r r' x near (answer.Refused refusal.TooOld) there is = follows_same outputs r r' is.1
hears_follow outputs r r' x near (answer.Refused refusal.OutOfMemory) there is = follows_same outputs r r' is.2
hears_follow outputs r r' x near told there none = absurd none

listens_follow : (outputs : List ReleasedOutput) (r r' : Receiver) (i near : ℕ) (told : Answer) (there : Option ReleasedOutput) → slice_get outputs i ≡ there → Listens r there near told r' → Follows outputs r r'
listens_follow outputs r r' i near told None is unmoved = follows_same outputs r r' unmoved.1
listens_follow outputs r r' i near told (Some x) is hears = hears_follow outputs r r' x near told (get_in outputs i x is) hears

comes_follow : (outputs : List ReleasedOutput) (r r' : Receiver) (ch slot random : ℕ) (told : Answer) (known : Option KnownChannel) → channel_of r.state.channels ch ≡ known → ComesTo r slot random known told r' → Follows outputs r r'
comes_follow outputs r r' ch slot random (answer.Ticked sending) (Some c) found is = record {
  id = is.1.id;
  stands = λ s. subst (λ (hs : List Hearing). HasHeard r'.state hs) (sym is.2) (Ticks-stands r.state r'.state c ch slot random sending r.heard found is.0 is.1 s);
  heard = λ a. subst (AreReleased outputs) (sym is.2) a;
  held = λ n ch m sid held. subst (λ (hs : List Hearing). Held n hs ch m sid) (sym is.2) held;
}
comes_follow outputs r r' ch slot random (answer.Refused refusal.TimeBack) (Some c) found is = follows_same outputs r r' is.1
comes_follow outputs r r' ch slot random (answer.Refused refusal.OutOfMemory) (Some c) found is = follows_same outputs r r' is.1
comes_follow outputs r r' ch slot random (answer.Ticked sending) None found is = follows_same outputs r r' is.1
comes_follow outputs r r' ch slot random (answer.Refused refusal.OutOfMemory) None found is = follows_same outputs r r' is
comes_follow outputs r r' ch slot random told (Some c) found none = absurd none
comes_follow outputs r r' ch slot random told None found none = absurd none

-- a transmission that a tick made is held
tick_held : (r r' : Receiver) (ch slot random : ℕ) (sending : Sending) (sid : ℕ) (known : Option KnownChannel) → channel_of r.state.channels ch ≡ known → HasHeard r.state r.heard → ComesTo r slot random known (answer.Ticked (Some sending)) r' → unicast_sid (Some sending) ≡ Some sid
    → Held r'.state.id r'.heard ch slot sid
tick_held r r' ch slot random sending sid (Some c) found stands is unicast =
    let held = Ticks-held r.state r'.state c ch slot random (Some sending) r.heard sid found is.0 is.1 stands unicast in
    subst (λ (n : ℕ). Held n r'.heard ch slot sid) (sym is.1.id) (subst (λ (hs : List Hearing). Held r.state.id hs ch slot sid) (sym is.2) held)
tick_held r r' ch slot random sending sid None found stands is unicast = absurd (cc (is.0))

module _ (ids : List ℕ) (outputs : List ReleasedOutput) (modems : List Receiver) (sent : List Transmission) (ok : ModemsOk ids outputs modems sent) where
  none_sent : (modems' : List Receiver) → SendsHeld modems' []
  none_sent modems' x sid there is = absurd there

  -- modem m goes on, if there is one, and nothing is sent
  quietly : (m : ℕ) (Does : Receiver → Answer → Receiver → Type 0) (told : Answer) (modems' : List Receiver) → ((r r' : Receiver) → Does r told r' → Follows outputs r r')
      → (there : Option Receiver) → slice_get modems m ≡ there → OfModem modems m there Does told modems' → ModemsOk ids outputs modems' sent
  quietly m Does told modems' follows None is unmoved = subst (λ (ms : List Receiver). ModemsOk ids outputs ms sent) (sym unmoved.1) ok
  quietly m Does told modems' follows (Some r) is goes =
      subst (λ (ms : List Receiver). ModemsOk ids outputs ms sent) (sym goes.2) (ok_set ids outputs modems sent m r goes.0 is (follows r goes.0 goes.1) ok)

  set_there : (m : ℕ) (r r' : Receiver) → slice_get modems m ≡ Some r → slice_get (slice_set modems m r') m ≡ Some r'
  set_there m r r' is = get_same modems m r' (slice_get_within modems m r is)

  tick_sends : (m ch slot random : ℕ) (told : Answer) (modems' : List Receiver) (there : Option Receiver) → slice_get modems m ≡ there
      → OfModem modems m there (λ r. ComesTo r slot random (channel_of r.state.channels ch)) told modems' → SendsHeld modems' (sent_at (event.Tick m ch slot random) told)
  tick_sends m ch slot random (answer.Ticked (Some sending)) modems' (Some r) is goes = λ x sid here unicast. one x sid unicast here
    where
      one : (x : Transmission) (sid : ℕ) → unicast_sid (Some x.sending) ≡ Some sid → IsIn (record { modem = m; channel = ch; slot = slot; sending = sending } ∷ []) x
          → (s : Receiver) × (slice_get modems' x.modem ≡ Some s) × Held s.state.id s.heard x.channel x.slot sid
      one x sid unicast (inl same) =
          let there : slice_get modems' m ≡ Some goes.0 = ap (λ (ms : List Receiver). slice_get ms m) goes.2 ∙ set_there m r goes.0 is in
          let of_sending : unicast_sid (Some sending) ≡ Some sid = ap (λ (y : Transmission). unicast_sid (Some y.sending)) (sym same) ∙ unicast in
          let held : Held goes.0.state.id goes.0.heard ch slot sid = tick_held r goes.0 ch slot random sending sid (channel_of r.state.channels ch) refl (ok.stands m r is) goes.1 of_sending in
          subst (λ (y : Transmission). (s : Receiver) × (slice_get modems' y.modem ≡ Some s) × Held s.state.id s.heard y.channel y.slot sid) (sym same) (goes.0, there, held)
      one x sid unicast (inr none) = absurd none
  tick_sends m ch slot random (answer.Ticked (Some sending)) modems' None is goes = absurd (let e : answer.Ticked (Some sending) ≡ answer.Refused refusal.NoModem = goes.0 in cc (e))
  tick_sends m ch slot random told modems' r is goes = none_sent modems'

  pub modem_next : (happens : Event) (told : Answer) (modems' : List Receiver) → ModemNext modems outputs happens told modems' → ModemsOk ids outputs modems' (sent ++ sent_at happens told)
  modem_next (event.Hear m i near) told modems' goes =
      ok_more ids outputs modems' sent [] (none_sent modems') (quietly m _ told modems' (λ r r' does. listens_follow outputs r r' i near told (slice_get outputs i) refl does) (slice_get modems m) refl goes)
  modem_next (event.Want m ch sid n) told modems' goes =
      ok_more ids outputs modems' sent [] (none_sent modems') (quietly m _ told modems' (λ r r' does. wants_follow outputs r r' ch sid n told does) (slice_get modems m) refl goes)
  modem_next (event.Tick m ch slot random) told modems' goes =
      ok_more ids outputs modems' sent (sent_at (event.Tick m ch slot random) told) (tick_sends m ch slot random told modems' (slice_get modems m) refl goes)
      (quietly m (λ r. ComesTo r slot random (channel_of r.state.channels ch)) told modems' (λ r r' does. comes_follow outputs r r' ch slot random told (channel_of r.state.channels ch) refl does) (slice_get modems m) refl goes)
  modem_next happens told modems' none = absurd none

-- What a modem stands for is kept.
use Rattle.std.proofs.Common.{◌≡◌, ℕ, ◌+◌, ◌≤◌, List, ◌∷◌, Option, Some, Bool, true, inl, inr, refl, sym, subst, ap}
use Rattle.std.proofs.Common.{◌∙◌, max, arith, ◌==◌, ◌&&◌, nat_le, false, Result, Ok, Err, IfOk, MatchBool, ◌↔◌}
use Rattle.modem.specs.declared.known.Channel.{Channel}
use Rattle.modem.specs.declared.known.OwnLease.{OwnLease}
use Rattle.modem.specs.declared.types.Sending.{Sending}
use Rattle.modem.specs.declared.known.Want.{Want}
use Rattle.map_body.specs.Sids.{everybody}
use Rattle.modem.specs.State.{State, HasAt, is_of, covers, is_own_at, is_own_from, with_lease, lease_of, channel_of}
use Rattle.modem.specs.State.{clock_of, with_channel, with_ucd}
use Rattle.modem.specs.Wants.{lasting}
use Rattle.modem.specs.Ticks.{Ticks, SendsBy}
use Rattle.modem.specs.Sights.{IsSeen}
use Rattle.modem.specs.KeptIntervals.{KeepsFrom}
use Rattle.modem.proofs.AtKept.{Counts-same}
use Rattle.minislot_time.specs.Wire.{IsNear}
use Rattle.modem.proofs.Times.{near_once}
use Rattle.map_body.specs.Body.{Body}
use Rattle.map_body.proofs.Callers.{one_body}
use Rattle.std.proofs.lemmas.Bool.{eqb-true, eq-eqb}
use Rattle.modem.proofs.Parts.{no_true}
use Rattle.modem.proofs.Tests.{covers_tells, covers_from, lasts_tells, lasts_from}
use Rattle.modem.proofs.Clocks.{clock_of-row, clock_of-placed, clock_of-with_ucd, found_id}
use Rattle.grant_machine.specs.declared.output.Output.{Output}
use Rattle.grant_machine.specs.declared.output.Output.TheVariants.{Nothing, ChannelSet, Assigned, Map as MapOutput}
use Rattle.grant_machine.specs.declared.output.Output.TheVariants.{Refused}
use Rattle.modem.specs.declared.types.Heard.{Heard}
use Rattle.modem.specs.declared.types.Heard.TheVariants.{Taken, NotMine, OtherUcd, Past, Unreadable}
use Rattle.modem.specs.Held.{HasHeard, Hearing, Gives, GivesCell, Leases, WasLeased, LeasesFrom, WasLeasedFrom, HeldBy}
use Rattle.map_body.specs.Heard.{Reads}
use Rattle.modem.specs.Hears.{Hears, Takes, KeepsHeld, leases_heard}
use Rattle.modem.specs.OldLeases.{CoverAlike}
use Rattle.modem.proofs.Recent.{recent_alike, same_alike, gone_alike, any_with}

-- a state with the same id, leases that count for the same, no lower clock and what was held from there on stands for the same hearings
pub StandsFor-kept : (old new : State) (hearings : List Hearing) → new.id ≡ old.id → ((ch : ℕ) → CoverAlike ch (clock_of new.channels ch) new.leases old.leases) → ((ch : ℕ) → clock_of old.channels ch ≤ clock_of new.channels ch) → ((ch m sid iuc : ℕ) → clock_of new.channels ch ≤ m → HasAt new.grants ch m sid iuc ↔ HasAt old.grants ch m sid iuc) → HasHeard old hearings → HasHeard new hearings
StandsFor-kept old new hearings same_id alike rises held h = record {
  leases = λ ch sid m late.
      let was = h.leases ch sid m (omega (arith, rises ch, late)) in
      let same = (alike ch).covers sid m late in
      rw same_id (λ own. was.0 (sym same ∙ own), λ leased. same ∙ was.1 leased);
  lasts = λ ch sid m late.
      let was = h.lasts ch sid m (omega (arith, rises ch, late)) in
      let same = (alike ch).lasts sid m late in
      rw same_id (λ own. was.0 (sym same ∙ own), λ leased. same ∙ was.1 leased);
  holds = λ ch m sid iuc late.
      let was = h.holds ch m sid iuc (omega (arith, rises ch)) in
      let is = held ch m sid iuc late in
      rw same_id (λ a. was.0 (is.0 a), λ b. is.1 (was.1 b));
}

-- one more hearing that assigns nothing to the modem, and what is held after it
StandsFor-heard : (old new : State) (h : Hearing) (hearings : List Hearing) → new.id ≡ old.id → ((ch : ℕ) → CoverAlike ch (clock_of new.channels ch) new.leases old.leases) → ((ch : ℕ) → clock_of old.channels ch ≤ clock_of new.channels ch) → ((ch sid first last : ℕ) → h.output ≡ Assigned old.id ch sid first last → ⊥) → ((ch m sid iuc : ℕ) → clock_of new.channels ch ≤ m → HasAt new.grants ch m sid iuc ↔ HeldBy old.id (h ∷ hearings) ch m sid iuc) → HasHeard old hearings → HasHeard new (h ∷ hearings)
StandsFor-heard old new h hearings same_id alike rises none held was = record {
  leases = λ ch sid m late.
      let known = was.leases ch sid m (omega (arith, rises ch, late)) in
      let same = (alike ch).covers sid m late in
      subst (λ id. (is_own_at new.leases ch sid m ≡ true) ↔ WasLeased id (h ∷ hearings) ch sid m) (sym same_id)
      (λ own. inr (known.0 (sym same ∙ own)), λ heard. elim heard [ inl l ↦ absurd (none ch sid l.first l.last l.assigned) | inr before ↦ same ∙ known.1 before ]);
  lasts = λ ch sid m late.
      let known = was.lasts ch sid m (omega (arith, rises ch, late)) in
      let same = (alike ch).lasts sid m late in
      subst (λ id. (is_own_from new.leases ch sid m ≡ true) ↔ WasLeasedFrom id (h ∷ hearings) ch sid m) (sym same_id)
      (λ own. inr (known.0 (sym same ∙ own)), λ heard. elim heard [ inl l ↦ absurd (none ch sid l.first l.last l.assigned) | inr before ↦ same ∙ known.1 before ]);
  holds = λ ch m sid iuc late. subst (λ id. HasAt new.grants ch m sid iuc ↔ HeldBy id (h ∷ hearings) ch m sid iuc) (sym same_id) (held ch m sid iuc late);
}

-- one that assigns nothing to the modem and gives nothing
StandsFor-quiet : (v : State) (h : Hearing) (hearings : List Hearing) → ((ch sid first last : ℕ) → h.output ≡ Assigned v.id ch sid first last → ⊥) → ((ch m sid iuc : ℕ) → h.answer ≡ Taken → Gives h.output h.near ch m sid iuc → ⊥) → HasHeard v hearings → HasHeard v (h ∷ hearings)
StandsFor-quiet v h hearings none gives_none was =
    StandsFor-heard v v h hearings refl (λ ch. same_alike ch (clock_of v.channels ch) v.leases v.leases refl) (λ ch. omega arith) none
    (λ ch m sid iuc late. (λ has. inr ((was.holds ch m sid iuc late).0 has), λ held. elim held [ inl now ↦ absurd (gives_none ch m sid iuc now.0 now.1) | inr before ↦ (was.holds ch m sid iuc late).1 before ]))
    was

-- a map that is taken
StandsFor-taken : (old new : State) (hearings : List Hearing) (ch₀ start₀ len₀ : ℕ) (bytes : List ℕ) (near : ℕ) (c : Channel) (map : Body) (start stop : ℕ) → Reads bytes near map start stop → channel_of old.channels map.head.channel ≡ Some c → Takes old c near map start new → HasHeard old hearings → HasHeard new (record { output = MapOutput ch₀ start₀ len₀ bytes; near = near; answer = Taken } ∷ hearings)
StandsFor-taken old new hearings ch₀ start₀ len₀ bytes near c map start stop reads found takes was =
    StandsFor-heard old new here hearings takes.id (gone_alike old new c map.head.channel (max c.clock near) map.head.data_backoff found takes.channels takes.leases) rises (λ ch sid first last e. cc)
    (λ ch m sid iuc late.
    let before = was.holds ch m sid iuc (omega (arith, rises ch, late)) in
    let leased = was.leases ch sid m (omega (arith, rises ch, late)) in
    let now = takes.grants ch m sid iuc late in (
      λ has. elim (now.0 has) [ inl a ↦ inr (before.0 a) | inr b ↦ inl (refl, (map, start, record { body = reads.body; extension = reads.extent.extension }, b.1), leased.0 b.0) ],
      λ held. elim held [ inl h ↦ now.1 (inr (leased.1 h.2, gave ch m sid iuc h.1)) | inr b ↦ now.1 (inl (before.1 b)) ],
    ))
    was
  where
    here : Hearing
    here = record { output = MapOutput ch₀ start₀ len₀ bytes; near = near; answer = Taken }

    rises : (ch : ℕ) → clock_of old.channels ch ≤ clock_of new.channels ch
    rises ch = rw takes.channels (clock_of-row c (max c.clock near) map.head.data_backoff old.channels map.head.channel ch found (omega arith))

    gave : (ch m sid iuc : ℕ) → Gives (MapOutput ch₀ start₀ len₀ bytes) near ch m sid iuc → GivesCell map start ch m sid iuc
    gave ch m sid iuc (other, begin, starts, cell) =
        let one_map : other ≡ map = one_body bytes other map starts.body reads.body in
        let extension : IsNear map.head.start near begin = subst (λ (o : Body). IsNear o.head.start near begin) one_map starts.extension in
        let one_start : begin ≡ start = near_once map.head.start near begin start extension reads.extent.extension in
        subst (λ (s : ℕ). GivesCell map s ch m sid iuc) one_start (subst (λ (o : Body). GivesCell o begin ch m sid iuc) one_map cell)

-- a state whose channel's clock was moved and whose lists have let go of what ended by then
pub KeepsHeld-made : (old new : State) (c : Channel) (ch clock : ℕ) (backoff : ℕ × ℕ) → channel_of old.channels ch ≡ Some c → new.channels ≡ with_channel (record { id = c.id; ucd = c.ucd; clock = clock; backoff = backoff }) old.channels → KeepsFrom old.grants c.id clock new.grants → KeepsFrom old.open_to_all c.id clock new.open_to_all → KeepsHeld old new
KeepsHeld-made old new c ch clock backoff found made grants open_to_all = record {
  grants = λ at_ch m sid iuc late. grants at_ch m sid iuc (later at_ch m late);
  open_to_all = λ at_ch m late. open_to_all at_ch m everybody 1 (later at_ch m late);
}
  where
    here : channel_of old.channels c.id ≡ Some c
    here = ap (channel_of old.channels) (found_id old.channels ch c found) ∙ found

    later : (at_ch m : ℕ) → clock_of new.channels at_ch ≤ m → c.id ≡ at_ch → clock ≤ m
    later at_ch m late same =
        let placed : clock_of new.channels c.id ≡ clock = rw made (clock_of-placed c clock backoff old.channels c.id here) in
        let moved : clock_of new.channels c.id ≤ m = rw same late in
        omega arith

-- a tick by what was seen once what has ended was let go of
pub Ticks-seen : (n : ℕ) (old new : State) (c : Channel) (ch slot random : ℕ) (sending : Option Sending) (counted : Option (ℕ × ℕ)) (is_open : Bool) (wants : List Want) → channel_of old.channels ch ≡ Some c → new.id ≡ old.id → new.leases ≡ old.leases → KeepsFrom old.grants c.id slot new.grants → KeepsFrom old.open_to_all c.id slot new.open_to_all → new.channels ≡ with_channel (record c { clock = slot + 1 }) old.channels → IsSeen n new.grants new.open_to_all c.id slot counted is_open → SendsBy old.leases old.wants c slot random is_open sending wants counted → new.wants ≡ lasting old.leases c.id (slot + 1) wants → Ticks old c slot random sending new
Ticks-seen n old new c ch slot random sending counted is_open wants found same_id same_leases grants open_to_all made seen sends lasts =
    let own : (sid iuc : ℕ) → HasAt old.grants c.id slot sid iuc ↔ HasAt new.grants c.id slot sid iuc = λ sid iuc. let same = grants c.id slot sid iuc (λ _. omega arith) in (same.1, same.0) in
    let shared = open_to_all c.id slot everybody 1 (λ _. omega arith) in
    record {
      id = same_id;
      channels = made;
      leases = same_leases;
      held = KeepsHeld-made old new c ch (slot + 1) c.backoff found made
          (λ at_ch m sid iuc late. grants at_ch m sid iuc (λ same. let from : slot + 1 ≤ m = late same in omega arith))
          (λ at_ch m sid iuc late. open_to_all at_ch m sid iuc (λ same. let from : slot + 1 ≤ m = late same in omega arith));
      sends = (counted, Counts-same new.grants old.grants c.id slot slot counted own seen.counts, is_open, (λ h. shared.0 (seen.shared.0 h), λ h. seen.shared.1 (shared.1 h)), wants, sends, lasts);
    }

same_parts : (a b c d e x y z u v : ℕ) → Assigned a b c d e ≡ Assigned x y z u v → (a ≡ x) × (b ≡ y) × (c ≡ z) × (d ≡ u) × (e ≡ v)
same_parts a b c d e x y z u v same = (cc, cc, cc, cc, cc)

-- the lease of an Assigned covers what it leases
leased : (modem id ch sid first last at_ch at_sid m : ℕ) → modem ≡ id → covers at_ch at_sid m (lease_of ch sid first last) ≡ true → Leases id (Assigned modem ch sid first last) at_ch at_sid m
leased modem id ch sid first last at_ch at_sid m mine c =
    let (same_ch, same_sid, begun, not_ended) = covers_tells ch at_ch sid at_sid first last m c in
    record { first = first; last = last; assigned = cc; begun = begun; not_ended = not_ended }

covering : (modem id ch sid first last at_ch at_sid m : ℕ) → Leases id (Assigned modem ch sid first last) at_ch at_sid m → covers at_ch at_sid m (lease_of ch sid first last) ≡ true
covering modem id ch sid first last at_ch at_sid m l =
    let (_, same_ch, same_sid, same_first, same_last) = same_parts modem ch sid first last id at_ch at_sid l.first l.last l.assigned in
    covers_from ch at_ch sid at_sid first last m same_ch same_sid (omega (arith, l.begun, same_first)) (omega (arith, l.not_ended, same_last))

-- the lease of an Assigned goes on as long as it leases
leased_from : (modem id ch sid first last at_ch at_sid m : ℕ) → modem ≡ id → (is_of at_ch at_sid (lease_of ch sid first last) && nat_le m last) ≡ true → LeasesFrom id (Assigned modem ch sid first last) at_ch at_sid m
leased_from modem id ch sid first last at_ch at_sid m mine c =
    let (same_ch, same_sid, goes_on) = lasts_tells ch at_ch sid at_sid last m c in
    record { first = first; last = last; assigned = cc; goes_on = goes_on }

going_on : (modem id ch sid first last at_ch at_sid m : ℕ) → LeasesFrom id (Assigned modem ch sid first last) at_ch at_sid m → (is_of at_ch at_sid (lease_of ch sid first last) && nat_le m last) ≡ true
going_on modem id ch sid first last at_ch at_sid m l =
    let (_, same_ch, same_sid, same_first, same_last) = same_parts modem ch sid first last id at_ch at_sid l.first l.last l.assigned in
    lasts_from ch at_ch sid at_sid last m same_ch same_sid (omega (arith, l.goes_on, same_last))

-- an Assigned that is heard
Assigned-stands : (old new : State) (modem ch sid first last near : ℕ) (answer : Heard) (hearings : List Hearing) (mine : Bool) → (modem == old.id) ≡ mine → MatchBool mine ((answer ≡ Taken) × (new ≡ record old { leases = leases_heard old (lease_of ch sid first last) })) ((answer ≡ NotMine) × (new ≡ old)) → HasHeard old hearings → HasHeard new (record { output = Assigned modem ch sid first last; near = near; answer = answer } ∷ hearings)
Assigned-stands old new modem ch sid first last near answer hearings true mine h was = rw h.1 (record {
  leases = λ ch' sid' m late.
      let same = (alike ch').covers sid' m late in
      let own = any_with (covers ch' sid' m) old.leases lease in
      let known = was.leases ch' sid' m late in (
        λ is. elim (own.0 (sym same ∙ is)) [ inl c ↦ inl (leased modem old.id ch sid first last ch' sid' m (eqb-true _ _ mine) c) | inr before ↦ inr (known.0 before) ],
        λ heard. same ∙ own.1 (elim heard [ inl l ↦ inl (covering modem old.id ch sid first last ch' sid' m l) | inr before ↦ inr (known.1 before) ]),
      );
  lasts = λ ch' sid' m late.
      let same = (alike ch').lasts sid' m late in
      let own = any_with (λ l. is_of ch' sid' l && nat_le m l.last) old.leases lease in
      let known = was.lasts ch' sid' m late in (
        λ is. elim (own.0 (sym same ∙ is)) [ inl c ↦ inl (leased_from modem old.id ch sid first last ch' sid' m (eqb-true _ _ mine) c) | inr before ↦ inr (known.0 before) ],
        λ heard. same ∙ own.1 (elim heard [ inl l ↦ inl (going_on modem old.id ch sid first last ch' sid' m l) | inr before ↦ inr (known.1 before) ]),
      );
  holds = λ ch m sid iuc late.
      let before = was.holds ch m sid iuc late in
      (λ has. inr (before.0 has), λ held. elim held [ inl now ↦ absurd now.1 | inr b ↦ before.1 b ]);
})
  where
    lease : OwnLease
    lease = lease_of ch sid first last

    -- the old ones that go
    alike : (at_ch : ℕ) → CoverAlike at_ch (clock_of old.channels at_ch) (leases_heard old lease) (with_lease old.leases lease)
    alike at_ch =
        recent_alike (with_lease old.leases lease) ch (clock_of old.channels ch) at_ch (clock_of old.channels at_ch) (λ same.
        let one : clock_of old.channels at_ch ≡ clock_of old.channels ch = ap (clock_of old.channels) same in
        omega (arith, one))
Assigned-stands old new modem ch sid first last near answer hearings false other h was =
    StandsFor-quiet new _ hearings stranger (λ ch m sid iuc _ gives. gives) (rw h.1 was)
  where
    stranger : (ch' sid' first' last' : ℕ) → Assigned modem ch sid first last ≡ Assigned new.id ch' sid' first' last' → ⊥
    stranger ch' sid' first' last' e =
        let one : modem ≡ new.id = (same_parts _ _ _ _ _ _ _ _ _ _ e).0 in
        let same : new.id ≡ old.id = ap (λ (v : State). v.id) h.1 in
        no_true (sym other ∙ eq-eqb _ _ (one ∙ same))

-- what hearing an output makes a modem stand for: the hearing is added
pub Hears-stands : (old new : State) (output : Output) (near : ℕ) (answer : Heard) (hearings : List Hearing) → Hears old output near answer new → HasHeard old hearings → HasHeard new (record { output = output; near = near; answer = answer } ∷ hearings)
Hears-stands old new Nothing near answer hearings h was =
    StandsFor-quiet new _ hearings (λ ch sid first last e. cc) (λ ch m sid iuc _ gives. gives) (rw h.1 was)
Hears-stands old new (Refused n) near answer hearings h was =
    StandsFor-quiet new _ hearings (λ ch sid first last e. cc) (λ ch m sid iuc _ gives. gives) (rw h.1 was)
Hears-stands old new (ChannelSet ch ucd) near answer hearings h was =
    StandsFor-quiet new _ hearings (λ ch sid first last e. cc) (λ ch m sid iuc _ gives. gives)
    (rw h.1 (StandsFor-kept old _ hearings refl (λ other. same_alike other (clock_of (with_ucd old.channels ch ucd (channel_of old.channels ch)) other) old.leases old.leases refl) (λ other. clock_of-with_ucd old.channels ch ucd other) (λ ch m sid iuc _. (λ a. a, λ a. a)) was))
Hears-stands old new (Assigned modem ch sid first last) near answer hearings h was =
    Assigned-stands old new modem ch sid first last near answer hearings (modem == old.id) refl h was
Hears-stands old new (MapOutput ch₀ start₀ len₀ bytes) near Taken hearings (map, start, stop, reads, c, found, same_ucd, late, takes) was =
    StandsFor-taken old new hearings ch₀ start₀ len₀ bytes near c map start stop reads found takes was
Hears-stands old new (MapOutput ch₀ start₀ len₀ bytes) near NotMine hearings h was = absurd h
Hears-stands old new (MapOutput ch₀ start₀ len₀ bytes) near OtherUcd hearings (map, start, stop, reads, other, same) was =
    StandsFor-quiet new _ hearings (λ ch sid first last e. cc) (λ ch m sid iuc e gives. cc) (rw same was)
Hears-stands old new (MapOutput ch₀ start₀ len₀ bytes) near Past hearings (map, start, stop, reads, c, found, same_ucd, late, passes) was =
    StandsFor-quiet new _ hearings (λ ch sid first last e. cc) (λ ch m sid iuc e gives. cc)
    (StandsFor-kept old new hearings passes.id (gone_alike old new c map.head.channel (max c.clock near) c.backoff found passes.channels passes.leases) (λ ch. rw passes.channels (clock_of-row c (max c.clock near) c.backoff old.channels map.head.channel ch found (omega arith))) passes.held.grants was)
Hears-stands old new (MapOutput ch₀ start₀ len₀ bytes) near Unreadable hearings h was =
    StandsFor-quiet new _ hearings (λ ch sid first last e. cc) (λ ch m sid iuc e gives. cc) (rw h.1 was)

-- the same where the answer may be want of memory
pub stands_if_ok : {E : Type 0} (r : Result Heard E) (old new : State) (output : Output) (near : ℕ) → IfOk r (λ answer. Hears old output near answer new) → IfOk r (λ answer. (hearings : List Hearing) → HasHeard old hearings → HasHeard new (record { output = output; near = near; answer = answer } ∷ hearings))
stands_if_ok (Ok answer) old new output near h = λ hearings was. Hears-stands old new output near answer hearings h was
stands_if_ok (Err e) old new output near h = tt

-- a tick keeps what a modem stands for
pub Ticks-stands : (old new : State) (c : Channel) (ch slot random : ℕ) (sending : Option Sending) (hearings : List Hearing) → channel_of old.channels ch ≡ Some c → c.clock ≤ slot → Ticks old c slot random sending new → HasHeard old hearings → HasHeard new hearings
Ticks-stands old new c ch slot random sending hearings found late ticks was =
    StandsFor-kept old new hearings ticks.id (λ other. same_alike other (clock_of new.channels other) new.leases old.leases ticks.leases) (λ other. rw ticks.channels (clock_of-row c (slot + 1) c.backoff old.channels ch other found (omega arith))) ticks.held.grants was

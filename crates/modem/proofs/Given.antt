-- The cells that a map gives are those of its intervals before the Null.
use Rattle.std.proofs.Common.{◌≡◌, ℕ, ◌-◌, ◌≤◌, Bool, true, false, cond, ◌==◌, ◌&&◌, max, Option, Some, List, [], ◌∷◌}
use Rattle.std.proofs.Common.{map, refl, sym, ◌∙◌, ap, arith, ◌⊎◌, inl, inr, ◌↔◌}
use Rattle.std.specs.List.{filter, filter_map}
use Rattle.map_body.specs.declared.element.Element.{Element}
use Rattle.map_body.specs.Body.{Body}
use Rattle.map_body.specs.Intervals.{intervals, is_null}
use Rattle.map_body.specs.Sids.{everybody}
use Rattle.modem.proofs.CellList.{Cell, Covers, cell_in, cell_of}
use Rattle.map_body.specs.declared.interval.Interval.{Interval}
use Rattle.modem.specs.declared.known.Channel.{Channel}
use Rattle.modem.specs.declared.kept.KeptInterval.{KeptInterval}
use Rattle.modem.specs.State.{State, Kept, IsAt, HasAt, channel_of, clock_of, with_channel, recent}
use Rattle.modem.specs.KeptIntervals.{kept_interval, interval_of, covered}
use Rattle.modem.specs.Wants.{lasting}
use Rattle.modem.proofs.Pieces.{HasAt-covered}
use Rattle.modem.specs.Intervals.{decided}
use Rattle.map_body.specs.Heard.{IsAckTime}
use Rattle.modem.specs.Hears.{Takes}
use Rattle.modem.specs.Held.{GivesCell}
use Rattle.modem.proofs.Parts.{no_true}
use Rattle.modem.proofs.Clocks.{clock_of-placed}

-- the interval of a map of this channel and start covers minislot m
abbrev IsIn : ℕ → ℕ → Interval → ℕ → ℕ → ℕ → ℕ → Type 0
IsIn ch start i at_ch m sid iuc = IsAt (kept_interval (interval_of ch start i)) at_ch m sid iuc

-- one of the intervals does
abbrev SomeIn : ℕ → ℕ → List Interval → ℕ → ℕ → ℕ → ℕ → Type 0
SomeIn ch start is at_ch m sid iuc = HasAt (map kept_interval (map (interval_of ch start) is)) at_ch m sid iuc

-- what is left of intervals by a test of their SID and IUC
SomeIn-filter : (q : ℕ → ℕ → Bool) (ch start : ℕ) (is : List Interval) (at_ch m sid iuc : ℕ) → SomeIn ch start (filter (λ i. q i.sid i.iuc) is) at_ch m sid iuc ↔ ((q sid iuc ≡ true) × SomeIn ch start is at_ch m sid iuc)
SomeIn-filter q ch start [] at_ch m sid iuc = (λ h. absurd h, λ h. h.1)
SomeIn-filter q ch start (i ∷ is) at_ch m sid iuc = go (SomeIn-filter q ch start is at_ch m sid iuc) (q i.sid i.iuc) refl
  where
    same : IsIn ch start i at_ch m sid iuc → q i.sid i.iuc ≡ q sid iuc
    same x = ap (λ n. q n i.iuc) x.same_sid ∙ ap (λ n. q sid n) x.same_iuc

    go : SomeIn ch start (filter (λ i. q i.sid i.iuc) is) at_ch m sid iuc ↔ ((q sid iuc ≡ true) × SomeIn ch start is at_ch m sid iuc) → (b : Bool) → q i.sid i.iuc ≡ b → SomeIn ch start (cond b (i ∷ filter (λ i. q i.sid i.iuc) is) (filter (λ i. q i.sid i.iuc) is)) at_ch m sid iuc ↔ ((q sid iuc ≡ true) × (IsIn ch start i at_ch m sid iuc ⊎ SomeIn ch start is at_ch m sid iuc))
    go rest true e = (
      λ h. elim h [ inl x ↦ (sym (same x) ∙ e, inl x) | inr y ↦ let r = rest.0 y in (r.0, inr r.1) ],
      λ (k, h). elim h [ inl x ↦ inl x | inr y ↦ inr (rest.1 (k, y)) ],
    )
    go rest false e = (
      λ y. let r = rest.0 y in (r.0, inr r.1),
      λ (k, h). elim h [ inl x ↦ no_true (sym e ∙ same x ∙ k) | inr y ↦ rest.1 (k, y) ],
    )

-- one element more
interval_step : (ch start : ℕ) (e f : Element) (es : List Element) (at_ch m sid iuc : ℕ) → SomeIn ch start (intervals (f ∷ es)) at_ch m sid iuc ↔ ((ch ≡ at_ch) × (start ≤ m) × Cell (f ∷ es) (m - start) sid iuc) → (b : Bool) → is_null e ≡ b → SomeIn ch start (cond b [] (record { sid = e.sid; iuc = e.iuc; from = e.offset; to = f.offset } ∷ intervals (f ∷ es))) at_ch m sid iuc ↔ ((ch ≡ at_ch) × (start ≤ m) × ((is_null e ≡ false) × (Covers e f (m - start) sid iuc ⊎ Cell (f ∷ es) (m - start) sid iuc)))
interval_step ch start e f es at_ch m sid iuc rest true null = (λ h. absurd h, λ h. no_true (sym h.2.0 ∙ null))
interval_step ch start e f es at_ch m sid iuc rest false null = (
  λ h. elim h [
    | inl x ↦ let low : start ≤ m = omega (arith, x.from) in (x.same_channel, low, (null, inl (record { same_sid = x.same_sid; same_iuc = x.same_iuc; from = omega (arith, x.from); to = omega (arith, x.from, x.to) })))
    | inr y ↦ let r = rest.0 y in (r.0, r.1, (null, inr r.2))
  ],
  λ (c, low, (_, h)). elim h [ inl x ↦ inl (record { same_channel = c; same_sid = x.same_sid; same_iuc = x.same_iuc; from = omega (arith, x.from); to = omega (arith, x.to) }) | inr y ↦ inr (rest.1 (c, low, y)) ],
)

-- the intervals before the Null have what the map's cells have
SomeIn-intervals : (ch start : ℕ) (es : List Element) (at_ch m sid iuc : ℕ) → SomeIn ch start (intervals es) at_ch m sid iuc ↔ ((ch ≡ at_ch) × (start ≤ m) × Cell es (m - start) sid iuc)
SomeIn-intervals ch start [] at_ch m sid iuc = (λ h. absurd h, λ h. h.2)
SomeIn-intervals ch start (e ∷ []) at_ch m sid iuc = (λ h. absurd h, λ h. h.2)
SomeIn-intervals ch start (e ∷ f ∷ es) at_ch m sid iuc = interval_step ch start e f es at_ch m sid iuc (SomeIn-intervals ch start (f ∷ es) at_ch m sid iuc) (is_null e) refl

-- the intervals of a map have what it gives
HasAt-all : (map₀ : Body) (start at_ch m sid iuc : ℕ) → SomeIn map₀.head.channel start (intervals map₀.elements) at_ch m sid iuc ↔ GivesCell map₀ start at_ch m sid iuc
HasAt-all map₀ start at_ch m sid iuc =
    let given = SomeIn-intervals map₀.head.channel start map₀.elements at_ch m sid iuc in (
      λ h. let g = given.0 h in record { channel = g.0; from = g.1; cell = cell_in map₀.head map₀.elements (m - start) sid iuc g.2 },
      λ h. given.1 (h.channel, h.from, cell_of map₀.head map₀.elements (m - start) sid iuc h.cell),
    )

-- those that pass a test of SID and IUC have what it gives of these
HasAt-given : (q : ℕ → ℕ → Bool) (map₀ : Body) (start at_ch m sid iuc : ℕ) → SomeIn map₀.head.channel start (filter (λ i. q i.sid i.iuc) (intervals map₀.elements)) at_ch m sid iuc ↔ ((q sid iuc ≡ true) × GivesCell map₀ start at_ch m sid iuc)
HasAt-given q map₀ start at_ch m sid iuc =
    let passed = SomeIn-filter q map₀.head.channel start (intervals map₀.elements) at_ch m sid iuc in
    let all = HasAt-all map₀ start at_ch m sid iuc in
    (λ h. let p = passed.0 h in (p.0, all.0 p.1), λ h. passed.1 (h.0, all.1 h.1))

-- what is kept after a map: from the clock on what was kept, and the map's
abbrev pub KeepsWith : List Kept → ℕ → ℕ → List KeptInterval → List Kept → Type 0
KeepsWith was ch clock given now = (at_ch m sid iuc : ℕ) → (ch ≡ at_ch → clock ≤ m) → HasAt now at_ch m sid iuc ↔ (HasAt was at_ch m sid iuc ⊎ HasAt (map kept_interval given) at_ch m sid iuc)

-- a map's intervals in 64-bit minislots
abbrev pub of_map : Body → ℕ → List Interval → List KeptInterval
of_map map₀ start is = map (interval_of map₀.head.channel start) is

-- intervals that make a state take a map
pub Takes-made : (old new : State) (c : Channel) (near : ℕ) (map₀ : Body) (start : ℕ) (ack : Option ℕ) → channel_of old.channels map₀.head.channel ≡ Some c → new.id ≡ old.id → new.channels ≡ with_channel (record c { clock = max c.clock near; backoff = map₀.head.data_backoff }) old.channels → new.leases ≡ recent c.id (max c.clock near) old.leases → KeepsWith old.grants map₀.head.channel (max c.clock near) (covered old.leases (of_map map₀ start (intervals map₀.elements))) new.grants → KeepsWith old.open_to_all map₀.head.channel (max c.clock near) (of_map map₀ start (filter (λ i. (i.sid == everybody) && (i.iuc == 1)) (intervals map₀.elements))) new.open_to_all → IsAckTime map₀.head.ack start ack → new.wants ≡ lasting old.leases c.id (max c.clock near) (filter_map (decided old.leases map₀ start ack) old.wants) → Takes old c near map₀ start new
Takes-made old new c near map₀ start ack found same_id made gone grants opens ack_time wants = record {
  id = same_id;
  channels = made;
  leases = gone;
  grants = λ ch m sid iuc late.
      let kept = grants ch m sid iuc (later ch m late) in
      let own = HasAt-covered old.leases (of_map map₀ start (intervals map₀.elements)) ch m sid iuc in
      let given = HasAt-all map₀ start ch m sid iuc in (
        λ h. elim (kept.0 h) [ inl a ↦ inl a | inr b ↦ let o = own.0 b in inr (o.0, given.0 o.1) ],
        λ h. kept.1 (elim h as (λ _. HasAt old.grants ch m sid iuc ⊎ HasAt (map kept_interval (covered old.leases (of_map map₀ start (intervals map₀.elements)))) ch m sid iuc) [ inl a ↦ inl a | inr b ↦ inr (own.1 (b.0, given.1 b.1)) ]),
      );
  open_to_all = λ ch m late.
      let kept = opens ch m everybody 1 (later ch m late) in
      let given = HasAt-given (λ (n : ℕ) (u : ℕ). (n == everybody) && (u == 1)) map₀ start ch m everybody 1 in (
        λ h. elim (kept.0 h) [ inl a ↦ inl a | inr b ↦ inr (given.0 b).1 ],
        λ h. kept.1 (elim h as (λ _. HasAt old.open_to_all ch m everybody 1 ⊎ HasAt (map kept_interval (of_map map₀ start (filter (λ (i : Interval). (i.sid == everybody) && (i.iuc == 1)) (intervals map₀.elements)))) ch m everybody 1) [ inl a ↦ inl a | inr b ↦ inr (given.1 (refl, b)) ]),
      );
  wants = (ack, ack_time, wants);
}
  where
    later : (ch m : ℕ) → clock_of new.channels ch ≤ m → map₀.head.channel ≡ ch → max c.clock near ≤ m
    later ch m late same =
        let placed : clock_of new.channels map₀.head.channel ≡ max c.clock near = rw made (clock_of-placed c (max c.clock near) map₀.head.data_backoff old.channels map₀.head.channel found) in
        let moved : clock_of new.channels map₀.head.channel ≤ m = rw same late in
        omega arith

-- what is added, and then let go of, makes what is kept
pub KeepsWith-made : (was mid now : List Kept) (ch clock : ℕ) (given : List KeptInterval) → ((at_ch m sid iuc : ℕ) → HasAt mid at_ch m sid iuc ↔ (HasAt was at_ch m sid iuc ⊎ HasAt (map kept_interval given) at_ch m sid iuc)) → ((at_ch m sid iuc : ℕ) → (ch ≡ at_ch → clock ≤ m) → HasAt now at_ch m sid iuc ↔ HasAt mid at_ch m sid iuc) → KeepsWith was ch clock given now
KeepsWith-made was mid now ch clock given added left = λ at_ch m sid iuc late.
    let go = left at_ch m sid iuc late in
    let come = added at_ch m sid iuc in
    (λ h. come.0 (go.0 h), λ h. go.1 (come.1 h))

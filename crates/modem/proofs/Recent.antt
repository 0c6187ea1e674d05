-- Old leases count for nothing.
use Rattle.std.proofs.Common.{◌≡◌, ℕ, ◌+◌, ◌^◌, ◌<◌, ◌≤◌, Bool, true, false, cond, List, [], ◌∷◌, ◌++◌, Some, None}
use Rattle.std.proofs.Common.{refl, sym, ap, ◌∙◌, arith, ◌⊎◌, inl, inr, ◌↔◌, ◌==◌, ◌&&◌, ◌||◌, not, nat_lt, nat_le}
use Rattle.std.proofs.Common.{if◌then◌else◌}
use Rattle.std.specs.List.{list_any, AllByRecursion}
use Rattle.std.proofs.lemmas.List.Folds.{list_any-append}
use Rattle.std.proofs.lemmas.List.Elements.{filter_agree}
use Rattle.std.proofs.lemmas.Map.Views.{any-filter_same}
use Rattle.std.proofs.lemmas.Bool.{and_parts, or_cases, or_left, or_right, eqb-true}
use Rattle.std.proofs.lemmas.Bool.Decides.{nat_tests}
use Rattle.modem.proofs.Parts.{no_true}
use Rattle.modem.proofs.Tests.{covers_tells, lasts_tells}
use Rattle.modem.proofs.Clocks.{clock_of-placed, found_id}
use Rattle.modem.specs.declared.known.Channel.{Channel}
use Rattle.modem.specs.declared.known.OwnLease.{OwnLease}
use Rattle.modem.specs.State.{State, is_of, covers, is_own_at, is_own_from, is_lease, has_lease, with_lease, lease_of}
use Rattle.modem.specs.State.{is_recent, recent, channel_of, clock_of, with_channel}
use Rattle.map_body.specs.declared.element.Element.{Element}
use Rattle.map_body.specs.Rules.{FitsElement}
use Rattle.map_body.specs.Intervals.{is_null, null_offset}
use Rattle.modem.specs.Wants.{is_lasting}
use Rattle.modem.specs.Intervals.{is_acknowledged, is_granted, is_pending, lost}
use Rattle.modem.specs.OldLeases.{CoverAlike, ServeAlike}

-- a lease that goes on to a minislot 2^14 of them before the clock, or later, is recent
recent_yet : (l : OwnLease) (ch clock at_ch at_clock m : ℕ) → (at_ch ≡ ch → clock ≤ at_clock) → l.channel ≡ at_ch → m ≤ l.last → at_clock < m + 16384 → is_recent ch clock l ≡ true
recent_yet l ch clock at_ch at_clock m rises here last late = by (l.channel == ch) refl
  where
    by : (b : Bool) → (l.channel == ch) ≡ b → (not b || nat_lt clock (l.last + 2 ^ 14)) ≡ true
    by false e = refl
    by true e =
        let up : clock ≤ at_clock = rises (sym here ∙ eqb-true _ _ e) in
        let soon : clock < l.last + 16384 = omega (arith, up, late, last) in
        let tells : nat_lt clock (l.last + 16384) ≡ true = grind (arith, nat_tests) in
        tells

-- the leases without the old ones of a channel
pub recent_alike : (leases : List OwnLease) (ch clock at_ch at_clock : ℕ) → (at_ch ≡ ch → clock ≤ at_clock) → CoverAlike at_ch at_clock (recent ch clock leases) leases
recent_alike leases ch clock at_ch at_clock rises = record {
  covers = λ sid m late.
      any-filter_same (covers at_ch sid m) (is_recent ch clock) true
      (λ l h.
      let (here, _, _, last) = covers_tells l.channel at_ch l.sid sid l.first l.last m h in
      recent_yet l ch clock at_ch at_clock m rises here last late) leases;
  lasts = λ sid m late.
      any-filter_same (λ l. is_of at_ch sid l && nat_le m l.last) (is_recent ch clock) true
      (λ l h.
      let (here, _, last) = lasts_tells l.channel at_ch l.sid sid l.last m h in
      recent_yet l ch clock at_ch at_clock m rises here last late) leases;
}

-- equal leases
pub same_alike : (ch clock : ℕ) (some other : List OwnLease) → some ≡ other → CoverAlike ch clock some other
same_alike ch clock some other same = record {
  covers = λ sid m late. ap (λ (ls : List OwnLease). is_own_at ls ch sid m) same;
  lasts = λ sid m late. ap (λ (ls : List OwnLease). is_own_from ls ch sid m) same;
}

-- a state whose channel's clock was moved, and which let go of what was old by then
pub gone_alike : (old new : State) (c : Channel) (ch clock : ℕ) (backoff : ℕ × ℕ) → channel_of old.channels ch ≡ Some c → new.channels ≡ with_channel (record { id = c.id; ucd = c.ucd; clock = clock; backoff = backoff }) old.channels → new.leases ≡ recent c.id clock old.leases → (at_ch : ℕ) → CoverAlike at_ch (clock_of new.channels at_ch) new.leases old.leases
gone_alike old new c ch clock backoff found made gone at_ch = rw gone (recent_alike old.leases c.id clock at_ch (clock_of new.channels at_ch) moved)
  where
    here : channel_of old.channels c.id ≡ Some c
    here = ap (channel_of old.channels) (found_id old.channels ch c found) ∙ found

    moved : at_ch ≡ c.id → clock ≤ clock_of new.channels at_ch
    moved same =
        let placed : clock_of new.channels c.id ≡ clock = rw made (clock_of-placed c clock backoff old.channels c.id here) in
        let one : clock_of new.channels at_ch ≡ clock_of new.channels c.id = ap (clock_of new.channels) same in
        omega (arith, placed, one)

-- leases that the test finds to be one
same_lease : (l lease : OwnLease) → is_lease lease l ≡ true → lease ≡ l
same_lease l lease same =
    let parts = and_parts _ _ same in
    let name = and_parts _ _ parts.0 in
    let range = and_parts _ _ parts.1 in
    ap (λ a. lease_of a lease.sid lease.first lease.last) (sym (eqb-true _ _ name.0))
    ∙ ap (λ b. lease_of l.channel b lease.first lease.last) (sym (eqb-true _ _ name.1))
    ∙ ap (λ f. lease_of l.channel l.sid f lease.last) (sym (eqb-true _ _ range.0))
    ∙ ap (λ t. lease_of l.channel l.sid l.first t) (sym (eqb-true _ _ range.1))

module _ (test : OwnLease → Bool) where
  passed_before : (leases : List OwnLease) (lease : OwnLease) → has_lease leases lease ≡ true → test lease ≡ true → list_any test leases ≡ true
  passed_before [] lease there c = no_true there
  passed_before (l ∷ ls) lease there c =
      elim (or_cases _ _ there) [ inl this ↦ or_left _ _ (sym (ap test (same_lease l lease this)) ∙ c) | inr more ↦ or_right _ _ (passed_before ls lease more c) ]

  -- what a test finds among the leases with one more
  pub any_with : (leases : List OwnLease) (lease : OwnLease) → (list_any test (with_lease leases lease) ≡ true) ↔ ((test lease ≡ true) ⊎ (list_any test leases ≡ true))
  any_with leases lease = go (has_lease leases lease) refl
    where
      go : (b : Bool) → has_lease leases lease ≡ b → (list_any test (if b then leases else leases ++ lease ∷ []) ≡ true) ↔ ((test lease ≡ true) ⊎ (list_any test leases ≡ true))
      go true there = (λ own. inr own, λ h. elim h [ inl c ↦ passed_before leases lease there c | inr own ↦ own ])
      go false e =
          let joined = list_any-append test leases (lease ∷ []) in (
            λ own. elim (or_cases _ _ (sym joined ∙ own)) [ inl was ↦ inr was | inr new ↦ elim (or_cases _ _ new) [ inl this ↦ inl this | inr none ↦ no_true none ] ],
            λ h. joined ∙ elim h [ inl this ↦ or_right _ _ (or_left _ _ this) | inr own ↦ or_left _ _ own ],
          )

-- a map is shorter than 2^14 minislots
short_map : (es : List Element) (len : ℕ) → AllByRecursion FitsElement es → null_offset es ≡ Some len → len < 16384
short_map [] len fits null = absurd cc
short_map (e ∷ es) len fits null = by (is_null e) null (λ is. short_map es len fits.1 is)
  where
    by : (b : Bool) → cond b (Some e.offset) (null_offset es) ≡ Some len → (null_offset es ≡ Some len → len < 16384) → len < 16384
    by true is rest =
        let same : e.offset ≡ len = cc in
        let small = fits.0.offset in
        omega (arith, same, small)
    by false is rest = rest is

-- leases that cover alike from 2^14 minislots before a clock on serve alike from it on
pub serve_alike : (ch clock : ℕ) (some other : List OwnLease) → CoverAlike ch clock some other → ServeAlike ch clock some other
serve_alike ch clock some other alike = record {
  keeps = λ sid m late. alike.covers sid m (omega (arith, late));
  takes = λ sid m late. alike.lasts sid m (omega (arith, late));
  shares = λ m wants late. filter_agree (λ w. is_own_at some ch w.sid m) (λ w. is_own_at other ch w.sid m) (λ w. alike.covers w.sid m (omega (arith, late))) wants;
  stay = λ m wants late. filter_agree (is_lasting some ch m) (is_lasting other ch m) (λ w. ap (λ b. not (w.channel == ch) || b) (alike.lasts w.sid m (omega (arith, late)))) wants;
  decides = λ bytes near map start stop ack w reads here late.
      let len = reads.extent.null.0 in
      let short : len < 16384 = short_map map.elements len reads.body.1.elements_fit reads.extent.null.1 in
      let ends : stop ≡ start + len = reads.extent.null.2 in
      let one : is_own_at some map.head.channel w.sid start ≡ is_own_at other map.head.channel w.sid start = rw here (alike.covers w.sid start (omega (arith, late, short, ends))) in
      ap (λ b. cond (is_acknowledged map.head.channel ack w w.progress && b) (cond (is_granted map.elements w.sid) None (cond (is_pending map.elements w.sid) (Some w) (lost w))) (Some w)) one;
}

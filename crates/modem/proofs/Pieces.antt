-- The parts of intervals that leases cover have what the intervals have where a lease covers it.
use Rattle.std.proofs.Common.{◌≡◌, ℕ, suc, ◌+◌, ◌<◌, ◌≤◌, ◌^◌, Bool, true, false, ◌==◌, if◌then◌else◌, min, max, List}
use Rattle.std.proofs.Common.{[], ◌∷◌, map, Some, None, refl, sym, ◌∙◌, arith, inl, inr, ◌↔◌}
use Rattle.std.specs.List.{All, filter_map, cons_option}
use Rattle.std.proofs.lemmas.List.Elements.{All-nil, All-cons, All-append}
use Rattle.std.proofs.lemmas.Bool.{and_parts, or_cases, or_left, or_right, and_from, eqb-true, eq-eqb}
use Rattle.modem.proofs.Parts.{no_true}
use Rattle.modem.proofs.Tests.{covers_tells, covers_from}
use Rattle.modem.proofs.Order.{HasAt-joined}
use Rattle.modem.specs.declared.kept.KeptInterval.{KeptInterval}
use Rattle.modem.specs.declared.known.OwnLease.{OwnLease}
use Rattle.modem.specs.State.{IsAt, HasAt, is_of, covers, is_own_at}
use Rattle.modem.specs.KeptIntervals.{kept_interval, IsShort, piece, covered}

-- the part of an interval that a lease covers
abbrev cut_to : KeptInterval → OwnLease → KeptInterval
cut_to k l = record k { start = max k.start l.first; stop = min k.stop (l.last + 1) }

-- a lease of the interval's SID: its part has what the interval has in the lease
cut_in : (k : KeptInterval) (l : OwnLease) (ch m sid iuc : ℕ) → is_of k.channel k.sid l ≡ true → IsAt (kept_interval (cut_to k l)) ch m sid iuc → (covers ch sid m l ≡ true) × IsAt (kept_interval k) ch m sid iuc
cut_in k l ch m sid iuc of x =
    let parts : ((l.channel == k.channel) ≡ true) × ((l.sid == k.sid) ≡ true) = and_parts _ _ of in
    let from : max k.start l.first ≤ m = x.from in
    let to : m < min k.stop (l.last + 1) = x.to in (
      covers_from l.channel ch l.sid sid l.first l.last m (eqb-true _ _ parts.0 ∙ x.same_channel) (eqb-true _ _ parts.1 ∙ x.same_sid) (omega arith) (omega arith),
      record { same_channel = x.same_channel; same_sid = x.same_sid; same_iuc = x.same_iuc; from = omega arith; to = omega arith },
    )

cut_out : (k : KeptInterval) (l : OwnLease) (ch m sid iuc : ℕ) → covers ch sid m l ≡ true → IsAt (kept_interval k) ch m sid iuc → IsAt (kept_interval (cut_to k l)) ch m sid iuc
cut_out k l ch m sid iuc c x =
    let (of_ch, of_sid, first, last) = covers_tells l.channel ch l.sid sid l.first l.last m c in
    let from : k.start ≤ m = x.from in
    let to : m < k.stop = x.to in
    record { same_channel = x.same_channel; same_sid = x.same_sid; same_iuc = x.same_iuc; from = omega arith; to = omega arith }

-- a lease of another SID covers nothing of the interval
not_of : (k : KeptInterval) (l : OwnLease) (ch m sid iuc : ℕ) → is_of k.channel k.sid l ≡ false → covers ch sid m l ≡ true → IsAt (kept_interval k) ch m sid iuc → ⊥
not_of k l ch m sid iuc off c x =
    let (of_ch, of_sid, first, last) = covers_tells l.channel ch l.sid sid l.first l.last m c in
    no_true (sym off ∙ and_from _ _ (eq-eqb _ _ (of_ch ∙ sym x.same_channel)) (eq-eqb _ _ (of_sid ∙ sym x.same_sid)))

-- the parts of one interval
HasAt-pieces : (leases : List OwnLease) (k : KeptInterval) (ch m sid iuc : ℕ) → HasAt (map kept_interval (filter_map (piece k) leases)) ch m sid iuc ↔ ((is_own_at leases ch sid m ≡ true) × IsAt (kept_interval k) ch m sid iuc)
HasAt-pieces [] k ch m sid iuc = (λ h. absurd h, λ h. no_true h.0)
HasAt-pieces (l ∷ ls) k ch m sid iuc = go (HasAt-pieces ls k ch m sid iuc) (is_of k.channel k.sid l) refl
  where
    go : (HasAt (map kept_interval (filter_map (piece k) ls)) ch m sid iuc ↔ ((is_own_at ls ch sid m ≡ true) × IsAt (kept_interval k) ch m sid iuc)) → (b : Bool) → is_of k.channel k.sid l ≡ b → HasAt (map kept_interval (cons_option (if b then Some (cut_to k l) else None) (filter_map (piece k) ls))) ch m sid iuc ↔ ((is_own_at (l ∷ ls) ch sid m ≡ true) × IsAt (kept_interval k) ch m sid iuc)
    go rest true of = (
      λ h. elim h [ inl x ↦ let c = cut_in k l ch m sid iuc of x in (or_left _ _ c.0, c.1) | inr y ↦ let r = rest.0 y in (or_right _ _ r.0, r.1) ],
      λ h. elim (or_cases _ _ h.0) [ inl c ↦ inl (cut_out k l ch m sid iuc c h.1) | inr own ↦ inr (rest.1 (own, h.1)) ],
    )
    go rest false off = (
      λ h. let r = rest.0 h in (or_right _ _ r.0, r.1),
      λ h. elim (or_cases _ _ h.0) [ inl c ↦ absurd (not_of k l ch m sid iuc off c h.1) | inr own ↦ rest.1 (own, h.1) ],
    )

-- the parts of all of them
pub HasAt-covered : (leases : List OwnLease) (ks : List KeptInterval) (ch m sid iuc : ℕ) → HasAt (map kept_interval (covered leases ks)) ch m sid iuc ↔ ((is_own_at leases ch sid m ≡ true) × HasAt (map kept_interval ks) ch m sid iuc)
HasAt-covered leases [] ch m sid iuc = (λ h. absurd h, λ h. absurd h.1)
HasAt-covered leases (k ∷ ks) ch m sid iuc =
    let this = HasAt-pieces leases k ch m sid iuc in
    let rest = HasAt-covered leases ks ch m sid iuc in
    let joined = HasAt-joined (filter_map (piece k) leases) (covered leases ks) ch m sid iuc in (
      λ h. elim (joined.0 h) [ inl a ↦ let p = this.0 a in (p.0, inl p.1) | inr b ↦ let r = rest.0 b in (r.0, inr r.1) ],
      λ h. elim h.1 [ inl x ↦ joined.1 (inl (this.1 (h.0, x))) | inr y ↦ joined.1 (inr (rest.1 (h.0, y))) ],
    )

pub All-pieces : (leases : List OwnLease) (k : KeptInterval) → IsShort k → All IsShort (filter_map (piece k) leases)
All-pieces [] k short = All-nil IsShort
All-pieces (l ∷ ls) k short = go (All-pieces ls k short) (is_of k.channel k.sid l)
  where
    go : All IsShort (filter_map (piece k) ls) → (b : Bool) → All IsShort (cons_option (if b then Some (cut_to k l) else None) (filter_map (piece k) ls))
    go rest true = All-cons IsShort (cut_to k l) (filter_map (piece k) ls) (let whole : k.stop < k.start + 2 ^ 14 = short in omega arith) rest
    go rest false = rest

-- parts of short intervals are short
pub All-covered : (leases : List OwnLease) (ks : List KeptInterval) → All IsShort ks → All IsShort (covered leases ks)
All-covered leases [] all = All-nil IsShort
All-covered leases (k ∷ ks) all = All-append IsShort (filter_map (piece k) leases) (covered leases ks) (All-pieces leases k (all 0 k (omega arith))) (All-covered leases ks (λ i d lt. all (suc i) d (omega (arith, lt))))

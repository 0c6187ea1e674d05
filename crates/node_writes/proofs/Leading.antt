-- Writes one after another.
use Rattle.std.proofs.Common.{◌≡◌, ℕ, zero, suc, ◌<◌, ◌≤◌, List, [], ◌∷◌, length, take, Option, Some, sym, ap, subst}
use Rattle.std.proofs.Common.{arith, slice_get, inl, inr}
use Rattle.std.specs.Option.{MatchOption}
use Rattle.std.proofs.lemmas.Bool.{cases_lt}
use Rattle.std.proofs.lemmas.Option.{slice_get_past}
use Rattle.acceptor.specs.Content.{Content, Write, after_write}
use Rattle.node_writes.specs.declared.write_bytes.WriteBytes.{WriteBytes}
use Rattle.node_writes.specs.Writes.{HasStrange, IsStrange, LeadTo, SpellsOf}

-- the next write leads on
pub lead_more : (id : ℕ) (rs : List WriteBytes) (i : ℕ) (r : WriteBytes) (write : Option Write) (c last : Content)
    → slice_get rs i ≡ Some r → LeadTo id (take i rs) c last → SpellsOf id r write → LeadTo id (take (suc i) rs) c (after_write last write)
lead_more id [] i r write c last there led spells = absurd (cc (there))
lead_more id (x ∷ rs) zero r write c last there led spells =
    let same : r ≡ x = cc (there) in
    (write, subst (λ (y : WriteBytes). SpellsOf id y write) same spells, ap (λ (d : Content). after_write d write) led)
lead_more id (x ∷ rs) (suc i) r write c last there led spells = (led.0, led.1, lead_more id rs i r write (after_write c led.0) last there led.2 spells)

-- where its place is told otherwise
pub lead_next : (id : ℕ) (rs : List WriteBytes) (i j : ℕ) (r : WriteBytes) (write : Option Write) (c last next : Content)
    → j ≡ suc i → next ≡ after_write last write → slice_get rs i ≡ Some r → LeadTo id (take i rs) c last → SpellsOf id r write → LeadTo id (take j rs) c next
lead_next id rs i j r write c last next at_next is there led spells =
    subst (λ (k : ℕ). LeadTo id (take k rs) c next) (sym at_next) (subst (LeadTo id (take (suc i) rs) c) (sym is) (lead_more id rs i r write c last there led spells))

-- none before the i-th is strange
abbrev pub NoneStrange : ℕ → List WriteBytes → ℕ → Type 0
NoneStrange id rs i = (k : ℕ) → k < i → ¬ MatchOption (slice_get rs k) ⊥ (IsStrange id)

-- nor the next one, which spells a write
pub none_more : (id : ℕ) (rs : List WriteBytes) (i : ℕ) (r : WriteBytes) (write : Option Write) → slice_get rs i ≡ Some r → SpellsOf id r write → NoneStrange id rs i → NoneStrange id rs (suc i)
none_more id rs i r write there spells none k lt strange = elim (cases_lt k i) [
  | inl before ↦ none k before strange
  | inr from ↦
      let same : k ≡ i = omega (arith, lt, from) in
      subst (λ (o : Option WriteBytes). MatchOption o ⊥ (IsStrange id)) there (subst (λ (j : ℕ). MatchOption (slice_get rs j) ⊥ (IsStrange id)) same strange) write spells
]

pub none_next : (id : ℕ) (rs : List WriteBytes) (i j : ℕ) (r : WriteBytes) (write : Option Write) → j ≡ suc i → slice_get rs i ≡ Some r → SpellsOf id r write → NoneStrange id rs i → NoneStrange id rs j
none_next id rs i j r write at_next there spells none = subst (NoneStrange id rs) (sym at_next) (none_more id rs i r write there spells none)

-- so none of them is
pub none_at_all : (id : ℕ) (rs : List WriteBytes) (i : ℕ) → length rs ≤ i → NoneStrange id rs i → ¬ HasStrange id rs
none_at_all id rs i all none has = elim (cases_lt has.0 i) [
  | inl before ↦ none has.0 before has.1
  | inr from ↦ subst (λ (o : Option WriteBytes). MatchOption o ⊥ (IsStrange id)) (slice_get_past rs has.0 (omega (arith, all, from))) has.1
]

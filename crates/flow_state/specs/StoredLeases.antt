-- What is always true of the stored leases of a channel.
use Rattle.std.specs.Prelude.{◌≡◌, ℕ, ◌+◌, ◌*◌, ◌<◌, ◌≤◌, ◌==◌, ◌&&◌, not, Bool, true, nat_lt, if◌then◌else◌, List, []}
use Rattle.std.specs.Prelude.{◌∷◌, ◌++◌, map, length, slice_get, slice_set, Option, Some, None}
use Rattle.std.specs.List.{range_with_len}
use Rattle.std.specs.Map.{lookup}
use Rattle.flow_state.specs.declared.flow.Lease.{Lease}
use Rattle.flow_state.specs.declared.leases.Leases.TheInside.{Inside}
use Rattle.flow_state.specs.Limits.{last_sid}

-- ---- the names of leases

-- the places by modem and tag
abbrev pub Names : Type 0
Names = List ((ℕ × ℕ) × ℕ)

-- the place that modem and tag name
abbrev pub named : Names → (modem tag : ℕ) → Option ℕ
named es modem tag = lookup (λ h. (modem == h.0) && (tag == h.1)) es

-- the time comes after this end, or there is no end
abbrev pub is_after : Option ℕ → ℕ → Bool
is_after (Some end) n = nat_lt end n
is_after None n = true

-- each lease that doesn't end before the start stands where its modem and tag name it
abbrev pub AreNamedFrom : ℕ → Names → List Lease → Type 0
AreNamedFrom start es ls = (p : ℕ) (l : Lease) → slice_get ls p ≡ Some l → start ≤ l.last → named es l.modem l.tag ≡ Some p

-- each lease that ends after this stands where its modem and tag name it
abbrev pub AreNamed : Option ℕ → Names → List Lease → Type 0
AreNamed until es ls = (p : ℕ) (l : Lease) → slice_get ls p ≡ Some l → is_after until l.last ≡ true → named es l.modem l.tag ≡ Some p

-- each name is that of a lease of the modem and tag, so that there are no more names than leases
abbrev pub NameLeases : Names → List Lease → Type 0
NameLeases es ls = (modem tag p : ℕ) → named es modem tag ≡ Some p → (l : Lease) × (slice_get ls p ≡ Some l) × (l.modem ≡ modem) × (l.tag ≡ tag)

-- a lease of modem and tag that doesn't end before the start
abbrev pub is_lease_from : (start modem tag : ℕ) → Lease → Bool
is_lease_from start modem tag l = (l.modem == modem) && (l.tag == tag) && not (nat_lt l.last start)

-- ---- the leases in blocks of 128 places

-- no lease of the block ends before this
abbrev pub IsBound : List Lease → (block bound : ℕ) → Type 0
IsBound ls block bound = (p : ℕ) (l : Lease) → 128 * block ≤ p → p < 128 * block + 128 → slice_get ls p ≡ Some l → bound ≤ l.last

-- no lease of the block that stands before a place ends before this
abbrev pub IsBoundBefore : List Lease → (place block bound : ℕ) → Type 0
IsBoundBefore ls place block bound = (p : ℕ) (l : Lease) → 128 * block ≤ p → p < 128 * block + 128 → p < place → slice_get ls p ≡ Some l → bound ≤ l.last

-- each block's time is one before which none of its leases ends
abbrev pub AreBounds : List Lease → List ℕ → Type 0
AreBounds ls bounds = (block bound : ℕ) → slice_get bounds block ≡ Some bound → IsBound ls block bound

-- the lease ends before the start, and none before it in its block does
abbrev pub IsFirstOver : List Lease → (block start : ℕ) → Lease → Type 0
IsFirstOver ls block start l =
    (p : ℕ) × (128 * block ≤ p) × (slice_get ls p ≡ Some l) × (l.last < start) × ((q : ℕ) (m : Lease) → 128 * block ≤ q → q < p → slice_get ls q ≡ Some m → start ≤ m.last)

-- each lease has a block, and each block a lease
abbrev pub AreBlocks : (leases blocks : ℕ) → Type 0
AreBlocks leases blocks = (leases ≤ 128 * blocks) × (128 * blocks < leases + 128)

-- ---- the leases

-- SIDs are given in order from 1, and are unicast ones
pub record IsInOrder (a : Inside) : Type 0 where
  pub given : map (λ l. l.sid) a.latest.items ≡ range_with_len 1 (length a.latest.items)
  pub few : length a.latest.items ≤ last_sid
  pub named : AreNamed a.unnamed_until a.names.entries a.latest.items
  pub name_leases : NameLeases a.names.entries a.latest.items
  pub bounds : AreBounds a.latest.items a.first_ends.items
  pub blocks : AreBlocks (length a.latest.items) (length a.first_ends.items)

-- the list with an item at a place, over the one there or behind the others
abbrev pub put_at : {X : Type 0} → List X → ℕ → X → List X
put_at xs place x = if nat_lt place (length xs) then slice_set xs place x else xs ++ x ∷ []

-- the least SID that was never given, where one is left
abbrev pub next_of : List Lease → Option ℕ
next_of ls = if nat_lt (length ls) last_sid then Some (length ls + 1) else None

-- Why an open is Refused.
use Rattle.std.proofs.Common.{◌≡◌, inl, inr, ◌⊎◌, ℕ, ◌≤◌, Bool, true, false, Option, Some, None, Err, Result, IsSome}
use Rattle.std.proofs.Common.{sym, ap, subst, ◌∙◌, arith}
use Rattle.acceptor_store.proofs.Words.{cases_Bool, Ghosts, Trees, State, HasCleanDisk, Survives, Held, state, Error}
use Rattle.acceptor_store.proofs.Words.{SqliteFailure, Version, Stop, IsFault, IsTold, told_as, First, Rereads, Numbers}
use Rattle.acceptor_store.proofs.Words.{OpenFault, fault_of, FindsContent, HadIn, HasStopped, IsToMake, FailsAnew}
use Rattle.sqlite.specs.declared.error.ErrorCode.TheVariants.{OutOfMemory}
use Rattle.acceptor_store_parts.specs.declared.Stop.TheVariants as stop
use Rattle.acceptor_store.specs.declared.OpenFault.TheVariants.{Refused}

refused_stop : (s : Stop) → fault_of s ≡ Refused → s ≡ stop.Refused
refused_stop stop.Memory e = absurd cc
refused_stop stop.Refused e = cc
refused_stop stop.Down e = absurd cc

pub told_stop : (s : Stop) (f : OpenFault) → f ≡ fault_of s → f ≡ Refused → s ≡ stop.Refused
told_stop s f is refused = refused_stop s (sym is ∙ refused)

-- want of memory isn't told as Refused
by_memory : (is_open : Option Bool) (e : Error) → e ≡ SqliteFailure OutOfMemory → told_as is_open e ≡ stop.Refused → ⊥
by_memory None e is told = absurd cc
by_memory (Some false) e is told = absurd cc
by_memory (Some true) e is told = absurd (let t = sym (ap (told_as (Some true)) is) ∙ told in cc)

-- what stopped by then has stopped later
pub stopped_later : {P : Trees → Type 0} (old mid new : State) → Survives mid new P → HasStopped old mid → HasStopped old new
stopped_later old mid new kept (inl (inl shut)) = inl (inl shut)
stopped_later old mid new kept (inl (inr more)) = inl (inr (omega (arith, more, kept.counts)))
stopped_later old mid new kept (inr limit) = inr limit

-- and what stopped since then
since : {P : Trees → Type 0} (old mid new : State) → HasCleanDisk mid → Survives old mid P → mid.faults ≤ new.faults → HasStopped mid new → HasStopped old new
since old mid new clean before after (inl (inl shut)) = elim (cases_Bool old.is_open) [
  | inl opened ↦ elim (before.closes clean opened) [
    | inl still ↦ absurd (let e = sym still ∙ shut in cc)
    | inr more ↦ inl (inr (omega (arith, more, after)))
  ]
  | inr closed ↦ inl (inl closed)
]
since old mid new clean before after (inl (inr more)) = inl (inr (omega (arith, more, before.counts)))
since old mid new clean before after (inr limit) = inr (subst IsSome before.limit limit)

pub stopped_since : {P Q : Trees → Type 0} (old mid new : State) → HasCleanDisk mid → Survives old mid P → Survives mid new Q → HasStopped mid new → HasStopped old new
stopped_since old mid new clean before after stops = since old mid new clean before after.counts stops

pub stopped_twice : {P Q R : Trees → Type 0} (old mid late new : State) → HasCleanDisk mid → Survives old mid P → Survives mid late Q → Survives late new R → HasStopped mid new → HasStopped old new
stopped_twice old mid late new clean before after last stops = since old mid new clean before (omega (arith, after.counts, last.counts)) stops

-- a query that failed
pub query_refused : {T : Type 0} {P : Trees → Type 0} (old mid new : State) (e : Error) (s : Stop) (f : OpenFault) → f ≡ fault_of s → ◌≡◌ {A = Result T OpenFault} (Err f) (Err Refused) → IsTold mid new e s → IsFault old mid e
    → Survives mid new P → HasStopped old new
query_refused old mid new e s f is refused told (inl memory) kept =
    absurd (by_memory told.0 e memory (sym told.1 ∙ refused_stop s (sym is ∙ (let same : f ≡ Refused = cc in same))))
query_refused old mid new e s f is refused told (inr other) kept = stopped_later old mid new kept other

module _ {S : Type 0} (g : Ghosts S) (version : Version) (conn again new : Held S) (store : S) where
  -- a store that was opened anew is open, and its queries may take all steps
  pub fails_anew : Rereads version (state g conn) (state g again) → (state g again).step_limit ≡ None → HasStopped (state g again) (state g new) → (state g new).faults ≤ g.faults store → FailsAnew g version conn store
  fails_anew re none (inl (inl shut)) kept = absurd (let e = sym re.0.opens.is_open ∙ shut in cc)
  fails_anew re none (inl (inr more)) kept = (again, re, omega (arith, more, kept))
  fails_anew re none (inr limit) kept = absurd (let some : IsSome {T = ℕ} None = subst IsSome none limit in cc)

module _ {S : Type 0} (g : Ghosts S) (conn : Held S) where
  -- a migration was refused
  pub raise_refused : (version : Version) (found : Held S) (numbers : Numbers) (store : S) → version ≡ First → FindsContent g version conn found numbers → IsToMake g conn ⊎ FailsAnew g version conn store
  raise_refused version found numbers store is f = inl (inr (f.0, subst (λ v. HadIn g v conn f.0) is f.1))

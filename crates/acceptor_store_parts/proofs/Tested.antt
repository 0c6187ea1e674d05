-- What a test of a connection tells.
use Rattle.std.proofs.Common.{◌≡◌, inl, inr, ℕ, List, true, false, Some, sym, ap, ◌∙◌}
use Rattle.acceptor_store_parts.proofs.Words.{Row, State, HasCause, IsUnchanged, store_error, Error, StoreError}
use Rattle.acceptor_store_parts.proofs.Words.{OutOfMemory, Io, Corrupt, Full, Broken, Unstorable, IsShutBy, tells_open}
use Rattle.sqlite.specs.State.{IsNotRun}

no_cause : (old new : State) (cause : StoreError) → HasCause old new ⊥ cause → tells_open (store_error cause) ≡ Some true → ⊥
no_cause old new OutOfMemory has told = cc
no_cause old new Io has told = cc
no_cause old new Corrupt has told = cc
no_cause old new Full has told = cc
no_cause old new Broken has told = cc
no_cause old new Unstorable has told = has

shut : (old new : State) (cause : StoreError) → HasCause old new ⊥ cause → tells_open (store_error cause) ≡ Some false → IsShutBy old new
shut old new OutOfMemory has told = absurd cc
shut old new Io has told = inr has
shut old new Corrupt has told = inr has
shut old new Full has told = inr has
shut old new Broken has told = inl has
shut old new Unstorable has told = absurd has

module _ (old new : State) (sql : List ℕ) (params : Row) (e : Error) where
  pub is_open_still : IsNotRun old new sql params e → tells_open e ≡ Some true → IsUnchanged old new
  unfolding IsNotRun
  is_open_still (inl h) told = h.1
  is_open_still (inr h) told = absurd (no_cause old new h.0 h.2 (ap tells_open (sym h.1) ∙ told))

  pub is_shut : IsNotRun old new sql params e → tells_open e ≡ Some false → IsShutBy old new
  unfolding IsNotRun
  is_shut (inl ((inl (fault, known, is)), same)) told = absurd (let t = ap tells_open (sym is) ∙ told in cc)
  is_shut (inl ((inr (c, known, inl (more, is))), same)) told = absurd (let t = ap tells_open (sym is) ∙ told in cc)
  is_shut (inl ((inr (c, known, inr (inl (other, is)))), same)) told = absurd (let t = ap tells_open (sym is) ∙ told in cc)
  is_shut (inl ((inr (c, known, inr (inr (timed, is)))), same)) told = absurd (let t = ap tells_open (sym is) ∙ told in cc)
  is_shut (inr h) told = shut old new h.0 h.2 (ap tells_open (sym h.1) ∙ told)

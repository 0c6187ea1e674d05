-- What a node's answer tells of its store.
use Rattle.std.proofs.Common.{◌≡◌, inl, inr, ℕ, Bool, false, refl, sym, ◌∙◌, Err}
use Rattle.acceptor.specs.Faults.{CountsFaults, BreaksBy, BreaksByReopen}
use Rattle.acceptor.specs.declared.records.RecordsFault.{RecordsFault}
use Rattle.acceptor.specs.declared.records.RecordsFault.TheVariants.{Refused, Broken, OutOfMemory}
use Rattle.proposer.specs.Faults.{CountsStops, BreaksByStop}
use Rattle.proposer.specs.declared.fault.NodeFault.{NodeFault as Fault}
use Rattle.node.specs.Calls.{Kept, KeptByRestart}
use Rattle.node.specs.Sched.{AfterStoreFault, Stops, who_of}
use Rattle.node.specs.declared.parts.Parts.{Parts}

module _ {R : Type 0} (count_of : R → ℕ) (is_broken : R → Bool) (old : Parts R) (a : R) where
  abbrev later : Parts R
  later = record old { records = a }

  -- a call in which the store failed
  pub failed : (fault : RecordsFault) (answer : Fault) (new : Parts R) → old.is_down ≡ false → AfterStoreFault later fault answer new
      → CountsFaults {T = Unit {0}} (Err fault) (count_of old.records) (count_of a) → BreaksBy {T = Unit {0}} (Err fault) (is_broken old.records) (is_broken a)
      → Kept {T = Unit {0}} (who_of count_of is_broken old) (Err answer) (who_of count_of is_broken new)
  failed Refused answer new up so counts breaks = rw (so.0, so.1) (refl, refl, counts.0, (counts.1 tt, breaks.1), refl)
  failed OutOfMemory answer new up so counts breaks = rw (so.0, so.1) (refl, refl, counts.0, (counts.2 tt, breaks.1 ∙ sym breaks.0), refl)
  failed Broken answer new up so counts breaks = rw (so.0, so.1) (refl, refl, counts.0, inl (counts.1 tt, breaks), refl)

  -- a restart in which the store failed
  pub restart_failed : (fault : RecordsFault) (answer : Fault) (new : Parts R) → AfterStoreFault later fault answer new
      → CountsFaults {T = Unit {0}} (Err fault) (count_of old.records) (count_of a) → BreaksByReopen {T = Unit {0}} (Err fault) (is_broken old.records) (is_broken a)
      → KeptByRestart {T = Unit {0}} (who_of count_of is_broken old) (Err answer) (who_of count_of is_broken new)
  restart_failed Refused answer new so counts breaks = rw (so.0, so.1) (refl, refl, counts.0, (counts.1 tt, inr breaks), refl)
  restart_failed OutOfMemory answer new so counts breaks = rw (so.0, so.1) (refl, refl, counts.0, (counts.2 tt, inr breaks), refl)
  restart_failed Broken answer new so counts breaks = rw (so.0, so.1) (refl, refl, counts.0, (counts.1 tt, breaks), refl)

  -- what a proposer's answer tells
  pub stopped : old.is_down ≡ false → (fault : Fault) (new : Parts R) → Stops record old { records = a } fault new → CountsStops {T = Unit {0}} (Err fault) (count_of old.records) (count_of a) → BreaksByStop {T = Unit {0}} (Err fault) (is_broken old.records) (is_broken a)
      → Kept {T = Unit {0}} (who_of count_of is_broken old) (Err fault) (who_of count_of is_broken new)
  stopped up Fault.Down new is counts breaks = rw is (refl, refl, counts.0, inl (counts.1 tt, breaks), refl)
  stopped up Fault.StoreRefused new is counts breaks = rw is (refl, refl, counts.0, (counts.1 tt, breaks.1), refl)
  stopped up declined new is counts breaks = rw is (refl, refl, counts.0, (counts.2 tt, breaks), refl)

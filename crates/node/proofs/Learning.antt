-- A node that learns a value.
use Rattle.std.proofs.Common.{◌≡◌, inr, ℕ, List, refl, ap, false, true, cond, Ok, Err, Option, Some, None, is_some, Bor}
use Rattle.std.specs.Option.{option_copied}
use Rattle.acceptor.specs.Content.{Content, after_write}
use Rattle.acceptor.specs.Content.Write.{Learns}
use Rattle.acceptor.specs.Found.{Holds, HoldsEither, FindsSame}
use Rattle.proposer.specs.Faults.{IsHarmlessStop}
use Rattle.proposer.specs.declared.fault.NodeFault.{NodeFault as Fault}
use Rattle.learner.specs.Tally.{teaches, counts}
use Rattle.node.specs.View.{View}
use Rattle.node.specs.View.Standing.{Running, Stopped}
use Rattle.node.specs.Step.{known, learns, nothing, voted}
use Rattle.node.specs.Calls.{IsStop}
use Rattle.node.specs.Sched.{Stops, view_over}
use Rattle.node.specs.declared.parts.Parts.{Parts}
use Rattle.node.proofs.Endings.{EndsSo, still_holds}

module _ {R : Type 0} (may_find : R → Content → Type 0) (old : Parts R) (up : old.is_down ≡ false) (content : Content) (holds : Holds (may_find old.records) content) (p : ℕ) (v : List ℕ) (a : R) where
  abbrev pub Ended : Fault → Parts R → Type 0
  Ended fault new = EndsSo may_find old up content holds (λ course. course ≡ Ok (learns (view_over old content) p v)) (Err fault) new

  -- the row of a value wasn't written, or is in doubt
  pub learn_fails : (fault : Fault) (new : Parts R) → IsStop fault → (IsHarmlessStop fault → FindsSame (may_find old.records) (may_find a)) → HoldsEither (may_find a) content (after_write content (Some (Learns p v)))
      → Stops record old { records = a } fault new → Ended fault new
  learn_fails Fault.OutOfMemory new stop harmless doubt is = rw is (Running (view_over old content), refl, (up, refl, still_holds (may_find old.records) (may_find a) content (harmless tt) holds))
  learn_fails Fault.StoreRefused new stop harmless doubt is = rw is (Running (view_over old content), refl, (up, refl, still_holds (may_find old.records) (may_find a) content (harmless tt) holds))
  learn_fails Fault.Down new stop harmless doubt is = rw is (Stopped content (Some (Learns p v)), inr (learns (view_over old content) p v, refl, refl), (refl, doubt))
  learn_fails declined new stop harmless doubt is = absurd stop

-- a place that is learned learns nothing more
pub known_there : (view : View) (o : Option (List ℕ)) (p : ℕ) (v : List ℕ) → is_some o ≡ true → nothing view ≡ known view o p v
known_there view (Some w) p v some = refl
known_there view None p v some = absurd (cc (some))

-- nor does a vote there, which isn't counted
pub voted_there : (members : ℕ) (view : View) (o : Option (List ℕ)) (b p : ℕ) (v : List ℕ) (n : ℕ) → is_some o ≡ true → nothing view ≡ voted members view o b p v n
voted_there members view (Some w) b p v n some = refl
voted_there members view None b p v n some = absurd (cc (some))

-- a vote that teaches nothing is counted
pub voted_counts : (members : ℕ) (view : View) (o : Option (List ℕ)) (b p : ℕ) (v : List ℕ) (n : ℕ) → false ≡ teaches members view.tally o b p v n
    → nothing (record view { tally = counts view.tally o b p v n }) ≡ voted members view o b p v n
voted_counts members view o b p v n not_so = ap (λ x. cond x (learns view p v) (nothing (record view { tally = counts view.tally o b p v n }))) not_so

-- there is something behind a reference where there is a reference
pub is_copied : {X : Type 0} (o : Option (Bor X)) → is_some (option_copied o) ≡ is_some o
is_copied None = refl
is_copied (Some x) = refl

-- A node that tells another what it has learned is as it was.
use Rattle.std.proofs.Common.{◌≡◌, ℕ, suc, min, List, [], ◌∷◌, length, take, false, refl, sym, ap, ◌∙◌, subst, Result}
use Rattle.std.proofs.Common.{Ok, Err, Vec, arith}
use Rattle.std.proofs.lemmas.List.{length-take}
use Rattle.std.specs.Prelude.{IfOk, IfErr}
use Rattle.std.specs.declared.alloc.Global.{Global}
use Rattle.ballots.specs.Members.{member_count}
use Rattle.ballots.specs.declared.letters.Letter.{Letter}
use Rattle.acceptor.specs.Content.{Content}
use Rattle.proposer.specs.declared.fault.NodeFault.{NodeFault as Fault}
use Rattle.node.specs.View.{View, Standing}
use Rattle.node.specs.View.Standing.{Running, Stopped}
use Rattle.ballots.specs.Rows.{rows_from}
use Rattle.node.specs.Step.{first_known, known_letters, letters_told, tell}
use Rattle.node.specs.Calls.{Called, answer}
use Rattle.node.specs.Calls.Cause.{Tell}
use Rattle.node.specs.Sched.{Stands}
use Rattle.node.specs.declared.parts.Parts.{Parts}

-- one that is up, and lacks memory at most
pub tells_up : {R : Type 0} (may_find : R → Content → Type 0) (n : Parts R) (to place : ℕ) → n.is_down ≡ false → (result : Result (Vec Letter Global) Fault) → IfErr result (λ fault. fault ≡ Fault.OutOfMemory)
    → IfOk result (λ letters. letters.items ≡ letters_told (member_count n.proposer.members) n.proposer.id n.knowledge.tally.learned to place)
    → (s : Standing) → Stands may_find n s → Called (member_count n.proposer.members) n.proposer.id s (Tell to place) (answer result) s
tells_up may_find n to place up (Ok letters) lacks is (Running view) stands =
    (tell (member_count n.proposer.members) n.proposer.id view to place, refl, is ∙ ap (λ (v : View). letters_told (member_count n.proposer.members) n.proposer.id v.tally.learned to place) (sym stands.1), refl)
tells_up may_find n to place up (Err fault) lacks is (Running view) stands =
    subst (λ (f : Fault). Called (member_count n.proposer.members) n.proposer.id (Running view) (Tell to place) (Err f) (Running view)) (sym lacks) refl
tells_up may_find n to place up result lacks is (Stopped c doubt) stands = absurd (cc (up, stands.0))

-- a letter for each row
letter_each : (me n : ℕ) (rows : List (ℕ × List ℕ)) → length (known_letters me n rows) ≡ length rows
letter_each me n [] = refl
letter_each me n (row ∷ rows) = ap suc (letter_each me n rows)

-- how many places are told at once
pub told_at_once : (me n q : ℕ) (learned : List (ℕ × List ℕ)) → length (first_known me learned n q) ≡ min 64 (length (rows_from learned q))
told_at_once me n q learned = omega (arith, letter_each me n (take 64 (rows_from learned q)), length-take 64 (rows_from learned q))

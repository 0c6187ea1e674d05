use Rattle.std.proofs.Common.{◌≡◌, ◌∙◌, ℕ, ◌+◌, Bool, List, [], ◌++◌, IsTrue, length, sym, ap, subst}
use Rattle.std.proofs.Common.{arith}
use Rattle.std.proofs.lemmas.List.{append-nil, length-append}
use Rattle.node.specs.Calls.{IsStop}
use Rattle.node_journal.proofs.Pieces.{no_element}
use Rattle.node_journal.specs.Following.{IsCrashPart, IsPartOf}
use Rattle.node_journal.specs.Turns.{BeginsWith}
use Rattle.node_service.specs.Texts.{acted_text}
use Rattle.proposer.specs.declared.fault.NodeFault.{NodeFault}
use Rattle.seats.specs.declared.acted.Acted.TheVariants.{Fault}
use Rattle.node_journal.proofs.replies.crash_part.Goals as goal

-- a part that is as long as all is all
all_of : (part text : List ℕ) → length part ≡ length text → BeginsWith part text → part ≡ text
all_of part text size begins =
    let both : length text ≡ length part + length begins.0 = ap length begins.1 ∙ length-append part begins.0 in
    let none : begins.0 ≡ [] = no_element begins.0 (omega (arith, both, size)) in
    sym (begins.1 ∙ (ap (λ (rest : List ℕ). part ++ rest) none ∙ append-nil part))

-- a part of the reply that the node crashed by this fault is a part of such a reply
a_crash : (fault : NodeFault) (after : List ℕ) (count : ℕ) (is_whole : Bool) → IsStop fault → IsPartOf (acted_text (Fault fault)) after count → (IsTrue is_whole → count ≡ length (acted_text (Fault fault)))
    → IsCrashPart after record { count = count; is_whole = is_whole }
a_crash fault after count is_whole stop part all = (
  (part.0, part.1, part.2, (fault, stop, part.3)),
  λ whole.
      let same : part.0 ≡ acted_text (Fault fault) = all_of part.0 (acted_text (Fault fault)) (part.1 ∙ all whole) part.3 in
      (fault, stop, sym (all whole), subst (λ (xs : List ℕ). BeginsWith xs after) same part.2),
)

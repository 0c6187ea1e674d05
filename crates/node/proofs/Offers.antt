-- An offer is the case of the node's table.
use Rattle.std.proofs.Common.{◌≡◌, ◌⊎◌, inl, inr, List, ℕ, refl, sym, ap, subst, ◌∙◌, Result, Ok, Err, Vec, IfOk, IfErr}
use Rattle.std.proofs.Common.{OnErr, IsTrue, is_ok, false, rules}
use Rattle.std.specs.declared.alloc.Global.{Global}
use Rattle.ballots.specs.Members.{member_count}
use Rattle.ballots.specs.declared.letters.Letter.{Letter}
use Rattle.acceptor.specs.Content.{Content}
use Rattle.acceptor.specs.Found.{Holds}
use Rattle.proposer.specs.Turns as turn
use Rattle.proposer.specs.Turns.{Turn}
use Rattle.proposer.specs.declared.fault.NodeFault.{NodeFault as Fault}
use Rattle.proposer.specs.declared.proposer.Proposer.{Proposer}
use Rattle.node.specs.View.{View}
use Rattle.node.specs.View.Standing.{Running}
use Rattle.node.specs.Step.{offer, Outcome}
use Rattle.proposer.specs.declared.role.Role.{Role}
use Rattle.node.specs.Calls.{CallEnds, TakesTurn, answer}
use Rattle.node.specs.Sched.{view_over}
use Rattle.node.specs.declared.parts.Parts.{Parts}
use Rattle.node.proofs.Endings.{EndsSo, turns}
use Rattle.node.proofs.Turning.{StopsTurn, never_stops, offer_so, turned, turned_or}

module _ {R : Type 0} (may_find : R → Content → Type 0) (old : Parts R) (up : old.is_down ≡ false) (content : Content) (holds : Holds (may_find old.records) content) (v : List ℕ) (proposer : Proposer) (rest : proposer ≡ record old.proposer { role = proposer.role }) where
  abbrev view : View
  view = view_over old content

  abbrev members : ℕ
  members = member_count old.proposer.members

  abbrev me : ℕ
  me = old.proposer.id

  abbrev later : Parts R
  later = record old { proposer = proposer }

  abbrev IsCourse : Result Outcome Fault → Type 0
  IsCourse course = course ≡ offer members me view old.proposer.role v

  -- a fault of the offer's own
  declines : (fault : Fault) → turn.offer members me old.proposer.role v ≡ Err fault → CallEnds IsCourse view (Err fault) (Running view)
  declines fault is = by_fault fault (sym (offer_so members me view old.proposer.role v ∙ ap (turned_or members me view) is)) is
    where
      by_fault : (fault : Fault) → Err fault ≡ offer members me view old.proposer.role v → turn.offer members me old.proposer.role v ≡ Err fault → CallEnds IsCourse view (Err fault) (Running view)
      by_fault Fault.OutOfMemory course is = refl
      by_fault Fault.StoreRefused course is = refl
      by_fault Fault.Down course is = absurd (never_stops members me view old.proposer.role v (subst StopsTurn (sym is) tt))
      by_fault declined course is = (course, refl)

  pub offer_ends : (result : Result (Vec Letter Global) Fault) → IfOk result (λ letters. turn.offer members me old.proposer.role v ≡ Ok record { role = proposer.role; letters = letters.items })
      → IfErr result (λ fault. (turn.offer members me old.proposer.role v ≡ Err fault) ⊎ ((fault ≡ Fault.OutOfMemory) × IsTrue (is_ok (turn.offer members me old.proposer.role v)))) → OnErr result (proposer ≡ old.proposer)
      → EndsSo may_find old up content holds IsCourse (answer result) later
  offer_ends (Ok letters) ok declined unchanged =
      let o = turned view record { role = proposer.role; letters = letters.items } in
      let hint : old.proposer.hint ≡ proposer.hint = sym (ap (λ (p : Proposer). p.hint) rest) in
      turns may_find old up content holds IsCourse later o letters.items up (λ i. record o.view { hint = sym hint i }) refl (sym (offer_so members me view old.proposer.role v ∙ ap (turned_or members me view) ok)) refl
  offer_ends (Err fault) ok (inl is) unchanged = subst (λ (p : Proposer). EndsSo may_find old up content holds IsCourse (Err fault) record old { proposer = p }) (sym unchanged) (Running view, declines fault is, (up, refl, holds))
  offer_ends (Err fault) ok (inr wants) unchanged =
      subst (λ f. EndsSo may_find old up content holds IsCourse (Err f) later) (sym wants.0) (subst (λ (p : Proposer). EndsSo may_find old up content holds IsCourse (Err Fault.OutOfMemory) record old { proposer = p }) (sym unchanged) (Running view, refl, (up, refl, holds)))

-- an offer takes the proposer's turn
pub takes_turn : (t : Result Turn Fault) (role : Role) (result : Result (Vec Letter Global) Fault) → IfOk result (λ letters. t ≡ Ok record { role = role; letters = letters.items })
    → IfErr result (λ fault. (t ≡ Err fault) ⊎ ((fault ≡ Fault.OutOfMemory) × IsTrue (is_ok t))) → TakesTurn t (answer result)
takes_turn (Ok turn) role (Ok letters) ok declined = cc (ok)
takes_turn (Ok turn) role (Err fault) ok (inl is) = absurd (cc (is))
takes_turn (Ok turn) role (Err fault) ok (inr wants) = wants.0
takes_turn (Err other) role (Ok letters) ok declined = absurd (cc (ok))
takes_turn (Err other) role (Err fault) ok (inl is) = cc (is)
takes_turn (Err other) role (Err fault) ok (inr wants) = absurd (search rules)

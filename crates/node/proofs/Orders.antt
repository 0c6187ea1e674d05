-- Want of memory and a store that fails come after what declines a call.
use Rattle.std.proofs.Common.{◌≡◌, ◌⊎◌, inl, inr, List, ℕ, ◌<◌, length, true, sym, subst, Result, Ok, Err, Vec, IfErr}
use Rattle.std.proofs.Common.{IsTrue, is_ok}
use Rattle.std.specs.declared.alloc.Global.{Global}
use Rattle.ballots.specs.Members.{member_count}
use Rattle.ballots.specs.Limits.{most_places}
use Rattle.ballots.specs.declared.letters.Letter.{Letter}
use Rattle.acceptor.specs.Content.{Content}
use Rattle.acceptor.specs.Found.{Findable}
use Rattle.proposer.specs.Turns as turn
use Rattle.proposer.specs.Turns.{Turn, DeclinesToLead}
use Rattle.proposer.specs.declared.fault.NodeFault.{NodeFault as Fault}
use Rattle.node.specs.View.{View, gapless}
use Rattle.node.specs.View.Standing.{Running}
use Rattle.node.specs.Calls.{Cause, StopsLast, answer}
use Rattle.node.specs.Calls.Cause.{Lead, Offer}
use Rattle.node.specs.Sched.{Stands, view_over}
use Rattle.node.specs.declared.parts.Parts.{Parts}
use Rattle.node.proofs.Turning.{StopsTurn, never_stops, offer_so, turned_or}

module _ (members me : ℕ) (view : View) where
  -- a turn that is not declined is an outcome
  is_outcome : (r : Result Turn Fault) → IsTrue (is_ok r) → IsTrue (is_ok (turned_or members me view r))
  is_outcome (Ok t) is = is
  is_outcome (Err fault) is = is

  pub offer_last : (v : List ℕ) (result : Result (Vec Letter Global) Fault)
      → IfErr result (λ fault. (turn.offer members me view.role v ≡ Err fault) ⊎ ((fault ≡ Fault.OutOfMemory) × IsTrue (is_ok (turn.offer members me view.role v))))
      → StopsLast members me view (Offer v) (answer result)
  offer_last v (Ok letters) declined = tt
  offer_last v (Err fault) (inl is) = λ stops. absurd (never_stops members me view view.role v (subst StopsTurn (sym is) stops))
  offer_last v (Err fault) (inr wants) = λ stops. subst (λ r. IsTrue (is_ok r)) (sym (offer_so members me view view.role v)) (is_outcome (turn.offer members me view.role v) wants.1)

  -- a ballot is looked for only where the log has room
  pub lead_last : (found : Findable) (hint prefix : ℕ) → (prefix < most_places → prefix ≡ length (gapless view)) → (fault : Fault)
      → DeclinesToLead found hint me prefix fault → StopsLast members me view Lead (Err fault)
  lead_last found hint prefix short Fault.OutOfMemory below stops = subst (λ n. n < most_places) (short below) below
  lead_last found hint prefix short Fault.StoreRefused below stops = subst (λ n. n < most_places) (short below) below
  lead_last found hint prefix short Fault.Down below stops = subst (λ n. n < most_places) (short below) below
  lead_last found hint prefix short declined declines stops = absurd stops

-- a node that is down stands for no view
pub in_no_view : {R : Type 0} (may_find : R → Content → Type 0) (n : Parts R) → n.is_down ≡ true → (view : View) → Stands may_find n (Running view) → ⊥
in_no_view may_find n down view stands = absurd (cc (down, stands.0))

-- what is said of a node over each content is said of each view that it stands for
pub in_each_view : {R : Type 0} (may_find : R → Content → Type 0) (n : Parts R) (cause : Cause) (result : Result (List Letter) Fault)
    → ((c : Content) → StopsLast (member_count n.proposer.members) n.proposer.id (view_over n c) cause result)
    → (view : View) → Stands may_find n (Running view) → StopsLast (member_count n.proposer.members) n.proposer.id view cause result
in_each_view may_find n cause result last view stands = subst (λ v. StopsLast (member_count n.proposer.members) n.proposer.id v cause result) (sym stands.1) (last view.content)

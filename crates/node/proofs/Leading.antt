-- A node that is asked to lead.
use Rattle.std.proofs.Common.{IfErr, Vec, ◌≡◌, ◌⊎◌, inl, inr, ℕ, Bool, IsTrue, ◌+◌, ◌≤◌, ◌<◌, length, List, refl, sym}
use Rattle.std.proofs.Common.{ap, subst, ◌∙◌, Result, Ok, Err, Some, None, true, false}
use Rattle.std.specs.declared.alloc.Global.{Global}
use Rattle.ballots.specs.Limits.{most_places}
use Rattle.ballots.specs.Members.{member_count}
use Rattle.ballots.specs.Ballots.{IsLeastAbove}
use Rattle.ballots.specs.declared.letters.Letter.{Letter}
use Rattle.acceptor.specs.Content.{Content, after_write}
use Rattle.acceptor.specs.Content.Write.{Tries}
use Rattle.acceptor.specs.Found.{Holds, HoldsEither, FindsSame, HasMade}
use Rattle.proposer.specs.Faults.{IsHarmlessStop}
use Rattle.proposer.specs.Turns as turn
use Rattle.proposer.specs.Turns.{Turn, DeclinesToLead, MayHaveTried, IsNextBallot}
use Rattle.proposer.specs.declared.fault.NodeFault.{NodeFault as Fault}
use Rattle.proposer.specs.declared.proposer.Proposer.{Proposer}
use Rattle.node.specs.View.{View, values_from, gapless}
use Rattle.node.specs.View.Standing.{Running, Stopped}
use Rattle.node.specs.Step.{Leads, lead_with, limit}
use Rattle.node.specs.Calls.{CallEnds}
use Rattle.node.specs.Learned.{Learned}
use Rattle.node.specs.Sched.{Stands, Stops, view_over}
use Rattle.node.specs.declared.parts.Parts.{Parts}
use Rattle.node.proofs.Endings.{EndsSo, still_holds}

-- a node's own fault leaves its records
pub honest_before : {R : Type 0} (is_honest : R → Bool) (old : Parts R) (fault : Fault) (new : Parts R) → Stops old fault new → IsTrue (is_honest new.records) → IsTrue (is_honest old.records)
honest_before is_honest old Fault.Down new is honest = subst (λ n. IsTrue (is_honest n.records)) is honest
honest_before is_honest old other new is honest = subst (λ n. IsTrue (is_honest n.records)) is honest

-- a fault after which all but its records is as it was
pub stops_at : {R : Type 0} (old : Parts R) (records : R) (proposer : Proposer) (knowledge : Learned) (fault : Fault) (new : Parts R) → knowledge ≡ old.knowledge → proposer ≡ old.proposer
    → Stops record old { records = records; proposer = proposer; knowledge = knowledge } fault new → Stops record old { records = records } fault new
stops_at old records proposer knowledge fault new same unchanged is = rw (same, unchanged) at is

module _ {R : Type 0} (may_find : R → Content → Type 0) (old : Parts R) (up : old.is_down ≡ false) (content : Content) (holds : Holds (may_find old.records) content) (prefix : ℕ) (records : R)
    (short : prefix < most_places → prefix ≡ length (values_from 1 old.knowledge.tally.learned)) (full : most_places ≤ prefix → most_places ≤ length (values_from 1 old.knowledge.tally.learned)) where
  abbrev view : View
  view = view_over old content

  abbrev members : ℕ
  members = member_count old.proposer.members

  abbrev me : ℕ
  me = old.proposer.id

  abbrev later : Parts R
  later = record old { records = records }

  abbrev pub Ended : Result (List Letter) Fault → Parts R → Type 0
  Ended = EndsSo may_find old up content holds (Leads members me view)

  stays : (fault : Fault) → CallEnds (Leads members me view) view (Err fault) (Running view) → FindsSame (may_find old.records) (may_find records) → (new : Parts R) → new ≡ later → Ended (Err fault) new
  stays fault ends same new is = subst (λ n. Ended (Err fault) n) (sym is) (Running view, ends, (up, refl, still_holds (may_find old.records) (may_find records) content same holds))

  is_full : most_places ≤ prefix → Leads members me view (Err Fault.LogFull)
  is_full at_end = inl (refl, full at_end)

  pub leads_so : (b : ℕ) → prefix < most_places → IsLeastAbove (limit view) me b → Leads members me view (Ok (lead_with members me view b))
  leads_so b below least = (subst (λ n. n < most_places) (short below) below, (b, least, refl))

  pub lead_fails : (fault : Fault) (new : Parts R) → DeclinesToLead (may_find old.records) old.proposer.hint me prefix fault → (IsHarmlessStop fault → FindsSame (may_find old.records) (may_find records))
      → MayHaveTried (may_find old.records) (may_find records) old.proposer.hint me → Stops later fault new → Ended (Err fault) new
  lead_fails Fault.LogFull new declines harmless tried is = stays Fault.LogFull (is_full declines, refl) (harmless tt) new is
  lead_fails Fault.RoundsSpent new declines harmless tried is = stays Fault.RoundsSpent (inr (refl, subst (λ n. n < most_places) (short declines.0) declines.0, declines.1 content holds), refl) (harmless tt) new is
  lead_fails Fault.OutOfMemory new declines harmless tried is = stays Fault.OutOfMemory refl (harmless tt) new is
  lead_fails Fault.StoreRefused new declines harmless tried is = stays Fault.StoreRefused refl (harmless tt) new is
  lead_fails Fault.NotLeading new declines harmless tried is = absurd declines
  lead_fails Fault.ValueTooLong new declines harmless tried is = absurd declines
  lead_fails Fault.Down new declines harmless tried is = subst (λ n. Ended (Err Fault.Down) n) (sym is) (by_doubt (tried content holds))
    where
      by_doubt : HoldsEither (may_find records) content content ⊎ ((b : ℕ) × IsLeastAbove (limit view) me b × HoldsEither (may_find records) content (after_write content (Some (Tries b)))) → Ended (Err Fault.Down) record later { is_down = true }
      by_doubt (inl found) = (Stopped content None, inl refl, (refl, found))
      by_doubt (inr (b, least, found)) = (Stopped content (Some (Tries b)), inr (lead_with members me view b, leads_so b declines least, refl), (refl, found))

  pub lead_ends : (proposer : Proposer) (letters : List Letter) (b : ℕ) → prefix < most_places → IsNextBallot (may_find old.records) old.proposer.hint me b
      → turn.tries members me b (prefix + 1) ≡ record { role = proposer.role; letters = letters } → HasMade (may_find old.records) (may_find records) (Tries b) → proposer ≡ record old.proposer { role = proposer.role }
      → Ended (Ok letters) record later { proposer = proposer }
  lead_ends proposer letters b below next tries made rest =
      let new : Parts R = record later { proposer = proposer } in
      let place : length (gapless view) + 1 ≡ prefix + 1 = ap (λ n. n + 1) (sym (short below)) in
      let now = after_write content (Some (Tries b)) in
      let turned : turn.tries members me b (length (gapless view) + 1) ≡ record { role = proposer.role; letters = letters } = ap (turn.tries members me b) place ∙ tries in
      let hint : old.proposer.hint ≡ proposer.hint = sym (ap (λ (p : Proposer). p.hint) rest) in
      let o = lead_with members me view b in
      let same : o.view ≡ view_over new now = (λ i. record (view_over new now) { role = (turned i).role; hint = hint i }) in
      (Running o.view, (o, leads_so b below (next content holds), sym (ap (λ (t : Turn). t.letters) turned), refl), subst (λ v. Stands may_find new (Running v)) (sym same) (up, refl, made content holds))

-- where want of memory comes from, in each view that the node stands for
pub memory_in_each : {R : Type 0} (may_find : R → Content → Type 0) (n : Parts R) (Lacks : Type 0) (result : Result (Vec Letter Global) Fault)
    → IfErr result (λ fault. fault ≡ Fault.OutOfMemory → Lacks ⊎ ((b : ℕ) × IsNextBallot (may_find n.records) n.proposer.hint n.proposer.id b))
    → (view : View) → Stands may_find n (Running view) → IfErr result (λ fault. fault ≡ Fault.OutOfMemory → Lacks ⊎ ((b : ℕ) × IsLeastAbove (limit view) n.proposer.id b))
memory_in_each may_find n Lacks (Ok letters) memory view stands = tt
memory_in_each may_find n Lacks (Err fault) memory view stands = λ is. by_case (memory is)
  where
    by_case : Lacks ⊎ ((b : ℕ) × IsNextBallot (may_find n.records) n.proposer.hint n.proposer.id b) → Lacks ⊎ ((b : ℕ) × IsLeastAbove (limit view) n.proposer.id b)
    by_case (inl lacks) = inl lacks
    by_case (inr next) = inr (next.0, subst (λ (v : View). IsLeastAbove (limit v) n.proposer.id next.0) (sym stands.1) (next.1 view.content stands.2))

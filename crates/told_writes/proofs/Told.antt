-- What is told of a call is its write, whatever was asked.
use Rattle.std.proofs.Common.{◌≡◌, inl, ℕ, ◌+◌, Bool, true, false, List, [], ◌∷◌, None, Result, Ok, Err, sym, ap, subst}
use Rattle.std.proofs.Common.{cond, length, nat_lt}
use Rattle.ballots.specs.Limits.{longest_value, most_places}
use Rattle.ballots.specs.declared.letters.Note.TheVariants.{Accept}
use Rattle.node.specs.Calls.Cause.{Receive, Lead, Offer, Tell}
use Rattle.node.specs.Step.{Outcome, offer, receive, sends, tell}
use Rattle.node.specs.View.{View}
use Rattle.proposer.specs.Letters.{to_all}
use Rattle.proposer.specs.declared.fault.NodeFault.{NodeFault as Fault}
use Rattle.proposer.specs.declared.role.Role.{Role}
use Rattle.proposer.specs.declared.role.Role.TheVariants.{Idle, Preparing, Leading}
use Rattle.node_writes.specs.Writes.{LeadTo, SpellsOf}
use Rattle.told_writes.specs.Told.{ToldIsWritten, ToldLeadsOn}
use Rattle.told_writes.proofs.Contents.{content_after}
use Rattle.told_writes.proofs.Handing.{Hands, leads, received}
use Rattle.told_writes.proofs.Leading.{hands_on}

abbrev ok : Outcome → Result Outcome Fault
ok o = Ok o

ok_same : (o p : Outcome) → ok o ≡ ok p → o ≡ p
ok_same o p same = cc

-- an offer writes nothing
module _ (members me : ℕ) (view : View) where
  abbrev WritesNone : Result Outcome Fault → Type 0
  WritesNone r = (o : Outcome) → Ok o ≡ r → o.write ≡ None

  offers : (role : Role) (v : List ℕ) → WritesNone (offer members me view role v)
  offers Idle v o is = absurd (cc (is))
  offers (Preparing b q counted joined) v o is = absurd (cc (is))
  offers (Leading b next) v o is = by_length (nat_lt longest_value (length v)) o is
    where
      asked : Outcome
      asked = sends (record view { role = Leading b (next + 1) }) (to_all members me (Accept b next v))

      by_place : (full : Bool) → WritesNone (cond full (Err Fault.LogFull) (Ok asked))
      by_place true o is = absurd (cc (is))
      by_place false o is = let same : o ≡ asked = ok_same o asked is in ap (λ (x : Outcome). x.write) same

      by_length : (long : Bool) → WritesNone (cond long (Err Fault.ValueTooLong) (cond (nat_lt most_places next) (Err Fault.LogFull) (Ok asked)))
      by_length true o is = absurd (cc (is))
      by_length false o is = by_place (nat_lt most_places next) o is

pub written : ToldIsWritten
written n (Receive l) o r some takes told =
    subst (λ (x : Outcome). Hands n r x told.0) (sym (ok_same o (receive n.members n.id n.view l) takes)) (received n r some l told.0 told.1) told.2
written n Lead o r some takes told = subst (λ (x : Outcome). Hands n r x None) (sym takes.1.2) (leads n r some takes.1.0) told
written n (Offer v) o r some takes told = inl (subst (SpellsOf n.id r) (sym (offers n.members n.id n.view n.view.role v o takes)) told)
written n (Tell to q) o r some takes told =
    let same : o ≡ tell n.members n.id n.view to q = ok_same o (tell n.members n.id n.view to q) takes in
    inl (subst (SpellsOf n.id r) (sym (ap (λ (x : Outcome). x.write) same)) told)

pub leads_on : ToldLeadsOn
leads_on n cause o r some takes told are =
    subst (LeadTo n.id (r ∷ []) n.view.content) (sym (content_after n cause o takes))
    (hands_on n.id n.view.content o.write r (written n cause o r some takes told) are)

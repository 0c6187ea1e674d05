-- The content after a call is that after its write.
use Rattle.std.proofs.Common.{◌≡◌, ◌&&◌, ◌-◌, ◌+◌, ◌==◌, ℕ, Bool, true, false, List, ◌++◌, ◌∷◌, [], Option, Some, None}
use Rattle.std.proofs.Common.{Ok, not, nat_eq, nat_lt, refl, sym, subst, cond, length}
use Rattle.std.specs.List.{list_any}
use Rattle.ballots.specs.Rows.{at, rows_from}
use Rattle.ballots.specs.declared.letters.Cast.{Cast}
use Rattle.ballots.specs.declared.letters.Letter.{Letter}
use Rattle.ballots.specs.declared.letters.Note.{Note}
use Rattle.ballots.specs.declared.letters.Note.TheVariants.{Prepare, Promise, Accept, Voted, Higher, Known}
use Rattle.acceptor.specs.Content.{after_write, promised}
use Rattle.acceptor.specs.Content.Write.{Promises, Votes}
use Rattle.learner.specs.Tally.{counts, is_majority, teaches}
use Rattle.node.specs.Calls.{Cause}
use Rattle.node.specs.Calls.Cause.{Receive, Lead, Offer, Tell}
use Rattle.node.specs.Step.{Outcome, accept, after_promise, first_known, heed, is_heeded, known, learns, nothing, offer}
use Rattle.node.specs.Step.{prepare, promise, receive, sends, tell, vote_at, voted, writes}
use Rattle.node.specs.View.{View}
use Rattle.ballots.specs.Limits.{longest_value, most_places}
use Rattle.proposer.specs.Joining.{join, place_after}
use Rattle.proposer.specs.Letters.{letter, proposals, to_all}
use Rattle.proposer.specs.declared.fault.NodeFault.{NodeFault as Fault}
use Rattle.proposer.specs.declared.role.Role.{Role}
use Rattle.proposer.specs.declared.role.Role.TheVariants.{Idle, Preparing, Leading}
use Rattle.std.proofs.Common.{Result, Err}
use Rattle.told_writes.specs.States.{NodeState, Takes}

module _ (members me : ℕ) (view : View) where
  abbrev Keeps : Outcome → Type 0
  Keeps o = o.view.content ≡ after_write view.content o.write

  either : (b : Bool) (x y : Outcome) → Keeps x → Keeps y → Keeps (cond b x y)
  either true x y first second = first
  either false x y first second = second

  prepares : (b q from : ℕ) → Keeps (prepare me view b q from)
  prepares b q from =
      let told = first_known me view.tally.learned from q in
      either (nat_lt (promised view.content) b)
      (writes view (Promises b) (told ++ letter me from (Promise b q (rows_from view.content.votes q)) ∷ []))
      (sends view (told ++ letter me from (Higher (promised view.content)) ∷ [])) refl refl

  promises : (role : Role) (b q : ℕ) (votes : List (ℕ × Cast)) (from : ℕ) → Keeps (promise members me view role b q votes from)
  promises Idle b q votes from = refl
  promises (Leading c next) b q votes from = refl
  promises (Preparing c place counted joined) b q votes from =
      let now = join joined votes in
      either (b == c && q == place && not (list_any (nat_eq from) counted)) (after_promise members me view b q (from ∷ counted) now) (nothing view)
      (either (is_majority members (λ n. list_any (nat_eq n) (from ∷ counted)))
      (sends (record view { role = Leading b (place_after q now) }) (proposals members me b now q (place_after q now - q)))
      (nothing (record view { role = Preparing b q (from ∷ counted) now })) refl refl)
      refl

  votes_at : (there : Option Cast) (b p : ℕ) (v : List ℕ) → Keeps (vote_at members me view there b p v)
  votes_at None b p v = refl
  votes_at (Some cast) b p v =
      either (cast.ballot == b) (sends view (to_all members me (Voted b p cast.value)))
      (writes view (Votes p record { ballot = b; value = v }) (to_all members me (Voted b p v))) refl refl

  accepts : (b p : ℕ) (v : List ℕ) (from : ℕ) → Keeps (accept members me view b p v from)
  accepts b p v from =
      either (nat_lt b (promised view.content)) (sends view (letter me from (Higher (promised view.content)) ∷ []))
      (vote_at members me view (at view.content.votes p) b p v) refl (votes_at (at view.content.votes p) b p v)

  hears : (there : Option (List ℕ)) (b p : ℕ) (v : List ℕ) (from : ℕ) → Keeps (voted members view there b p v from)
  hears there b p v from =
      either (teaches members view.tally there b p v from) (learns view p v) (nothing (record view { tally = counts view.tally there b p v from })) refl refl

  knows : (there : Option (List ℕ)) (p : ℕ) (v : List ℕ) → Keeps (known view there p v)
  knows (Some w) p v = refl
  knows None p v = refl

  heeds : (from : ℕ) (note : Note) → Keeps (heed members me view from note)
  heeds from (Prepare b q) = prepares b q from
  heeds from (Promise b q votes) = promises view.role b q votes from
  heeds from (Accept b p v) = accepts b p v from
  heeds from (Voted b p v) = hears (at view.tally.learned p) b p v from
  heeds from (Higher b) = refl
  heeds from (Known p v) = knows (at view.tally.learned p) p v

  receives : (l : Letter) → Keeps (receive members me view l)
  receives l = either (is_heeded members me l) (heed members me view l.from l.note) (nothing view) (heeds l.from l.note) refl

  abbrev KeepsIfOk : Result Outcome Fault → Type 0
  KeepsIfOk r = (o : Outcome) → Ok o ≡ r → Keeps o

  offers : (role : Role) (v : List ℕ) → KeepsIfOk (offer members me view role v)
  offers Idle v o is = absurd (cc (is))
  offers (Preparing b q counted joined) v o is = absurd (cc (is))
  offers (Leading b next) v o is = by_length (nat_lt longest_value (length v)) o is
    where
      by_place : (full : Bool) → KeepsIfOk (cond full (Err Fault.LogFull) (Ok (sends (record view { role = Leading b (next + 1) }) (to_all members me (Accept b next v)))))
      by_place true o is = absurd (cc (is))
      by_place false o is = let same : o ≡ sends (record view { role = Leading b (next + 1) }) (to_all members me (Accept b next v)) = cc (is) in subst Keeps (sym same) refl

      by_length : (long : Bool)
          → KeepsIfOk (cond long (Err Fault.ValueTooLong) (cond (nat_lt most_places next) (Err Fault.LogFull) (Ok (sends (record view { role = Leading b (next + 1) }) (to_all members me (Accept b next v))))))
      by_length true o is = absurd (cc (is))
      by_length false o is = by_place (nat_lt most_places next) o is

-- whatever it is asked
pub content_after : (n : NodeState) (cause : Cause) (o : Outcome) → Takes n cause (Ok o) → o.view.content ≡ after_write n.view.content o.write
content_after n (Receive l) o takes = let same : o ≡ receive n.members n.id n.view l = cc (takes) in subst (Keeps n.members n.id n.view) (sym same) (receives n.members n.id n.view l)
content_after n Lead o takes = subst (Keeps n.members n.id n.view) (sym takes.1.2) refl
content_after n (Offer v) o takes = offers n.members n.id n.view n.view.role v o takes
content_after n (Tell to q) o takes = let same : o ≡ tell n.members n.id n.view to q = cc (takes) in subst (Keeps n.members n.id n.view) (sym same) refl

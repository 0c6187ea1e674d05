-- A write that a node may make keeps the history legal, and its content in agreement with it.
use Rattle.std.proofs.Common.{◌≡◌, ◌⊎◌, inl, inr, ⊎_elim, ℕ, ◌<◌, ◌≤◌, List, ◌∷◌, refl, sym, ◌∙◌, ap, subst, arith}
use Rattle.std.proofs.Common.{Option, Some, None}
use Rattle.ballots.specs.declared.letters.Cast.{Cast}
use Rattle.ballots.specs.declared.letters.Note.{Note}
use Rattle.ballots.specs.declared.letters.Letter.{Letter}
use Rattle.ballots.specs.declared.letters.Note.TheVariants.{Accept}
use Rattle.ballots.specs.Voting.{Entry, node_of, ballot_of, IsIn, IsSafe, IsLegal, IsChosen, MayFollow}
use Rattle.ballots.specs.Voting.Entry.{Promised, Vote}
use Rattle.acceptor.specs.Content.{Content, Write, promised, after_write, record_write}
use Rattle.ballots.specs.Rows.{put}
use Rattle.acceptor.specs.Content.Write.{Tries, Promises, Votes, Learns}
use Rattle.acceptor.proofs.Callers.{greatest_apart}
use Rattle.node.specs.View.{Standing}
use Rattle.network_script.proofs.Invariant.{IsProposed, ContentOk, WriteOk, LetterOk, Invariant}
use Rattle.network_script.proofs.Growth.{Grows, grows_same, grows_entry, chosen_grows}
use Rattle.network_script.proofs.Rows.{in_put, into_put, kept_put, in_greatest}

-- what was proposed is safe
pub proposed_safe : (members : ℕ) (h : List Entry) (sent : List Letter) (states : List Standing) (b p : ℕ) (v : List ℕ) → Invariant members h sent states → IsProposed sent b p v → IsSafe members h b p v
proposed_safe members h sent states b p v inv is = subst (λ (note : Note). LetterOk members h is.0.from note) is.2 (inv.letters is.0 is.1)

-- one more row of a chosen value: all rows are of chosen values still
pub chosen_put : (members : ℕ) (h : List Entry) (p : ℕ) (v : List ℕ) (rows : List (ℕ × List ℕ)) → IsChosen members h p v → ((q : ℕ) (w : List ℕ) → IsIn rows (q, w) → IsChosen members h q w)
    → (q : ℕ) (w : List ℕ) → IsIn (put rows p v) (q, w) → IsChosen members h q w
chosen_put members h p v rows chosen were q w here = ⊎_elim (λ is. subst (λ (x : List ℕ). IsChosen members h q x) (sym is.1) (subst (λ (r : ℕ). IsChosen members h r v) (sym is.0) chosen)) (were q w) (in_put rows p v q w here)

abbrev with_vote : Content → ℕ → Cast → Content
with_vote c p cast = record c { votes = put c.votes p cast }

module _ (members : ℕ) (h : List Entry) (sent : List Letter) (states : List Standing) (k : ℕ) (c : Content) (inv : Invariant members h sent states) (ok : ContentOk members h k c) where
  promise_may : (b : ℕ) → promised c < b → MayFollow members h (Promised k b)
  promise_may b above e here node = let le : ballot_of e ≤ promised c = ok.bound e here node in omega arith

  vote_may : (p : ℕ) (cast : Cast) → promised c ≤ cast.ballot → IsProposed sent cast.ballot p cast.value → MayFollow members h (Vote k cast.ballot p cast.value)
  vote_may p cast above is = (
    λ e here node. let le : ballot_of e ≤ promised c = ok.bound e here node in omega arith,
    λ m w vote. inv.one_value cast.ballot p w cast.value (inv.proposed m cast.ballot p w vote) is,
    proposed_safe members h sent states cast.ballot p cast.value inv is,
  )

  pub write_grows : (w : Option Write) → WriteOk members h sent c w → Grows k h (record_write k w h)
  write_grows (Some (Promises b)) fine = grows_entry members h (Promised k b) (promise_may b fine)
  write_grows (Some (Votes p cast)) fine = grows_entry members h (Vote k cast.ballot p cast.value) (vote_may p cast fine.0 fine.1)
  write_grows other fine = grows_same k h

  pub write_legal : (w : Option Write) → WriteOk members h sent c w → IsLegal members (record_write k w h)
  write_legal (Some (Promises b)) fine = (promise_may b fine, inv.legal)
  write_legal (Some (Votes p cast)) fine = (vote_may p cast fine.0 fine.1, inv.legal)
  write_legal other fine = inv.legal

  pub write_proposed : (w : Option Write) → WriteOk members h sent c w → (n b p : ℕ) (v : List ℕ) → IsIn (record_write k w h) (Vote n b p v) → IsProposed sent b p v
  write_proposed (Some (Promises d)) fine n b p v (inl is) = absurd (cc (is))
  write_proposed (Some (Promises d)) fine n b p v (inr vote) = inv.proposed n b p v vote
  write_proposed (Some (Votes q cast)) fine n b p v (inl is) =
      let ballot : b ≡ cast.ballot = cc (is) in
      let place : p ≡ q = cc (is) in
      let value : v ≡ cast.value = cc (is) in
      (fine.1.0, fine.1.1, fine.1.2 ∙ (λ i. Accept (sym ballot i) (sym place i) (sym value i)))
  write_proposed (Some (Votes q cast)) fine n b p v (inr vote) = inv.proposed n b p v vote
  write_proposed other fine n b p v vote = inv.proposed n b p v vote

  -- what was chosen stays so once an entry has joined the history
  still : (e : Entry) → MayFollow members h e → (p : ℕ) (v : List ℕ) → IsChosen members h p v → IsChosen members (e ∷ h) p v
  still e may p v chosen = chosen_grows members (node_of e) h (e ∷ h) (grows_entry members h e may) p v chosen

  learned_content : (p : ℕ) (v : List ℕ) → IsChosen members h p v → ContentOk members h k record c { learned = put c.learned p v }
  learned_content p v chosen = record { bound = ok.bound; kept = ok.kept; last = ok.last; held = λ q w here. chosen_put members h p v c.learned chosen ok.held q w here }

  promise_content : (b : ℕ) → promised c < b → ContentOk members (Promised k b ∷ h) k record c { row = b }
  promise_content b above = record { bound = bound; kept = λ p cast here. inr (ok.kept p cast here); last = last; held = λ p v here. still (Promised k b) (promise_may b above) p v (ok.held p v here) }
    where
      at_least : b ≤ promised record c { row = b }
      at_least = omega (arith, greatest_apart b c.votes)

      bound : (e : Entry) → IsIn (Promised k b ∷ h) e → node_of e ≡ k → ballot_of e ≤ promised record c { row = b }
      bound e (inl is) node = let same : ballot_of e ≡ b = ap ballot_of is in omega (arith, at_least)
      bound e (inr there) node = omega (arith, at_least, ok.bound e there node)

      last : (d p : ℕ) (v : List ℕ) → IsIn (Promised k b ∷ h) (Vote k d p v) → (cast : Cast) × IsIn c.votes (p, cast) × (d ≤ cast.ballot)
      last d p v (inl is) = absurd (cc (is))
      last d p v (inr vote) = ok.last d p v vote

  vote_content : (p : ℕ) (cast : Cast) → promised c ≤ cast.ballot → IsProposed sent cast.ballot p cast.value → ContentOk members (Vote k cast.ballot p cast.value ∷ h) k (with_vote c p cast)
  vote_content p cast above is = record { bound = bound; kept = λ q x here. kept q x (in_put c.votes p cast q x here); last = last; held = λ q v here. still (Vote k cast.ballot p cast.value) (vote_may p cast above is) q v (ok.held q v here) }
    where
      at_least : cast.ballot ≤ promised (with_vote c p cast)
      at_least = in_greatest c.row (put c.votes p cast) p cast (into_put c.votes p cast)

      bound : (e : Entry) → IsIn (Vote k cast.ballot p cast.value ∷ h) e → node_of e ≡ k → ballot_of e ≤ promised (with_vote c p cast)
      bound e (inl is) node = let same : ballot_of e ≡ cast.ballot = ap ballot_of is in omega (arith, at_least)
      bound e (inr there) node = omega (arith, at_least, ok.bound e there node)

      kept : (q : ℕ) (x : Cast) → ((q ≡ p) × (x ≡ cast)) ⊎ IsIn c.votes (q, x) → IsIn (Vote k cast.ballot p cast.value ∷ h) (Vote k x.ballot q x.value)
      kept q x (inl is) = inl (λ i. Vote k (is.1 i).ballot (is.0 i) (is.1 i).value)
      kept q x (inr here) = inr (ok.kept q x here)

      new_one : (d q : ℕ) → q ≡ p → d ≤ cast.ballot → (x : Cast) × IsIn (put c.votes p cast) (q, x) × (d ≤ x.ballot)
      new_one d q is le = (cast, subst (λ (r : ℕ). IsIn (put c.votes p cast) (r, cast)) (sym is) (into_put c.votes p cast), le)

      old_one : (d q : ℕ) (v : List ℕ) → IsIn h (Vote k d q v) → (x : Cast) → d ≤ x.ballot → (q ≡ p) ⊎ IsIn (put c.votes p cast) (q, x) → (x : Cast) × IsIn (put c.votes p cast) (q, x) × (d ≤ x.ballot)
      old_one d q v vote x le (inl is) = let below : d ≤ promised c = ok.bound (Vote k d q v) vote refl in new_one d q is (omega arith)
      old_one d q v vote x le (inr there) = (x, there, le)

      last : (d q : ℕ) (v : List ℕ) → IsIn (Vote k cast.ballot p cast.value ∷ h) (Vote k d q v) → (x : Cast) × IsIn (put c.votes p cast) (q, x) × (d ≤ x.ballot)
      last d q v (inl is) = let same : d ≡ cast.ballot = ap ballot_of is in new_one d q (cc (is)) (omega arith)
      last d q v (inr vote) = let r = ok.last d q v vote in old_one d q v vote r.0 r.2 (kept_put c.votes p cast q r.0 r.1)

  pub write_content : (w : Option Write) → WriteOk members h sent c w → ContentOk members (record_write k w h) k (after_write c w)
  write_content None fine = ok
  write_content (Some (Tries b)) fine = record { bound = ok.bound; kept = ok.kept; last = ok.last; held = ok.held }
  write_content (Some (Promises b)) fine = promise_content b fine
  write_content (Some (Votes p cast)) fine = vote_content p cast fine.0 fine.1
  write_content (Some (Learns p v)) fine = learned_content p v fine

pub write_tried : (members : ℕ) (h : List Entry) (sent : List Letter) (c : Content) (w : Option Write) → WriteOk members h sent c w → c.tried ≤ (after_write c w).tried
write_tried members h sent c (Some (Tries b)) fine = fine
write_tried members h sent c other fine = omega arith

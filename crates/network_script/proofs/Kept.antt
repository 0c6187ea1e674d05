-- A change of one node keeps the invariant: a write that it may make, letters that say what holds, and a state that agrees with the new history.
use Rattle.std.proofs.Common.{◌≡◌, ◌≢◌, ◌⊎◌, inl, inr, ⊎_elim, ℕ, List, [], ◌++◌, sym, ◌∙◌, subst, Option, Some}
use Rattle.std.proofs.Common.{slice_get, slice_set, append-nil}
use Rattle.ballots.specs.Ballots.{ballot_node}
use Rattle.ballots.specs.declared.letters.Letter.{Letter}
use Rattle.ballots.specs.Voting.{Entry, IsIn}
use Rattle.acceptor.specs.Content.{Content, Write, record_write}
use Rattle.node.specs.View.{Standing}
use Rattle.node.specs.View.Standing.{Running, Stopped}
use Rattle.network_script.proofs.Invariant.{IsProposed, ContentOk, WriteOk, NodeOk, LetterOk, Invariant}
use Rattle.network_script.proofs.Lists.{in_left, in_append, get_set}
use Rattle.network_script.proofs.Growth.{Grows, node_grows, letter_grows}
use Rattle.network_script.proofs.Writes.{write_grows, write_legal, write_proposed}

abbrev pub content_of : Standing → Content
content_of (Running view) = view.content
content_of (Stopped c doubt) = c

pub content_ok : (members : ℕ) (h : List Entry) (sent : List Letter) (k : ℕ) (s : Standing) → NodeOk members h sent k s → ContentOk members h k (content_of s)
content_ok members h sent k (Running view) ok = ok.content
content_ok members h sent k (Stopped c doubt) ok = ok.content

-- letters that node k may send once the history is h
pub record NewLetters (members : ℕ) (h : List Entry) (sent more : List Letter) (k : ℕ) : Type 0 where
  pub fine : (l : Letter) → IsIn more l → LetterOk members h l.from l.note
  pub own : (b p : ℕ) (v : List ℕ) → IsProposed more b p v → (ballot_node b ≡ k) × ((w : List ℕ) → IsProposed sent b p w → ⊥)
  pub same : (b p : ℕ) (v w : List ℕ) → IsProposed more b p v → IsProposed more b p w → v ≡ w

pub no_letters : (members : ℕ) (h : List Entry) (sent : List Letter) (k : ℕ) → NewLetters members h sent [] k
no_letters members h sent k = record { fine = λ l here. absurd here; own = λ b p v is. absurd is.1; same = λ b p v w is also. absurd is.1 }

pub proposed_split : (sent more : List Letter) (b p : ℕ) (v : List ℕ) → IsProposed (sent ++ more) b p v → IsProposed sent b p v ⊎ IsProposed more b p v
proposed_split sent more b p v is = ⊎_elim (λ h. inl (is.0, h, is.2)) (λ h. inr (is.0, h, is.2)) (in_append sent more is.0 is.1)

pub proposed_left : (sent more : List Letter) (b p : ℕ) (v : List ℕ) → IsProposed sent b p v → IsProposed (sent ++ more) b p v
proposed_left sent more b p v is = (is.0, in_left sent more is.0 is.1, is.2)

module _ (members : ℕ) (h : List Entry) (sent : List Letter) (states : List Standing) (k : ℕ) (s : Standing) (inv : Invariant members h sent states) (here : slice_get states k ≡ Some s) where
  abbrev c : Content
  c = content_of s

  agrees : ContentOk members h k c
  agrees = content_ok members h sent k s (inv.nodes k s here)

  pub goes_on : (w : Option Write) (more : List Letter) (new : Standing) → WriteOk members h sent c w → NewLetters members (record_write k w h) sent more k → NodeOk members (record_write k w h) (sent ++ more) k new
      → Invariant members (record_write k w h) (sent ++ more) (slice_set states k new)
  goes_on w more new fine letters ok = record {
    legal = write_legal members h sent states k c inv agrees w fine;
    proposed = λ n b p v vote. proposed_left sent more b p v (write_proposed members h sent states k c inv agrees w fine n b p v vote);
    one_value = λ b p v x is also. one b p v x (proposed_split sent more b p v is) (proposed_split sent more b p x also);
    letters = λ l there. ⊎_elim (λ old. letter_grows members k h (record_write k w h) grows l.from l.note (inv.letters l old)) (λ fresh. letters.fine l fresh) (in_append sent more l there);
    nodes = λ j t there. node j t (get_set states k j new t there);
  }
    where
      grows : Grows k h (record_write k w h)
      grows = write_grows members h sent states k c inv agrees w fine

      one : (b p : ℕ) (v x : List ℕ) → IsProposed sent b p v ⊎ IsProposed more b p v → IsProposed sent b p x ⊎ IsProposed more b p x → v ≡ x
      one b p v x (inl is) (inl also) = inv.one_value b p v x is also
      one b p v x (inl is) (inr also) = absurd ((letters.own b p x also).1 v is)
      one b p v x (inr is) (inl also) = absurd ((letters.own b p v is).1 x also)
      one b p v x (inr is) (inr also) = letters.same b p v x is also

      mine : (j : ℕ) → j ≢ k → (b p : ℕ) (v : List ℕ) → IsProposed (sent ++ more) b p v → ballot_node b ≡ j → IsProposed sent b p v
      mine j other b p v is node = ⊎_elim (λ old. old) (λ fresh. absurd (other (sym node ∙ (letters.own b p v fresh).0))) (proposed_split sent more b p v is)

      node : (j : ℕ) (t : Standing) → ((j ≡ k) × (t ≡ new)) ⊎ ((j ≢ k) × (slice_get states j ≡ Some t)) → NodeOk members (record_write k w h) (sent ++ more) j t
      node j t (inl is) = subst (λ (x : Standing). NodeOk members (record_write k w h) (sent ++ more) j x) (sym is.1) (subst (λ (i : ℕ). NodeOk members (record_write k w h) (sent ++ more) i new) (sym is.0) ok)
      node j t (inr was) = node_grows members k h (record_write k w h) grows sent more j t was.0 (mine j was.0) (inv.nodes j t was.1)

  -- the same where no letter is sent
  pub goes_quietly : (w : Option Write) (new : Standing) → WriteOk members h sent c w → NodeOk members (record_write k w h) sent k new → Invariant members (record_write k w h) sent (slice_set states k new)
  goes_quietly w new fine ok =
      subst (λ (l : List Letter). Invariant members (record_write k w h) l (slice_set states k new)) (append-nil sent)
      (goes_on w [] new fine (no_letters members (record_write k w h) sent k) (subst (λ (l : List Letter). NodeOk members (record_write k w h) l k new) (sym (append-nil sent)) ok))

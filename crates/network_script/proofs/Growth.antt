-- What holds of a history still holds once a node's entry that may follow has joined it.
use Rattle.std.proofs.Common.{◌≡◌, ◌≢◌, ◌⊎◌, inl, inr, ⊎_elim, ℕ, ◌<◌, List, ◌∷◌, ◌++◌, refl, sym, ◌∙◌, ap, Option}
use Rattle.std.proofs.Common.{Some}
use Rattle.ballots.specs.Ballots.{ballot_node}
use Rattle.ballots.specs.declared.letters.Cast.{Cast}
use Rattle.ballots.specs.declared.letters.Note.{Note}
use Rattle.ballots.specs.declared.letters.Letter.{Letter}
use Rattle.ballots.specs.declared.letters.Note.TheVariants.{Promise, Accept, Voted, Known}
use Rattle.ballots.specs.Voting.{Entry, node_of, IsIn, Quorum, IsOf, NoneBelow, HighestBelow, IsSafe, IsChosen}
use Rattle.ballots.specs.Voting.{MayFollow}
use Rattle.ballots.specs.Voting.Entry.{Promised, Vote}
use Rattle.ballots.proofs.Callers.{old_vote}
use Rattle.acceptor.specs.Content.{Content, Write}
use Rattle.acceptor.specs.Content.Write.{Votes, Learns}
use Rattle.proposer.specs.declared.role.Role.{Role}
use Rattle.node.specs.View.{Standing}
use Rattle.proposer.specs.declared.role.Role.TheVariants.{Idle, Preparing, Leading}
use Rattle.node.specs.View.Standing.{Running, Stopped}
use Rattle.network_script.proofs.Invariant.{IsProposed, ContentOk, PromiseOk, CountedOk, LeadsOk, RoleOk, WriteOk}
use Rattle.network_script.proofs.Invariant.{NodeOk, LetterOk}
use Rattle.network_script.proofs.Lists.{in_left}

-- the history new is old, perhaps with one entry of node k more
pub record Grows (k : ℕ) (old new : List Entry) : Type 0 where
  pub keeps : (e : Entry) → IsIn old e → IsIn new e
  -- who has promised a ballot has no new vote below it
  pub votes : (n b c p : ℕ) (v : List ℕ) → IsIn old (Promised n b) → c < b → IsIn new (Vote n c p v) → IsIn old (Vote n c p v)
  pub others : (e : Entry) (j : ℕ) → IsIn new e → node_of e ≡ j → j ≢ k → IsIn old e

pub grows_same : (k : ℕ) (h : List Entry) → Grows k h h
grows_same k h = record { keeps = λ e here. here; votes = λ n b c p v promise below vote. vote; others = λ e j here node other. here }

pub grows_entry : (members : ℕ) (h : List Entry) (e : Entry) → MayFollow members h e → Grows (node_of e) h (e ∷ h)
grows_entry members h e may = record {
  keeps = λ x here. inr here;
  votes = λ n b c p v promise below vote. old_vote members h e n b c p v may promise below vote;
  others = λ x j here node other. ⊎_elim (λ is. absurd (other (sym node ∙ ap node_of is))) (λ there. there) here;
}

module _ (members k : ℕ) (old new : List Entry) (grows : Grows k old new) where
  pub chosen_grows : (p : ℕ) (v : List ℕ) → IsChosen members old p v → IsChosen members new p v
  chosen_grows p v chosen = record { ballot = chosen.ballot; quorum = chosen.quorum; votes = λ n is_of. grows.keeps (Vote n chosen.ballot p v) (chosen.votes n is_of) }

  highest_grows : (q : Quorum members) (b p : ℕ) (v : List ℕ) → ((n : ℕ) → IsOf members q n → IsIn old (Promised n b))
      → NoneBelow members old q b p ⊎ HighestBelow members old q b p v → NoneBelow members new q b p ⊎ HighestBelow members new q b p v
  highest_grows q b p v promise (inl none) = inl (λ n c w is_of below vote. none n c w is_of below (grows.votes n b c p w (promise n is_of) below vote))
  highest_grows q b p v promise (inr top) = inr record {
    node = top.node;
    top = top.top;
    is_of = top.is_of;
    below = top.below;
    vote = grows.keeps (Vote top.node top.top p v) top.vote;
    highest = λ n c w is_of below vote. top.highest n c w is_of below (grows.votes n b c p w (promise n is_of) below vote);
  }

  pub safe_grows : (b p : ℕ) (v : List ℕ) → IsSafe members old b p v → IsSafe members new b p v
  safe_grows b p v safe = record {
    quorum = safe.quorum;
    promised = λ n is_of. grows.keeps (Promised n b) (safe.promised n is_of);
    highest = highest_grows safe.quorum b p v safe.promised safe.highest;
  }

  promise_grows : (n b q : ℕ) (votes : List (ℕ × Cast)) → PromiseOk old n b q votes → PromiseOk new n b q votes
  promise_grows n b q votes ok = record {
    promised = grows.keeps (Promised n b) ok.promised;
    cast = λ p cast here. (grows.keeps (Vote n cast.ballot p cast.value) (ok.cast p cast here).0, (ok.cast p cast here).1);
    each = λ c p v from below vote. ok.each c p v from below (grows.votes n b c p v ok.promised below vote);
  }

  counted_grows : (b q : ℕ) (counted : List ℕ) (joined : List (ℕ × Cast)) → CountedOk members old b q counted joined → CountedOk members new b q counted joined
  counted_grows b q counted joined ok = record {
    member = ok.member;
    promised = λ n is. grows.keeps (Promised n b) (ok.promised n is);
    cast = λ p cast here. let r = ok.cast p cast here in (r.0, r.1, grows.keeps (Vote r.0 cast.ballot p cast.value) r.2, r.3);
    each = λ n c p v is from below vote. ok.each n c p v is from below (grows.votes n b c p v (ok.promised n is) below vote);
  }

  leads_grows : (b next : ℕ) → LeadsOk members old b next → LeadsOk members new b next
  leads_grows b next ok = record {
    quorum = ok.quorum;
    promised = λ n is_of. grows.keeps (Promised n b) (ok.promised n is_of);
    free = λ p from n c w is_of below vote. ok.free p from n c w is_of below (grows.votes n b c p w (ok.promised n is_of) below vote);
  }

  pub role_grows : (j tried : ℕ) (role : Role) → RoleOk members old j tried role → RoleOk members new j tried role
  role_grows j tried Idle ok = tt
  role_grows j tried (Preparing b q counted joined) ok = (ok.0, ok.1, counted_grows b q counted joined ok.2)
  role_grows j tried (Leading b next) ok = (ok.0, ok.1, leads_grows b next ok.2)

  pub letter_grows : (from : ℕ) (note : Note) → LetterOk members old from note → LetterOk members new from note
  letter_grows from (Promise b q votes) ok = promise_grows from b q votes ok
  letter_grows from (Accept b p v) ok = safe_grows b p v ok
  letter_grows from (Voted b p v) ok = grows.keeps (Vote from b p v) ok
  letter_grows from (Known p v) ok = chosen_grows p v ok
  letter_grows from other ok = ok

  -- another node's content
  content_grows : (j : ℕ) (c : Content) → j ≢ k → ContentOk members old j c → ContentOk members new j c
  content_grows j c other ok = record {
    bound = λ e here node. ok.bound e (grows.others e j here node other) node;
    kept = λ p cast here. grows.keeps (Vote j cast.ballot p cast.value) (ok.kept p cast here);
    last = λ b p v vote. ok.last b p v (grows.others (Vote j b p v) j vote refl other);
    held = λ p v here. chosen_grows p v (ok.held p v here);
  }

  -- another node, where more letters are sent, none of them a proposal in its ballots
  pub node_grows : (sent more : List Letter) (j : ℕ) (s : Standing) → j ≢ k → ((b p : ℕ) (v : List ℕ) → IsProposed (sent ++ more) b p v → ballot_node b ≡ j → IsProposed sent b p v) → NodeOk members old sent j s → NodeOk members new (sent ++ more) j s
  node_grows sent more j (Running view) other mine ok = record {
    content = content_grows j view.content other ok.content;
    own = λ b p v is node. ok.own b p v (mine b p v is node) node;
    role = role_grows j view.content.tried view.role ok.role;
    counted = λ n b p v here. grows.keeps (Vote n b p v) (ok.counted n b p v here);
    learned = λ p v here. chosen_grows p v (ok.learned p v here);
    written = ok.written;
  }
  node_grows sent more j (Stopped c doubt) other mine ok = record {
    content = content_grows j c other ok.content;
    own = λ b p v is node. ok.own b p v (mine b p v is node) node;
    doubt = write_more doubt ok.doubt;
  }
    where
      write_more : (w : Option Write) → WriteOk members old sent c w → WriteOk members new (sent ++ more) c w
      write_more (Some (Votes p cast)) fine = (fine.0, (fine.1.0, in_left sent more fine.1.0 fine.1.1, fine.1.2))
      write_more (Some (Learns p v)) fine = chosen_grows p v fine
      write_more other fine = fine

-- What a call must do for the invariant to be kept, however the call ends.
use Rattle.std.proofs.Common.{◌≡◌, ⊎_elim, ℕ, ◌≤◌, List, ◌++◌, refl, sym, ap, subst, arith, Option, Some, None}
use Rattle.std.proofs.Common.{slice_get, slice_set}
use Rattle.ballots.specs.declared.letters.Note.{Note}
use Rattle.ballots.specs.declared.letters.Letter.{Letter}
use Rattle.ballots.specs.declared.letters.Note.TheVariants.{Accept}
use Rattle.ballots.specs.Voting.{Entry, IsIn, IsChosen}
use Rattle.ballots.specs.Voting.Entry.{Vote}
use Rattle.acceptor.specs.Content.{Content, Write, after_write, record_write}
use Rattle.proposer.specs.declared.role.Role.{Role}
use Rattle.learner.specs.Tally.{IsVoteCounted}
use Rattle.node.specs.View.{View, Standing, started}
use Rattle.node.specs.View.Standing.{Running, Stopped}
use Rattle.node.specs.Step.{Outcome}
use Rattle.network_script.proofs.Invariant.{IsProposed, ContentOk, OwnOk, WriteOk, RoleOk, UpOk, DownOk, LetterOk}
use Rattle.network_script.proofs.Invariant.{Invariant}
use Rattle.network_script.proofs.Growth.{Grows, role_grows, chosen_grows}
use Rattle.network_script.proofs.Writes.{write_grows, write_content, write_tried}
use Rattle.network_script.proofs.Kept.{NewLetters, goes_on, goes_quietly, proposed_split}

-- a whole call of node k whose write is allowed, whose letters say what holds, and whose view agrees with the history
pub record Sound (members : ℕ) (h : List Entry) (sent : List Letter) (k : ℕ) (view : View) (o : Outcome) : Type 0 where
  pub write : WriteOk members h sent view.content o.write
  pub content : o.view.content ≡ after_write view.content o.write
  pub letters : NewLetters members (record_write k o.write h) sent o.letters k
  pub role : RoleOk members h k o.view.content.tried o.view.role
  pub own : OwnOk (sent ++ o.letters) k o.view.content.tried o.view.role
  pub counted : (n b p : ℕ) (v : List ℕ) → IsVoteCounted o.view.tally.counted n b p v → IsIn h (Vote n b p v)
  pub learned : (p : ℕ) (v : List ℕ) → IsIn o.view.tally.learned (p, v) → IsChosen members h p v
  pub written : o.view.tally.learned ≡ o.view.content.learned

-- a letter that proposes nothing
abbrev pub IsOther : Note → Type 0
IsOther (Accept b p v) = ⊥
IsOther other = Unit {0}

-- letters that say what holds and propose nothing
abbrev pub AreQuiet : ℕ → List Entry → List Letter → Type 0
AreQuiet members h more = (l : Letter) → IsIn more l → LetterOk members h l.from l.note × IsOther l.note

none_proposed : (members : ℕ) (h : List Entry) (more : List Letter) → AreQuiet members h more → (b p : ℕ) (v : List ℕ) → IsProposed more b p v → ⊥
none_proposed members h more quiet b p v is = subst IsOther is.2 (quiet is.0 is.1).1

pub quiet_letters : (members : ℕ) (h : List Entry) (sent more : List Letter) (k : ℕ) → AreQuiet members h more → NewLetters members h sent more k
quiet_letters members h sent more k quiet = record {
  fine = λ l here. (quiet l here).0;
  own = λ b p v is. absurd (none_proposed members h more quiet b p v is);
  same = λ b p v w is also. absurd (none_proposed members h more quiet b p v is);
}

pub quiet_own : (members : ℕ) (h : List Entry) (sent more : List Letter) (k tried : ℕ) (role : Role) → AreQuiet members h more → OwnOk sent k tried role → OwnOk (sent ++ more) k tried role
quiet_own members h sent more k tried role quiet own b p v is node = ⊎_elim (λ old. own b p v old node) (λ fresh. absurd (none_proposed members h more quiet b p v fresh)) (proposed_split sent more b p v is)

module _ (members : ℕ) (h : List Entry) (sent : List Letter) (states : List Standing) (k : ℕ) (view : View) (inv : Invariant members h sent states) (here : slice_get states k ≡ Some (Running view)) where
  was : UpOk members h sent k view
  was = inv.nodes k (Running view) here

  pub whole_kept : (o : Outcome) → Sound members h sent k view o → Invariant members (record_write k o.write h) (sent ++ o.letters) (slice_set states k (Running o.view))
  whole_kept o sound = goes_on members h sent states k (Running view) inv here o.write o.letters (Running o.view) sound.write sound.letters record {
    content = subst (λ (c : Content). ContentOk members (record_write k o.write h) k c) (sym sound.content) (write_content members h sent states k view.content inv was.content o.write sound.write);
    own = sound.own;
    role = role_grows members k h (record_write k o.write h) grows k o.view.content.tried o.view.role sound.role;
    counted = λ n b p v there. grows.keeps (Vote n b p v) (sound.counted n b p v there);
    learned = λ p v there. chosen_grows members k h (record_write k o.write h) grows p v (sound.learned p v there);
    written = sound.written;
  }
    where
      grows : Grows k h (record_write k o.write h)
      grows = write_grows members h sent states k view.content inv was.content o.write sound.write

  pub lost_kept : (o : Outcome) → Sound members h sent k view o → Invariant members (record_write k o.write h) sent (slice_set states k (Stopped o.view.content None))
  lost_kept o sound =
      let tried : view.content.tried ≤ (after_write view.content o.write).tried = write_tried members h sent view.content o.write sound.write in
      let same : o.view.content.tried ≡ (after_write view.content o.write).tried = ap (λ (c : Content). c.tried) sound.content in
      goes_quietly members h sent states k (Running view) inv here o.write (Stopped o.view.content None) sound.write record {
        content = subst (λ (c : Content). ContentOk members (record_write k o.write h) k c) (sym sound.content) (write_content members h sent states k view.content inv was.content o.write sound.write);
        own = λ b p v is node. (let le : b ≤ view.content.tried = (was.own b p v is node).0 in omega arith, tt);
        doubt = tt;
      }

  pub broken_kept : (w : Option Write) → WriteOk members h sent view.content w → Invariant members h sent (slice_set states k (Stopped view.content w))
  broken_kept w fine = goes_quietly members h sent states k (Running view) inv here None (Stopped view.content w) tt record {
    content = was.content;
    own = λ b p v is node. ((was.own b p v is node).0, tt);
    doubt = fine;
  }

-- a restart, whether it finds the write in doubt made or not
pub restarted_kept : (members : ℕ) (h : List Entry) (sent : List Letter) (states : List Standing) (k : ℕ) (c : Content) (doubt w : Option Write) → Invariant members h sent states → slice_get states k ≡ Some (Stopped c doubt) → WriteOk members h sent c w
    → Invariant members (record_write k w h) sent (slice_set states k (Running (started (after_write c w))))
restarted_kept members h sent states k c doubt w inv here fine =
    let ok : DownOk members h sent k c doubt = inv.nodes k (Stopped c doubt) here in
    let kept : ContentOk members (record_write k w h) k (after_write c w) = write_content members h sent states k c inv ok.content w fine in
    goes_quietly members h sent states k (Stopped c doubt) inv here w (Running (started (after_write c w))) fine record {
      content = kept;
      own = λ b p v is node. (let le : b ≤ c.tried = (ok.own b p v is node).0 in omega (arith, write_tried members h sent c w fine), tt);
      role = tt;
      counted = λ n b p v there. absurd there.1;
      learned = kept.held;
      written = refl;
    }

-- A node that prepares, votes, counts and learns does what keeps the invariant.
use Rattle.std.proofs.Common.{◌≡◌, inl, inr, ⊎_elim, ℕ, ◌<◌, ◌≤◌, nat_lt, nat_le, ◌==◌, List, [], ◌∷◌, ◌++◌, take, refl}
use Rattle.std.proofs.Common.{sym, ap, ◌∙◌, subst, arith, Option, Some, None, slice_get}
use Rattle.std.proofs.lemmas.Bool.{cond_both, ltb-true, ltb-false, eqb-true, le-leb}
use Rattle.ballots.specs.declared.letters.Cast.{Cast}
use Rattle.ballots.specs.declared.letters.Note.{Note}
use Rattle.ballots.specs.declared.letters.Letter.{Letter}
use Rattle.ballots.specs.declared.letters.Note.TheVariants.{Promise, Voted, Higher, Known}
use Rattle.ballots.specs.Voting.{Entry, IsIn, IsChosen}
use Rattle.ballots.specs.Voting.Entry.{Promised, Vote}
use Rattle.acceptor.specs.Content.{Content, Write, promised, after_write, record_write}
use Rattle.ballots.specs.Rows.{at, put, rows_from}
use Rattle.acceptor.specs.Content.Write.{Promises, Votes}
use Rattle.proposer.specs.declared.role.Role.{Role}
use Rattle.learner.specs.Tally.{IsVoteCounted}
use Rattle.learner.proofs.Callers.{counted_less}
use Rattle.std.specs.BTreeMap.{is_at}
use Rattle.std.specs.Ordering.{nat_cmp}
use Rattle.node.specs.View.{View, Standing}
use Rattle.node.specs.View.Standing.{Running}
use Rattle.node.specs.Step.{nothing, sends, writes, learns, known, letter, to_all, known_letters, first_known}
use Rattle.node.specs.Step.{letters_told, prepare, tell, vote_at, accept}
use Rattle.network_script.proofs.Invariant.{IsProposed, PromiseOk, OwnOk, WriteOk, RoleOk, UpOk, LetterOk, Invariant}
use Rattle.network_script.proofs.Kept.{NewLetters}
use Rattle.network_script.proofs.Lists.{in_append, in_filter, in_take, into_filter}
use Rattle.network_script.proofs.Rows.{at_in}
use Rattle.network_script.proofs.Growth.{letter_grows}
use Rattle.network_script.proofs.Writes.{write_grows, chosen_put}
use Rattle.network_script.proofs.Sending.{Says, says_letter, to_all_says, known_says}
use Rattle.network_script.proofs.Sound.{Sound, IsOther, AreQuiet, quiet_letters, quiet_own}

-- a letter that says a note which holds and proposes nothing
says_quietly : (members : ℕ) (h : List Entry) (l : Letter) (from : ℕ) (note : Note) → Says l from note → LetterOk members h from note → IsOther note → LetterOk members h l.from l.note × IsOther l.note
says_quietly members h l from note says ok other =
    subst (λ (x : Note). LetterOk members h l.from x × IsOther x) (sym says.1) (subst (λ (n : ℕ). LetterOk members h n note) (sym says.0) ok, other)

pub quiet_append : (members : ℕ) (h : List Entry) (xs ys : List Letter) → AreQuiet members h xs → AreQuiet members h ys → AreQuiet members h (xs ++ ys)
quiet_append members h xs ys x y l here = ⊎_elim (x l) (y l) (in_append xs ys l here)

pub quiet_none : (members : ℕ) (h : List Entry) → AreQuiet members h []
quiet_none members h l here = absurd here

pub quiet_one : (members : ℕ) (h : List Entry) (from to : ℕ) (note : Note) → LetterOk members h from note → IsOther note → AreQuiet members h (letter from to note ∷ [])
quiet_one members h from to note ok other l (inl is) = says_quietly members h l from note (says_letter l from to note is) ok other
quiet_one members h from to note ok other l (inr none) = absurd none

pub quiet_all : (members : ℕ) (h : List Entry) (n from : ℕ) (note : Note) → LetterOk members h from note → IsOther note → AreQuiet members h (to_all n from note)
quiet_all members h n from note ok other l here = says_quietly members h l from note (to_all_says n from note l here) ok other

quiet_known : (members : ℕ) (h : List Entry) (me n : ℕ) (rows : List (ℕ × List ℕ)) → ((p : ℕ) (v : List ℕ) → IsIn rows (p, v) → IsChosen members h p v) → AreQuiet members h (known_letters me n rows)
quiet_known members h me n rows chosen l here = let r = known_says me n rows l here in says_quietly members h l me (Known r.0 r.1) r.3 (chosen r.0 r.1 r.2) tt

module _ (members : ℕ) (h : List Entry) (sent : List Letter) (states : List Standing) (k : ℕ) (view : View) (inv : Invariant members h sent states) (here : slice_get states k ≡ Some (Running view)) where
  was : UpOk members h sent k view
  was = inv.nodes k (Running view) here

  -- one write and letters that propose nothing
  pub writes_sound : (w : Write) (more : List Letter) → WriteOk members h sent view.content (Some w) → (after_write view.content (Some w)).tried ≡ view.content.tried → (after_write view.content (Some w)).learned ≡ view.content.learned → AreQuiet members (record_write k (Some w) h) more → Sound members h sent k view (writes view w more)
  writes_sound w more fine tried same quiet = record {
    write = fine;
    content = refl;
    letters = quiet_letters members (record_write k (Some w) h) sent more k quiet;
    role = subst (λ (t : ℕ). RoleOk members h k t view.role) (sym tried) was.role;
    own = quiet_own members (record_write k (Some w) h) sent more k (after_write view.content (Some w)).tried view.role quiet (subst (λ (t : ℕ). OwnOk sent k t view.role) (sym tried) was.own);
    counted = was.counted;
    learned = was.learned;
    written = was.written ∙ sym same;
  }

  -- a view that differs in its hint and its role, and letters
  pub turns_sound : (hint : ℕ) (role : Role) (more : List Letter) → NewLetters members h sent more k → RoleOk members h k view.content.tried role → OwnOk (sent ++ more) k view.content.tried role → Sound members h sent k view (sends (record view { hint = hint; role = role }) more)
  turns_sound hint role more letters ok own = record { write = tt; content = refl; letters = letters; role = ok; own = own; counted = was.counted; learned = was.learned; written = was.written }

  -- letters alone that propose nothing
  pub sends_sound : (more : List Letter) → AreQuiet members h more → Sound members h sent k view (sends view more)
  sends_sound more quiet = turns_sound view.hint view.role more (quiet_letters members h sent more k quiet) was.role (quiet_own members h sent more k view.content.tried view.role quiet was.own)

  pub nothing_sound : Sound members h sent k view (nothing view)
  nothing_sound = sends_sound [] (quiet_none members h)

  promise_ok : (b q : ℕ) → promised view.content < b → PromiseOk (Promised k b ∷ h) k b q (rows_from view.content.votes q)
  promise_ok b q above = record { promised = inl refl; cast = cast; each = each }
    where
      cast : (p : ℕ) (x : Cast) → IsIn (rows_from view.content.votes q) (p, x) → IsIn (Promised k b ∷ h) (Vote k x.ballot p x.value) × (x.ballot < b)
      cast p x there =
          let vote : IsIn h (Vote k x.ballot p x.value) = was.content.kept p x (in_filter (λ row. nat_le q row.0) view.content.votes (p, x) there).0 in
          let le : x.ballot ≤ promised view.content = was.content.bound (Vote k x.ballot p x.value) vote refl in
          (inr vote, omega arith)

      each : (c p : ℕ) (v : List ℕ) → q ≤ p → c < b → IsIn (Promised k b ∷ h) (Vote k c p v) → (x : Cast) × IsIn (rows_from view.content.votes q) (p, x) × (c ≤ x.ballot)
      each c p v from below (inl is) = absurd (cc (is))
      each c p v from below (inr vote) =
          let r = was.content.last c p v vote in
          (r.0, into_filter (λ row. nat_le q row.0) view.content.votes (p, r.0) r.1 (le-leb q p from), r.2)

  known_quiet : (q n : ℕ) → AreQuiet members h (known_letters k n (take 64 (rows_from view.tally.learned q)))
  known_quiet q n = quiet_known members h k n (take 64 (rows_from view.tally.learned q)) (λ p v there. was.learned p v (in_filter (λ row. nat_le q row.0) view.tally.learned (p, v) (in_take 64 (rows_from view.tally.learned q) (p, v) there)).0)

  -- what is learned is told
  pub tell_sound : (n q : ℕ) → Sound members h sent k view (tell members k view n q)
  tell_sound n q = sends_sound (letters_told members k view.tally.learned n q)
      (cond_both (nat_lt n members) (first_known k view.tally.learned n q) [] (λ letters. AreQuiet members h letters) (λ member. known_quiet q n) (λ other. quiet_none members h))

  quiet_grows : (w : Option Write) → WriteOk members h sent view.content w → (more : List Letter) → AreQuiet members h more → AreQuiet members (record_write k w h) more
  quiet_grows w fine more quiet l there = (letter_grows members k h (record_write k w h) (write_grows members h sent states k view.content inv was.content w fine) l.from l.note (quiet l there).0, (quiet l there).1)

  pub prepare_sound : (b q n : ℕ) → Sound members h sent k view (prepare k view b q n)
  prepare_sound b q n =
      let known = known_letters k n (take 64 (rows_from view.tally.learned q)) in
      cond_both (nat_lt (promised view.content) b)
      (writes view (Promises b) (known ++ letter k n (Promise b q (rows_from view.content.votes q)) ∷ []))
      (sends view (known ++ letter k n (Higher (promised view.content)) ∷ []))
      (λ o. Sound members h sent k view o)
      (λ less. let above = ltb-true (promised view.content) b less in
      writes_sound (Promises b) (known ++ letter k n (Promise b q (rows_from view.content.votes q)) ∷ []) above refl refl
      (quiet_append members (Promised k b ∷ h) known (letter k n (Promise b q (rows_from view.content.votes q)) ∷ []) (quiet_grows (Some (Promises b)) above known (known_quiet q n))
      (quiet_one members (Promised k b ∷ h) k n (Promise b q (rows_from view.content.votes q)) (promise_ok b q above) tt)))
      (λ no. sends_sound (known ++ letter k n (Higher (promised view.content)) ∷ [])
      (quiet_append members h known (letter k n (Higher (promised view.content)) ∷ []) (known_quiet q n) (quiet_one members h k n (Higher (promised view.content)) tt tt)))

  new_vote : (b p : ℕ) (v : List ℕ) → promised view.content ≤ b → IsProposed sent b p v → Sound members h sent k view (writes view (Votes p record { ballot = b; value = v }) (to_all members k (Voted b p v)))
  new_vote b p v above is = writes_sound (Votes p record { ballot = b; value = v }) (to_all members k (Voted b p v)) (above, is) refl refl (quiet_all members (Vote k b p v ∷ h) members k (Voted b p v) (inl refl) tt)

  vote_at_sound : (b p : ℕ) (v : List ℕ) (there : Option Cast) → at view.content.votes p ≡ there → promised view.content ≤ b → IsProposed sent b p v → Sound members h sent k view (vote_at members k view there b p v)
  vote_at_sound b p v None is above proposed = new_vote b p v above proposed
  vote_at_sound b p v (Some cast) is above proposed =
      cond_both (cast.ballot == b) (sends view (to_all members k (Voted b p cast.value))) (writes view (Votes p record { ballot = b; value = v }) (to_all members k (Voted b p v)))
      (λ o. Sound members h sent k view o)
      (λ same. sends_sound (to_all members k (Voted b p cast.value)) (quiet_all members h members k (Voted b p cast.value)
      (subst (λ (c : ℕ). IsIn h (Vote k c p cast.value)) (eqb-true cast.ballot b same) (was.content.kept p cast (at_in view.content.votes p cast is))) tt))
      (λ other. new_vote b p v above proposed)

  pub accept_sound : (b p : ℕ) (v : List ℕ) (n : ℕ) → IsProposed sent b p v → Sound members h sent k view (accept members k view b p v n)
  accept_sound b p v n proposed =
      cond_both (nat_lt b (promised view.content)) (sends view (letter k n (Higher (promised view.content)) ∷ [])) (vote_at members k view (at view.content.votes p) b p v)
      (λ o. Sound members h sent k view o)
      (λ less. sends_sound (letter k n (Higher (promised view.content)) ∷ []) (quiet_one members h k n (Higher (promised view.content)) tt tt))
      (λ no. vote_at_sound b p v (at view.content.votes p) refl (ltb-false b (promised view.content) no) proposed)

  -- a view that differs in what it counted
  pub counts_sound : (new : View) → new.content ≡ view.content → new.role ≡ view.role → ((n b q : ℕ) (w : List ℕ) → IsVoteCounted new.tally.counted n b q w → IsIn h (Vote n b q w)) → ((p : ℕ) (v : List ℕ) → IsIn new.tally.learned (p, v) → IsChosen members h p v)
      → new.tally.learned ≡ view.tally.learned → Sound members h sent k view (nothing new)
  counts_sound new content role counted learned same = record {
    write = tt;
    content = content;
    letters = quiet_letters members h sent [] k (quiet_none members h);
    role = subst (λ (c : Content). RoleOk members h k c.tried new.role) (sym content) (subst (λ (r : Role). RoleOk members h k view.content.tried r) (sym role) was.role);
    own = quiet_own members h sent [] k new.content.tried new.role (quiet_none members h)
        (subst (λ (c : Content). OwnOk sent k c.tried new.role) (sym content) (subst (λ (r : Role). OwnOk sent k view.content.tried r) (sym role) was.own));
    counted = counted;
    learned = learned;
    written = same ∙ was.written ∙ ap (λ (c : Content). c.learned) (sym content);
  }

  -- a chosen value is learned, and its row is written
  pub learns_sound : (p : ℕ) (v : List ℕ) → IsChosen members h p v → Sound members h sent k view (learns view p v)
  learns_sound p v chosen = record {
    write = chosen;
    content = refl;
    letters = quiet_letters members h sent [] k (quiet_none members h);
    role = was.role;
    own = quiet_own members h sent [] k view.content.tried view.role (quiet_none members h) was.own;
    counted = λ n b q w there. was.counted n b q w (counted_less (is_at (nat_cmp p)) view.tally.counted n b q w there);
    learned = chosen_put members h p v view.tally.learned chosen was.learned;
    written = ap (λ (rows : List (ℕ × List ℕ)). put rows p v) was.written;
  }

  pub known_sound : (there : Option (List ℕ)) (p : ℕ) (v : List ℕ) → IsChosen members h p v → Sound members h sent k view (known view there p v)
  known_sound None p v chosen = learns_sound p v chosen
  known_sound (Some value) p v chosen = nothing_sound

-- An acceptor's answer is the case of the node's table.
use Rattle.std.proofs.Common.{◌≡◌, inl, inr, ◌≤◌, ℕ, refl, sym, ap, ◌∙◌, cond, List, [], ◌∷◌, Option, Some, None}
use Rattle.std.proofs.lemmas.Bool.{eq-eqb, ne_eqb, lt-ltb, le-ltb}
use Rattle.ballots.specs.Rows.{at}
use Rattle.ballots.specs.declared.letters.Cast.{Cast}
use Rattle.ballots.specs.declared.letters.Note.TheVariants.{Voted as VotedNote, Higher as HigherNote}
use Rattle.acceptor.specs.Answers.{Accepts, IsOfBallot, IsNewVote}
use Rattle.acceptor.specs.Content.{Write, promised, after_write}
use Rattle.acceptor.specs.Content.Write.{Votes}
use Rattle.acceptor.specs.declared.acceptor.Accepted.{Accepted}
use Rattle.acceptor.specs.declared.acceptor.Accepted.TheVariants.{Voted, Higher}
use Rattle.node.specs.View.{View}
use Rattle.node.specs.Step.{Outcome, accept, vote_at, letter, to_all, sends, writes}
use Rattle.node.specs.Answers.{accepted_letters, WroteNothing}

module _ (members me n : ℕ) (view : View) (b p : ℕ) (v : List ℕ) where
  -- what the table says of an answer and its write
  abbrev pub answered : Accepted → Option Write → Outcome
  answered answer write = record { view = record view { content = after_write view.content write }; write = write; letters = accepted_letters members me n b p answer }

  new_vote : (o : Option Cast) → (IsOfBallot o b → ⊥) → vote_at members me view o b p v ≡ writes view (Votes p record { ballot = b; value = v }) (to_all members me (VotedNote b p v))
  new_vote None none = refl
  new_vote (Some cast) none = ap (λ x. cond x (sends view (to_all members me (VotedNote b p cast.value))) (writes view (Votes p record { ballot = b; value = v }) (to_all members me (VotedNote b p v)))) (ne_eqb cast.ballot b none)

  not_below : promised view.content ≤ b → accept members me view b p v n ≡ vote_at members me view (at view.content.votes p) b p v
  not_below low = ap (λ x. cond x (sends view (letter me n (HigherNote (promised view.content)) ∷ [])) (vote_at members me view (at view.content.votes p) b p v)) (le-ltb b (promised view.content) low)

  pub votes_so : IsNewVote view.content b p → accept members me view b p v n ≡ answered (Voted v) (Some (Votes p record { ballot = b; value = v }))
  votes_so new = not_below new.0 ∙ new_vote (at view.content.votes p) new.1

  pub accepts_so : (answer : Accepted) (write : Option Write) → Accepts view.content b p v answer write → accept members me view b p v n ≡ answered answer write
  accepts_so (Voted told) write (inl so) =
      not_below so.0 ∙ ap (λ o. vote_at members me view o b p v) so.1
      ∙ ap (λ x. cond x (sends view (to_all members me (VotedNote b p told))) (writes view (Votes p record { ballot = b; value = v }) (to_all members me (VotedNote b p v)))) (eq-eqb b b refl)
      ∙ ap (λ w'. answered (Voted told) w') (sym so.2)
  accepts_so (Voted told) write (inr so) = votes_so so.0 ∙ ap (λ w. answered (Voted v) w) (sym so.2) ∙ ap (λ w. answered (Voted w) write) (sym so.1)
  accepts_so (Higher other) write so =
      ap (λ x. cond x (sends view (letter me n (HigherNote (promised view.content)) ∷ [])) (vote_at members me view (at view.content.votes p) b p v)) (lt-ltb b (promised view.content) so.0)
      ∙ ap (λ c. answered (Higher c) None) (sym so.1)
      ∙ ap (λ w'. answered (Higher other) w') (sym so.2)

  pub wrote_nothing : (answer : Accepted) (write : Option Write) → Accepts view.content b p v answer write → WroteNothing answer v → write ≡ None
  wrote_nothing (Voted told) write (inl so) none = so.2
  wrote_nothing (Voted told) write (inr so) none = absurd (none so.1)
  wrote_nothing (Higher other) write so none = so.2

-- What nodes have learned are the commands of chosen values.
use Rattle.std.proofs.Common.{◌≡◌, ◌≢◌, ℕ, ◌+◌, ◌≤◌, List, [], ◌∷◌, Option, Some, None, refl, sym, ap, subst, ◌∙◌}
use Rattle.std.proofs.Common.{length, slice_get, suc, zero, arith}
use Rattle.std.specs.Option.{option_map}
use Rattle.std.proofs.lemmas.Option.{same_Some}
use Rattle.ballots.proofs.Callers.{at_in}
use Rattle.ballots.specs.Voting.{IsChosen}
use Rattle.command_log.specs.Reading.{command_of}
use Rattle.grant_machine.specs.declared.command.Command.{Command}
use Rattle.network_script.specs.Headline.{ChosenAreOne, LearnedIsChosen, OfEveryRun}
use Rattle.network_script.specs.Next.{Run}
use Rattle.network_script.specs.World.{Written}
use Rattle.node.specs.View.{Standing}
use Rattle.node.specs.View.Standing.{Running, Stopped}
use Rattle.seats.specs.declared.answer.Answer.{Answer}
use Rattle.world_events.specs.declared.event.Event.{Event}
use Rattle.upsched_draw.specs.Learned.{AreLearned, AreLearnedFrom, AreMostLearned, MostAreChosen, MostAreOne}
use Rattle.upsched_draw.specs.Learned.{learned_at}

-- the value that a command is of
of_value : (o : Option (List ℕ)) (c : Command) → option_map command_of o ≡ Some c → (v : List ℕ) × (o ≡ Some v) × (command_of v ≡ c)
of_value None c some = absurd (cc (some))
of_value (Some v) c some = (v, refl, same_Some (command_of v) c some)

-- and that at a place
at_place : (p : ℕ) (s : Standing) (cs : List Command) (i : ℕ) (c : Command) → AreLearnedFrom p s cs → slice_get cs i ≡ Some c → (v : List ℕ) × (learned_at s (p + i) ≡ Some v) × (command_of v ≡ c)
at_place p s [] i c learned is = absurd (cc (is))
at_place p s (d ∷ cs) zero c learned is =
    let (v, there, of) = of_value (learned_at s p) d learned.0 in
    (v, ap (learned_at s) (omega arith) ∙ there, of ∙ same_Some d c is)
at_place p s (d ∷ cs) (suc i) c learned is =
    let (v, there, of) = at_place (p + 1) s cs i c learned.1 is in
    (v, ap (learned_at s) (omega arith) ∙ there, of)

-- lists of as many commands are one, where two nodes have learned one value at a place
same_lists : (p : ℕ) (s t : Standing) (cs ds : List Command) → ((q : ℕ) (v v' : List ℕ) → learned_at s q ≡ Some v → learned_at t q ≡ Some v' → v ≡ v')
    → AreLearnedFrom p s cs → AreLearnedFrom p t ds → length cs ≡ length ds → cs ≡ ds
same_lists p s t [] [] agree first second long = refl
same_lists p s t [] (d ∷ ds) agree first second long = absurd (omega (arith, long))
same_lists p s t (c ∷ cs) [] agree first second long = absurd (omega (arith, long))
same_lists p s t (c ∷ cs) (d ∷ ds) agree first second long =
    let (v, here, of) = of_value (learned_at s p) c first.0 in
    let (v', there, of') = of_value (learned_at t p) d second.0 in
    let head : c ≡ d = sym of ∙ ap command_of (agree p v v' here there) ∙ of' in
    let tail = same_lists (p + 1) s t cs ds agree first.1 second.1 (omega (arith, long)) in
    λ i. head i ∷ tail i

-- no node has learned more than the most
no_longer : (nodes : List Standing) (cs ds : List Command) → AreMostLearned nodes cs → AreMostLearned nodes ds → length cs ≤ length ds
no_longer nodes [] ds first second = omega arith
no_longer nodes (c ∷ cs) ds first second =
    let (k, s, here, learned) = first.by (λ none. cc (none)) in
    second.most k s (c ∷ cs) here learned

module _ (votes : OfEveryRun LearnedIsChosen) (members : ℕ) (ids : List ℕ) (script : List Event) (report : List Answer) (w : Written) (run : Run members ids script report w) where
  -- what a node has learned in the end is chosen
  is_chosen : (k : ℕ) (s : Standing) (p : ℕ) (v : List ℕ) → slice_get w.nodes k ≡ Some s → learned_at s p ≡ Some v → IsChosen members w.history p v
  is_chosen k (Running view) p v here is =
      votes members ids script report w run w (record { script = script; report = report; came = run; rest = []; answers = []; went = refl }) k view p v here (at_in view.tally.learned p v is)
  is_chosen k (Stopped content doubt) p v here is = absurd (cc (is))

  most_chosen : MostAreChosen members ids w
  most_chosen [] most i c is = absurd (cc (is))
  most_chosen (d ∷ cs) most i c is =
      let (k, s, here, learned) = most.by (λ none. cc (none)) in
      let (v, there, of) = at_place 1 s (d ∷ cs) i c learned is in
      (v, is_chosen k s (i + 1) v here (ap (learned_at s) (omega arith) ∙ there), of)

  most_one : ChosenAreOne members ids w → MostAreOne members ids w
  most_one one [] [] first second = refl
  most_one one [] (d ∷ ds) first second = let le = no_longer w.nodes (d ∷ ds) [] second first in absurd (omega (arith, le))
  most_one one (c ∷ cs) [] first second = let le = no_longer w.nodes (c ∷ cs) [] first second in absurd (omega (arith, le))
  most_one one (c ∷ cs) (d ∷ ds) first second =
      let (k, s, here, learned) = first.by (λ none. cc (none)) in
      let (j, t, there, others) = second.by (λ none. cc (none)) in
      let le = no_longer w.nodes (c ∷ cs) (d ∷ ds) first second in
      let ge = no_longer w.nodes (d ∷ ds) (c ∷ cs) second first in
      same_lists 1 s t (c ∷ cs) (d ∷ ds) (λ q v v' is is'. one q v v' (is_chosen k s q v here is) (is_chosen j t q v' there is')) learned others (omega (arith, le, ge))

pub are_chosen : OfEveryRun LearnedIsChosen → OfEveryRun MostAreChosen
are_chosen votes members ids script report w run = most_chosen votes members ids script report w run

pub are_one : OfEveryRun LearnedIsChosen → OfEveryRun ChosenAreOne → OfEveryRun MostAreOne
are_one votes one members ids script report w run = most_one votes members ids script report w run (one members ids script report w run)

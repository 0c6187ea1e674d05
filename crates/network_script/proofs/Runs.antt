-- What holds of every world that a run comes to.
use Rattle.std.proofs.Common.{◌≡◌, ⊎_elim, ℕ, zero, suc, List, [], ◌∷◌, replicate, refl, sym, subst, Some, slice_get}
use Rattle.ballots.specs.Voting.{Entry, IsIn, IsChosen}
use Rattle.acceptor.specs.Content.{no_content}
use Rattle.node.specs.View.{Standing, started}
use Rattle.node.specs.View.Standing.{Running}
use Rattle.world_events.specs.declared.event.Event.{Event}
use Rattle.seats.specs.declared.answer.Answer.{Answer}
use Rattle.seats.specs.declared.answer.ReleasedOutput.{ReleasedOutput}
use Rattle.network_script.specs.World.{Written, opening}
use Rattle.network_script.specs.Next.{Goes, Run}
use Rattle.network_script.specs.Headline.{OfEveryRun, Passes, HistoryIsLegal, LearnedIsChosen, LearnedIsWritten}
use Rattle.network_script.proofs.Invariant.{NodeOk, Invariant}
use Rattle.network_script.proofs.Outputs.{FromChosen, chosen_keeps}
use Rattle.network_script.proofs.Moves.{Moved, next_moves}

-- the invariant, and that what was released is from chosen values
pub record IsFine (members : ℕ) (w : Written) : Type 0 where
  pub inv : Invariant members w.history w.letters w.nodes
  pub outputs : (x : ReleasedOutput) → IsIn w.outputs x → FromChosen members w.history x

pub later_from : (members : ℕ) (h later : List Entry) (x : ReleasedOutput) → ((e : Entry) → IsIn h e → IsIn later e) → FromChosen members h x → FromChosen members later x
later_from members h later x keeps from = (from.0, chosen_keeps members h later keeps from.0 from.1, from.2)

pub next_fine : (members : ℕ) (w : Written) (event : Event) (answer : Answer) (w' : Written) → IsFine members w → Moved members w event answer w' → IsFine members w'
next_fine members w event answer w' fine moved = record {
  inv = moved.fine;
  outputs = λ x here. ⊎_elim (λ old. later_from members w.history w'.history x moved.keeps (fine.outputs x old)) (λ new. new) (moved.fresh x here);
}

-- a world, and one that a run went on to from it
pub record Went (members : ℕ) (w w' : Written) : Type 0 where
  pub fine : IsFine members w'
  pub keeps : (e : Entry) → IsIn w.history e → IsIn w'.history e

pub goes_fine : (members : ℕ) (w : Written) (script : List Event) (report : List Answer) (w' : Written) → IsFine members w → Goes members w script report w' → Went members w w'
goes_fine members w [] [] w' fine is = subst (λ (x : Written). Went members w x) (sym is) record { fine = fine; keeps = λ e here. here }
goes_fine members w (event ∷ script) (answer ∷ report) w' fine goes =
    let moved = next_moves members w fine.inv event answer goes.0 goes.1 in
    let rest = goes_fine members goes.0 script report w' (next_fine members w event answer goes.0 fine moved) goes.2 in
    record { fine = rest.fine; keeps = λ e here. rest.keeps e (moved.keeps e here) }
goes_fine members w [] (answer ∷ report) w' fine goes = absurd goes
goes_fine members w (event ∷ script) [] w' fine goes = absurd goes

fresh_node : (n k : ℕ) (s : Standing) → slice_get (replicate n (Running (started no_content))) k ≡ Some s → s ≡ Running (started no_content)
fresh_node zero k s is = absurd (cc (is))
fresh_node (suc n) zero s is = cc (is)
fresh_node (suc n) (suc k) s is = fresh_node n k s is

pub opening_fine : (members : ℕ) (ids : List ℕ) → IsFine members (opening members ids)
opening_fine members ids = record {
  inv = record {
    legal = tt;
    proposed = λ n b p v vote. absurd vote;
    one_value = λ b p v w is also. absurd is.1;
    letters = λ l here. absurd here;
    nodes = λ k s is. subst (λ (x : Standing). NodeOk members [] [] k x) (sym (fresh_node members k s is)) record {
      content = record { bound = λ e here node. absurd here; kept = λ p cast here. absurd here; last = λ b p v vote. absurd vote; held = λ p v here. absurd here };
      own = λ b p v is node. absurd is.1;
      role = tt;
      counted = λ n b p v here. absurd here.1;
      learned = λ p v here. absurd here;
      written = refl;
    };
  };
  outputs = λ x here. absurd here;
}

pub run_fine : (members : ℕ) (ids : List ℕ) (script : List Event) (report : List Answer) (w : Written) → Run members ids script report w → IsFine members w
run_fine members ids script report w run = (goes_fine members (opening members ids) script report w (opening_fine members ids) run).fine

pub passes_fine : (members : ℕ) (ids : List ℕ) (mid w : Written) → Passes members ids mid w → IsFine members mid × Went members mid w
passes_fine members ids mid w passes =
    let fine = run_fine members ids passes.script passes.report mid passes.came in
    (fine, goes_fine members mid passes.rest passes.answers w fine passes.went)

pub learned_is_written : OfEveryRun LearnedIsWritten
learned_is_written members ids script report w run mid passes k view here = ((passes_fine members ids mid w passes).0.inv.nodes k (Running view) here).written

pub history_legal : OfEveryRun HistoryIsLegal
history_legal members ids script report w run = (run_fine members ids script report w run).inv.legal

pub learned_is_chosen : OfEveryRun LearnedIsChosen
learned_is_chosen members ids script report w run mid passes k view p v here learned =
    let r = passes_fine members ids mid w passes in
    let c : IsChosen members mid.history p v = (r.0.inv.nodes k (Running view) here).learned p v learned in
    record { ballot = c.ballot; quorum = c.quorum; votes = λ n is_of. r.1.keeps _ (c.votes n is_of) }

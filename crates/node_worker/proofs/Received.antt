-- What a node that does one thing leaves of an entry.
use Rattle.std.proofs.Common.{◌≡◌, ◌⊎◌, ⊎_elim, inl, inr, ℕ, List, Bool, true, false, refl, sym, ap, ◌∙◌, subst}
use Rattle.ballots.specs.declared.letters.Letter.{Letter}
use Rattle.acceptor.specs.Faults.{HasRisen}
use Rattle.map_release.specs.declared.numbered.Numbered.{Numbered}
use Rattle.node.specs.declared.node.Node.{Ghosts}
use Rattle.node.specs.View.{Standing}
use Rattle.node.specs.View.Standing.{Running, Stopped}
use Rattle.proposer.specs.declared.fault.NodeFault.{NodeFault}
use Rattle.proposer.specs.declared.fault.NodeFault.TheVariants.{OutOfMemory, StoreRefused, Down}
use Rattle.seats.specs.Acts.{Acts, GoOut, MayAnswer}
use Rattle.seats.specs.Moves.{Ask, Move, Moves}
use Rattle.seats.specs.Moves.Ask.{Call, TakeThenCrash, Release, Crash, Restart}
use Rattle.seats.specs.Occupant.{IsHonest, Stands, who_of}
use Rattle.seats.specs.StoreFaults.{is_store_fault}
use Rattle.seats.specs.declared.answer.Answer.{Answer}
use Rattle.seats.specs.declared.answer.Answer.TheVariants.{Sent, Released, Finished, Refused, Fault, Crashed}
use Rattle.seats.specs.declared.seat.Seat.{Seat}
use Rattle.node_worker.specs.declared.entry.Cause.{Cause}
use Rattle.node_worker.specs.declared.entry.Ended.{Ended}
use Rattle.node_worker.specs.declared.entry.Ended.TheVariants.{FailedEither}
use Rattle.node_worker.specs.Outcomes.{ended_of}
use Rattle.node_worker.specs.Entries.{entry}
use Rattle.node_worker.specs.Replays.{Carries, IsSurvived, answer_to, ask_of}

-- a fault that is told as one is one that the node survives
survived : (answer : Answer) → IsSurvived (ended_of answer)
survived (Fault OutOfMemory) = tt
survived (Fault StoreRefused) = tt
survived (Fault Down) = tt
survived (Fault declined) = refl
survived whole = tt

-- the answer is read again, but that of a store that refused
abbrev IsReadAgain : Ask → Answer → List Letter → List Numbered → Type 0
IsReadAgain ask answer letters outputs = (answer_to ask (ended_of answer) letters outputs ≡ answer) ⊎ (answer ≡ Fault StoreRefused)

fault_again : (ask : Ask) (failed : NodeFault) (letters : List Letter) (outputs : List Numbered) → IsReadAgain ask (Fault failed) letters outputs
fault_again ask StoreRefused letters outputs = inr refl
fault_again ask OutOfMemory letters outputs = inl refl
fault_again ask Down letters outputs = inl refl
fault_again ask declined letters outputs = inl refl

read_again : (was : Bool) (ask : Ask) (answer : Answer) (up : Bool) (letters : List Letter) (outputs : List Numbered) → MayAnswer was ask answer up → GoOut answer letters outputs → IsReadAgain ask answer letters outputs
read_again true (Call cause) (Sent n) up letters outputs may out = inl (ap (λ (count : ℕ). Sent count) (sym out.0))
read_again true (Release now) (Released n) up letters outputs may out = inl (ap (λ (count : ℕ). Released count) (sym out.1))
read_again true (TakeThenCrash l) Finished up letters outputs may out = inl refl
read_again true Crash Finished up letters outputs may out = inl refl
read_again false Restart Finished up letters outputs may out = inl refl
read_again was ask (Fault failed) up letters outputs may out = fault_again ask failed letters outputs
read_again was ask (Refused refusal) up letters outputs may out = inl refl
read_again was ask Crashed up letters outputs may out = inl refl
read_again was ask answer up letters outputs may out = absurd may

-- a store that refused is a move as want of memory is
as_memory : (members me : ℕ) (s : Standing) (ask : Ask) (m : Move) → Moves members me s ask (Fault StoreRefused) m → Moves members me s ask (Fault OutOfMemory) m
as_memory members me (Running view) Crash m (clash, is) = cc
as_memory members me (Running view) Restart m (clash, is) = cc
as_memory members me (Running view) ask m moves = moves
as_memory members me (Stopped c doubt) Restart m moves = moves
as_memory members me (Stopped c doubt) ask m (clash, is) = cc

-- the move is one of the answer that is read again
reads : (members me : ℕ) (s : Standing) (ask : Ask) (answer : Answer) (was up : Bool) (letters : List Letter) (outputs : List Numbered) (m : Move)
    → MayAnswer was ask answer up → GoOut answer letters outputs → Moves members me s ask answer m → Moves members me s ask (answer_to ask (ended_of answer) letters outputs) m
reads members me s ask answer was up letters outputs m may out moves = ⊎_elim
    (λ again. subst (λ (a : Answer). Moves members me s ask a m) (sym again) moves)
    (λ refused. subst (λ (a : Answer). Moves members me s ask (answer_to ask (ended_of a) letters outputs) m) (sym refused) (as_memory members me s ask m (subst (λ (a : Answer). Moves members me s ask a m) refused moves)))
    (read_again was ask answer up letters outputs may out)

-- only a broken store ends so
either_rose : (answer : Answer) → ended_of answer ≡ FailedEither → is_store_fault answer ≡ true
either_rose (Fault Down) is = refl
either_rose (Fault StoreRefused) is = refl
either_rose (Fault OutOfMemory) is = cc
either_rose (Fault declined) is = cc
either_rose other is = cc

module _ {N : Type 0} {g : Ghosts N} (old new : Seat N g) (cause : Cause) (answer : Answer) (letters : List Letter) (outputs : List Numbered) (ended : Ended) (is : ended ≡ ended_of answer) (acts : Acts old (ask_of cause) answer letters outputs new) where
  pub carries : IsHonest new → Carries (who_of old).members (who_of old).id (Stands old) (entry cause ended letters outputs) (Stands new)
  carries honest = subst (λ (e : Ended). Carries (who_of old).members (who_of old).id (Stands old) (entry cause e letters outputs) (Stands new)) (sym is) (λ s before.
      let to = acts.moves honest s before in
      let m : Move = to.0 in
      (m.standing, (survived answer, m, reads (who_of old).members (who_of old).id s (ask_of cause) answer old.up new.up letters outputs m acts.answers.may acts.answers.goes_out to.1, refl, to.2, to.3), to.4))

  pub rises : ended ≡ FailedEither → HasRisen (who_of old).failures (who_of new).failures
  rises either = acts.rose (either_rose answer (sym is ∙ either))

-- what was done, in other words for what was asked, answered and given
pub acts_as : {N : Type 0} {g : Ghosts N} (old new : Seat N g) (ask ask' : Ask) (a a' : Answer) (ls ls' : List Letter) (os os' : List Numbered)
    → ask ≡ ask' → a' ≡ a → ls' ≡ ls → os' ≡ os → Acts old ask a ls os new → Acts old ask' a' ls' os' new
acts_as old new ask ask' a a' ls ls' os os' asked told letters outputs acts =
    subst (λ x. Acts old x a' ls' os' new) asked (subst (λ x. Acts old ask x ls' os' new) (sym told) (subst (λ x. Acts old ask a x os' new) (sym letters) (subst (λ x. Acts old ask a ls x new) (sym outputs) acts)))

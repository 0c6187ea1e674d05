-- Where there is no room for what goes out, it is lost and the node crashes.
use Rattle.std.proofs.Common.{◌≡◌, ◌≢◌, ◌<◌, ℕ, List, [], ◌∷◌, length, None, Bool, true, false, nat_lt, Result, Ok, Err}
use Rattle.std.proofs.Common.{refl, sym, ap, ◌∙◌, subst, arith}
use Rattle.std.proofs.lemmas.Bool.{false≢true, ltb-true, ltb-false}
use Rattle.ballots.specs.declared.letters.Letter.{Letter}
use Rattle.map_release.specs.declared.numbered.Numbered.{Numbered}
use Rattle.node.specs.declared.node.Node.{Ghosts}
use Rattle.node.specs.Calls.Cause.{Lead, Offer, Receive, Tell}
use Rattle.node.specs.View.{Standing}
use Rattle.node.specs.View.Standing.{Running, Stopped}
use Rattle.seats.specs.Acts.{Acts, GoOut, MayAnswer, Settles, TellsStoreOf}
use Rattle.seats.specs.Gives.{gives}
use Rattle.seats.specs.Moves.{Ask, Move, Moves, lost, quiet}
use Rattle.seats.specs.Moves.Ask.{Call, TakeThenCrash, Release, Restart}
use Rattle.proposer.specs.Turns.{Turn, offer}
use Rattle.proposer.specs.declared.fault.NodeFault.{NodeFault}
use Rattle.seats.specs.Owes.{Outside, Owes, TakesOffer, outside}
use Rattle.seats.specs.Seat.{Shown, crashed}
use Rattle.seats.specs.declared.answer.Answer.{Answer}
use Rattle.seats.specs.declared.answer.Answer.TheVariants.{Sent, Released, Crashed}
use Rattle.seats.specs.declared.seat.Seat.{Seat}

-- a list with something in it
some_in : {A : Type 0} (xs : List A) (n : ℕ) → n ≡ length xs → nat_lt 0 n ≡ true → xs ≢ []
some_in {A} xs n is more none =
    let positive : 0 < n = ltb-true 0 n more in
    let empty : length xs ≡ 0 = ap (λ (ys : List A). length ys) none in
    absurd (omega (arith, positive, is, empty))

none_in : {A : Type 0} (xs : List A) (n : ℕ) → n ≡ length xs → nat_lt 0 n ≡ false → xs ≡ []
none_in [] n is less = refl
none_in (x ∷ xs) n is less =
    let low = ltb-false 0 n less in
    absurd (omega (arith, low, is))

-- nothing goes out after an answer that gives nothing
none_out : (answer : Answer) (letters : List Letter) (outputs : List Numbered) → GoOut answer letters outputs → gives answer ≡ false → (letters ≡ []) × (outputs ≡ [])
none_out (Sent n) letters outputs out none = (none_in letters n out.0 none, out.1)
none_out (Released n) letters outputs out none = (out.0, none_in outputs n out.1 none)
none_out answer letters outputs out none = out

-- a node that was asked so and gave something may crash in its place
may_crash : (was : Bool) (ask : Ask) (answer : Answer) (up : Bool) → gives answer ≡ true → MayAnswer was ask answer up → MayAnswer was ask Crashed false
may_crash true (Call cause) (Sent n) up more may = refl
may_crash true (Release now) (Released n) up more may = refl
may_crash false Restart (Sent n) up more may = absurd may
may_crash was ask (Sent n) up more may = absurd may
may_crash was ask (Released n) up more may = absurd may
may_crash was ask answer up more may = absurd (false≢true more)

-- a move with letters or outputs, and the one that lost them and crashed
loses : (members me : ℕ) (s : Standing) (ask : Ask) (answer : Answer) (m : Move) (was up : Bool) → gives answer ≡ true → MayAnswer was ask answer up → Moves members me s ask answer m
    → (n : Move) × Moves members me s ask Crashed n × (n.letters ≡ []) × (n.outputs ≡ []) × (n.standing ≡ crashed m.standing)
loses members me (Running view) (Call cause) (Sent n) m true up more may (last, (o, course, count, is)) =
    (lost o, (tt, (o, course, some_in o.letters n count more, refl)), refl, refl, sym (ap (λ (x : Move). crashed x.standing) is))
loses members me (Running view) (Release now) (Released n) m true up more may (count, is) =
    (quiet (Stopped view.content None), (some_in _ n count more, refl), refl, refl, sym (ap (λ (x : Move). crashed x.standing) is))
loses members me (Stopped c doubt) (Call cause) (Sent n) m true up more may (clash, is) = cc
loses members me (Stopped c doubt) (Release now) (Released n) m true up more may (clash, is) = cc
loses members me s ask (Sent n) m true up more may moves = absurd may
loses members me s ask (Sent n) m false up more may moves = absurd may
loses members me s ask (Released n) m true up more may moves = absurd may
loses members me s ask (Released n) m false up more may moves = absurd may
loses members me s ask answer m was up more may moves = absurd (false≢true more)

-- an offer whose letters are lost
offer_lost : (turn : Result Turn NodeFault) (answer : Answer) (letters : List Letter) → gives answer ≡ true → TakesOffer turn answer letters → TakesOffer turn Crashed []
offer_lost (Ok turn) answer letters more took = tt
offer_lost (Err declined) answer letters more took = absurd (false≢true (sym (ap gives took) ∙ more))

-- what was owed is owed where it is lost
owes_crash : (members me : ℕ) (was : Outside) (ask : Ask) (answer : Answer) (letters : List Letter) (outputs : List Numbered) → gives answer ≡ true → GoOut answer letters outputs → Owes members me was ask answer letters → Owes members me was ask Crashed []
owes_crash members me was (Call (Receive l)) answer letters outputs more out owes = (λ over. absurd (false≢true (sym (ap gives (owes.0 over)) ∙ more)), λ nothing. tt)
owes_crash members me was (TakeThenCrash l) answer letters outputs more out owes = (λ over. absurd (false≢true (sym (ap gives (owes.0 over)) ∙ more)), λ nothing. tt)
owes_crash members me was (Call Lead) answer letters outputs more out owes =
    ((λ is. cc, λ past. absurd (false≢true (sym (ap gives (owes.0.1 past)) ∙ more))), λ room none. absurd (false≢true (sym (ap gives (owes.1 room none)) ∙ more)))
owes_crash members me was (Call (Offer v)) answer letters outputs more out owes = offer_lost (offer members me was.role v) answer letters more owes
owes_crash members me was (Call (Tell n q)) (Sent k) letters outputs more out owes = λ none. some_in letters k out.0 more (owes ∙ none)
owes_crash members me was (Call (Tell n q)) (Released k) letters outputs more out owes = owes
owes_crash members me was (Call (Tell n q)) answer letters outputs more out owes = absurd (false≢true more)
owes_crash members me was ask answer letters outputs more out owes = tt

-- a node that crashes shows so
falls : (up : Bool) (may : Standing → Type 0) (s : Standing) → Shown up may s → Shown false may (crashed s)
falls true may s shown = (s, shown.0, refl)
falls false may s shown = (shown.0, shown.1, ap crashed shown.2 ∙ twice shown.0)
  where
    twice : (t : Standing) → crashed (crashed t) ≡ crashed t
    twice (Running view) = refl
    twice (Stopped c doubt) = refl

module _ {N : Type 0} {g : Ghosts N} (mid : Seat N g) where
  -- nothing is to be lost
  pub nothing_lost : (answer : Answer) → gives answer ≡ false → Settles answer false mid answer mid
  nothing_lost answer none old ask letters outputs acts =
      let out = none_out answer letters outputs acts.answers.goes_out none in
      subst (λ (ls : List Letter). Acts old ask answer ls [] mid) out.0 (subst (λ (os : List Numbered). Acts old ask answer letters os mid) out.1 acts)

  -- what goes out is lost
  pub all_lost : (answer : Answer) (runs : false ≡ true → (g.who mid.node).down ≡ false) → gives answer ≡ true → Settles answer false mid Crashed (record { node = mid.node; up = false; runs = runs })
  all_lost answer runs more old ask letters outputs acts = record {
    same = acts.same;
    grows = acts.grows;
    tells = served answer ask more acts.tells;
    rose = λ loud. absurd (false≢true loud);
    honesty = acts.honesty;
    trust = acts.trust;
    answers = record {
      may = may_crash old.up ask answer mid.up more acts.answers.may;
      goes_out = (refl, refl);
      owes = λ up. owes_crash (g.who old.node).members (g.who old.node).id (outside old) ask answer letters outputs more acts.answers.goes_out (acts.answers.owes up);
      rest = tt;
    };
    moves = λ honest s before.
        let to = acts.moves honest s before in
        let lost = loses (g.who old.node).members (g.who old.node).id s ask answer to.0 old.up mid.up more acts.answers.may to.1 in
        (lost.0, lost.1, lost.2, lost.3, subst (λ (x : Standing). Shown false (g.stands mid.node) x) (sym lost.4) (falls mid.up (g.stands mid.node) to.0.standing to.4));
  }
    where
      served : (answer : Answer) (ask : Ask) → gives answer ≡ true → TellsStoreOf answer ask (g.who old.node) (g.who mid.node) → TellsStoreOf Crashed ask (g.who old.node) (g.who mid.node)
      served (Sent n) ask more tells = tells
      served (Released n) ask more tells = tells
      served answer ask more tells = absurd (false≢true more)

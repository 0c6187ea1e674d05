-- Steps of a proposer's turn.
use Rattle.std.proofs.Common.{◌≡◌, ◌⊎◌, inr, ℕ, suc, ◌+◌, ◌-◌, ◌<◌, max, List, [], ◌∷◌, ◌++◌, refl, sym, ap, subst, ◌∙◌}
use Rattle.std.proofs.Common.{arith, Result, Ok, Err, OnErr, IfErr}
use Rattle.acceptor.proofs.Callers.{still_holds}
use Rattle.ballots.specs.Ballots.{IsLeastAbove, NoneAbove}
use Rattle.ballots.specs.Rows.{at}
use Rattle.ballots.specs.declared.letters.Cast.{Cast}
use Rattle.ballots.specs.declared.letters.Letter.{Letter}
use Rattle.ballots.specs.declared.letters.Note.TheVariants.{Accept}
use Rattle.acceptor.specs.Content.{Content, promised}
use Rattle.acceptor.specs.Content.Write.{Tries}
use Rattle.acceptor.specs.Found.{Findable, Holds, FindsSame, MayHaveMade}
use Rattle.proposer.specs.Joining.{proposal}
use Rattle.proposer.specs.Letters.{to_all, proposals}
use Rattle.proposer.specs.Faults.{CountsStops, TellsSpent}
use Rattle.proposer.specs.Turns.{IsNextBallot, MayHaveTried, limit}
use Rattle.proposer.specs.declared.fault.NodeFault.{NodeFault as Fault}

pub on_err : {T E : Type 0} (r : Result T E) (P : Type 0) → P → OnErr r P
on_err (Ok x) P p = tt
on_err (Err e) P p = p

assoc : (xs ys zs : List Letter) → (xs ++ ys) ++ zs ≡ xs ++ (ys ++ zs)
assoc [] ys zs = refl
assoc (x ∷ xs) ys zs = ap (λ r. x ∷ r) (assoc xs ys zs)

-- the letters of one more place
pub proposals_step : (members me b : ℕ) (joined : List (ℕ × Cast)) (p next : ℕ) (letters : List Letter) → p < next
    → (letters ++ to_all members me (Accept b p (proposal (at joined p)))) ++ proposals members me b joined (p + 1) (next - (p + 1)) ≡ letters ++ proposals members me b joined p (next - p)
proposals_step members me b joined p next letters before =
    let count : next - p ≡ suc (next - (p + 1)) = omega (arith, before) in
    assoc letters (to_all members me (Accept b p (proposal (at joined p)))) (proposals members me b joined (p + 1) (next - (p + 1))) ∙ ap (λ n. letters ++ proposals members me b joined p n) (sym count)

-- the ballot above what was used and heard of
pub next_ballot : (found : Findable) (hint me b used above : ℕ) → ((c : Content) → Holds found c → used ≡ max c.tried (promised c)) → above ≡ max used hint → IsLeastAbove above me b → IsNextBallot found hint me b
next_ballot found hint me b used above is top least = λ c holds.
    let so : used ≡ max c.tried (promised c) = is c holds in
    subst (λ u. IsLeastAbove u me b) (omega (arith, so, top)) least

pub may_have_tried : (old mid new : Findable) (hint me b : ℕ) → IsNextBallot old hint me b → FindsSame old mid → MayHaveMade mid new (Tries b) → MayHaveTried old new hint me
may_have_tried old mid new hint me b next same made = λ c holds. inr (b, next c holds, made c (still_holds old mid c same holds))

-- a call that fails where there is a next ballot
pub has_next : {T : Type 0} (r : Result T Fault) (Lacks : Type 0) (found : Findable) (hint me b : ℕ) → IsNextBallot found hint me b
    → IfErr r (λ fault. fault ≡ Fault.OutOfMemory → Lacks ⊎ ((b : ℕ) × IsNextBallot found hint me b))
has_next (Ok x) Lacks found hint me b next = tt
has_next (Err fault) Lacks found hint me b next = λ is. inr (b, next)

-- where there is a next ballot, not all are used up
pub not_spent : (found : Findable) (hint me b : ℕ) → IsNextBallot found hint me b → (c : Content) → Holds found c → NoneAbove (limit c hint) me → ⊥
not_spent found hint me b next c holds none =
    let least = next c holds in
    let below = none b least.0 in
    absurd (omega (arith, below, least.1))

-- where the store never fails and a read of a ballot always finds memory, nothing else is answered
pub spent_in_memory : {T : Type 0} (r : Result T Fault) (Lacks : Type 0) → (Lacks → ⊥) → TellsSpent Lacks r → CountsStops r 0 0 → r ≡ Err Fault.RoundsSpent
spent_in_memory (Ok x) Lacks finds tells counts = absurd tells
spent_in_memory (Err Fault.RoundsSpent) Lacks finds tells counts = refl
spent_in_memory (Err Fault.OutOfMemory) Lacks finds tells counts = absurd (finds tells)
spent_in_memory (Err Fault.StoreRefused) Lacks finds tells counts = let risen = counts.1 tt in absurd (omega (arith, risen))
spent_in_memory (Err Fault.Down) Lacks finds tells counts = let risen = counts.1 tt in absurd (omega (arith, risen))
spent_in_memory (Err Fault.NotLeading) Lacks finds tells counts = absurd tells
spent_in_memory (Err Fault.LogFull) Lacks finds tells counts = absurd tells
spent_in_memory (Err Fault.ValueTooLong) Lacks finds tells counts = absurd tells

-- A node beside a store, over lines.
use Rattle.std.proofs.Common.{◌≡◌, inl, inr, ℕ, zero, suc, List, [], ◌∷◌, Bool, true, false, Result, Ok, Err, refl, sym}
use Rattle.std.proofs.Common.{ap, subst, ◌∙◌, All}
use Rattle.std.proofs.lemmas.List.Elements.{All-cons, All-nil}
use Rattle.acceptor.specs.Content.{Content}
use Rattle.acceptor.specs.declared.records.RecordsFault.{RecordsFault}
use Rattle.node.specs.View.{Standing, View}
use Rattle.node.specs.View.Standing.{Running}
use Rattle.node.specs.declared.node.Node.{Ghosts as Nodes}
use Rattle.node.specs.declared.parts.Parts.{Parts}
use Rattle.node_lines.specs.Input.{IsDropped, IsLine}
use Rattle.node_lines.specs.Lines.{Asks, IsRefused}
use Rattle.node_lines.specs.declared.fault.LineFault.{LineFault}
use Rattle.node_lines.specs.declared.request.Request.{Request}
use Rattle.node_service.specs.Batched.{BatchedTurns, Commits, IsCameOf, LineTurn, UnkeptTurns}
use Rattle.node_service.specs.Came.{IsAskedBy, IsRefusedBy}
use Rattle.node_service.specs.Incoming.{IsTurnedAway}
use Rattle.node_service.specs.declared.keeper.Keeper.{Ghosts as Keepers}
use Rattle.node_service.specs.declared.lines.Lines.{Ghosts as Inputs}
use Rattle.node_service.specs.declared.outgoing.Reply.{Reply}
use Rattle.node_service.specs.declared.outgoing.Reply.TheVariants as reply
use Rattle.seats.specs.Occupant.{Stands, is_up, node_of, who_of}
use Rattle.seats.specs.Seat.{SameMember, Shown}
use Rattle.seats.specs.declared.seat.Seat.{Seat}
use Rattle.upsched_node.specs.Serving.{RepliesAs, RunsAs}
use Rattle.batched_node.proofs.Memory.{IsPlain, IsSure, memory, moved, surely}
use Rattle.batched_node.specs.Noted.{RepliesBy, fault_of}
use Rattle.kept_node.specs.Noted.{FailsToStore, IsKept}
use Rattle.kept_node.specs.declared.store.WriteStore.{Ghosts as Stores}

-- what keeps is a node in its seat, beside a store
pub record IsSeated {A W N : Type 0} {g : Nodes N} (h : Stores W) (parts : N → Parts Content) (plain : IsPlain g parts) (keeper : Keepers A Reply) (seat_of : A → Seat N g) (store_of : A → W) : Type 0 where
  pub up : (a : A) → keeper.up a ≡ is_up (seat_of a)
  pub replies : (a : A) (came : Result (List ℕ) LineFault) (given : Reply) (b : A) → keeper.replies a came given b → RepliesBy (seat_of a) came given (seat_of b) × (store_of b ≡ store_of a)
  pub commits : (a b : A) → keeper.commits a b → seat_of b ≡ seat_of a
  pub apart : (line : List ℕ) → keeper.is_apart line ≡ false
  pub kept : (a : A) → keeper.has_kept a → IsKept h (store_of a) (memory parts plain (seat_of a))
  pub untold : (given other : Reply) → keeper.may_tell given other ≡ false
  pub fails : (a : A) (given : Reply) (b : A) → keeper.fails a given b → (why : RecordsFault) × (given ≡ fault_of why) × FailsToStore h why (store_of a) (store_of b) (memory parts plain (seat_of a))

-- what was read asks what the line asks
asks_it : (line : List ℕ) (came : Result (List ℕ) LineFault) (asked : Request) → IsCameOf line came → IsAskedBy came asked → Asks line asked
asks_it line (Ok kept) asked (same, short) asks = subst (λ (l : List ℕ). Asks l asked) same asks
asks_it line (Err why) asked dropped none = absurd none

turned_away : (line : List ℕ) (came : Result (List ℕ) LineFault) (why : LineFault) → IsCameOf line came → IsRefusedBy came why → IsTurnedAway line why
turned_away line (Ok kept) why (same, short) refused = inl (subst (λ (l : List ℕ). IsRefused l why) same refused)
turned_away line (Err told) why dropped is = inr (subst (IsDropped line) (sym is) dropped)

runs_up : (up : Bool) (may : Standing → Type 0) (s : Standing) → up ≡ true → Shown up may s → (view : View) × (s ≡ Running view)
runs_up true may s is (stands, view, runs) = (view, runs)
runs_up false may s is shown = cc

module _ {N : Type 0} {g : Nodes N} (parts : N → Parts Content) (plain : IsPlain g parts) where
  same_seat : (a : Seat N g) (came : Result (List ℕ) LineFault) (given : Reply) (b : Seat N g) → RepliesBy a came given b → SameMember (who_of a) (who_of b)
  same_seat a came (reply.Acted given) b (asked, by, does) = does.same
  same_seat a came (reply.Refused why) b (by, same) = subst (λ (x : Seat N g). SameMember (who_of a) (who_of x)) (sym same) (refl, refl)
  same_seat a came (reply.Fresh id count) b none = absurd none
  same_seat a came (reply.Restarted id count) b none = absurd none

  replied : (a : Seat N g) (came : Result (List ℕ) LineFault) (given : Reply) (b : Seat N g) (line : List ℕ) → is_up a ≡ true → IsCameOf line came → RepliesBy a came given b
      → (view : View) → Stands a (Running view) → (t : Standing) × RepliesAs (who_of a).members (who_of a).id (Running view) line given t × Stands b t × IsSure t
  replied a came (reply.Acted given) b line up is (asked, by, does) view stands =
      let move = moved parts plain a b asked given up does view stands in (
        move.0.standing,
        (asked, asks_it line came asked is by, (move.0, move.1, move.2, move.3, refl)),
        move.4,
        surely (who_of a).members (who_of a).id view asked given move.0.standing move.5,
      )
  replied a came (reply.Refused why) b line up is (by, same) view stands =
      (Running view, (turned_away line came why is by, refl), subst (λ (x : Seat N g). Stands x (Running view)) (sym same) stands, tt)
  replied a came (reply.Fresh id count) b line up is none view stands = absurd none
  replied a came (reply.Restarted id count) b line up is none view stands = absurd none

  module _ {A W I : Type 0} (h : Stores W) (keeper : Keepers A Reply) (seat_of : A → Seat N g) (store_of : A → W) (seated : IsSeated h parts plain keeper seat_of store_of) (input : Inputs I) (members me : ℕ) where
    -- it is this member, and stands so, without a doubt
    abbrev pub IsAt : A → Standing → Type 0
    IsAt a s = Stands (seat_of a) s × IsSure s × ((who_of (seat_of a)).id ≡ me) × ((who_of (seat_of a)).members ≡ members)

    turn_as : (line : List ℕ) (given : Reply) (a : A) (i : I) (b : A) (j : I) → LineTurn keeper input line given a i b j → (s : Standing) → IsAt a s
        → (t : Standing) × RepliesAs members me s line given t × IsAt b t × (store_of b ≡ store_of a)
    turn_as line given a i b j turn s at =
        let up : is_up (seat_of a) ≡ true = sym (seated.up a) ∙ turn.up in
        let run = runs_up (is_up (seat_of a)) (g.stands (node_of (seat_of a))) s up at.0 in
        let by = seated.replies a turn.came given b turn.replies in
        let then = replied (seat_of a) turn.came given (seat_of b) line up turn.is by.0 run.0 (subst (λ (x : Standing). Stands (seat_of a) x) run.1 at.0) in
        let same = same_seat (seat_of a) turn.came given (seat_of b) by.0 in (
          then.0,
          subst (λ (x : Standing). RepliesAs members me x line given then.0) (sym run.1)
              (subst (λ (n : ℕ). RepliesAs n me (Running run.0) line given then.0) at.3 (subst (λ (n : ℕ). RepliesAs (who_of (seat_of a)).members n (Running run.0) line given then.0) at.2 then.1)),
          (then.2, then.3, same.0 ∙ at.2, same.1 ∙ at.3),
          by.1,
        )

    commit_at : (n : ℕ) (a b : A) (s : Standing) → Commits keeper n a b → IsAt a s → IsAt b s
    commit_at zero a b s same at = subst (λ (x : A). IsAt x s) (sym same) at
    commit_at (suc n) a b s (between, one, others) at =
        commit_at n between b s others (subst (λ (x : Seat N g). Stands x s × IsSure s × ((who_of x).id ≡ me) × ((who_of x).members ≡ members)) (sym (seated.commits a between one)) at)

    pub batched_as : (turns : List (List ℕ × Reply)) (a : A) (i : I) (b : A) (j : I) → BatchedTurns keeper input turns a i b j → (s : Standing) → IsAt a s
        → (t : Standing) × RunsAs members me s turns t × IsAt b t
    batched_as [] a i b j (n, commits, left) s at = (s, refl, commit_at n a b s commits at)
    batched_as (turn ∷ turns) a i b j (n, before, after, rest, commits, one, others) s at =
        let first = turn_as turn.0 turn.1 before i after rest one s (commit_at n a before s commits at) in
        let then = batched_as turns after rest b j others first.0 first.2 in
        (then.0, (first.0, first.1, then.1), then.2)

    pub unkept_as : (turns : List (List ℕ × Reply)) (a : A) (i : I) (b : A) (j : I) → UnkeptTurns keeper input turns a i b j → (s : Standing) → IsAt a s
        → (t : Standing) × RunsAs members me s turns t × IsAt b t × (store_of b ≡ store_of a)
    unkept_as [] a i b j (same, left) s at = (s, refl, subst (λ (x : A). IsAt x s) (sym same) at, ap store_of same)
    unkept_as (turn ∷ turns) a i b j (between, rest, one, others) s at =
        let first = turn_as turn.0 turn.1 a i between rest one s at in
        let then = unkept_as turns between rest b j others first.0 first.2 in
        (then.0, (first.0, first.1, then.1), then.2, then.3 ∙ first.3)

    pub batched_lines : (turns : List (List ℕ × Reply)) (a : A) (i : I) (b : A) (j : I) → BatchedTurns keeper input turns a i b j → All (λ turn. IsLine turn.0) turns
    batched_lines [] a i b j none = All-nil (λ turn. IsLine turn.0)
    batched_lines (turn ∷ turns) a i b j (n, before, after, rest, commits, one, others) = All-cons (λ turn. IsLine turn.0) turn turns one.whole (batched_lines turns after rest b j others)

    pub unkept_lines : (turns : List (List ℕ × Reply)) (a : A) (i : I) (b : A) (j : I) → UnkeptTurns keeper input turns a i b j → All (λ turn. IsLine turn.0) turns
    unkept_lines [] a i b j none = All-nil (λ turn. IsLine turn.0)
    unkept_lines (turn ∷ turns) a i b j (between, rest, one, others) = All-cons (λ turn. IsLine turn.0) turn turns one.whole (unkept_lines turns between rest b j others)

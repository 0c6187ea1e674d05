-- A node in its seat that replies to lines.
use Rattle.std.proofs.Common.{ℕ, List, [], ◌∷◌, All, refl, sym, subst}
use Rattle.std.proofs.lemmas.List.Elements.{All-cons, All-nil}
use Rattle.node.specs.declared.node.Node.{Ghosts}
use Rattle.node.specs.View.{Standing}
use Rattle.node_lines.specs.Input.{IsLine}
use Rattle.node_lines.specs.declared.request.Request.{Request}
use Rattle.node_service.specs.declared.actor.Actor.{Ghosts as Actors}
use Rattle.node_service.specs.declared.incoming.Incoming.{Incoming}
use Rattle.node_service.specs.declared.incoming.Incoming.TheVariants as incoming
use Rattle.node_service.specs.declared.incoming.Input.{Ghosts as Inputs}
use Rattle.node_service.specs.declared.outgoing.Reply.{Reply}
use Rattle.node_service.specs.declared.outgoing.Reply.TheVariants as reply
use Rattle.node_service.specs.Incoming.{IsTakenFor}
use Rattle.node_service.specs.Seated.{DoesAsAsked}
use Rattle.node_service.specs.Serving.{RepliesTo, Turns}
use Rattle.seats.specs.Occupant.{IsHonest, Stands, who_of}
use Rattle.seats.specs.Seat.{SameMember}
use Rattle.seats.specs.declared.acted.Acted.{Acted}
use Rattle.seats.specs.declared.seat.Seat.{Seat}
use Rattle.upsched_node.specs.Serving.{RepliesAs, RunsAs}

-- what acts does as a node in its seat is asked
abbrev pub ActsAsSeat : {N : Type 0} {g : Ghosts N} → Actors (Seat N g) → Type 0
ActsAsSeat {N} {g} doer = (a : Seat N g) (asked : Request) (acted : Acted) (b : Seat N g) → doer.obeys a asked acted b → DoesAsAsked a asked acted b

reply_honest : {N : Type 0} {g : Ghosts N} (doer : Actors (Seat N g)) → ActsAsSeat doer → (what : Incoming) (replied : Reply) (a b : Seat N g) → RepliesTo doer what a replied b → IsHonest b → IsHonest a
reply_honest doer does (incoming.Asks asked) (reply.Acted acted) a b obeys honest = (does a asked acted b obeys).honesty honest
reply_honest {N} {g} doer does (incoming.Refused why) (reply.Refused told) a b (is, same) honest = subst (λ (x : Seat N g). IsHonest x) same honest
reply_honest doer does what replied a b none honest = absurd none

reply_same : {N : Type 0} {g : Ghosts N} (doer : Actors (Seat N g)) → ActsAsSeat doer → (what : Incoming) (replied : Reply) (a b : Seat N g) → RepliesTo doer what a replied b → SameMember (who_of a) (who_of b)
reply_same doer does (incoming.Asks asked) (reply.Acted acted) a b obeys = (does a asked acted b obeys).same
reply_same {N} {g} doer does (incoming.Refused why) (reply.Refused told) a b (is, same) = subst (λ (x : Seat N g). SameMember (who_of a) (who_of x)) (sym same) (refl, refl)
reply_same doer does what replied a b none = absurd none

reply_as : {N : Type 0} {g : Ghosts N} (doer : Actors (Seat N g)) → ActsAsSeat doer → (what : Incoming) (line : List ℕ) (replied : Reply) (a b : Seat N g) → IsTakenFor line what → RepliesTo doer what a replied b
    → IsHonest b → (s : Standing) → Stands a s → (t : Standing) × RepliesAs (who_of a).members (who_of a).id s line replied t × Stands b t
reply_as doer does (incoming.Asks asked) line (reply.Acted acted) a b taken obeys honest s stands =
    let moved = (does a asked acted b obeys).moves honest s stands in
    (moved.0.standing, (asked, taken.0, (moved.0, moved.1, moved.2, moved.3, refl)), moved.4)
reply_as {N} {g} doer does (incoming.Refused why) line (reply.Refused told) a b taken (is, same) honest s stands =
    (s, (subst (λ fault. IsTakenFor line (incoming.Refused fault)) (sym is) taken, refl), subst (λ (x : Seat N g). Stands x s) (sym same) stands)
reply_as doer does what line replied a b taken none honest s stands = absurd none

pub honest_before : {N I : Type 0} {g : Ghosts N} (doer : Actors (Seat N g)) → ActsAsSeat doer → (input : Inputs I) (turns : List (List ℕ × Reply)) (a : Seat N g) (i : I) (b : Seat N g) (j : I)
    → Turns doer input turns a i b j → IsHonest b → IsHonest a
honest_before {N} {I} {g} doer does input [] a i b j (same, left) honest = subst (λ (x : Seat N g). IsHonest x) same honest
honest_before doer does input (turn ∷ turns) a i b j (between, rest, one, others) honest =
    reply_honest doer does one.what turn.1 a between one.replies (honest_before doer does input turns between rest b j others honest)

-- whatever it may have stood as, it ran so from there
pub runs_as : {N I : Type 0} {g : Ghosts N} (doer : Actors (Seat N g)) → ActsAsSeat doer → (input : Inputs I) (turns : List (List ℕ × Reply)) (a : Seat N g) (i : I) (b : Seat N g) (j : I)
    → Turns doer input turns a i b j → IsHonest b → (s : Standing) → Stands a s → (t : Standing) × RunsAs (who_of a).members (who_of a).id s turns t × Stands b t
runs_as {N} {I} {g} doer does input [] a i b j (same, left) honest s stands = (s, refl, subst (λ (x : Seat N g). Stands x s) (sym same) stands)
runs_as doer does input (turn ∷ turns) a i b j (between, rest, one, others) honest s stands =
    let first = reply_as doer does one.what turn.0 turn.1 a between one.taken one.replies (honest_before doer does input turns between rest b j others honest) s stands in
    let same = reply_same doer does one.what turn.1 a between one.replies in
    let then = runs_as doer does input turns between rest b j others honest first.0 first.2 in (
      then.0,
      (
        first.0,
        first.1,
        subst (λ (me : ℕ). RunsAs (who_of a).members me first.0 turns then.0) same.0
            (subst (λ (members : ℕ). RunsAs members (who_of between).id first.0 turns then.0) same.1 then.1),
      ),
      then.2,
    )

-- none of the lines has an end inside
pub whole_lines : {N I : Type 0} {g : Ghosts N} (doer : Actors (Seat N g)) (input : Inputs I) (turns : List (List ℕ × Reply)) (a : Seat N g) (i : I) (b : Seat N g) (j : I)
    → Turns doer input turns a i b j → All (λ turn. IsLine turn.0) turns
whole_lines doer input [] a i b j none = All-nil (λ turn. IsLine turn.0)
whole_lines doer input (turn ∷ turns) a i b j (between, rest, one, others) =
    All-cons (λ turn. IsLine turn.0) turn turns one.whole (whole_lines doer input turns between rest b j others)

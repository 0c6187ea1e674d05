-- Lines that are served one after another.
use Rattle.std.proofs.Common.{◌≡◌, ℕ, List, [], ◌∷◌, ◌++◌, true, Option, refl, sym, ap, ◌∙◌, subst, append_assoc}
use Rattle.std.specs.Io.KnownBytes.{Appends, Consumes}
use Rattle.std.specs.List.{flat_map}
use Rattle.std.proofs.KnownBytes.{Appends-trans, Consumes-trans}
use Rattle.std.proofs.lemmas.List.{append-nil}
use Rattle.node_lines.specs.Input.{ReadsLine}
use Rattle.node_service.specs.declared.incoming.Incoming.{Incoming}
use Rattle.node_service.specs.declared.incoming.Incoming.TheVariants as incoming
use Rattle.node_service.specs.declared.incoming.Input.{Ghosts as Inputs}
use Rattle.node_service.specs.declared.outgoing.Output.{Ghosts as Outputs}
use Rattle.node_service.specs.declared.outgoing.Reply.{Reply}
use Rattle.node_service.specs.declared.actor.Actor.{Ghosts as Actors}
use Rattle.node_service.specs.Incoming.{Comes, IsTakenFor}
use Rattle.node_service.specs.Serving.{RepliesTo, ServesLines, Turn, Turns, lines_of, text_of}
use Rattle.node_service.specs.Texts.{reply_text}

-- one turn more at the end
pub more_turns : {A I : Type 0} (doer : Actors A) (input : Inputs I) (turns : List (List ℕ × Reply)) (line : List ℕ) (replied : Reply) (a : A) (i : I) (am : A) (im : I) (a' : A) (i' : I)
    → Turns doer input turns a i am im → Turn doer input line replied am im a' i' → Turns doer input (turns ++ (line, replied) ∷ []) a i a' i'
more_turns {A} {I} doer input [] line replied a i am im a' i' (same, left) turn =
    (a', i', subst (λ (x : A). Turn doer input line replied x i a' i') same (subst (λ (x : I). Turn doer input line replied am x a' i') left turn), (refl, refl))
more_turns doer input (first ∷ turns) line replied a i am im a' i' (between, rest, one, others) turn =
    (between, rest, one, more_turns doer input turns line replied between rest am im a' i' others turn)

pub more_of : (f : List ℕ × Reply → List ℕ) (turns : List (List ℕ × Reply)) (turn : List ℕ × Reply) → flat_map f (turns ++ turn ∷ []) ≡ flat_map f turns ++ f turn
more_of f [] turn = append-nil (f turn)
more_of f (first ∷ turns) turn = ap (λ (x : List ℕ). f first ++ x) (more_of f turns turn) ∙ sym (append_assoc (f first) (flat_map f turns) (f turn))

-- a whole line came
pub line_came : (what : Incoming) (old new : Option (List ℕ)) → (what ≡ incoming.End → ⊥) → Comes old new what → (line : List ℕ) × ReadsLine old new line × IsTakenFor line what
line_came (incoming.Asks asked) old new some came = came
line_came (incoming.Refused why) old new some came = came
line_came incoming.End old new some came = absurd (some refl)

is_no_end : {A : Type 0} (doer : Actors A) (what : Incoming) (a : A) (replied : Reply) (a' : A) → RepliesTo doer what a replied a' → what ≡ incoming.End → ⊥
is_no_end doer (incoming.Asks asked) a replied a' replies is = cc
is_no_end doer (incoming.Refused why) a replied a' replies is = cc
is_no_end doer incoming.End a replied a' replies is = replies

-- a line that came and was replied to is a turn
pub turn_of : {A I : Type 0} (doer : Actors A) (input : Inputs I) (what : Incoming) (replied : Reply) (a : A) (i : I) (a' : A) (i' : I)
    → doer.up a ≡ true → Comes (input.bytes_left i) (input.bytes_left i') what → input.gives i what i' → RepliesTo doer what a replied a'
    → (line : List ℕ) × ReadsLine (input.bytes_left i) (input.bytes_left i') line × Turn doer input line replied a i a' i'
turn_of doer input what replied a i a' i' up came gives replies =
    let found = line_came what (input.bytes_left i) (input.bytes_left i') (is_no_end doer what a replied a' replies) came in
    (found.0, found.1, record { what = what; whole = found.1.0; comes = gives; taken = found.2; up = up; replies = replies })

-- one line more was served
pub one_more : {A I O : Type 0} (doer : Actors A) (input : Inputs I) (output : Outputs O) (turns : List (List ℕ × Reply)) (line : List ℕ) (replied : Reply)
    (a : A) (i : I) (o : O) (am : A) (im : I) (om : O) (a' : A) (i' : I) (o' : O)
    → ServesLines doer input output turns a i o am im om → Turn doer input line replied am im a' i' → Consumes (input.bytes_left im) (input.bytes_left i') (line ++ 10 ∷ [])
    → Appends (output.bytes_held om) (output.bytes_held o') (reply_text replied) → ServesLines doer input output (turns ++ (line, replied) ∷ []) a i o a' i' o'
one_more doer input output turns line replied a i o am im om a' i' o' served turn read written = record {
  turned = more_turns doer input turns line replied a i am im a' i' served.turned turn;
  read = subst (Consumes (input.bytes_left i) (input.bytes_left i')) (sym (more_of (λ turn. turn.0 ++ 10 ∷ []) turns (line, replied)))
      (Consumes-trans (input.bytes_left i) (input.bytes_left im) (input.bytes_left i') (lines_of turns) (line ++ 10 ∷ []) served.read read);
  written = subst (Appends (output.bytes_held o) (output.bytes_held o')) (sym (more_of (λ turn. reply_text turn.1) turns (line, replied)))
      (Appends-trans (output.bytes_held o) (output.bytes_held om) (output.bytes_held o') (text_of turns) (reply_text replied) served.written written);
}

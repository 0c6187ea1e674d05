-- Lines that are served in batches.
use Rattle.std.proofs.Common.{◌≡◌, ◌⊎◌, inl, inr, ℕ, zero, suc, ◌+◌, ◌<◌, ◌≤◌, List, [], ◌∷◌, ◌++◌, length, take, drop}
use Rattle.std.proofs.Common.{Bool, true, false, cond, Option, None, Some, Result, Ok, Err, IfErr, OnOk, arith, refl, sym, ap, ◌∙◌, subst}
use Rattle.std.proofs.Common.{append_assoc, get_or}
use Rattle.std.specs.Io.KnownBytes.{Appends, Consumes, Keeps}
use Rattle.std.specs.List.{flat_map, prefix_len, take_while}
use Rattle.std.proofs.KnownBytes.{Appends-kept, Appends-nil, Appends-trans, Consumes-nil, Consumes-trans}
use Rattle.std.proofs.Math.Seq.{drop-cons, take-suc}
use Rattle.std.proofs.lemmas.Grind.{flat_map-append}
use Rattle.std.proofs.lemmas.List.{append-nil, drop_all, length-take-le, take-append-drop, take_all}
use Rattle.std.proofs.lemmas.List.Folds.{flat_map-map, length-prefix_len}
use Rattle.std.proofs.lemmas.List.Sums.{take_while-cons}
use Rattle.node_service.specs.declared.batches.BatchedEnd.{BatchedEnd}
use Rattle.node_service.specs.declared.batches.BatchedEnd.TheVariants as ends
use Rattle.node_service.specs.declared.keeper.Keeper.{Ghosts as Keepers}
use Rattle.node_service.specs.declared.lines.Lines.{Ghosts as Inputs}
use Rattle.node_service.specs.declared.outbox.Outbox.{Ghosts as Outputs}
use Rattle.node_lines.specs.declared.writing.Unwritten.{Unwritten}
use Rattle.node_service.specs.Batched.{BatchedTurns, Closes, Commits, EndsBatchedBy, FailsToClose, FailsWithin}
use Rattle.node_service.specs.Batched.{FailsToTellLeft, IsLeft, LineTurn, DoesNoMore, ServesBatched, StopsAt, UnkeptTurns}
use Rattle.node_service.specs.Batched.{lines_in, replies_in, text_in, those}

-- commits, and then more of them
commits_on : {A R : Type 0} (keeper : Keepers A R) (m n : ℕ) (a b c : A) → Commits keeper m a b → Commits keeper n b c → (k : ℕ) × Commits keeper k a c
commits_on {A} keeper zero n a b c same after = (n, subst (λ (x : A). Commits keeper n x c) same after)
commits_on keeper (suc m) n a b c (between, one, others) after =
    let rest = commits_on keeper m n between b c others after in (suc rest.0, (between, one, rest.1))

-- turns, and then commits
turns_commit : {A R I : Type 0} (keeper : Keepers A R) (input : Inputs I) (turns : List (List ℕ × R)) (n : ℕ) (a : A) (i : I) (b : A) (j : I) (c : A)
    → BatchedTurns keeper input turns a i b j → Commits keeper n b c → BatchedTurns keeper input turns a i c j
turns_commit keeper input [] n a i b j c (m, commits, same) more = let all = commits_on keeper m n a b c commits more in (all.0, all.1, same)
turns_commit keeper input (turn ∷ turns) n a i b j c (m, before, after, rest, commits, one, others) more =
    (m, before, after, rest, commits, one, turns_commit keeper input turns n after rest b j c others more)

-- commits, and then turns without any
unkept_then : {A R I : Type 0} (keeper : Keepers A R) (input : Inputs I) (turns : List (List ℕ × R)) (m : ℕ) (a : A) (i : I) (b : A) (j : I) (c : A) (k : I)
    → Commits keeper m a b → j ≡ i → UnkeptTurns keeper input turns b j c k → BatchedTurns keeper input turns a i c k
unkept_then {A} keeper input [] m a i b j c k commits at (same, left) = (m, subst (λ (x : A). Commits keeper m a x) (sym same) commits, left ∙ at)
unkept_then {A} {R} {I} keeper input (turn ∷ turns) m a i b j c k commits at (between, rest, one, others) =
    (m, b, between, rest, commits, subst (λ (x : I). LineTurn keeper input turn.0 turn.1 b x between rest) at one, unkept_then keeper input turns zero between rest between rest c k refl refl others)

-- turns with commits between them, and then turns without any
turns_then : {A R I : Type 0} (keeper : Keepers A R) (input : Inputs I) (turns later : List (List ℕ × R)) (a : A) (i : I) (b : A) (j : I) (c : A) (k : I)
    → BatchedTurns keeper input turns a i b j → UnkeptTurns keeper input later b j c k → BatchedTurns keeper input (turns ++ later) a i c k
turns_then keeper input [] later a i b j c k (m, commits, same) after = unkept_then keeper input later m a i b j c k commits same after
turns_then keeper input (turn ∷ turns) later a i b j c k (m, before, done, rest, commits, one, others) after =
    (m, before, done, rest, commits, one, turns_then keeper input turns later done rest b j c k others after)

-- one turn more at the end
unkept_more : {A R I : Type 0} (keeper : Keepers A R) (input : Inputs I) (turns : List (List ℕ × R)) (line : List ℕ) (replied : R) (a : A) (i : I) (am : A) (im : I) (a' : A) (i' : I)
    → UnkeptTurns keeper input turns a i am im → LineTurn keeper input line replied am im a' i' → UnkeptTurns keeper input (turns ++ (line, replied) ∷ []) a i a' i'
unkept_more {A} {R} {I} keeper input [] line replied a i am im a' i' (same, left) turn =
    (a', i', subst (λ (x : A). LineTurn keeper input line replied x i a' i') same (subst (λ (x : I). LineTurn keeper input line replied am x a' i') left turn), (refl, refl))
unkept_more keeper input (first ∷ turns) line replied a i am im a' i' (between, rest, one, others) turn =
    (between, rest, one, unkept_more keeper input turns line replied between rest am im a' i' others turn)

more_of : {X : Type 0} (f : X → List ℕ) (xs : List X) (x : X) → flat_map f (xs ++ x ∷ []) ≡ flat_map f xs ++ f x
more_of f xs x = flat_map-append f xs (x ∷ []) ∙ ap (λ (ys : List ℕ). flat_map f xs ++ ys) (append-nil (f x))

-- the text of more replies behind others
more_text : {R : Type 0} (text : R → List ℕ) (turns later : List (List ℕ × R)) → text_in text (turns ++ later) ≡ text_in text turns ++ flat_map text (replies_in later)
more_text {R} text turns later =
    flat_map-append (λ (turn : List ℕ × R). text turn.1) turns later ∙ ap (λ (ys : List ℕ). text_in text turns ++ ys) (sym (flat_map-map text (λ (turn : List ℕ × R). turn.1) later))

-- replies that are split are those of turns that are split so
split_turns : {R : Type 0} (turns : List (List ℕ × R)) (front back : List R) → replies_in turns ≡ front ++ back
    → (first last : List (List ℕ × R)) × (turns ≡ first ++ last) × (replies_in first ≡ front) × (replies_in last ≡ back)
split_turns turns [] back is = ([], turns, refl, refl, is)
split_turns [] (x ∷ front) back is = absurd (cc (is))
split_turns {R} (turn ∷ turns) (x ∷ front) back is =
    let head : turn.1 ≡ x = cc (is) in
    let tail : replies_in turns ≡ front ++ back = cc (is) in
    let rest = split_turns turns front back tail in
    (turn ∷ rest.0, rest.1, ap (λ (ts : List (List ℕ × R)). turn ∷ ts) rest.2, cc (head, rest.3), rest.4)

-- the first of replies is that of the first turn
first_turn : {R : Type 0} (turns : List (List ℕ × R)) (x : R) (xs : List R) → replies_in turns ≡ x ∷ xs → (turn : List ℕ × R) × (later : List (List ℕ × R)) × (turns ≡ turn ∷ later) × (turn.1 ≡ x)
first_turn [] x xs is = absurd (cc (is))
first_turn (turn ∷ turns) x xs is = (turn, turns, refl, cc (is))

-- one text more was written
pub one_written : {R O : Type 0} (text : R → List ℕ) (output : Outputs O) (replies : List R) (k : ℕ) (reply : R) (o held o' : O) → k < length replies → reply ≡ get_or replies k reply
    → Appends (output.bytes_held o) (output.bytes_held held) (flat_map text (take k replies)) → Appends (output.bytes_held held) (output.bytes_held o') (text reply)
    → Appends (output.bytes_held o) (output.bytes_held o') (flat_map text (take (suc k) replies))
one_written {R} text output replies k reply o held o' within is before after =
    let more : take (suc k) replies ≡ take k replies ++ reply ∷ [] = take-suc replies k reply within ∙ ap (λ (x : R). take k replies ++ x ∷ []) (sym is) in
    let texts : flat_map text (take (suc k) replies) ≡ flat_map text (take k replies) ++ text reply = ap (λ (xs : List R). flat_map text xs) more ∙ more_of text (take k replies) reply in
    subst (Appends (output.bytes_held o) (output.bytes_held o')) (sym texts)
    (Appends-trans (output.bytes_held o) (output.bytes_held held) (output.bytes_held o') (flat_map text (take k replies)) (text reply) before after)

-- what was written of some texts, where the next one fails
pub fails_at : {R O : Type 0} (text : R → List ℕ) (output : Outputs O) (replies : List R) (k : ℕ) (reply : R) (why : Unwritten) (o held o' : O)
    → k < length replies → reply ≡ get_or replies k reply → Appends (output.bytes_held o) (output.bytes_held held) (flat_map text (take k replies)) → output.fails held (text reply) why o'
    → FailsWithin text output replies why o o'
fails_at {R} text output replies k reply why o held o' within is written fails =
    let cut : drop k replies ≡ get_or replies k reply ∷ drop (suc k) replies = drop-cons replies k reply within in (
      take k replies,
      drop k replies,
      held,
      sym (take-append-drop k replies),
      written,
      inr (reply, drop (suc k) replies, cut ∙ ap (λ (x : R). x ∷ drop (suc k) replies) (sym is), fails),
    )

-- bytes that stay, and then grow
pub sent_then : (old sent new : Option (List ℕ)) (bs : List ℕ) → Keeps old sent → Appends sent new bs → Appends old new bs
sent_then old sent new bs keeps more = Appends-trans old sent new [] bs (Appends-kept old old sent [] (Appends-nil old) keeps) more

-- what fails of some replies fails of these and more
pub within_more : {R O : Type 0} (text : R → List ℕ) (output : Outputs O) (replies more : List R) (why : Unwritten) (o o' : O) → FailsWithin text output replies why o o'
    → FailsWithin text output (replies ++ more) why o o'
within_more {R} text output replies more why o o' (front, back, held, split, written, fails) = (
  front,
  back ++ more,
  held,
  ap (λ (rs : List R). rs ++ more) split ∙ append_assoc front back more,
  written,
  elim fails [
    | inl sent ↦ inl sent
    | inr (one, later, is, failed) ↦ inr (one, later ++ more, ap (λ (rs : List R). rs ++ more) is, failed)
  ],
)

-- all were written, and the last one, if there is one
pub with_last : {R O : Type 0} (text : R → List ℕ) (output : Outputs O) (replies : List R) (k : ℕ) (last : Option R) (reply : R) (o mid held : O) → length replies ≤ k → last ≡ Some reply
    → Appends (output.bytes_held o) (output.bytes_held mid) (flat_map text (take k replies)) → Appends (output.bytes_held mid) (output.bytes_held held) (text reply)
    → Appends (output.bytes_held o) (output.bytes_held held) (flat_map text (replies ++ those last))
with_last {R} text output replies k last reply o mid held over is before after =
    let texts : flat_map text (replies ++ those last) ≡ flat_map text (take k replies) ++ text reply =
    ap (λ (l : Option R). flat_map text (replies ++ those l)) is ∙ more_of text replies reply ∙ ap (λ (rs : List R). flat_map text rs ++ text reply) (sym (take_all k replies over)) in
    subst (Appends (output.bytes_held o) (output.bytes_held held)) (sym texts)
    (Appends-trans (output.bytes_held o) (output.bytes_held mid) (output.bytes_held held) (flat_map text (take k replies)) (text reply) before after)

pub with_none : {R O : Type 0} (text : R → List ℕ) (output : Outputs O) (replies : List R) (k : ℕ) (last : Option R) (o held : O) → length replies ≤ k → last ≡ None
    → Appends (output.bytes_held o) (output.bytes_held held) (flat_map text (take k replies)) → Appends (output.bytes_held o) (output.bytes_held held) (flat_map text (replies ++ those last))
with_none {R} text output replies k last o held over is before =
    let all : take k replies ≡ replies ++ those last = take_all k replies over ∙ sym (append-nil replies) ∙ ap (λ (l : Option R). replies ++ those l) (sym is) in
    subst (λ (rs : List R). Appends (output.bytes_held o) (output.bytes_held held) (flat_map text rs)) all before

-- all can't be sent out
pub all_unsent : {R O : Type 0} (text : R → List ℕ) (output : Outputs O) (replies : List R) (r : Result (Unit {0}) Unwritten) (o held o' : O)
    → Appends (output.bytes_held o) (output.bytes_held held) (flat_map text replies) → IfErr r (λ why. output.fails_to_send held why o') → IfErr r (λ why. FailsWithin text output replies why o o')
all_unsent text output replies (Ok done) o held o' written fails = tt
all_unsent text output replies (Err why) o held o' written fails = (replies, [], held, sym (append-nil replies), written, inl fails)

-- the same behind what was sent out
pub within_sent : {R O : Type 0} (text : R → List ℕ) (output : Outputs O) (replies : List R) (why : Unwritten) (o sent o' : O) → Keeps (output.bytes_held o) (output.bytes_held sent)
    → FailsWithin text output replies why sent o' → FailsWithin text output replies why o o'
within_sent text output replies why o sent o' keeps (front, back, held, split, written, fails) = (
  front,
  back,
  held,
  split,
  sent_then (output.bytes_held o) (output.bytes_held sent) (output.bytes_held held) (flat_map text front) keeps written,
  fails,
)

-- how far a list passes
module _ {R : Type 0} (p : R → Bool) where
  passing : (x : R) (xs : List R) → p x ≡ true → take_while p (x ∷ xs) ≡ x ∷ take_while p xs
  passing x xs is = take_while-cons p x xs ∙ ap (λ (t : Bool). cond t (x ∷ take_while p xs) []) is

  stopping : (x : R) (xs : List R) → p x ≡ false → take_while p (x ∷ xs) ≡ []
  stopping x xs is = take_while-cons p x xs ∙ ap (λ (t : Bool). cond t (x ∷ take_while p xs) []) is

  passing_len : (x : R) (xs : List R) → p x ≡ true → prefix_len p (x ∷ xs) ≡ 1 + prefix_len p xs
  passing_len x xs is = ap (λ (t : Bool). cond t (1 + prefix_len p xs) 0) is

  stopping_len : (x : R) (xs : List R) → p x ≡ false → prefix_len p (x ∷ xs) ≡ 0
  stopping_len x xs is = ap (λ (t : Bool). cond t (1 + prefix_len p xs) 0) is

  -- so far each one passed
  abbrev pub LeftAt : ℕ → List R → Type 0
  LeftAt k xs = take_while p xs ≡ take k xs ++ take_while p (drop k xs)

  one_on : (y : R) (ys : List R) (k : ℕ) → (LeftAt k ys → LeftAt (suc k) ys) → (t : Bool) → p y ≡ t → LeftAt (suc k) (y ∷ ys) → LeftAt (suc (suc k)) (y ∷ ys)
  one_on y ys k further true here at =
      let rest : y ∷ take_while p ys ≡ y ∷ (take k ys ++ take_while p (drop k ys)) = sym (passing y ys here) ∙ at in
      passing y ys here ∙ ap (λ (zs : List R). y ∷ zs) (further (cc (rest)))
  one_on y ys k further false here at = let wrong : [] ≡ y ∷ (take k ys ++ take_while p (drop k ys)) = sym (stopping y ys here) ∙ at in absurd (cc (wrong))

  pub left_goes_on : (xs : List R) (k : ℕ) (x : R) → k < length xs → x ≡ get_or xs k x → p x ≡ true → LeftAt k xs → LeftAt (suc k) xs
  left_goes_on [] k x within is passes at = absurd (omega (arith, within))
  left_goes_on (y ∷ ys) zero x within is passes at = passing y ys (ap p (sym is) ∙ passes)
  left_goes_on (y ∷ ys) (suc k) x within is passes at = one_on y ys k (left_goes_on ys k x (omega (arith, within)) is passes) (p y) refl at

  -- what is left from here on
  pub left_here : (xs : List R) (k : ℕ) (x : R) → k < length xs → x ≡ get_or xs k x → p x ≡ true → LeftAt k xs → take_while p xs ≡ take k xs ++ x ∷ take_while p (drop (suc k) xs)
  left_here xs k x within is passes at =
      let cut : drop k xs ≡ x ∷ drop (suc k) xs = drop-cons xs k x within ∙ ap (λ (y : R). y ∷ drop (suc k) xs) (sym is) in
      at ∙ ap (λ (ys : List R). take k xs ++ ys) (ap (λ (ys : List R). take_while p ys) cut ∙ passing x (drop (suc k) xs) passes)

  pub left_stops : (xs : List R) (k : ℕ) (x : R) → k < length xs → x ≡ get_or xs k x → p x ≡ false → LeftAt k xs → take_while p xs ≡ take k xs
  left_stops xs k x within is stops at =
      let cut : drop k xs ≡ x ∷ drop (suc k) xs = drop-cons xs k x within ∙ ap (λ (y : R). y ∷ drop (suc k) xs) (sym is) in
      at ∙ ap (λ (ys : List R). take k xs ++ ys) (ap (λ (ys : List R). take_while p ys) cut ∙ stopping x (drop (suc k) xs) stops) ∙ append-nil (take k xs)

  -- some or all of a list passes
  pub left_short : (xs : List R) (k : ℕ) → k < length xs → take_while p xs ≡ take k xs → prefix_len p xs < length xs
  left_short xs k within is =
      let len : prefix_len p xs ≡ k = sym (length-prefix_len p xs) ∙ ap (λ (ys : List R). length ys) is ∙ length-take-le k xs (omega (arith, within)) in
      omega (arith, len, within)

  pub left_whole : (xs : List R) (k : ℕ) → length xs ≤ k → LeftAt k xs → (prefix_len p xs ≡ length xs) × (take_while p xs ≡ xs)
  left_whole xs k over at =
      let whole : take_while p xs ≡ xs = at ∙ ap (λ (ys : List R). take k xs ++ take_while p ys) (drop_all k xs over) ∙ append-nil (take k xs) ∙ take_all k xs over in
      (sym (length-prefix_len p xs) ∙ ap (λ (ys : List R). length ys) whole, whole)

  -- what is left of more
  more_all : (x : R) (xs ys : List R) → (prefix_len p xs ≡ length xs → take_while p (xs ++ ys) ≡ take_while p xs ++ take_while p ys) → (t : Bool) → p x ≡ t
      → prefix_len p (x ∷ xs) ≡ suc (length xs) → take_while p (x ∷ (xs ++ ys)) ≡ take_while p (x ∷ xs) ++ take_while p ys
  more_all x xs ys further true here is =
      let inside : prefix_len p xs ≡ length xs = omega (arith, passing_len x xs here, is) in
      passing x (xs ++ ys) here ∙ ap (λ (zs : List R). x ∷ zs) (further inside) ∙ sym (ap (λ (zs : List R). zs ++ take_while p ys) (passing x xs here))
  more_all x xs ys further false here is = absurd (omega (arith, stopping_len x xs here, is))

  pub left_all : (xs ys : List R) → prefix_len p xs ≡ length xs → take_while p (xs ++ ys) ≡ take_while p xs ++ take_while p ys
  left_all [] ys is = refl
  left_all (x ∷ xs) ys is = more_all x xs ys (left_all xs ys) (p x) refl is

  more_some : (x : R) (xs ys : List R) → (prefix_len p xs < length xs → take_while p (xs ++ ys) ≡ take_while p xs) → (t : Bool) → p x ≡ t
      → prefix_len p (x ∷ xs) < suc (length xs) → take_while p (x ∷ (xs ++ ys)) ≡ take_while p (x ∷ xs)
  more_some x xs ys further true here short =
      passing x (xs ++ ys) here ∙ ap (λ (zs : List R). x ∷ zs) (further (omega (arith, passing_len x xs here, short))) ∙ sym (passing x xs here)
  more_some x xs ys further false here short = stopping x (xs ++ ys) here ∙ sym (stopping x xs here)

  pub left_some : (xs ys : List R) → prefix_len p xs < length xs → take_while p (xs ++ ys) ≡ take_while p xs
  left_some [] ys short = absurd (omega (arith, short))
  left_some (x ∷ xs) ys short = more_some x xs ys (left_some xs ys) (p x) refl short

  more_rest : (x : R) (xs ys : List R) → (rest : List R) × (take_while p (xs ++ ys) ≡ take_while p xs ++ rest) → (t : Bool) → p x ≡ t
      → (rest : List R) × (take_while p (x ∷ (xs ++ ys)) ≡ take_while p (x ∷ xs) ++ rest)
  more_rest x xs ys further true here =
      (further.0, passing x (xs ++ ys) here ∙ ap (λ (zs : List R). x ∷ zs) further.1 ∙ sym (ap (λ (zs : List R). zs ++ further.0) (passing x xs here)))
  more_rest x xs ys further false here = ([], stopping x (xs ++ ys) here ∙ sym (stopping x xs here) ∙ sym (append-nil (take_while p (x ∷ xs))))

  pub left_more : (xs ys : List R) → (rest : List R) × (take_while p (xs ++ ys) ≡ take_while p xs ++ rest)
  left_more [] ys = (take_while p ys, refl)
  left_more (x ∷ xs) ys = more_rest x xs ys (left_more xs ys) (p x) refl

-- where it stops among some texts it stops among more
pub stops_more : {R O : Type 0} (text : R → List ℕ) (output : Outputs O) (replies all more : List R) (why : Unwritten) (o o' : O) → all ≡ replies ++ more → StopsAt text output replies why o o'
    → StopsAt text output all why o o'
stops_more {R} text output replies all more why o o' is (front, later, next, held, split, written, fails) =
    (front, later ++ more, next, held, is ∙ ap (λ (rs : List R). rs ++ more) split ∙ append_assoc front (next ∷ later) more, written, fails)

pub stops_behind : {R O : Type 0} (text : R → List ℕ) (output : Outputs O) (first replies all : List R) (why : Unwritten) (o mid o' : O) → all ≡ first ++ replies
    → Appends (output.bytes_held o) (output.bytes_held mid) (flat_map text first) → StopsAt text output replies why mid o' → StopsAt text output all why o o'
stops_behind {R} text output first replies all why o mid o' is before (front, later, next, held, split, written, fails) = (
  first ++ front,
  later,
  next,
  held,
  is ∙ ap (λ (rs : List R). first ++ rs) split ∙ sym (append_assoc first front (next ∷ later)),
  subst (Appends (output.bytes_held o) (output.bytes_held held)) (sym (flat_map-append text first front))
      (Appends-trans (output.bytes_held o) (output.bytes_held mid) (output.bytes_held held) (flat_map text first) (flat_map text front) before written),
  fails,
)

-- the last one stops, or is written, behind others that are all left
module _ {R O : Type 0} (text : R → List ℕ) (output : Outputs O) (p : R → Bool) where
  pub one_stops : (last : Option R) (reply : R) (r : Result (Unit {0}) Unwritten) (o o' : O) → last ≡ Some reply → p reply ≡ true → IfErr r (λ why. output.fails o (text reply) why o')
      → IfErr r (λ why. StopsAt text output (take_while p (those last)) why o o')
  one_stops last reply (Ok done) o o' is passes fails = tt
  one_stops last reply (Err why) o o' is passes fails =
      ([], [], reply, o, ap (λ (l : Option R). take_while p (those l)) is ∙ passing p reply [] passes, Appends-nil (output.bytes_held o), fails)

  pub all_written : (xs ys : List R) (r : Result (Unit {0}) Unwritten) (o held o' : O) → prefix_len p xs ≡ length xs → Appends (output.bytes_held o) (output.bytes_held held) (flat_map text (take_while p xs))
      → OnOk r (Appends (output.bytes_held held) (output.bytes_held o') (flat_map text (take_while p ys)))
      → OnOk r (Appends (output.bytes_held o) (output.bytes_held o') (flat_map text (take_while p (xs ++ ys))))
  all_written xs ys (Ok done) o held o' all before after =
      subst (Appends (output.bytes_held o) (output.bytes_held o'))
      (sym (ap (λ (rs : List R). flat_map text rs) (left_all p xs ys all) ∙ flat_map-append text (take_while p xs) (take_while p ys)))
      (Appends-trans (output.bytes_held o) (output.bytes_held held) (output.bytes_held o') (flat_map text (take_while p xs)) (flat_map text (take_while p ys)) before after)
  all_written xs ys (Err why) o held o' all before after = tt

  pub last_stops : (xs ys : List R) (r : Result (Unit {0}) Unwritten) (o held o' : O) → prefix_len p xs ≡ length xs → Appends (output.bytes_held o) (output.bytes_held held) (flat_map text (take_while p xs))
      → IfErr r (λ why. StopsAt text output (take_while p ys) why held o') → IfErr r (λ why. StopsAt text output (take_while p (xs ++ ys)) why o o')
  last_stops xs ys (Ok done) o held o' all before stops = tt
  last_stops xs ys (Err why) o held o' all before stops =
      stops_behind text output (take_while p xs) (take_while p ys) (take_while p (xs ++ ys)) why o held o' (left_all p xs ys all) before stops

  pub some_written : (xs ys : List R) (o o' : O) → prefix_len p xs < length xs → Appends (output.bytes_held o) (output.bytes_held o') (flat_map text (take_while p xs))
      → Appends (output.bytes_held o) (output.bytes_held o') (flat_map text (take_while p (xs ++ ys)))
  some_written xs ys o o' short written =
      subst (λ (rs : List R). Appends (output.bytes_held o) (output.bytes_held o') (flat_map text rs)) (sym (left_some p xs ys short)) written

-- lines were served, of which the last ones wait
pub record Serving {A R I O : Type 0} (keeper : Keepers A R) (text : R → List ℕ) (input : Inputs I) (output : Outputs O) (seen waiting : List (List ℕ × R)) (a : A) (i : I) (o : O) (a' : A) (i' : I) (o' : O) : Type 0 where
  pub mid : A
  pub from : I
  pub turned : BatchedTurns keeper input seen a i mid from
  pub kept : keeper.has_kept mid
  pub waits : UnkeptTurns keeper input waiting mid from a' i'
  pub read : Consumes (input.bytes_left i) (input.bytes_left i') (lines_in (seen ++ waiting))
  pub written : Appends (output.bytes_held o) (output.bytes_held o') (text_in text seen)

module _ {A R I O : Type 0} (keeper : Keepers A R) (text : R → List ℕ) (input : Inputs I) (output : Outputs O) (a : A) (i : I) (o : O) where
  pub begun : keeper.has_kept a → Serving keeper text input output [] [] a i o a i o
  begun kept = record {
    mid = a;
    from = i;
    turned = (zero, refl, refl);
    kept = kept;
    waits = (refl, refl);
    read = Consumes-nil (input.bytes_left i);
    written = Appends-nil (output.bytes_held o);
  }

  -- one more line waits
  pub one_waits : (seen waiting : List (List ℕ × R)) (line : List ℕ) (replied : R) (am : A) (im : I) (om : O) (a' : A) (i' : I) → Serving keeper text input output seen waiting a i o am im om
      → LineTurn keeper input line replied am im a' i' → Consumes (input.bytes_left im) (input.bytes_left i') (line ++ 10 ∷ [])
      → Serving keeper text input output seen (waiting ++ (line, replied) ∷ []) a i o a' i' om
  one_waits seen waiting line replied am im om a' i' s turn read =
      let turns : List (List ℕ × R) = (line, replied) ∷ [] in
      let all : lines_in (seen ++ (waiting ++ turns)) ≡ lines_in (seen ++ waiting) ++ (line ++ 10 ∷ []) =
      ap (λ (ts : List (List ℕ × R)). lines_in ts) (sym (append_assoc seen waiting turns)) ∙ more_of (λ (t : List ℕ × R). t.0 ++ 10 ∷ []) (seen ++ waiting) (line, replied) in
      record {
        mid = s.mid;
        from = s.from;
        turned = s.turned;
        kept = s.kept;
        waits = unkept_more keeper input waiting line replied s.mid s.from am im a' i' s.waits turn;
        read = subst (Consumes (input.bytes_left i) (input.bytes_left i')) (sym all)
            (Consumes-trans (input.bytes_left i) (input.bytes_left im) (input.bytes_left i') (lines_in (seen ++ waiting)) (line ++ 10 ∷ []) s.read read);
        written = s.written;
      }

  -- all turns, with the commits behind them
  all_turned : (seen waiting : List (List ℕ × R)) (n : ℕ) (am : A) (im : I) (om : O) (a' : A) → Serving keeper text input output seen waiting a i o am im om → Commits keeper n am a'
      → BatchedTurns keeper input (seen ++ waiting) a i a' im
  all_turned seen waiting n am im om a' s commits =
      turns_commit keeper input (seen ++ waiting) n a i am im a' (turns_then keeper input seen waiting a i s.mid s.from am im s.turned s.waits) commits

  -- all was kept and replied to
  pub closed : (seen waiting : List (List ℕ × R)) (am : A) (im : I) (om : O) (a' : A) (o' : O) → Serving keeper text input output seen waiting a i o am im om
      → Closes keeper text output (replies_in waiting) am om a' o' → Serving keeper text input output (seen ++ waiting) [] a i o a' im o'
  closed seen waiting am im om a' o' s closes = record {
    mid = a';
    from = im;
    turned = all_turned seen waiting closes.count am im om a' s closes.commits;
    kept = closes.kept;
    waits = (refl, refl);
    read = subst (λ (ts : List (List ℕ × R)). Consumes (input.bytes_left i) (input.bytes_left im) (lines_in ts)) (sym (append-nil (seen ++ waiting))) s.read;
    written = subst (Appends (output.bytes_held o) (output.bytes_held o')) (sym (more_text text seen waiting))
        (Appends-trans (output.bytes_held o) (output.bytes_held om) (output.bytes_held o') (text_in text seen) (flat_map text (replies_in waiting)) s.written closes.written);
  }

  pub served : (seen waiting : List (List ℕ × R)) (a' : A) (i' : I) (o' : O) → Serving keeper text input output seen waiting a i o a' i' o'
      → ServesBatched keeper text input output seen [] waiting a i o a' i' o'
  served seen waiting a' i' o' s = record {
    mid = s.mid;
    from = s.from;
    turned = subst (λ (ts : List (List ℕ × R)). BatchedTurns keeper input ts a i s.mid s.from) (sym (append-nil seen)) s.turned;
    kept = s.kept;
    waits = s.waits;
    read = subst (λ (ts : List (List ℕ × R)). Consumes (input.bytes_left i) (input.bytes_left i') (lines_in (ts ++ waiting))) (sym (append-nil seen)) s.read;
    written = s.written;
  }

  -- what isn't sent out yet is written all the same
  sent_on : (seen waiting : List (List ℕ × R)) (a' : A) (i' : I) (om o' : O) → Serving keeper text input output seen waiting a i o a' i' om → Keeps (output.bytes_held om) (output.bytes_held o')
      → Serving keeper text input output seen waiting a i o a' i' o'
  sent_on seen waiting a' i' om o' s keeps = record {
    mid = s.mid;
    from = s.from;
    turned = s.turned;
    kept = s.kept;
    waits = s.waits;
    read = s.read;
    written = Appends-kept (output.bytes_held o) (output.bytes_held om) (output.bytes_held o') (text_in text seen) s.written keeps;
  }

  -- behind a commit the first ones were replied to, and the next one wasn't
  pub fails_midway : (seen waiting : List (List ℕ × R)) (n : ℕ) (why : Unwritten) (am : A) (im : I) (om : O) (a' : A) (i' : I) (o' : O) → Serving keeper text input output seen waiting a i o am im om
      → DoesNoMore keeper input im i' → Commits keeper n am a' → keeper.has_kept a' → FailsWithin text output (replies_in waiting) why om o'
      → EndsBatchedBy keeper text input output (ends.Unwritten why) a i o a' i' o'
  fails_midway seen waiting n why am im om a' i' o' s no_more commits kept (front, back, held, split, written, fails) =
      let parts = split_turns waiting front back split in
      let first : List (List ℕ × R) = parts.0 in
      let last : List (List ℕ × R) = parts.1 in
      let all : seen ++ waiting ≡ (seen ++ first) ++ last = ap (λ (ts : List (List ℕ × R)). seen ++ ts) parts.2 ∙ sym (append_assoc seen first last) in
      let texts : flat_map text front ≡ flat_map text (replies_in first) = ap (λ (rs : List R). flat_map text rs) (sym parts.3) in
      let serves : ServesBatched keeper text input output (seen ++ first) last [] a i o a' im held = record {
        mid = a';
        from = im;
        turned = subst (λ (ts : List (List ℕ × R)). BatchedTurns keeper input ts a i a' im) all (all_turned seen waiting n am im om a' s commits);
        kept = kept;
        waits = (refl, refl);
        read = subst (λ (ts : List (List ℕ × R)). Consumes (input.bytes_left i) (input.bytes_left im) (lines_in ts)) (all ∙ sym (append-nil ((seen ++ first) ++ last))) s.read;
        written = subst (Appends (output.bytes_held o) (output.bytes_held held)) (ap (λ (bs : List ℕ). text_in text seen ++ bs) texts ∙ sym (more_text text seen first))
            (Appends-trans (output.bytes_held o) (output.bytes_held om) (output.bytes_held held) (text_in text seen) (flat_map text front) s.written written);
      } in
      (seen ++ first, last, [], a', im, held, serves, no_more, at last parts.4 fails)
    where
      at : (last : List (List ℕ × R)) → replies_in last ≡ back → (output.fails_to_send held why o' ⊎ ((next : R) × (later : List R) × (back ≡ next ∷ later) × output.fails held (text next) why o'))
          → (((a' ≡ a') × output.fails_to_send held why o')
          ⊎ (((turn : List ℕ × R) × (later : List (List ℕ × R)) × (last ≡ turn ∷ later) × (a' ≡ a') × output.fails held (text turn.1) why o')
          ⊎ ((told : R) × (last ≡ []) × keeper.fails a' told a' × IsLeft keeper told a' × FailsToTellLeft keeper text output told [] why held o')))
      at last is (inl sent) = inl (refl, sent)
      at last is (inr (next, later, there, fails)) =
          let turn = first_turn last next later (is ∙ there) in
          inr (inl (turn.0, turn.1, turn.2, refl, subst (λ (r : R). output.fails held (text r) why o') (sym turn.3) fails))

  -- it ends where a batch can't be closed
  pub ends_early : (seen waiting : List (List ℕ × R)) (end : BatchedEnd) (am : A) (im : I) (om : O) (a' : A) (i' : I) (o' : O) → Serving keeper text input output seen waiting a i o am im om
      → DoesNoMore keeper input im i' → FailsToClose keeper text output (replies_in waiting) end am om a' o' → EndsBatchedBy keeper text input output end a i o a' i' o'
  ends_early seen waiting ends.Uncommitted am im om a' i' o' s no_more (told, sent, keeps, fails, down, left, written) =
      (seen, waiting, am, im, sent, told, served seen waiting am im sent (sent_on seen waiting am im om sent s keeps), no_more, fails, down, left, written)
  ends_early seen waiting (ends.Unwritten why) am im om a' i' o' s no_more (inl (same, fails)) =
      (seen, [], waiting, am, im, om, served seen waiting am im om s, no_more, inl (same, fails))
  ends_early seen waiting (ends.Unwritten why) am im om a' i' o' s no_more (inr (inl (told, sent, keeps, fails, left, untold))) =
      (seen, [], waiting, am, im, sent, served seen waiting am im sent (sent_on seen waiting am im om sent s keeps), no_more, inr (inr (told, refl, fails, left, untold)))
  ends_early seen waiting (ends.Unwritten why) am im om a' i' o' s no_more (inr (inr (n, commits, kept, fails))) =
      fails_midway seen waiting n why am im om a' i' o' s no_more commits kept fails
  ends_early seen waiting ends.Input am im om a' i' o' s no_more none = absurd none
  ends_early seen waiting ends.Crashed am im om a' i' o' s no_more none = absurd none
  ends_early seen waiting ends.Unreadable am im om a' i' o' s no_more none = absurd none
  ends_early seen waiting ends.Spent am im om a' i' o' s no_more none = absurd none

-- The first letter that waits, behind those that were passed over.
use Rattle.std.proofs.Common.{◌≡◌, ℕ, zero, suc, ◌+◌, ◌-◌, ◌<◌, ◌≤◌, ◌⊎◌, inl, inr, Bool, true, false, cond, not}
use Rattle.std.proofs.Common.{◌&&◌, ◌||◌, ◌==◌}
use Rattle.std.proofs.Common.{List, [], ◌∷◌, ◌++◌, Option, Some, None, Result, Ok, Err, OnOk, OnErr, filter, find}
use Rattle.std.proofs.Common.{if◌then◌else◌, nat_lt}
use Rattle.std.proofs.Common.{length, drop, map, set, slice_get, unwrap_or, get_or}
use Rattle.std.proofs.Common.{refl, sym, ap, subst, ◌∙◌, arith}
use Rattle.std.specs.List.{All, list_any, range_with_len}
use Rattle.std.proofs.lemmas.Bool.{eqb-true}
use Rattle.std.proofs.lemmas.List.{length-append, length-map, length-set, map-append}
use Rattle.std.proofs.lemmas.List.Elements.{All-head, All-push, All-tail}
use Rattle.std.proofs.lemmas.List.Folds.{find-append, list_any-append}
use Rattle.ballots.specs.declared.letters.Letter.{Letter}
use Rattle.script_steps.specs.declared.name.About.{About}
use Rattle.script_steps.specs.declared.name.Name.{Name}
use Rattle.script_steps.specs.declared.name.Parts.{Parts}
use Rattle.script_steps.specs.declared.kept.Passed.{Passed}
use Rattle.script_steps.specs.declared.kept.Sent.{Sent}
use Rattle.script_steps.specs.Names.{about_of, fits_at, fits_part, ballot_of, place_of, has_come, has_parts, parts_of}
use Rattle.script_steps.specs.Names.{waiting}
use Rattle.script_steps.specs.Came.{comes, sends}
use Rattle.script_steps.specs.Kept.{AreKept, IsPassed, waits, waits_and_fits, waits_at}

-- ---- numbers in a row

pub range_in_two : (a n m : ℕ) → range_with_len a (n + m) ≡ range_with_len a n ++ range_with_len (a + n) m
range_in_two a zero m =
    let count : 0 + m ≡ m = omega arith in
    let from : a ≡ a + 0 = omega arith in
    ap (range_with_len a) count ∙ ap (λ k. range_with_len k m) from
range_in_two a (suc n) m =
    let count : suc n + m ≡ suc (n + m) = omega arith in
    let from : a + 1 + n ≡ a + suc n = omega arith in
    ap (range_with_len a) count ∙ ap (λ r. a ∷ r) (range_in_two (a + 1) n m ∙ ap (λ k. range_with_len (a + 1) n ++ range_with_len k m) from)

at_or_behind : (a i : ℕ) → a ≤ i → (i ≡ a) ⊎ (a + 1 ≤ i)
at_or_behind zero zero from = inl refl
at_or_behind zero (suc i) from = inr (omega arith)
at_or_behind (suc a) zero from = let no : ⊥ = omega (arith, from) in absurd no
at_or_behind (suc a) (suc i) from = one_more (at_or_behind a i (omega (arith, from)))
  where
    one_more : (i ≡ a) ⊎ (a + 1 ≤ i) → (suc i ≡ suc a) ⊎ (suc a + 1 ≤ suc i)
    one_more (inl is) = inl (ap suc is)
    one_more (inr behind) = inr (omega (arith, behind))

-- what is found first among them isn't before them, nor behind them, and what is before it isn't it
pub found_from : (q : ℕ → Bool) (a n : ℕ) → a ≤ unwrap_or (find q (range_with_len a n)) (a + n)
found_from q a zero = omega arith
found_from q a (suc n) =
    let rest : a + 1 ≤ unwrap_or (find q (range_with_len (a + 1) n)) (a + 1 + n) = found_from q (a + 1) n in
    let end : a + 1 + n ≡ a + suc n = omega arith in
    let same : a + 1 ≤ unwrap_or (find q (range_with_len (a + 1) n)) (a + suc n) = subst (λ e. a + 1 ≤ unwrap_or (find q (range_with_len (a + 1) n)) e) end rest in
    first (omega (arith, same)) (q a)
  where
    first : a ≤ unwrap_or (find q (range_with_len (a + 1) n)) (a + suc n) → (b : Bool) → a ≤ unwrap_or (cond b (Some a) (find q (range_with_len (a + 1) n))) (a + suc n)
    first more true = omega arith
    first more false = more

pub found_within : (q : ℕ → Bool) (a n : ℕ) → unwrap_or (find q (range_with_len a n)) (a + n) ≤ a + n
found_within q a zero = omega arith
found_within q a (suc n) =
    let end : a + 1 + n ≡ a + suc n = omega arith in
    first (subst (λ e. unwrap_or (find q (range_with_len (a + 1) n)) e ≤ e) end (found_within q (a + 1) n)) (q a)
  where
    first : unwrap_or (find q (range_with_len (a + 1) n)) (a + suc n) ≤ a + suc n → (b : Bool) → unwrap_or (cond b (Some a) (find q (range_with_len (a + 1) n))) (a + suc n) ≤ a + suc n
    first more true = omega arith
    first more false = more

pub none_before : (q : ℕ → Bool) (a n i : ℕ) → a ≤ i → i < unwrap_or (find q (range_with_len a n)) (a + n) → q i ≡ false
none_before q a zero i from below = let no : ⊥ = omega (arith, from, below) in absurd no
none_before q a (suc n) i from below =
    let end : a + suc n ≡ a + 1 + n = omega arith in
    first (λ behind below. none_before q (a + 1) n i behind (subst (λ e. i < unwrap_or (find q (range_with_len (a + 1) n)) e) end below)) (q a) refl below
  where
    here_or_later : (a + 1 ≤ i → i < unwrap_or (find q (range_with_len (a + 1) n)) (a + suc n) → q i ≡ false) → q a ≡ false → (i ≡ a) ⊎ (a + 1 ≤ i) → i < unwrap_or (find q (range_with_len (a + 1) n)) (a + suc n) → q i ≡ false
    here_or_later later is (inl here) below = ap q here ∙ is
    here_or_later later is (inr behind) below = later behind below

    first : (a + 1 ≤ i → i < unwrap_or (find q (range_with_len (a + 1) n)) (a + suc n) → q i ≡ false) → (b : Bool) → q a ≡ b → i < unwrap_or (cond b (Some a) (find q (range_with_len (a + 1) n))) (a + suc n) → q i ≡ false
    first later true is below = let no : ⊥ = omega (arith, from, below) in absurd no
    first later false is below = here_or_later later is (at_or_behind a i from) below

-- where none of them is it, none is found
find_none : (q : ℕ → Bool) (a n : ℕ) → ((i : ℕ) → i < a + n → q i ≡ false) → find q (range_with_len a n) ≡ None
find_none q a zero all = refl
find_none q a (suc n) all =
    ap (λ b. cond b (Some a) (find q (range_with_len (a + 1) n))) (all a (omega arith)) ∙ find_none q (a + 1) n (λ i below. all i (omega (arith, below)))

find_same : (p q : ℕ → Bool) (a n : ℕ) → ((i : ℕ) → i < a + n → p i ≡ q i) → find p (range_with_len a n) ≡ find q (range_with_len a n)
find_same p q a zero same = refl
find_same p q a (suc n) same =
    ap (λ b. cond b (Some a) (find p (range_with_len (a + 1) n))) (same a (omega arith))
    ∙ ap (λ r. cond (q a) (Some a) r) (find_same p q (a + 1) n (λ i below. same i (omega (arith, below))))

find_filter : (p q : ℕ → Bool) (xs : List ℕ) → find p (filter q xs) ≡ find (λ x. q x && p x) xs
find_filter p q [] = refl
find_filter p q (x ∷ xs) = first (find_filter p q xs) (q x)
  where
    first : find p (filter q xs) ≡ find (λ y. q y && p y) xs → (b : Bool) → find p (cond b (x ∷ filter q xs) (filter q xs)) ≡ cond (b && p x) (Some x) (find (λ y. q y && p y) xs)
    first rest true = ap (λ r. cond (p x) (Some x) r) rest
    first rest false = rest

-- ---- letters

-- the letters that were sent, and what is kept of them
abbrev pub IsMarked : List Sent → List ℕ → Type 0
IsMarked sent came = (i : ℕ) (s : Sent) → slice_get sent i ≡ Some s → s.came ≡ has_come came i

pub there : {X : Type 0} (xs : List X) (i : ℕ) → i < length xs → (x : X) × (slice_get xs i ≡ Some x)
there [] i below = let no : ⊥ = omega (arith, below) in absurd no
there (x ∷ xs) zero below = (x, refl)
there (x ∷ xs) (suc i) below = there xs i (omega (arith, below))

-- what is kept of a letter is what it is about
about : (sent : List Sent) (letters : List Letter) (i : ℕ) (s : Sent) → map (λ (x : Sent). x.about) sent ≡ map about_of letters → slice_get sent i ≡ Some s
    → (l : Letter) × (slice_get letters i ≡ Some l) × (s.about ≡ about_of l)
about [] [] i s same here = absurd (cc)
about [] (l ∷ letters) i s same here = absurd (cc)
about (x ∷ sent) [] i s same here = absurd (cc)
about (x ∷ sent) (l ∷ letters) zero s same here =
    let is : x ≡ s = cc in
    let first : x.about ≡ about_of l = cc in
    (l, refl, ap (λ (y : Sent). y.about) (sym is) ∙ first)
about (x ∷ sent) (l ∷ letters) (suc i) s same here = let rest : map (λ (y : Sent). y.about) sent ≡ map about_of letters = cc in about sent letters i s rest here

fails_more : (a b c : Bool) → (a && b) ≡ false → (a && (b && c)) ≡ false
fails_more true true c h = absurd (cc)
fails_more true false c h = refl
fails_more false b c h = refl

-- a letter that was passed over isn't the one that is named
passed_over : (name : Name) (letters : List Letter) (sent : List Sent) (below i : ℕ) → map (λ (x : Sent). x.about) sent ≡ map about_of letters
    → IsPassed sent (record { parts = parts_of name; below = below }) → i < below → waits_and_fits name letters sent i ≡ false
passed_over name letters sent below i same passed before =
    let within : i < length sent = omega (arith, before, passed.within) in
    let (s, here) = there sent i within in
    let (l, letter, is) = about sent letters i s same here in
    let rest : Bool = fits_part name.ballot (ballot_of l.note) && fits_part name.place (place_of l.note) in
    let none : waits (parts_of name) (Some s) ≡ false = subst (λ o. waits (parts_of name) o ≡ false) here (passed.none i before) in
    let short : (not s.came && has_parts (parts_of name) (about_of l)) ≡ false = subst (λ a. (not s.came && has_parts (parts_of name) a) ≡ false) is none in
    rw (here, letter) (fails_more (not s.came) (has_parts (parts_of name) (about_of l)) rest short)

pub first_named : (name : Name) (letters : List Letter) (sent : List Sent) (came : List ℕ) (below : ℕ) → IsMarked sent came → map (λ (x : Sent). x.about) sent ≡ map about_of letters
    → IsPassed sent (record { parts = parts_of name; below = below })
    → find (waits_and_fits name letters sent) (range_with_len below (length sent - below)) ≡ find (fits_at name letters) (waiting (length letters) came)
first_named name letters sent came below marked same passed =
    let n : ℕ = length sent in
    let h : ℕ → Bool = waits_and_fits name letters sent in
    let count : length letters ≡ n = sym (length-map letters about_of) ∙ ap length (sym same) ∙ length-map sent (λ (x : Sent). x.about) in
    let each : (i : ℕ) → i < 0 + n → (not (has_come came i) && fits_at name letters i) ≡ h i = λ i within. one i (omega (arith, within)) in
    let front : find h (range_with_len 0 below) ≡ None = find_none h 0 below (λ i before. passed_over name letters sent below i same passed (omega (arith, before))) in
    let all : below + (n - below) ≡ n = omega (arith, passed.within) in
    let from : 0 + below ≡ below = omega arith in
    let parts : range_with_len 0 n ≡ range_with_len 0 below ++ range_with_len below (n - below) =
    ap (range_with_len 0) (sym all) ∙ range_in_two 0 below (n - below) ∙ ap (λ k. range_with_len 0 below ++ range_with_len k (n - below)) from in
    sym (
    find_filter (fits_at name letters) (λ i. not (has_come came i)) (range_with_len 0 (length letters))
    ∙ ap (λ k. find (λ i. not (has_come came i) && fits_at name letters i) (range_with_len 0 k)) count
    ∙ find_same (λ i. not (has_come came i) && fits_at name letters i) h 0 n each
    ∙ ap (find h) parts ∙ find-append h (range_with_len 0 below) (range_with_len below (n - below)) ∙ rw front refl)
  where
    one : (i : ℕ) → i < length sent → (not (has_come came i) && fits_at name letters i) ≡ waits_and_fits name letters sent i
    one i within =
        let (s, here) = there sent i within in
        let mark : has_come came i ≡ s.came = sym (marked i s here) in
        rw (here, mark) refl

-- a letter that comes
set_here : {X : Type 0} (xs : List X) (i : ℕ) (a : X) → i < length xs → slice_get (set xs i a) i ≡ Some a
set_here [] i a below = let no : ⊥ = omega (arith, below) in absurd no
set_here (x ∷ xs) zero a below = refl
set_here (x ∷ xs) (suc i) a below = set_here xs i a (omega (arith, below))

set_there : {X : Type 0} (xs : List X) (i j : ℕ) (a : X) → (j ≡ i → ⊥) → slice_get (set xs i a) j ≡ slice_get xs j
set_there [] i j a other = refl
set_there (x ∷ xs) zero zero a other = absurd (other refl)
set_there (x ∷ xs) zero (suc j) a other = refl
set_there (x ∷ xs) (suc i) zero a other = refl
set_there (x ∷ xs) (suc i) (suc j) a other = set_there xs i j a (λ is. other (ap suc is))

pub marked_more : (sent : List Sent) (came : List ℕ) (i : ℕ) (now : Sent) → i < length sent → now.came ≡ true → IsMarked sent came → IsMarked (set sent i now) (came ++ i ∷ [])
marked_more sent came i now within comes marked j s here = which (i == j) refl
  where
    among : has_come (came ++ i ∷ []) j ≡ (has_come came j || ((i == j) || false))
    among = list_any-append (λ k. k == j) came (i ∷ [])

    either : (b : Bool) → (b || (true || false)) ≡ true
    either true = refl
    either false = refl

    neither : (b : Bool) → (b || (false || false)) ≡ b
    neither true = refl
    neither false = refl

    which : (b : Bool) → (i == j) ≡ b → s.came ≡ has_come (came ++ i ∷ []) j
    which true is =
        let same : i ≡ j = eqb-true i j is in
        let at_i : slice_get (set sent i now) i ≡ Some s = subst (λ k. slice_get (set sent i now) k ≡ Some s) (sym same) here in
        let one : now ≡ s = let both : Some now ≡ Some s = sym (set_here sent i now within) ∙ at_i in cc in
        ap (λ (x : Sent). x.came) (sym one) ∙ comes ∙ sym (among ∙ ap (λ b. has_come came j || (b || false)) is ∙ either (has_come came j))
    which false is =
        let other : j ≡ i → ⊥ = λ e. grind (arith, is, e) in
        marked j s (sym (set_there sent i j now other) ∙ here) ∙ sym (among ∙ ap (λ b. has_come came j || (b || false)) is ∙ neither (has_come came j))

waits_no_more : (parts : Parts) (sent : List Sent) (i j : ℕ) (now : Sent) → now.came ≡ true → waits_at parts sent j ≡ false → waits_at parts (set sent i now) j ≡ false
waits_no_more parts [] i j now comes none = none
waits_no_more parts (s ∷ sent) zero zero now comes none = rw comes refl
waits_no_more parts (s ∷ sent) zero (suc j) now comes none = none
waits_no_more parts (s ∷ sent) (suc i) zero now comes none = none
waits_no_more parts (s ∷ sent) (suc i) (suc j) now comes none = waits_no_more parts sent i j now comes none

-- ---- what is kept

split : (a i : ℕ) → (i < a) ⊎ (a ≤ i)
split zero i = inr (omega arith)
split (suc a) zero = inl (omega arith)
split (suc a) (suc i) = one_more (split a i)
  where
    one_more : (i < a) ⊎ (a ≤ i) → (suc i < suc a) ⊎ (suc a ≤ suc i)
    one_more (inl before) = inl (omega (arith, before))
    one_more (inr behind) = inr (omega (arith, behind))

pub none_passed : (sent : List Sent) (parts : Parts) → IsPassed sent (record { parts = parts; below = 0 })
none_passed sent parts = record { within = omega arith; none = λ i before. let no : ⊥ = omega (arith, before) in absurd no }

pub passed_further : (sent : List Sent) (parts : Parts) (from : ℕ) (found : Option ℕ) → IsPassed sent (record { parts = parts; below = from })
    → found ≡ find (waits_at parts sent) (range_with_len from (length sent - from)) → IsPassed sent (record { parts = parts; below = unwrap_or found (length sent) })
passed_further sent parts from found before is =
    let n : ℕ = length sent in
    let q : ℕ → Bool = waits_at parts sent in
    let all : from + (n - from) ≡ n = omega (arith, before.within) in
    let end : unwrap_or found n ≡ unwrap_or (find q (range_with_len from (n - from))) (from + (n - from)) = ap (λ o. unwrap_or o n) is ∙ ap (unwrap_or (find q (range_with_len from (n - from)))) (sym all) in
    let within : unwrap_or (find q (range_with_len from (n - from))) (from + (n - from)) ≤ from + (n - from) = found_within q from (n - from) in
    record {
      within = omega (arith, all, end, within);
      none = λ i below. old_or_new i (subst (λ e. i < e) end below) (split from i);
    }
  where
    old_or_new : (i : ℕ) → i < unwrap_or (find (waits_at parts sent) (range_with_len from (length sent - from))) (from + (length sent - from)) → (i < from) ⊎ (from ≤ i) → waits_at parts sent i ≡ false
    old_or_new i below (inl old) = before.none i old
    old_or_new i below (inr new) = none_before (waits_at parts sent) from (length sent - from) i new below

-- letters that were just sent
front_get : {X : Type 0} (xs ys : List X) (i : ℕ) → i < length xs → slice_get (xs ++ ys) i ≡ slice_get xs i
front_get [] ys i below = let no : ⊥ = omega (arith, below) in absurd no
front_get (x ∷ xs) ys zero below = refl
front_get (x ∷ xs) ys (suc i) below = front_get xs ys i (omega (arith, below))

-- a letter that was just sent
abbrev pub just_sent : Letter → Sent
just_sent l = record { about = about_of l; came = false }

new_waits : (letters : List Letter) (i : ℕ) (s : Sent) → slice_get (map just_sent letters) i ≡ Some s → s.came ≡ false
new_waits [] i s here = absurd (cc)
new_waits (l ∷ letters) zero s here = let one : just_sent l ≡ s = cc in ap (λ (x : Sent). x.came) (sym one)
new_waits (l ∷ letters) (suc i) s here = new_waits letters i s here

back_waits : (sent : List Sent) (letters : List Letter) (i : ℕ) (s : Sent) → length sent ≤ i → slice_get (sent ++ map just_sent letters) i ≡ Some s → s.came ≡ false
back_waits [] letters i s behind here = new_waits letters i s here
back_waits (x ∷ sent) letters zero s behind here = let no : ⊥ = omega (arith, behind) in absurd no
back_waits (x ∷ sent) letters (suc i) s behind here = back_waits sent letters i s (omega (arith, behind)) here

-- numbers that are all below a number are none of those from it on
not_below : (came : List ℕ) (n i : ℕ) → All (λ k. k < n) came → n ≤ i → has_come came i ≡ false
not_below [] n i below from = refl
not_below (j ∷ came) n i below from =
    let first : j < n = All-head (λ k. k < n) j came below in
    let other : (j == i) ≡ false = grind (arith, first, from) in
    ap (λ b. b || list_any (λ k. k == i) came) other ∙ not_below came n i (All-tail (λ k. k < n) j came below) from

pub kept_sent : (sent : List Sent) (came : List ℕ) (over : List Passed) (letters : List Letter) → AreKept sent came over → AreKept (sent ++ map just_sent letters) came over
kept_sent sent came over letters kept = record {
  sent_before = λ k d within. let before = kept.sent_before k d within in let long : length (sent ++ map just_sent letters) ≡ length sent + length (map just_sent letters) = length-append sent (map just_sent letters) in omega (arith, before, long);
  marked = λ i s here. old_or_new i s here (split (length sent) i);
  passed = λ k d within. still (get_or over k d) (kept.passed k d within);
}
  where
    still : (p : Passed) → IsPassed sent p → IsPassed (sent ++ map just_sent letters) p
    still p passed = record {
      within = let long : length (sent ++ map just_sent letters) ≡ length sent + length (map just_sent letters) = length-append sent (map just_sent letters) in omega (arith, passed.within, long);
      none = λ i before.
          let within : i < length sent = omega (arith, before, passed.within) in
          ap (waits p.parts) (front_get sent (map just_sent letters) i within) ∙ passed.none i before;
    }

    old_or_new : (i : ℕ) (s : Sent) → slice_get (sent ++ map just_sent letters) i ≡ Some s → (i < length sent) ⊎ (length sent ≤ i) → s.came ≡ has_come came i
    old_or_new i s here (inl old) = kept.marked i s (sym (front_get sent (map just_sent letters) i old) ∙ here)
    old_or_new i s here (inr new) = back_waits sent letters i s new here ∙ sym (not_below came (length sent) i kept.sent_before new)

-- and one that came
pub kept_came : (sent : List Sent) (came now_came : List ℕ) (over : List Passed) (i : ℕ) (now : Sent) → i < length sent → now.came ≡ true → now_came ≡ came ++ i ∷ [] → AreKept sent came over
    → AreKept (set sent i now) now_came over
kept_came sent came now_came over i now within comes is kept =
    let long : length (set sent i now) ≡ length sent = length-set sent i now in
    subst (λ (c : List ℕ). AreKept (set sent i now) c over) (sym is) (record {
      sent_before = subst (λ (n : ℕ). All (λ k. k < n) (came ++ i ∷ [])) (sym long) (All-push (λ k. k < length sent) came i kept.sent_before within);
      marked = marked_more sent came i now within comes kept.marked;
      passed = λ k d before. still (get_or over k d) (kept.passed k d before);
    })
  where
    still : (p : Passed) → IsPassed sent p → IsPassed (set sent i now) p
    still p passed = record {
      within = let long : length (set sent i now) ≡ length sent = length-set sent i now in omega (arith, passed.within, long);
      none = λ j before. waits_no_more p.parts sent i j now comes (passed.none j before);
    }

-- what is seen of that
abbrev about_in : List Sent → List About
about_in sent = map (λ (s : Sent). s.about) sent

same_about : (sent : List Sent) (i : ℕ) (now d : Sent) → i < length sent → now.about ≡ (get_or sent i d).about → about_in (set sent i now) ≡ about_in sent
same_about [] i now d within is = refl
same_about (s ∷ sent) zero now d within is = ap (λ (a : About). a ∷ about_in sent) is
same_about (s ∷ sent) (suc i) now d within is = ap (λ (r : List About). s.about ∷ r) (same_about sent i now d (omega (arith, within)) is)

pub came_view : (sent : List Sent) (came now_came : List ℕ) (i : ℕ) (now d : Sent) → i < length sent → now.about ≡ (get_or sent i d).about → now_came ≡ came ++ i ∷ []
    → record { sent = about_in (set sent i now); came = now_came } ≡ comes i (record { sent = about_in sent; came = came })
came_view sent came now_came i now d within about is =
    let long : length (about_in sent) ≡ length sent = length-map sent (λ (s : Sent). s.about) in
    let yes : nat_lt i (length (about_in sent)) ≡ true = grind (arith, long, within) in
    let more : now_came ≡ (if nat_lt i (length (about_in sent)) then came ++ i ∷ [] else came) = is ∙ ap (λ b. if b then came ++ i ∷ [] else came) (sym yes) in
    let all : about_in (set sent i now) ≡ about_in sent = same_about sent i now d within about in
    λ j. record { sent = all j; came = more j }

new_about : (letters : List Letter) → about_in (map just_sent letters) ≡ map about_of letters
new_about [] = refl
new_about (l ∷ letters) = ap (λ (r : List About). about_of l ∷ r) (new_about letters)

pub sent_view : (sent now : List Sent) (came : List ℕ) (letters : List Letter) → now ≡ sent ++ map just_sent (drop (length sent) letters)
    → record { sent = about_in now; came = came } ≡ sends letters (record { sent = about_in sent; came = came })
sent_view sent now came letters is =
    let long : length sent ≡ length (about_in sent) = sym (length-map sent (λ (s : Sent). s.about)) in
    let whole : about_in now ≡ about_in sent ++ map about_of (drop (length (about_in sent)) letters) =
    ap about_in is ∙ map-append (λ (s : Sent). s.about) sent (map just_sent (drop (length sent) letters))
    ∙ ap (λ r. about_in sent ++ r) (new_about (drop (length sent) letters))
    ∙ ap (λ n. about_in sent ++ map about_of (drop n letters)) long in
    λ j. record { sent = whole j; came = came }

-- done or not
pub kept_either : {E : Type 0} (r : Result (Unit {0}) E) (sent now : List Sent) (came : List ℕ) (over : List Passed) (letters : List Letter)
    → OnOk r (now ≡ sent ++ map just_sent letters) → OnErr r (now ≡ sent) → AreKept sent came over → AreKept now came over
kept_either (Ok u) sent now came over letters done same kept = subst (λ (s : List Sent). AreKept s came over) (sym done) (kept_sent sent came over letters kept)
kept_either (Err e) sent now came over letters done same kept = subst (λ (s : List Sent). AreKept s came over) (sym same) kept

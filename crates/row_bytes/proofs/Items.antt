-- Items that are read one after the other, as a loop does; and what is read is what was written, and is read again.
use Rattle.std.proofs.Common.{◌≡◌, ℕ, zero, suc, ◌-◌, ◌+◌, ◌≤◌, ◌<◌, List, [], ◌∷◌, ◌++◌, length, slice_get, Some, Ok}
use Rattle.std.proofs.Common.{Err, refl, sym, ap, subst, ◌∙◌, append_assoc, arith}
use Rattle.std.specs.List.{flat_map, AllByRecursion}
use Rattle.std.proofs.lemmas.List.{append-nil}
use Rattle.std.proofs.lemmas.List.Concat.{flat_map-cons}
use Rattle.row_bytes.specs.declared.fault.RowsFault.{RowsFault}
use Rattle.row_bytes.specs.declared.fault.RowsFault.TheVariants.{Short, Trailing, NoChannel, NoFlow, NoRequest, NotFirm}
use Rattle.row_bytes.specs.declared.fault.RowsFault.TheVariants.{OutOfMemory}
use Rattle.row_bytes.specs.Reading.{◌>>=◌, AreBytes, Read, FailsReading, items_in}
use Rattle.row_bytes.proofs.Numbers.{bind_ok, ok_is, Begins, Begins-none, Begins-then}

-- what was read before, and what is still read
abbrev pub with_front : {X : Type 0} → List X → Read (List X × List ℕ) → Read (List X × List ℕ)
with_front front read = read >>= λ x. Ok (front ++ x.0, x.1)

module _ {X : Type 0} (at : ℕ → List ℕ → Read (X × List ℕ)) where
  -- what is left to read at number i of so many items, in front of which some were read
  abbrev pub goes_so : (front : List X) (count i : ℕ) (bytes : List ℕ) → Read (List X × List ℕ)
  goes_so front count i bytes = with_front front (items_in at i (count - i) bytes)

  regroup : (front : List X) (x : X) (read : Read (List X × List ℕ)) → with_front front (read >>= λ y. Ok (x ∷ y.0, y.1)) ≡ with_front (front ++ x ∷ []) read
  regroup front x (Ok y) = ap (λ (xs : List X). Ok (xs, y.1)) (simp append_assoc)
  regroup front x (Err f) = refl

  pub goes_on : (front : List X) (count i : ℕ) (bytes : List ℕ) (x : X) (after : List ℕ) (total : Read (List X × List ℕ)) → i < count → at i bytes ≡ Ok (x, after)
      → goes_so front count i bytes ≡ total → goes_so (front ++ x ∷ []) count (i + 1) after ≡ total
  unfolding items_in
  goes_on front count i bytes x after total lt h so_far =
      let k : count - i ≡ suc (count - (i + 1)) = omega arith in
      let one : goes_so front count i bytes ≡ goes_so (front ++ x ∷ []) count (i + 1) after = rw (k, h) (regroup front x (items_in at (i + 1) (count - (i + 1)) after)) in
      sym one ∙ so_far

  fails_so : (f : RowsFault) (front : List X) (count i : ℕ) (bytes : List ℕ) (total : Read (List X × List ℕ)) → i < count → at i bytes ≡ Err f
      → goes_so front count i bytes ≡ total → total ≡ Err f
  unfolding items_in
  fails_so f front count i bytes total lt h so_far =
      let k : count - i ≡ suc (count - (i + 1)) = omega arith in
      let one : goes_so front count i bytes ≡ Err f = rw (k, h) refl in
      sym so_far ∙ one

  pub ends : (e : RowsFault) (front : List X) (count i : ℕ) (bytes : List ℕ) (total : Read (List X × List ℕ)) → i < count
      → FailsReading ⊥ e (at i bytes) → goes_so front count i bytes ≡ total → (lack : Type 0) → FailsReading lack e total
  ends OutOfMemory front count i bytes total lt h so_far lack = absurd h
  ends Short front count i bytes total lt h so_far lack = fails_so Short front count i bytes total lt h so_far
  ends Trailing front count i bytes total lt h so_far lack = fails_so Trailing front count i bytes total lt h so_far
  ends NoChannel front count i bytes total lt h so_far lack = fails_so NoChannel front count i bytes total lt h so_far
  ends NoFlow front count i bytes total lt h so_far lack = fails_so NoFlow front count i bytes total lt h so_far
  ends NoRequest front count i bytes total lt h so_far lack = fails_so NoRequest front count i bytes total lt h so_far
  ends (NotFirm ch) front count i bytes total lt h so_far lack = fails_so (NotFirm ch) front count i bytes total lt h so_far

  pub is_done : (front : List X) (count i : ℕ) (bytes : List ℕ) (total : Read (List X × List ℕ)) → count ≤ i → goes_so front count i bytes ≡ total → total ≡ Ok (front, bytes)
  unfolding items_in
  is_done front count i bytes total le so_far =
      let k : count - i ≡ 0 = omega arith in
      let one : goes_so front count i bytes ≡ Ok (front, bytes) = rw k (ap (λ (xs : List X). Ok (xs, bytes)) (append-nil front)) in
      sym so_far ∙ one

-- each item is one of its place
abbrev pub AllFrom : {X : Type 0} → (ℕ → X → Type 0) → ℕ → List X → Type 0
AllFrom Is place [] = Unit {0}
AllFrom Is place (x ∷ xs) = Is place x × AllFrom Is (place + 1) xs

pub all_at : {X : Type 0} (Is : ℕ → X → Type 0) (place : ℕ) (xs : List X) → AllFrom Is place xs → (i : ℕ) (x : X) → slice_get xs i ≡ Some x → Is (place + i) x
all_at Is place [] all i x e = absurd cc
all_at Is place (y ∷ ys) all zero x e = let same : y ≡ x = cc in subst (λ n. Is n x) (omega arith) (subst (Is place) same all.0)
all_at Is place (y ∷ ys) all (suc i) x e = subst (λ n. Is n x) (omega arith) (all_at Is (place + 1) ys all.1 i x e)

-- what all of them are they are by one weaker fact
pub all_by : {X : Type 0} (Is : ℕ → X → Type 0) (P : X → Type 0) → ((place : ℕ) (x : X) → Is place x → P x) → (place : ℕ) (xs : List X) → AllFrom Is place xs → AllByRecursion P xs
all_by Is P weaker place [] all = tt
all_by Is P weaker place (x ∷ xs) all = (weaker place x all.0, all_by Is P weaker (place + 1) xs all.1)

-- an item that is read is what was written, and what was written is read again
pub record AreItems {X : Type 0} (at : ℕ → List ℕ → Read (X × List ℕ)) (text : X → List ℕ) (Is : ℕ → X → Type 0) : Type 0 where
  pub begins : (place : ℕ) (bytes : List ℕ) (x : X × List ℕ) → AreBytes bytes → at place bytes ≡ Ok x → Begins bytes (text x.0) x.1 × Is place x.0
  pub again : (place : ℕ) (x : X) (rest : List ℕ) → Is place x → at place (text x ++ rest) ≡ Ok (x, rest)

module _ {X : Type 0} (at : ℕ → List ℕ → Read (X × List ℕ)) (text : X → List ℕ) (Is : ℕ → X → Type 0) (are : AreItems at text Is) where
  pub items_begin : (place count : ℕ) (bytes : List ℕ) (x : List X × List ℕ) → AreBytes bytes → items_in at place count bytes ≡ Ok x
      → Begins bytes (flat_map text x.0) x.1 × (length x.0 ≡ count) × AllFrom Is place x.0
  unfolding items_in
  items_begin place zero bytes x fits e =
      subst (λ (y : List X × List ℕ). Begins bytes (flat_map text y.0) y.1 × (length y.0 ≡ 0) × AllFrom Is place y.0) (ok_is ([], bytes) x e) (Begins-none bytes fits, refl, tt)
  items_begin place (suc n) bytes x fits e =
      let a = bind_ok (at place bytes) (λ first. items_in at (place + 1) n first.1 >>= λ others. Ok (first.0 ∷ others.0, others.1)) x e in
      let b = bind_ok (items_in at (place + 1) n a.0.1) (λ others. Ok (a.0.0 ∷ others.0, others.1)) x a.2 in
      let first = are.begins place bytes a.0 fits a.1 in
      let second = items_begin (place + 1) n a.0.1 b.0 first.0.rest_fits b.1 in
      let both = Begins-then _ _ _ _ _ first.0 second.0 in
      let spelled : Begins bytes (flat_map text (a.0.0 ∷ b.0.0)) b.0.1 = subst (λ (t : List ℕ). Begins bytes t b.0.1) (sym (flat_map-cons text a.0.0 b.0.0)) both in
      let made : List X × List ℕ = (a.0.0 ∷ b.0.0, b.0.1) in
      subst (λ (y : List X × List ℕ). Begins bytes (flat_map text y.0) y.1 × (length y.0 ≡ suc n) × AllFrom Is place y.0) (ok_is made x b.2) (spelled, ap suc second.1, (first.1, second.2))

  pub items_again : (place : ℕ) (xs : List X) (rest : List ℕ) → AllFrom Is place xs → items_in at place (length xs) (flat_map text xs ++ rest) ≡ Ok (xs, rest)
  unfolding items_in
  items_again place [] rest all = refl
  items_again place (x ∷ xs) rest all =
      let regrouped : flat_map text (x ∷ xs) ++ rest ≡ text x ++ (flat_map text xs ++ rest) = ap (λ (t : List ℕ). t ++ rest) (flat_map-cons text x xs) ∙ append_assoc (text x) (flat_map text xs) rest in
      ap (items_in at place (suc (length xs))) regrouped ∙ rw (are.again place x (flat_map text xs ++ rest) all.0, items_again (place + 1) xs rest all.1) refl

-- Bytes and numbers that are read are those that were written, and what was written is read again.
use Rattle.std.proofs.Common.{◌≡◌, ℕ, suc, ◌+◌, ◌^◌, ◌<◌, ◌≤◌, Bool, true, false, cond, ltb, List, [], ◌∷◌, ◌++◌}
use Rattle.std.proofs.Common.{length, take, drop, Ok, Err, refl, sym, ap, subst, ◌∙◌, append_assoc, arith, inl, inr}
use Rattle.std.specs.Int.{Width, w16, w32, w64, byte_len, from_be_bytes, to_be_bytes}
use Rattle.std.proofs.lemmas.Bool.{cases_lt, ltb-false, le-ltb}
use Rattle.std.proofs.lemmas.List.{take_at, drop_at, take-append-drop, length-append, length-take, get_or-drop}
use Rattle.std.proofs.lemmas.List.{get_or-take, get_or_past}
use Rattle.std.proofs.lemmas.Nat.{be_bytes_2, be_bytes_4, be_bytes_8, from_be_bytes-to_be_bytes_2}
use Rattle.std.proofs.lemmas.Nat.{from_be_bytes-to_be_bytes_4, from_be_bytes-to_be_bytes_8}
use Rattle.row_bytes.specs.declared.fault.RowsFault.{RowsFault}
use Rattle.row_bytes.specs.declared.fault.RowsFault.TheVariants.{Short}
use Rattle.row_bytes.specs.Spelling.{number_2, number_4, number_8}
use Rattle.row_bytes.specs.Reading.{◌>>=◌, AreBytes, Read, byte_at, good, number_in, number_2_at, number_4_at}
use Rattle.row_bytes.specs.Reading.{number_8_at}

AreBytes-drop : (n : ℕ) (bytes : List ℕ) → AreBytes bytes → AreBytes (drop n bytes)
AreBytes-drop n bytes h i = rw get_or-drop (h (n + i))

AreBytes-take : (n : ℕ) (bytes : List ℕ) → AreBytes bytes → AreBytes (take n bytes)
AreBytes-take n bytes h i =
    elim (cases_lt i n) [
      | inl lt ↦ rw (get_or-take n bytes i 0 lt) (h i)
      | inr le ↦ rw (get_or_past (take n bytes) i 0 (omega (arith, length-take n bytes))) (omega arith)
    ]

-- the value of a step that did not fail
pub bind_ok : {A B : Type 0} (r : Read A) (f : A → Read B) (y : B) → (r >>= f) ≡ Ok y → (x : A) × (r ≡ Ok x) × (f x ≡ Ok y)
bind_ok (Ok x) f y e = (x, refl, e)
bind_ok (Err d) f y e = absurd cc

-- a test that did not fail
guard_ok : {A : Type 0} (b : Bool) (d : RowsFault) (x y : A) → cond b (Err d) (Ok x) ≡ Ok y → (b ≡ false) × (x ≡ y)
guard_ok true d x y e = absurd cc
guard_ok false d x y e = (refl, cc)

pub good_ok : {A : Type 0} (b : Bool) (d : RowsFault) (x y : A) → good d b x ≡ Ok y → (b ≡ true) × (x ≡ y)
good_ok true d x y e = (refl, cc)
good_ok false d x y e = absurd cc

abbrev done : {A : Type 0} → A → Read A
done x = Ok x

pub ok_is : {A : Type 0} (x y : A) → done x ≡ done y → x ≡ y
ok_is x y e = cc

-- bytes that begin with a text, behind which are the rest
pub record Begins (bytes text rest : List ℕ) : Type 0 where
  pub parts : bytes ≡ text ++ rest
  pub rest_fits : AreBytes rest

pub Begins-then : (a x b y c : List ℕ) → Begins a x b → Begins b y c → Begins a (x ++ y) c
Begins-then a x b y c p q = record { parts = p.parts ∙ ap (λ (t : List ℕ). x ++ t) q.parts ∙ sym (append_assoc x y c); rest_fits = q.rest_fits }

pub Begins-none : (a : List ℕ) → AreBytes a → Begins a [] a
Begins-none a fits = record { parts = refl; rest_fits = fits }

-- ---- bytes

pub byte_begins : (bytes : List ℕ) (x : ℕ × List ℕ) → AreBytes bytes → byte_at bytes ≡ Ok x → Begins bytes (x.0 ∷ []) x.1 × (x.0 < 2 ^ 8)
byte_begins [] x fits e = absurd cc
byte_begins (c ∷ cs) x fits e = subst (λ (x : ℕ × List ℕ). Begins (c ∷ cs) (x.0 ∷ []) x.1 × (x.0 < 2 ^ 8)) (ok_is (c, cs) x e) (record { parts = refl; rest_fits = λ i. fits (suc i) }, fits 0)

-- ---- numbers

-- a width whose numbers are written in so many bytes and read again
record IsWide (w : Width) (limit : ℕ) : Type 0 where
  len : (n : ℕ) → length (to_be_bytes w n) ≡ byte_len w
  back : (bytes : List ℕ) → length bytes ≡ byte_len w → AreBytes bytes → to_be_bytes w (from_be_bytes w bytes) ≡ bytes
  again : (n : ℕ) → n < limit → from_be_bytes w (to_be_bytes w n) ≡ n
  below : (bytes : List ℕ) → AreBytes bytes → from_be_bytes w bytes < limit

wide_2 : IsWide w16 (2 ^ 16)
wide_2 = record {
  len = λ n. refl;
  back = λ bytes len fits. be_bytes_2 bytes _ len fits refl;
  again = λ n lt. from_be_bytes-to_be_bytes_2 n lt;
  below = λ bytes fits. omega (arith, fits 0, fits 1);
}

wide_4 : IsWide w32 (2 ^ 32)
wide_4 = record {
  len = λ n. refl;
  back = λ bytes len fits. be_bytes_4 bytes _ len fits refl;
  again = λ n lt. from_be_bytes-to_be_bytes_4 n lt;
  below = λ bytes fits. omega (arith, fits 0, fits 1, fits 2, fits 3);
}

wide_8 : IsWide w64 (2 ^ 64)
wide_8 = record {
  len = λ n. refl;
  back = λ bytes len fits. be_bytes_8 bytes _ len fits refl;
  again = λ n lt. from_be_bytes-to_be_bytes_8 n lt;
  below = λ bytes fits. omega (arith, fits 0, fits 1, fits 2, fits 3, fits 4, fits 5, fits 6, fits 7);
}

wide_begins : (w : Width) (limit : ℕ) (wide : IsWide w limit) (bytes : List ℕ) (x : ℕ × List ℕ) → AreBytes bytes → number_in w bytes ≡ Ok x → Begins bytes (to_be_bytes w x.0) x.1 × (x.0 < limit)
wide_begins w limit wide bytes x fits e =
    let front : List ℕ = take (byte_len w) bytes in
    let g = guard_ok (ltb (length bytes) (byte_len w)) Short (from_be_bytes w front, drop (byte_len w) bytes) x e in
    let long : byte_len w ≤ length bytes = ltb-false _ _ g.0 in
    let again : to_be_bytes w (from_be_bytes w front) ≡ front = wide.back front (omega (arith, length-take (byte_len w) bytes)) (AreBytes-take (byte_len w) bytes fits) in
    let parts : bytes ≡ to_be_bytes w (from_be_bytes w front) ++ drop (byte_len w) bytes = sym (take-append-drop (byte_len w) bytes) ∙ ap (λ (t : List ℕ). t ++ drop (byte_len w) bytes) (sym again) in
    subst (λ (y : ℕ × List ℕ). Begins bytes (to_be_bytes w y.0) y.1 × (y.0 < limit)) g.1
    (record { parts = parts; rest_fits = AreBytes-drop (byte_len w) bytes fits }, wide.below front (AreBytes-take (byte_len w) bytes fits))

wide_again : (w : Width) (limit : ℕ) (wide : IsWide w limit) (n : ℕ) (rest : List ℕ) → n < limit → number_in w (to_be_bytes w n ++ rest) ≡ Ok (n, rest)
wide_again w limit wide n rest lt =
    let len = wide.len n in
    let long : ltb (length (to_be_bytes w n ++ rest)) (byte_len w) ≡ false = le-ltb _ _ (omega (arith, length-append (to_be_bytes w n) rest)) in
    rw (long, take_at (to_be_bytes w n) rest (byte_len w) len, drop_at (to_be_bytes w n) rest (byte_len w) len, wide.again n lt) refl

pub begins_2 : (bytes : List ℕ) (x : ℕ × List ℕ) → AreBytes bytes → number_2_at bytes ≡ Ok x → Begins bytes (number_2 x.0) x.1 × (x.0 < 2 ^ 16)
unfolding number_2 number_2_at
begins_2 bytes x fits e = wide_begins w16 (2 ^ 16) wide_2 bytes x fits e

pub again_2 : (n : ℕ) (rest : List ℕ) → n < 2 ^ 16 → number_2_at (number_2 n ++ rest) ≡ Ok (n, rest)
unfolding number_2 number_2_at
again_2 n rest lt = wide_again w16 (2 ^ 16) wide_2 n rest lt

pub begins_4 : (bytes : List ℕ) (x : ℕ × List ℕ) → AreBytes bytes → number_4_at bytes ≡ Ok x → Begins bytes (number_4 x.0) x.1 × (x.0 < 2 ^ 32)
unfolding number_4 number_4_at
begins_4 bytes x fits e = wide_begins w32 (2 ^ 32) wide_4 bytes x fits e

pub again_4 : (n : ℕ) (rest : List ℕ) → n < 2 ^ 32 → number_4_at (number_4 n ++ rest) ≡ Ok (n, rest)
unfolding number_4 number_4_at
again_4 n rest lt = wide_again w32 (2 ^ 32) wide_4 n rest lt

pub begins_8 : (bytes : List ℕ) (x : ℕ × List ℕ) → AreBytes bytes → number_8_at bytes ≡ Ok x → Begins bytes (number_8 x.0) x.1 × (x.0 < 2 ^ 64)
unfolding number_8 number_8_at
begins_8 bytes x fits e = wide_begins w64 (2 ^ 64) wide_8 bytes x fits e

pub again_8 : (n : ℕ) (rest : List ℕ) → n < 2 ^ 64 → number_8_at (number_8 n ++ rest) ≡ Ok (n, rest)
unfolding number_8 number_8_at
again_8 n rest lt = wide_again w64 (2 ^ 64) wide_8 n rest lt

-- Fields of bytes: what stands from a place on is the field's bytes and the rest.
use Rattle.std.proofs.Common.{◌≡◌, ℕ, zero, suc, ◌+◌, ◌<◌, ◌≤◌, ◌^◌, List, [], ◌∷◌, ◌++◌, length, take, drop, refl, sym}
use Rattle.std.proofs.Common.{ap, ◌∙◌, subst, arith}
use Rattle.std.proofs.Math.Seq.{drop-cons}
use Rattle.std.proofs.Math.ListN.{drop_of_length-le}
use Rattle.std.specs.Int.{w16, w32, w64, to_be_bytes, from_be_bytes}
use Rattle.std.proofs.lemmas.Nat.{be_bytes_2, be_bytes_4, be_bytes_8}
use Rattle.std.proofs.lemmas.List.{get_or-drop, drop-drop, length-drop}
use Rattle.command_log.specs.Reading.{AreBytes, byte, number}

are_take : (n : ℕ) (xs : List ℕ) → AreBytes xs → AreBytes (take n xs)
are_take zero xs are i = omega arith
are_take (suc n) [] are i = omega arith
are_take (suc n) (x ∷ xs) are zero = are 0
are_take (suc n) (x ∷ xs) are (suc i) = are_take n xs (λ j. are (suc j)) i

pub are_drop : (n : ℕ) (xs : List ℕ) → AreBytes xs → AreBytes (drop n xs)
are_drop n xs are i = subst (λ b. b < 2 ^ 8) (sym (get_or-drop n xs i 0)) (are (n + i))

front_2 : (xs : List ℕ) → AreBytes xs → 2 ≤ length xs → xs ≡ to_be_bytes w16 (from_be_bytes w16 xs) ++ drop 2 xs
front_2 [] are le = absurd (omega arith)
front_2 (a ∷ []) are le = absurd (omega arith)
front_2 (a ∷ b ∷ rest) are le =
    let is = be_bytes_2 (a ∷ b ∷ []) (from_be_bytes w16 (a ∷ b ∷ rest)) refl (are_take 2 (a ∷ b ∷ rest) are) refl in
    ap (λ (ys : List ℕ). ys ++ rest) (sym is)

front_4 : (xs : List ℕ) → AreBytes xs → 4 ≤ length xs → xs ≡ to_be_bytes w32 (from_be_bytes w32 xs) ++ drop 4 xs
front_4 [] are le = absurd (omega arith)
front_4 (a ∷ []) are le = absurd (omega arith)
front_4 (a ∷ b ∷ []) are le = absurd (omega arith)
front_4 (a ∷ b ∷ c ∷ []) are le = absurd (omega arith)
front_4 (a ∷ b ∷ c ∷ d ∷ rest) are le =
    let is = be_bytes_4 (a ∷ b ∷ c ∷ d ∷ []) (from_be_bytes w32 (a ∷ b ∷ c ∷ d ∷ rest)) refl (are_take 4 (a ∷ b ∷ c ∷ d ∷ rest) are) refl in
    ap (λ (ys : List ℕ). ys ++ rest) (sym is)

front_8 : (xs : List ℕ) → AreBytes xs → 8 ≤ length xs → xs ≡ to_be_bytes w64 (from_be_bytes w64 xs) ++ drop 8 xs
front_8 [] are le = absurd (omega arith)
front_8 (a ∷ []) are le = absurd (omega arith)
front_8 (a ∷ b ∷ []) are le = absurd (omega arith)
front_8 (a ∷ b ∷ c ∷ []) are le = absurd (omega arith)
front_8 (a ∷ b ∷ c ∷ d ∷ []) are le = absurd (omega arith)
front_8 (a ∷ b ∷ c ∷ d ∷ e ∷ []) are le = absurd (omega arith)
front_8 (a ∷ b ∷ c ∷ d ∷ e ∷ f ∷ []) are le = absurd (omega arith)
front_8 (a ∷ b ∷ c ∷ d ∷ e ∷ f ∷ g ∷ []) are le = absurd (omega arith)
front_8 (a ∷ b ∷ c ∷ d ∷ e ∷ f ∷ g ∷ h ∷ rest) are le =
    let is = be_bytes_8 (a ∷ b ∷ c ∷ d ∷ e ∷ f ∷ g ∷ h ∷ []) (from_be_bytes w64 (a ∷ b ∷ c ∷ d ∷ e ∷ f ∷ g ∷ h ∷ rest)) refl (are_take 8 (a ∷ b ∷ c ∷ d ∷ e ∷ f ∷ g ∷ h ∷ rest) are) refl in
    ap (λ (ys : List ℕ). ys ++ rest) (sym is)

fits_2 : (xs : List ℕ) → AreBytes xs → from_be_bytes w16 xs < 2 ^ 16
fits_2 xs are = omega (arith, are 0, are 1)

fits_4 : (xs : List ℕ) → AreBytes xs → from_be_bytes w32 xs < 2 ^ 32
fits_4 xs are = omega (arith, are 0, are 1, are 2, are 3)

fits_8 : (xs : List ℕ) → AreBytes xs → from_be_bytes w64 xs < 2 ^ 64
fits_8 xs are = omega (arith, are 0, are 1, are 2, are 3, are 4, are 5, are 6, are 7)

module _ (bytes : List ℕ) (are : AreBytes bytes) where
  pub number_fits_2 : (i : ℕ) → number w16 bytes i < 2 ^ 16
  number_fits_2 i = fits_2 (drop i bytes) (are_drop i bytes are)

  pub number_fits_4 : (i : ℕ) → number w32 bytes i < 2 ^ 32
  number_fits_4 i = fits_4 (drop i bytes) (are_drop i bytes are)

  pub number_fits_8 : (i : ℕ) → number w64 bytes i < 2 ^ 64
  number_fits_8 i = fits_8 (drop i bytes) (are_drop i bytes are)

  -- a field at place i, and the rest from place j on
  pub field_1 : (i : ℕ) (rest : List ℕ) → i < length bytes → drop (suc i) bytes ≡ rest → drop i bytes ≡ byte bytes i ∷ rest
  field_1 i rest lt is = drop-cons bytes i 0 lt ∙ ap (λ (xs : List ℕ). byte bytes i ∷ xs) is

  pub field_2 : (i j : ℕ) (rest : List ℕ) → j ≡ i + 2 → j ≤ length bytes → drop j bytes ≡ rest → drop i bytes ≡ to_be_bytes w16 (number w16 bytes i) ++ rest
  field_2 i j rest e le is =
      front_2 (drop i bytes) (are_drop i bytes are) (omega (arith, length-drop i bytes))
      ∙ ap (λ (xs : List ℕ). to_be_bytes w16 (number w16 bytes i) ++ xs) (drop-drop 2 i bytes ∙ ap (λ (k : ℕ). drop k bytes) (sym e) ∙ is)

  pub field_4 : (i j : ℕ) (rest : List ℕ) → j ≡ i + 4 → j ≤ length bytes → drop j bytes ≡ rest → drop i bytes ≡ to_be_bytes w32 (number w32 bytes i) ++ rest
  field_4 i j rest e le is =
      front_4 (drop i bytes) (are_drop i bytes are) (omega (arith, length-drop i bytes))
      ∙ ap (λ (xs : List ℕ). to_be_bytes w32 (number w32 bytes i) ++ xs) (drop-drop 4 i bytes ∙ ap (λ (k : ℕ). drop k bytes) (sym e) ∙ is)

  pub field_8 : (i j : ℕ) (rest : List ℕ) → j ≡ i + 8 → j ≤ length bytes → drop j bytes ≡ rest → drop i bytes ≡ to_be_bytes w64 (number w64 bytes i) ++ rest
  field_8 i j rest e le is =
      front_8 (drop i bytes) (are_drop i bytes are) (omega (arith, length-drop i bytes))
      ∙ ap (λ (xs : List ℕ). to_be_bytes w64 (number w64 bytes i) ++ xs) (drop-drop 8 i bytes ∙ ap (λ (k : ℕ). drop k bytes) (sym e) ∙ is)

  pub at_end : (n : ℕ) → length bytes ≡ n → drop n bytes ≡ []
  at_end n is = drop_of_length-le bytes (omega arith)

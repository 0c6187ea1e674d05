-- What reads took of an input, one after another.
use Rattle.std.proofs.Common.{◌≡◌, ℕ, ◌<◌, List, [], ◌∷◌, ◌++◌, length, Option, Some, None, Result, Ok, Err, sym, ap}
use Rattle.std.proofs.Common.{subst, ◌∙◌, append_assoc, arith}
use Rattle.std.specs.Prelude.{IfOk}
use Rattle.std.specs.Io.KnownBytes.{Consumes}
use Rattle.std.proofs.lemmas.List.{length-append}
use Rattle.std.proofs.lemmas.List.Elements.{All-append, All-from_recursion}
use Rattle.node_lines.specs.Input.{IsDroppedBeyond, IsLine, LineComesWithin, RefusedComes}
use Rattle.node_lines.specs.declared.fault.LineFault.{LineFault}
use Rattle.node_lines.specs.declared.input.Next.{Next}
use Rattle.node_lines.specs.declared.input.Next.TheVariants as next

pub consumes-then : (a b c : Option (List ℕ)) (xs ys : List ℕ) → Consumes a b xs → Consumes b c ys → Consumes a c (xs ++ ys)
consumes-then None b c xs ys first second = tt
consumes-then (Some all) None c xs ys first second = absurd first
consumes-then (Some all) (Some left) None xs ys first second = absurd second
consumes-then (Some all) (Some left) (Some rest) xs ys first second = first ∙ ap (λ (l : List ℕ). xs ++ l) second ∙ sym (append_assoc xs ys rest)

pub line_more : (line : List ℕ) (byte : ℕ) → IsLine line → (byte ≡ 10 → ⊥) → IsLine (line ++ byte ∷ [])
line_more line byte is other =
    let P : ℕ → Type 0 = λ b. b ≡ 10 → ⊥ in
    All-append P line (byte ∷ []) is (All-from_recursion P (byte ∷ []) (other, tt))

-- the front of a line was read, and its rest is let go
pub refused : {E : Type 0} (most : ℕ) (a b c d : Option (List ℕ)) (line : List ℕ) (byte : ℕ) (why : LineFault) (r : Result Next E)
    → IsLine line → (byte ≡ 10 → ⊥) → Consumes a b line → Consumes b c (byte ∷ []) → ((rest : List ℕ) → IsDroppedBeyond most ((line ++ byte ∷ []) ++ rest) why)
    → IfOk r (RefusedComes c d why) → IfOk r (LineComesWithin most a d)
refused most a b c d line byte why (Ok (next.Line whole)) is other front one dropped comes = absurd comes
refused most a b c d line byte why (Ok (next.Refused said)) is other front one dropped comes =
    let rest : List ℕ = comes.1.0 in
    let P : ℕ → Type 0 = λ b. b ≡ 10 → ⊥ in
    let so_far = consumes-then a b c line (byte ∷ []) front one in
    let all = consumes-then a c d (line ++ byte ∷ []) (rest ++ 10 ∷ []) so_far comes.1.1.1 in (
      (line ++ byte ∷ []) ++ rest,
      (All-append P (line ++ byte ∷ []) rest (line_more line byte is other) comes.1.1.0, subst (Consumes a d) (sym (append_assoc (line ++ byte ∷ []) rest (10 ∷ []))) all),
      subst (IsDroppedBeyond most ((line ++ byte ∷ []) ++ rest)) (sym comes.0) (dropped rest),
    )
refused most a b c d line byte why (Ok next.End) is other front one dropped comes =
    let rest : List ℕ = comes.0 in
    let P : ℕ → Type 0 = λ b. b ≡ 10 → ⊥ in
    let so_far = consumes-then a b c line (byte ∷ []) front one in (
      (line ++ byte ∷ []) ++ rest,
      (All-append P (line ++ byte ∷ []) rest (line_more line byte is other) comes.1.0, consumes-then a c d (line ++ byte ∷ []) rest so_far comes.1.1, comes.1.2),
    )
refused most a b c d line byte why (Err e) is other front one dropped comes = tt

pub longer : (line rest : List ℕ) (byte : ℕ) → length line < length ((line ++ byte ∷ []) ++ rest)
longer line rest byte = omega (arith, length-append (line ++ byte ∷ []) rest, length-append line (byte ∷ []))

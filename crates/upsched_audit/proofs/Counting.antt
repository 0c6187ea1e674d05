-- The lines of counts, one journal further.
use Rattle.std.proofs.Common.{◌≡◌, ◌∙◌, ℕ, zero, suc, ◌+◌, ◌<◌, List, [], ◌∷◌, ◌++◌, get_or, length, take, Option, Some}
use Rattle.std.proofs.Common.{None, ap, sym, arith}
use Rattle.std.proofs.lemmas.List.{append-nil, append_assoc}
use Rattle.std.specs.Io.KnownBytes.{Appends}
use Rattle.upsched_audit.specs.Audits.{counts_line, counts_lines}

pub counts_more : (n : ℕ) (journals : List (List ℕ)) (i : ℕ) (d : List ℕ) → i < length journals → counts_lines n (take (i + 1) journals) ≡ counts_lines n (take i journals) ++ counts_line (n + i) (get_or journals i d)
counts_more n [] i d within = absurd (omega (arith, within))
counts_more n (journal ∷ journals) zero d within = let at : n ≡ n + 0 = omega arith in append-nil (counts_line n journal) ∙ ap (λ k. counts_line k journal) at
counts_more n (journal ∷ journals) (suc i) d within =
    let at : n + 1 + i ≡ n + suc i = omega arith in
    ap (λ k. counts_lines n (take k (journal ∷ journals))) (further i)
    ∙ ap (λ (rest : List ℕ). counts_line n journal ++ rest) (counts_more (n + 1) journals i d (omega (arith, within)) ∙ ap (λ k. counts_lines (n + 1) (take i journals) ++ counts_line k (get_or journals i d)) at)
    ∙ sym (append_assoc (counts_line n journal) (counts_lines (n + 1) (take i journals)) (counts_line (n + suc i) (get_or journals i d)))
  where
    further : (k : ℕ) → suc k + 1 ≡ suc (k + 1)
    further k = omega arith

-- what is written behind what was written
pub appends_on : (old mid new : Option (List ℕ)) (xs ys all : List ℕ) → Appends old mid xs → Appends mid new ys → all ≡ xs ++ ys → Appends old new all
appends_on None mid new xs ys all first second is = tt
appends_on (Some a) None new xs ys all first second is = absurd first
appends_on (Some a) (Some b) None xs ys all first second is = absurd second
appends_on (Some a) (Some b) (Some c) xs ys all first second is =
    second ∙ (ap (λ (zs : List ℕ). zs ++ ys) first ∙ (append_assoc a xs ys ∙ ap (λ (zs : List ℕ). a ++ zs) (sym is)))

-- Nodes that know their numbers are a cluster.
use Rattle.std.proofs.Common.{◌≡◌, ◌∙◌, ◌<◌, ℕ, List, [], ◌∷◌, All, IsTrue, map, length, get_or, refl, sym, ap, subst}
use Rattle.std.proofs.Common.{arith}
use Rattle.std.specs.List.{range_with_len}
use Rattle.std.proofs.lemmas.List.{get_or-map, length-map}
use Rattle.std.proofs.lemmas.List.FromFn.{get_or-map-range_with_len, length-map-range_with_len}
use Rattle.std.proofs.lemmas.Option.{slice_get_within, get_or_from_slice_get}
use Rattle.node_worker.specs.Audits.{IsCluster}
use Rattle.node_worker.specs.KeptView.{KeptView, made_as, member_of}

-- who they are, of all that they were made as
members_of : (kepts : List KeptView) → map (λ (m : (ℕ × ℕ) × ℕ). m.0) (map made_as kepts) ≡ map member_of kepts
members_of [] = refl
members_of (k ∷ kepts) = ap (λ ms. member_of k ∷ ms) (members_of kepts)

-- nodes that are made as others are the same members
pub same_members : (kepts others : List KeptView) → map made_as kepts ≡ map made_as others → map member_of kepts ≡ map member_of others
same_members kepts others same = sym (members_of kepts) ∙ (ap (λ ms. map (λ (m : (ℕ × ℕ) × ℕ). m.0) ms) same ∙ members_of others)

-- and may do as much
pub same_quotas : (kepts others : List KeptView) (quota : ℕ) → map made_as kepts ≡ map made_as others → All (λ k. k.quota ≡ quota) others → All (λ k. k.quota ≡ quota) kepts
same_quotas kepts others quota same each i d lt =
    let size : length kepts ≡ length others = sym (length-map kepts made_as) ∙ (ap length same ∙ length-map others made_as) in
    let lt' : i < length others = subst (λ n. i < n) size lt in
    let at : made_as (get_or kepts i d) ≡ made_as (get_or others i d) =
    sym (get_or-map made_as kepts i d (made_as d) lt) ∙ (ap (λ ms. get_or ms i (made_as d)) same ∙ get_or-map made_as others i d (made_as d) lt') in
    ap (λ m. m.1) at ∙ each i d lt'

-- as many as they know of
pub counted : (kepts : List KeptView) (n : ℕ) → map member_of kepts ≡ map (λ k. (k, n)) (range_with_len 0 n) → length kepts ≡ n
counted kepts n numbered = sym (length-map kepts member_of) ∙ (ap length numbered ∙ length-map-range_with_len (λ k. (k, n)) 0 n)

-- nodes in the order of their numbers, whose stores returned what they committed
pub cluster_of : (kepts : List KeptView) (n : ℕ) → map member_of kepts ≡ map (λ k. (k, n)) (range_with_len 0 n) → All (λ k. IsTrue k.honest) kepts → IsCluster kepts
cluster_of kepts n numbered honest k kept at =
    let size : length kepts ≡ n = counted kepts n numbered in
    let lt : k < length kepts = slice_get_within kepts k kept at in
    let is : get_or kepts k kept ≡ kept = get_or_from_slice_get kepts k kept kept at in
    let who : member_of kept ≡ (k, n) =
    ap member_of (sym is)
    ∙ (sym (get_or-map member_of kepts k kept (0, 0) lt)
    ∙ (ap (λ ms. get_or ms k (0, 0)) numbered ∙ get_or-map-range_with_len (λ j. (j, n)) 0 n k k (0, 0) (subst (λ m. k < m) size lt) (omega arith))) in
    let P : KeptView → Type 0 = λ x. IsTrue x.honest in
    (ap (λ m. m.0) who, ap (λ m. m.1) who ∙ sym size, subst P is (honest k kept lt))

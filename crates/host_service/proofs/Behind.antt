-- What is behind a number, or behind the word of a release.
use Rattle.std.proofs.Common.{◌≡◌, ◌∙◌, ℕ, ◌+◌, ◌-◌, ◌≤◌, true, List, ◌++◌, length, get_or, take, drop, inl, inr, refl}
use Rattle.std.proofs.Common.{sym, ap, arith, length-drop, take_all}
use Rattle.std.specs.List.{copy_within}
use Rattle.std.proofs.Math.Seq.{paste}
use Rattle.std.proofs.lemmas.List.Edits.{take-paste}
use Rattle.node_lines.specs.Lines.{Asks, release_word}
use Rattle.node_lines.specs.declared.request.Request.{Request}
use Rattle.node_lines.specs.declared.request.Request.TheVariants as request
use Rattle.host_service.specs.Replying.{is_release}

-- what is moved to the front
pub moved_front : (ks : List ℕ) (place len : ℕ) → len ≡ length ks → place ≤ len → take (len - place) (copy_within ks place len 0) ≡ drop place ks
moved_front ks place len size within =
    let rest : length (drop place ks) ≡ len - place = omega (arith, length-drop place ks, size) in
    let count : len - place ≡ 0 + (len - place) = omega arith in
    ap (λ k. take k (paste ks 0 (drop place ks) (len - place))) count ∙ take-paste ks 0 (drop place ks) (len - place) (omega arith) (omega arith)
    ∙ take_all (len - place) (drop place ks) (omega arith)

-- a line that begins with the word of a release asks for one, if it asks something
pub asks_release : (line digits : List ℕ) (asked : Request) → line ≡ release_word ++ digits → Asks line asked → is_release asked ≡ true
asks_release line digits request.Lead is asks =
    let head : 114 ≡ 108 = ap (λ (l : List ℕ). get_or l 0 0) (sym is ∙ asks) in
    absurd (omega (arith, head))
asks_release line digits (request.Offer value) is (inl (more, at, decoded)) =
    let head : 114 ≡ 111 = ap (λ (l : List ℕ). get_or l 0 0) (sym is ∙ at) in
    absurd (omega (arith, head))
asks_release line digits (request.Offer value) is (inr ((more, at), short, c, text, same)) =
    let head : 114 ≡ 99 = ap (λ (l : List ℕ). get_or l 0 0) (sym is ∙ at) in
    absurd (omega (arith, head))
asks_release line digits (request.Release now) is asks = refl
asks_release line digits (request.Letter l) is (more, at, text) =
    let head : 114 ≡ 108 = ap (λ (l : List ℕ). get_or l 0 0) (sym is ∙ at) in
    absurd (omega (arith, head))
asks_release line digits (request.Tell to place) is (more, at, text) =
    let head : 114 ≡ 116 = ap (λ (l : List ℕ). get_or l 0 0) (sym is ∙ at) in
    absurd (omega (arith, head))

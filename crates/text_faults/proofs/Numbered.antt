-- What is told of numbered items, one item after another.
use Rattle.std.proofs.Common.{◌≡◌, ℕ, ◌+◌, ◌<◌, List, [], ◌∷◌, ◌++◌, length, get_or, take, map, Option, Some, refl, sym}
use Rattle.std.proofs.Common.{ap, ◌∙◌, append_assoc, append-nil, add-zero, arith}
use Rattle.std.proofs.lemmas.List.{take_more, length-take-le, length-map, map-append}
use Rattle.toml.specs.Data.{Data, as_array}
use Rattle.toml.specs.View.{view, items_of}
use Rattle.toml.specs.declared.value.Value.{Value}
use Rattle.script_text.proofs.Callers.{list_of-items_of}
use Rattle.text_faults.specs.Faults.{numbered}
use Rattle.text_faults.specs.Items.{items_in}

-- of one item more
numbered-last : {X : Type 0} (f : ℕ → Data → List X) (n : ℕ) (ds : List Data) (d : Data) → numbered f n (ds ++ d ∷ []) ≡ numbered f n ds ++ f (n + length ds) d
numbered-last f n [] d = rw (add-zero n) (append-nil (f n d))
numbered-last f n (e ∷ ds) d =
    let rest = numbered-last f (n + 1) ds d in
    let count : n + 1 + length ds ≡ n + length (e ∷ ds) = omega arith in
    ap (λ fs. f n e ++ fs) (rw count at rest) ∙ sym (append_assoc (f n e) (numbered f (n + 1) ds) _)

pub noted_item : {X : Type 0} (f : ℕ → Data → List X) (n i k : ℕ) (vs : List Value) (v : Value) (old now next : List X) → i < length vs → v ≡ get_or vs i v → k ≡ n + i
    → now ≡ old ++ numbered f n (map view (take i vs)) → next ≡ now ++ f k (view v) → next ≡ old ++ numbered f n (map view (take (i + 1) vs))
noted_item f n i k vs v old now next below here count before more =
    let front = map view (take i vs) in
    let whole : map view (take (i + 1) vs) ≡ front ++ view v ∷ [] = rw (take_more vs i v below, ← here) (map-append view (take i vs) (v ∷ [])) in
    let long : length front ≡ i = length-map (take i vs) view ∙ length-take-le i vs (omega arith) in
    rw (whole, numbered-last f n front (view v), long, ← count, more, before) (append_assoc old (numbered f n front) (f k (view v)))

-- the items of an array that a key holds
pub of_array : (found : Option Data) (d : Data) (ds : List Data) → Some d ≡ found → Some (items_of ds) ≡ as_array d → ds ≡ items_in found
of_array found d ds is array = rw (← is, ← array, list_of-items_of ds) refl

-- Items of an array that mean something, as far as they are read.
use Rattle.std.proofs.Common.{◌≡◌, ℕ, zero, suc, ◌+◌, ◌<◌, List, [], ◌∷◌, ◌++◌, length, get_or, take, map, Some}
use Rattle.std.proofs.Common.{slice_get, refl, arith}
use Rattle.std.proofs.lemmas.List.{take_more}
use Rattle.std.proofs.lemmas.Option.{slice_get-map, slice_get_read, slice_get_within, get_or_from_slice_get}
use Rattle.std.proofs.lemmas.Slice.Zip.{all_zipped_more}
use Rattle.std.specs.List.{AllZip}
use Rattle.toml.specs.Data.{Data}
use Rattle.toml.specs.View.{view}
use Rattle.toml.specs.declared.value.Value.{Value}

-- one more item, and what it means
pub read_more : {X : Type 0} (Means : Data → X → Type 0) (ds : List Data) (xs : List X) (i : ℕ) (d : Data) (x : X) → slice_get ds i ≡ Some d → AllZip Means (take i ds) xs → Means d x → AllZip Means (take (i + 1) ds) (xs ++ x ∷ [])
read_more Means ds xs i d x here read one =
    rw (take_more ds i d (slice_get_within ds i d here), get_or_from_slice_get ds i d d here) (all_zipped_more Means (take i ds) xs d x read one)

-- each item that was read means something
pub sound_before : {X : Type 0} (Means : Data → X → Type 0) (ds : List Data) (xs : List X) (i : ℕ) → AllZip Means (take i ds) xs → (k : ℕ) (d : Data) → k < i → slice_get ds k ≡ Some d → (x : X) × Means d x
sound_before Means [] xs i read k d below here = cc
sound_before Means (y ∷ ys) xs zero read k d below here = absurd (omega arith)
sound_before Means (y ∷ ys) [] (suc i) read k d below here = absurd read
sound_before Means (y ∷ ys) (x ∷ xs) (suc i) read zero d below here = (x, let same : y ≡ d = cc in rw same at read.0)
sound_before Means (y ∷ ys) (x ∷ xs) (suc i) read (suc k) d below here = sound_before Means ys xs i read.1 k d (omega arith) here

-- of items that mean something, one each, none means nothing
pub means_some : {X : Type 0} (Means : Data → X → Type 0) (ds : List Data) (xs : List X) (k : ℕ) (d : Data) → AllZip Means ds xs → slice_get ds k ≡ Some d → (x : X) × Means d x
means_some Means [] xs k d read here = cc
means_some Means (y ∷ ys) [] k d read here = absurd read
means_some Means (y ∷ ys) (x ∷ xs) zero d read here = (x, let same : y ≡ d = cc in rw same at read.0)
means_some Means (y ∷ ys) (x ∷ xs) (suc k) d read here = means_some Means ys xs k d read.1 here

-- an item of an array, as what it stands for
pub item_at : (vs : List Value) (i : ℕ) (v : Value) → i < length vs → v ≡ get_or vs i v → slice_get (map view vs) i ≡ Some (view v)
item_at vs i v within is = rw (slice_get-map view vs i, slice_get_read vs (length vs) i v refl within is) refl

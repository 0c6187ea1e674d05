-- Items of an array that are read one after another, and the array that a table's key holds.
use Rattle.std.proofs.Common.{◌≡◌, ℕ, zero, suc, ◌<◌, Bool, true, false, if◌then◌else◌, List, [], ◌∷◌, ◌++◌, length}
use Rattle.std.proofs.Common.{map, Option, Some, None, String, Global, nat_cmp, string_bytes, slice_get, refl, arith}
use Rattle.std.proofs.Common.{ap}
use Rattle.std.specs.Cmp.Lexicographic.{slice_cmp}
use Rattle.std.specs.List.{AllZip, list_all}
use Rattle.std.specs.Map.{lookup}
use Rattle.std.specs.BTreeMap.{is_at}
use Rattle.toml.specs.Data.{Data, get_member, as_array}
use Rattle.toml.specs.View.{view, items_of, members_view}
use Rattle.toml.specs.declared.value.Value.{Value}
use Rattle.toml.proofs.Views.{view-lookup}
use Rattle.script_text.specs.Items.{held_items, is_table, only_tables, IsFirstBad}
use Rattle.script_text.proofs.Callers.{list_of-items_of}

-- the item behind those that were read
item_behind : {X : Type 0} (Means : Data → X → Type 0) (ds : List Data) (xs : List X) (d : Data) (rest : List Data) → AllZip Means ds xs → slice_get (ds ++ d ∷ rest) (length xs) ≡ Some d
item_behind Means [] [] d rest read = refl
item_behind Means [] (x ∷ xs) d rest read = absurd read
item_behind Means (y ∷ ys) [] d rest read = absurd read
item_behind Means (y ∷ ys) (x ∷ xs) d rest read = item_behind Means ys xs d rest read.1

-- each item before it means something
means_before : {X : Type 0} (Means : Data → X → Type 0) (ds : List Data) (xs : List X) (rest : List Data) → AllZip Means ds xs → (k : ℕ) (d : Data) → k < length xs → slice_get (ds ++ rest) k ≡ Some d → (x : X) × Means d x
means_before Means [] [] rest read k d below here = absurd (omega arith)
means_before Means [] (x ∷ xs) rest read k d below here = absurd read
means_before Means (y ∷ ys) [] rest read k d below here = absurd read
means_before Means (y ∷ ys) (x ∷ xs) rest read zero d below here = (x, let same : y ≡ d = cc in rw same at read.0)
means_before Means (y ∷ ys) (x ∷ xs) rest read (suc k) d below here = means_before Means ys xs rest read.1 k d (omega arith) here

pub first_bad : {X : Type 0} (Means : Data → X → Type 0) (ds : List Data) (xs : List X) (d : Data) (rest : List Data) → AllZip Means ds xs → ((x : X) → Means d x → ⊥) → IsFirstBad Means (ds ++ d ∷ rest) (length xs)
first_bad Means ds xs d rest read nothing = record {
  bad = d;
  here = item_behind Means ds xs d rest read;
  means_nothing = nothing;
  sound_before = means_before Means ds xs (d ∷ rest) read;
}

-- the next item goes to those that were read
pub split_next : (read : List Data) (vs : List Value) (v : Value) (rest : List Value) → vs ≡ v ∷ rest → read ++ map view vs ≡ (read ++ view v ∷ []) ++ map view rest
split_next [] vs v rest is = rw is refl
split_next (d ∷ read) vs v rest is = ap (λ ds. d ∷ ds) (split_next read vs v rest is)

if_kept : (b : Bool) (ds xs : List Data) → Some xs ≡ (if b then Some ds else None) → Some ds ≡ (if b then Some ds else None)
if_kept true ds xs some = refl
if_kept false ds xs some = cc

-- where only tables are kept of an array's items and something is, all of them are
pub kept : (items : Option (List Data)) (ds xs : List Data) → items ≡ Some ds → Some xs ≡ only_tables items → Some ds ≡ only_tables items
kept items ds xs is some = rw is (if_kept (list_all is_table ds) ds xs (rw is at some))

-- the array that a table's map holds at a key
pub array_at : (k : List ℕ) (es : List (String Global × Value)) (v : Value) (ds : List Data) → Some v ≡ lookup (is_at (λ x. slice_cmp nat_cmp k (string_bytes x))) es → Some (items_of ds) ≡ as_array (view v)
    → held_items (get_member k (members_view es)) ≡ Some ds
array_at k es v ds found array = rw (← view-lookup k es, ← found, ← array, list_of-items_of ds) refl

pub no_key : (k : List ℕ) (es : List (String Global × Value)) → None ≡ lookup (is_at (λ x. slice_cmp nat_cmp k (string_bytes x))) es → Some [] ≡ only_tables (held_items (get_member k (members_view es)))
no_key k es absent = rw (← view-lookup k es, ← absent) refl

pub no_array : (k : List ℕ) (es : List (String Global × Value)) (v : Value) → Some v ≡ lookup (is_at (λ x. slice_cmp nat_cmp k (string_bytes x))) es → None ≡ as_array (view v) → None ≡ only_tables (held_items (get_member k (members_view es)))
no_array k es v found other = rw (← view-lookup k es, ← found, ← other) refl

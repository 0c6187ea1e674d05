-- Keys that may be absent.
use Rattle.std.proofs.Common.{◌≡◌, ℕ, List, Option, Some, ◌⊎◌, inl, inr}
use Rattle.toml.specs.Data.{Data, get}
use Rattle.script_text.specs.CommandTable.{IsDefault}

-- where the key is there, its default doesn't count
pub held_there : {X : Type 0} (Has : X → Type 0) (d : Data) (key : List ℕ) (default : X) (v : Data) (r : Option X) → Some v ≡ get key d
    → ((x : X) → Has x → r ≡ Some x) → (x : X) → Has x ⊎ IsDefault d key default x → r ≡ Some x
held_there Has d key default v r there only x (inl has) = only x has
held_there Has d key default v r there only x (inr none) = absurd (cc (there, none.0))

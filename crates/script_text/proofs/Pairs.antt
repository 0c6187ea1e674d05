-- An array of two items.
use Rattle.std.proofs.Common.{◌≡◌, Some, None}
use Rattle.toml.specs.Data.{Data, string, integer, float, boolean, datetime, array, table, no_items, item, at}

-- an array with a first and a second item and no third has these two
pub two_items : (d x y : Data) → at 0 d ≡ Some x → at 1 d ≡ Some y → at 2 d ≡ None → d ≡ array (item x (item y no_items))
two_items (string s) x y first second third = cc
two_items (integer z) x y first second third = cc
two_items (float z) x y first second third = cc
two_items (boolean b) x y first second third = cc
two_items (datetime t) x y first second third = cc
two_items (table ms) x y first second third = cc
two_items (array no_items) x y first second third = cc
two_items (array (item d no_items)) x y first second third = cc
two_items (array (item d (item e no_items))) x y first second third = cc
two_items (array (item d (item e (item f ds)))) x y first second third = cc

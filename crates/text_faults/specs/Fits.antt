-- Whether what a key holds is what is wanted there.
use Rattle.std.specs.Prelude.{ℕ, ℤ, pos, negsuc, Bool, true, false, not, ◌==◌, ◌&&◌, ◌||◌, nat_le, List}
use Rattle.std.specs.Prelude.{Option, Some, None}
use Rattle.std.specs.Prelude.{is_some, is_none}
use Rattle.toml.specs.Data.{Data, at, as_bool, as_integer, as_str, as_array}
use Rattle.text_faults.specs.declared.kind.Group.{Group}
use Rattle.text_faults.specs.declared.row.Wants.{Wants}
use Rattle.text_faults.specs.declared.row.Wants.TheVariants.{Number, NumberOrNothing, Bytes, BytesOrNothing, Name}
use Rattle.text_faults.specs.declared.row.Wants.TheVariants.{NameOrNothing, FlagOrNothing, Members, Tables, Ids, Hex}
use Rattle.text_faults.specs.declared.row.Wants.TheVariants.{Nothing, Letter, Excepts, Rounds, Bound}
use Rattle.text_faults.specs.Kinds.{named}

-- a number from 0 to this one
abbrev pub is_whole : ℕ → Option ℤ → Bool
is_whole most None = false
is_whole most (Some (pos n)) = nat_le n most
is_whole most (Some (negsuc n)) = false

abbrev pub is_number : ℕ → Data → Bool
is_number most d = is_whole most (as_integer d)

-- an array of two numbers of a byte each
abbrev pub is_item : Option Data → Bool
is_item None = false
is_item (Some d) = is_number 255 d

abbrev pub is_pair : Data → Bool
is_pair d = is_item (at 0 d) && (is_item (at 1 d) && is_none (at 2 d))

-- the name of a kind of the group
abbrev pub is_one_of : Group → Option (List ℕ) → Bool
is_one_of group None = false
is_one_of group (Some name) = is_some (named group name)

abbrev pub is_name : Group → Data → Bool
is_name group d = is_one_of group (as_str d)

-- how many nodes a script may have
abbrev pub is_three_or_five : Option ℤ → Bool
is_three_or_five None = false
is_three_or_five (Some (pos n)) = (n == 3) || (n == 5)
is_three_or_five (Some (negsuc n)) = false

abbrev pub is_count : Data → Bool
is_count d = is_three_or_five (as_integer d)

-- an array of one item at least
abbrev pub is_filled : Data → Bool
is_filled d = is_some (at 0 d)

-- a number from 1 to 4
abbrev pub is_rounds : Data → Bool
is_rounds d = is_number 4 d && not (is_number 0 d)

-- the value is what is wanted; of digits, commands and letters without a name other keys decide
abbrev pub holds : Wants → Data → Bool
holds (Number most) d = is_number most d
holds (NumberOrNothing most) d = is_number most d
holds Bytes d = is_pair d
holds BytesOrNothing d = is_pair d
holds (Name group) d = is_name group d
holds (NameOrNothing group) d = is_name group d
holds FlagOrNothing d = is_some (as_bool d)
holds Members d = is_count d
holds Tables d = is_some (as_array d)
holds Ids d = is_some (as_array d)
holds Hex d = false
holds Nothing d = false
holds Letter d = false
holds Excepts d = is_filled d
holds Rounds d = is_rounds d
holds Bound d = false

-- nothing may be there
abbrev pub may_lack : Wants → Bool
may_lack (NumberOrNothing most) = true
may_lack BytesOrNothing = true
may_lack (NameOrNothing group) = true
may_lack FlagOrNothing = true
may_lack Tables = true
may_lack Ids = true
may_lack Nothing = true
may_lack Excepts = true
may_lack Rounds = true
may_lack _ = false

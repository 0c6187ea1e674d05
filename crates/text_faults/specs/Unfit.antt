-- Where a fault is, and that what is there isn't what is wanted.
use Rattle.std.specs.Prelude.{◌≡◌, ℕ, ◌-◌, List, Option, Some, None, codes, slice_get}
use Rattle.toml.specs.Data.{Data, get}
use Rattle.text_faults.specs.declared.row.Key.{Key}
use Rattle.text_faults.specs.declared.fault.Place.{Place}
use Rattle.text_faults.specs.declared.fault.Place.TheVariants as places
use Rattle.text_faults.specs.declared.fault.Fault.{Fault}
use Rattle.text_faults.specs.Rows.{key_name}
use Rattle.text_faults.specs.Items.{items_at}
use Rattle.text_faults.specs.Faults.{fault_of}

-- the item at an index of the array under a key
abbrev pub item_under : Data → List ℕ → ℕ → Option Data
item_under whole key index = slice_get (items_at whole key) index

-- what a key of a table holds, if the table is there
abbrev pub under : List ℕ → Option Data → Option Data
under key None = None
under key (Some d) = get key d

-- the table by this number that an event excepts, if the event is there
abbrev pub excepted : ℕ → Option Data → Option Data
excepted k None = None
excepted k (Some d) = item_under d (codes "except") k

-- the table, or the modem's id, at a place of a text
abbrev pub table_of : Data → Place → Option Data
table_of whole places.Whole = Some whole
table_of whole (places.Modem n) = item_under whole (codes "modems") n
table_of whole (places.Command n) = item_under whole (codes "command") (n - 1)
table_of whole (places.Event n) = item_under whole (codes "event") n
table_of whole (places.Offered n) = under (codes "command") (item_under whole (codes "event") n)
table_of whole (places.Excepted n k) = excepted k (item_under whole (codes "event") n)

-- what a key holds there, or the id itself
abbrev pub held_at : Place → Key → Data → Option Data
held_at (places.Modem n) key d = Some d
held_at _ key d = get (key_name key) d

-- the fault is the one of what its key holds at its place
abbrev pub IsUnfit : Data → Fault → Type 0
IsUnfit whole f =
    (d : Data) × (table_of whole f.place ≡ Some d) × (fault_of f.place f.kind f.key f.wants (held_at f.place f.key d) ≡ Some f)

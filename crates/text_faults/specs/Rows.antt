-- The keys of each kind of table, and what is wanted there.
use Rattle.std.specs.Prelude.{ℕ, List, [], ◌∷◌, Option, Some, None, codes}
use Rattle.text_faults.specs.declared.kind.Kind.{Kind}
use Rattle.text_faults.specs.declared.kind.Kind.TheVariants as kinds
use Rattle.text_faults.specs.declared.kind.Group.TheVariants.{Commands, Services, Phys, Events, Notes}
use Rattle.text_faults.specs.declared.row.Choice.{Choice}
use Rattle.text_faults.specs.declared.row.Choice.TheVariants.{Naming, OfLetter}
use Rattle.text_faults.specs.declared.row.Key.{Key}
use Rattle.text_faults.specs.declared.row.Key.TheVariants as keys
use Rattle.text_faults.specs.declared.row.Wants.{Wants}
use Rattle.text_faults.specs.declared.row.Wants.TheVariants as wants

-- the key as it is written
abbrev pub key_name : Key → List ℕ
key_name keys.Members = codes "members"
key_name keys.Modems = codes "modems"
key_name keys.Event = codes "event"
key_name keys.Command = codes "command"
key_name keys.Id = codes "id"
key_name keys.Kind = codes "kind"
key_name keys.Ch = codes "ch"
key_name keys.Ucd = codes "ucd"
key_name keys.Phy = codes "phy"
key_name keys.ShortMax = codes "short_max"
key_name keys.Ranging = codes "ranging"
key_name keys.Data = codes "data"
key_name keys.Base = codes "base"
key_name keys.Modem = codes "modem"
key_name keys.Tag = codes "tag"
key_name keys.Last = codes "last"
key_name keys.Service = codes "service"
key_name keys.Priority = codes "priority"
key_name keys.Size = codes "size"
key_name keys.Interval = codes "interval"
key_name keys.Jitter = codes "jitter"
key_name keys.Sid = codes "sid"
key_name keys.N = codes "n"
key_name keys.Sent = codes "sent"
key_name keys.Len = codes "len"
key_name keys.NotBefore = codes "not_before"
key_name keys.Ack = codes "ack"
key_name keys.Keep = codes "keep"
key_name keys.Node = codes "node"
key_name keys.To = codes "to"
key_name keys.Place = codes "place"
key_name keys.Value = codes "value"
key_name keys.Letter = codes "letter"
key_name keys.Now = codes "now"
key_name keys.Output = codes "output"
key_name keys.Near = codes "near"
key_name keys.Slot = codes "slot"
key_name keys.Random = codes "random"
key_name keys.From = codes "from"
key_name keys.Note = codes "note"
key_name keys.Ballot = codes "ballot"
key_name keys.Again = codes "again"
key_name keys.Except = codes "except"
key_name keys.Rounds = codes "rounds"

-- numbers of so many bits
abbrev pub byte : Wants
byte = wants.Number 255

abbrev pub short : Wants
short = wants.Number 65535

abbrev pub word : Wants
word = wants.Number 4294967295

abbrev pub slot : Wants
slot = wants.Number 9223372036854775807

abbrev pub long : Wants
long = wants.Number 18446744073709551615

-- a node's number
abbrev pub member : Wants
member = wants.Number 4

abbrev pub last : Wants
last = wants.NumberOrNothing 18446744073709551615

abbrev pub keep : Wants
keep = wants.NumberOrNothing 65535

-- the same, or nothing
abbrev pub any_member : Wants
any_member = wants.NumberOrNothing 4

-- the keys of a name beside those of which one has to be there
abbrev pub further : List (Key × Wants)
further = (keys.Ballot, last) ∷ (keys.Place, last) ∷ (keys.Again, wants.FlagOrNothing) ∷ []

-- the keys of a size, and of when something of that size is due
abbrev pub sized : List (Key × Wants)
sized = (keys.Size, short) ∷ (keys.Interval, word) ∷ (keys.Jitter, word) ∷ (keys.Base, long) ∷ []

-- the keys that a table of this kind has
abbrev pub rows_of : Kind → List (Key × Wants)
rows_of kinds.Plan = (keys.Command, wants.Tables) ∷ []
rows_of kinds.Script = (keys.Members, wants.Members) ∷ (keys.Modems, wants.Ids) ∷ (keys.Event, wants.Tables) ∷ []
rows_of kinds.Command = (keys.Kind, wants.Name Commands) ∷ []
rows_of kinds.Event = (keys.Kind, wants.Name Events) ∷ []
rows_of kinds.Channel =
    (keys.Ch, byte) ∷ (keys.Ucd, byte) ∷ (keys.Phy, wants.NameOrNothing Phys) ∷ (keys.ShortMax, short)
    ∷ (keys.Ranging, wants.Bytes) ∷ (keys.Data, wants.Bytes) ∷ (keys.Base, long) ∷ []
rows_of kinds.Change =
    (keys.Ch, byte) ∷ (keys.Ucd, byte) ∷ (keys.Phy, wants.Name Phys) ∷ (keys.ShortMax, short)
    ∷ (keys.Ranging, wants.Bytes) ∷ (keys.Data, wants.Bytes) ∷ []
rows_of kinds.Flow =
    (keys.Ch, byte) ∷ (keys.Modem, word) ∷ (keys.Tag, word) ∷ (keys.Last, last) ∷ (keys.Service, wants.Name Services) ∷ []
rows_of kinds.BestEffort = (keys.Priority, byte) ∷ []
rows_of kinds.Ugs = sized
rows_of kinds.Station = sized
rows_of kinds.Initial = sized
rows_of kinds.Poll = (keys.Interval, word) ∷ (keys.Jitter, word) ∷ (keys.Base, long) ∷ []
rows_of kinds.Drop = (keys.Ch, byte) ∷ (keys.Sid, short) ∷ []
rows_of kinds.Request = (keys.Ch, byte) ∷ (keys.Sid, short) ∷ (keys.N, short) ∷ (keys.Sent, long) ∷ []
rows_of kinds.Cut =
    (keys.Ch, byte) ∷ (keys.Len, short) ∷ (keys.NotBefore, long) ∷ (keys.Ack, long) ∷ (keys.Keep, keep)
    ∷ (keys.Ranging, wants.BytesOrNothing) ∷ (keys.Data, wants.BytesOrNothing) ∷ []
rows_of kinds.Lead = (keys.Node, long) ∷ []
rows_of kinds.Offer = (keys.Node, long) ∷ []
rows_of kinds.Tell = (keys.Node, long) ∷ (keys.To, member) ∷ (keys.Place, long) ∷ []
rows_of kinds.Numbered = (keys.Letter, long) ∷ []
rows_of kinds.Named = (keys.From, any_member) ∷ (keys.To, any_member) ∷ (keys.Note, wants.NameOrNothing Notes) ∷ further
rows_of kinds.Unnamed = (keys.Letter, wants.Letter) ∷ further
rows_of kinds.DeliverAll = (keys.Except, wants.Excepts) ∷ (keys.Rounds, wants.Rounds) ∷ []
rows_of kinds.Excepted =
    (keys.From, any_member) ∷ (keys.To, any_member) ∷ (keys.Note, wants.NameOrNothing Notes) ∷ (keys.Ballot, last) ∷ (keys.Place, last) ∷ []
rows_of kinds.Boundless = (keys.To, wants.Bound) ∷ []
rows_of kinds.Crash = (keys.Node, long) ∷ []
rows_of kinds.Restart = (keys.Node, long) ∷ []
rows_of kinds.Release = (keys.Node, long) ∷ (keys.Now, long) ∷ []
rows_of kinds.Hear = (keys.Modem, long) ∷ (keys.Output, long) ∷ (keys.Near, slot) ∷ []
rows_of kinds.Want = (keys.Modem, long) ∷ (keys.Ch, byte) ∷ (keys.Sid, short) ∷ (keys.N, short) ∷ []
rows_of kinds.Tick = (keys.Modem, long) ∷ (keys.Ch, byte) ∷ (keys.Slot, slot) ∷ (keys.Random, long) ∷ []
rows_of _ = []

-- by what a table of this kind is of a further kind
abbrev pub choice_of : Kind → Option Choice
choice_of kinds.Command = Some (Naming keys.Kind Commands)
choice_of kinds.Event = Some (Naming keys.Kind Events)
choice_of kinds.Flow = Some (Naming keys.Service Services)
choice_of kinds.Deliver = Some OfLetter
choice_of kinds.DeliverThenCrash = Some OfLetter
choice_of _ = None

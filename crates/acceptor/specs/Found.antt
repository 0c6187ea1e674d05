-- What is known of the content of records: what a reopen may find.
use Rattle.std.specs.Prelude.{◌≡◌, ◌⊎◌, ◌↔◌, Some, Result, Ok, Err}
use Rattle.acceptor.specs.Content.{Content, Write, after_write}
use Rattle.acceptor.specs.declared.records.RecordsFault.{RecordsFault}
use Rattle.acceptor.specs.declared.records.RecordsFault.TheVariants.{Refused, Broken, OutOfMemory}

-- what a reopen may find
abbrev pub Findable : Type 1
Findable = Content → Type 0

-- the records hold this content: a reopen may find it, and no other
abbrev pub Holds : Findable → Content → Type 0
Holds found c = ∥ found c ∥₁ × ((d : Content) → found d → d ≡ c)

-- a reopen finds no other than the two
abbrev pub HoldsEither : Findable → Content → Content → Type 0
HoldsEither found a b = (d : Content) → found d → (d ≡ a) ⊎ (d ≡ b)

-- nothing else may be found than before
abbrev pub AddsNothing : Findable → Findable → Type 0
AddsNothing old new = (d : Content) → new d → old d

-- the same may be found as before
abbrev pub FindsSame : Findable → Findable → Type 0
FindsSame old new = (d : Content) → old d ↔ new d

-- a call that writes nothing leaves what may be found, and one that breaks the store adds nothing to it
abbrev pub Keeps : {T : Type 0} → Result T RecordsFault → Findable → Findable → Type 0
Keeps (Ok _) old new = FindsSame old new
Keeps (Err Refused) old new = FindsSame old new
Keeps (Err OutOfMemory) old new = FindsSame old new
Keeps (Err Broken) old new = AddsNothing old new

-- the records hold the content with this write
abbrev pub HasMade : Findable → Findable → Write → Type 0
HasMade old new write = (c : Content) → Holds old c → Holds new (after_write c (Some write))

-- the records hold the content with this write or without it
abbrev pub MayHaveMade : Findable → Findable → Write → Type 0
MayHaveMade old new write = (c : Content) → Holds old c → HoldsEither new c (after_write c (Some write))

-- whatever may be found was to be found before, or is that with this write
abbrev pub AddsOnly : Findable → Findable → Write → Type 0
AddsOnly old new write = (d : Content) → new d → ∥ (old d ⊎ ((c : Content) × old c × (d ≡ after_write c (Some write)))) ∥₁

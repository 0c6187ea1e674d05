-- What is told of commands, and of a plan, by the text and by the picture of their MAPs.
use Rattle.std.specs.Prelude.{ℕ, List, [], ◌∷◌, ◌++◌, Option, Some, None}
use Rattle.std.specs.Io.KnownBytes.{Appends}
use Rattle.grant_machine.specs.declared.command.Command.{Command}
use Rattle.grant_machine.specs.Runs.{outputs_of}
use Rattle.plan_account.specs.Accounts.{Rows, IsAccount}
use Rattle.map_text.specs.Texts.{plan_text}
use Rattle.map_picture.specs.declared.sent.Sent.{Sent}
use Rattle.map_picture.specs.Pictures.{IsPictureOf}
use Rattle.script_text.specs.Plan.{IsPlan}

-- what is printed is the text of the account of these commands
abbrev pub TellsCommands : List Command → Option (List ℕ) → Option (List ℕ) → Type 0
TellsCommands cs old new = (a : Rows) × IsAccount cs (outputs_of cs) a × Appends old new (plan_text a)

-- what is printed is a picture of the account of these commands, and of what modems transmitted
abbrev pub DrawsCommands : List Command → List Sent → Option (List ℕ) → Option (List ℕ) → Type 0
DrawsCommands cs ts old new =
    (a : Rows) × (svg : List ℕ) × IsAccount cs (outputs_of cs) a × IsPictureOf a ts svg × Appends old new (svg ++ 10 ∷ [])

-- so of the commands of a plan, where its text is known: nothing is transmitted in a plan
abbrev pub TellsMaps : Option (List ℕ) → Option (List ℕ) → Option (List ℕ) → Type 0
TellsMaps None old new = Unit {0}
TellsMaps (Some text) old new = (cs : List Command) × IsPlan text cs × TellsCommands cs old new

abbrev pub DrawsMaps : Option (List ℕ) → Option (List ℕ) → Option (List ℕ) → Type 0
DrawsMaps None old new = Unit {0}
DrawsMaps (Some text) old new = (cs : List Command) × IsPlan text cs × DrawsCommands cs [] old new

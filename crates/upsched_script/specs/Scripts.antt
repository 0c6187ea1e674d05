-- What `script` prints: a script that was read back, run, and found as asked.
use Rattle.std.specs.Prelude.{◌≡◌, ◌≢◌, ◌⊎◌, ℕ, ◌<◌, ◌≤◌, ◌^◌, List, [], ◌∷◌, ◌++◌, length, Option, Some, None}
use Rattle.std.specs.Prelude.{IfSome, option_map, codes, decimal, flat_map}
use Rattle.std.specs.Io.KnownBytes.{Appends}
use Rattle.std.specs.List.{AllByRecursion}
use Rattle.ballots.specs.declared.members.Members.{Members}
use Rattle.ballots.specs.Members.{member_count}
use Rattle.grant_machine.specs.declared.command.Command.{Command}
use Rattle.world_events.specs.declared.event.Event.{Event}
use Rattle.seats.specs.declared.answer.Answer.{Answer}
use Rattle.network_script.specs.World.{Written}
use Rattle.network_script.specs.Next.{Run}
use Rattle.script_text.specs.Script.{IsScript}
use Rattle.printed_scripts.specs.Texts.{script_text}
use Rattle.script_counts.specs.Counts.{crashes, takeovers, OffersAll}
use Rattle.script_text.specs.Plan.{IsPlan}
use Rattle.upsched_script.specs.declared.refusal.Refusal.{Refusal}
use Rattle.upsched_script.specs.declared.refusal.Refusal.TheVariants as refusal
use Rattle.upsched_ends.specs.Members.{NamesMembers}
use Rattle.upsched_ends.specs.declared.words.ScriptWords.{ScriptWords}

-- ---- words

-- numbers between commas
abbrev pub next_number : ℕ → List ℕ
next_number n = codes "," ++ decimal n

abbrev pub numbers_text : List ℕ → List ℕ
numbers_text [] = []
numbers_text (n ∷ ns) = decimal n ++ flat_map next_number ns

-- some numbers of 32 bits
abbrev pub AreIds : List ℕ → Type 0
AreIds ids = (ids ≢ []) × AllByRecursion (λ id. id < 2 ^ 32) ids

-- the ids of modems, none without the word
abbrev pub NamesIds : Option (List ℕ) → List ℕ → Type 0
NamesIds None ids = ids ≡ []
NamesIds (Some word) ids = word ≡ numbers_text ids

-- a refusal that the words deserve
abbrev pub IsOfWords : Refusal → Type 0
IsOfWords refusal.Members = Unit {0}
IsOfWords refusal.Modems = Unit {0}
IsOfWords (refusal.Takeovers wished commands) = Unit {0}
IsOfWords refusal.OtherThanAsked = ⊥
IsOfWords (refusal.Fault fault) = ⊥

-- a word names no members
abbrev pub NamesNone : List ℕ → Type 0
NamesNone word = (count : Members) → ¬ NamesMembers word count

-- the word for modems is no numbers of 32 bits between commas
abbrev pub NamesNoIds : Option (List ℕ) → Type 0
NamesNoIds word = (ids : List ℕ) → AreIds ids → ¬ NamesIds word ids

-- some takeovers need more commands than so many
abbrev pub NeedMore : (takeovers commands : ℕ) → Type 0
NeedMore takeovers commands = (0 < takeovers) × (commands ≤ takeovers)

-- the plan, where its text is known, has so many commands
abbrev pub HasCommands : Option (List ℕ) → ℕ → Type 0
HasCommands plan count = (commands : List Command) × (length commands ≡ count) × IfSome plan (λ bytes. IsPlan bytes commands)

-- a refusal of these words says what is so of them, and of the plan
abbrev pub Deserves : Option (List ℕ) → ScriptWords → Refusal → Type 0
Deserves plan words refusal.Members = NamesNone words.members.now
Deserves plan words refusal.Modems = NamesNoIds (option_map (λ word. word.now) words.modems)
Deserves plan words (refusal.Takeovers wished commands) = (wished ≡ words.takeovers) × NeedMore wished commands × HasCommands plan commands
Deserves plan words refusal.OtherThanAsked = Unit {0}
Deserves plan words (refusal.Fault fault) = Unit {0}

-- why words aren't understood: of their members, of their modems, or since the plan has too few commands for them
abbrev pub AreNotUnderstood : Option (List ℕ) → ScriptWords → Type 0
AreNotUnderstood plan words =
    NamesNone words.members.now
    ⊎ NamesNoIds (option_map (λ word. word.now) words.modems)
    ⊎ ((commands : ℕ) × NeedMore words.takeovers commands × HasCommands plan commands)

-- ---- scripts

-- these events may go so over so many fresh nodes and new modems of these ids, and the report has these crashes and
-- takeovers, and offers all commands
pub record RunsAsAsked (commands : List Command) (count : Members) (ids : List ℕ) (crashed overtaken : ℕ) (events : List Event) : Type 0 where
  pub report : List Answer
  pub world : Written
  pub run : Run (member_count count) ids events report world
  pub crashes_are : crashes events report ≡ crashed
  pub takeovers_are : takeovers events report ≡ overtaken
  pub offers : OffersAll commands events report

-- a script of these members and ids is of those that are wished for, and the text is its written one
pub record IsWrittenSo (count : Members) (ids : List ℕ) (events : List Event) (wished : Members) (wished_ids : List ℕ) (text : List ℕ) : Type 0 where
  pub members : count ≡ wished
  pub modems : ids ≡ wished_ids
  pub written : text ≡ script_text count ids events

-- the text is the written script of these members, ids and of some events, is read back as that script, and it runs as
-- asked
pub record IsAsAsked (commands : List Command) (count : Members) (ids : List ℕ) (crashed overtaken : ℕ) (text : List ℕ) : Type 0 where
  pub events : List Event
  pub script : IsScript text count ids events
  pub written : text ≡ script_text count ids events
  pub runs : RunsAsAsked commands count ids crashed overtaken events

-- the text is such a script of what the words name, and of the plan's commands, where the plan's text is known
pub record IsAskedFor (plan : Option (List ℕ)) (words : ScriptWords) (text : List ℕ) : Type 0 where
  pub commands : List Command
  pub count : Members
  pub ids : List ℕ
  pub plan_is : IfSome plan (λ bytes. IsPlan bytes commands)
  pub members : NamesMembers words.members.now count
  pub modems : NamesIds (option_map (λ word. word.now) words.modems) ids
  pub as_asked : IsAsAsked commands count ids words.crashes words.takeovers text

-- what is printed is such a text
abbrev pub PrintsAsked : Option (List ℕ) → ScriptWords → Option (List ℕ) → Option (List ℕ) → Type 0
PrintsAsked plan words old new = (text : List ℕ) × IsAskedFor plan words text × Appends old new text

-- The MAPs of a plan as text: for each channel its MAPs in order, and then what became of each of its requests.
use Rattle.std.specs.Prelude.{ℕ, ◌+◌, ◌-◌, ◌/◌, ◌%◌, ◌^◌, ◌==◌, if◌then◌else◌, List, [], ◌∷◌, ◌++◌, Option, Some, None}
use Rattle.std.specs.Prelude.{flat_map, codes, decimal}
use Rattle.plan_account.specs.declared.deed.Deed.{Deed}
use Rattle.plan_account.specs.declared.deed.Deed.TheVariants as deeds
use Rattle.plan_account.specs.declared.past.Fate.{Fate}
use Rattle.plan_account.specs.declared.past.Fate.TheVariants.{Waits, Gone, Granted}
use Rattle.plan_account.specs.declared.past.RequestRow.{RequestRow}
use Rattle.plan_account.specs.declared.past.Told.{Told}
use Rattle.plan_account.specs.declared.why.Why.{Why}
use Rattle.plan_account.specs.Accounts.{Rows, why_last}
use Rattle.plan_account.specs.Deeds.{channels_of}
use Rattle.plan_account.specs.WhyTexts.{why_words}
use Rattle.map_text.specs.Lines.{map_lines}

-- how many MAPs of a channel a deed is
abbrev pub maps_in : ℕ → Deed → ℕ
maps_in ch (deeds.Map c start len keep map) = if c == ch then 1 else 0
maps_in ch (deeds.Channel c) = 0
maps_in ch (deeds.Flow c sid modem first last kind) = 0
maps_in ch (deeds.Drop c sid) = 0
maps_in ch (deeds.Request c sid n sent) = 0
maps_in ch deeds.Other = 0

-- the lines of a deed that is a MAP of the channel, the next after so many, of a command of this number
abbrev pub deed_lines : (ch maps command : ℕ) → Deed → List ℕ
deed_lines ch maps command (deeds.Map c start len keep map) = if c == ch then map_lines ch (maps + 1) command start len map else []
deed_lines ch maps command (deeds.Channel c) = []
deed_lines ch maps command (deeds.Flow c sid modem first last kind) = []
deed_lines ch maps command (deeds.Drop c sid) = []
deed_lines ch maps command (deeds.Request c sid n sent) = []
deed_lines ch maps command deeds.Other = []

-- those of all deeds, the first of which has this number
abbrev pub maps_from : (ch maps command : ℕ) → List Deed → List ℕ
maps_from ch maps command [] = []
maps_from ch maps command (d ∷ ds) = deed_lines ch maps command d ++ maps_from ch (maps + maps_in ch d) (command + 1) ds

-- what became of a request that was sent then
abbrev pub fate_text : ℕ → Fate → List ℕ
fate_text sent (Waits why) = codes "still waits"
fate_text sent Gone = codes "dropped"
fate_text sent (Granted map start) = codes "map " ++ (decimal map ++ (codes " after " ++ decimal (start - sent)))

abbrev pub request_line : RequestRow → List ℕ
request_line r =
    codes "request " ++ (decimal r.command ++ (codes " sid " ++ (decimal (r.key % 2 ^ 16) ++ (codes " n " ++ (decimal r.n
    ++ (codes " sent " ++ (decimal r.sent ++ (codes " " ++ (fate_text r.sent r.fate ++ codes "\n")))))))))

-- the MAP that had it wait last
abbrev pub told_text : Option Told → List ℕ
told_text None = []
told_text (Some t) = codes "told to wait at " ++ (decimal t.start ++ codes ", ")

-- why it waits, or waited last
abbrev pub why_line : Option Told → Option Why → List ℕ
why_line told None = []
why_line told (Some why) = codes "        " ++ (told_text told ++ (why_words why ++ codes "\n"))

-- the lines of a request, if it is one of the channel
abbrev pub request_lines : ℕ → RequestRow → List ℕ
request_lines ch r = if r.key / 2 ^ 16 == ch then request_line r ++ why_line r.told (why_last r.told r.fate) else []

-- a channel: its MAPs, then its requests. Commands are numbered from 1
abbrev pub channel_text : Rows → ℕ → List ℕ
channel_text a ch = maps_from ch 0 1 a.deeds ++ flat_map (request_lines ch) a.requests

abbrev pub plan_text : Rows → List ℕ
plan_text a = flat_map (channel_text a) (channels_of a.deeds)

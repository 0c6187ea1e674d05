-- What is told of a lease as JSON. A time and a delay are texts in decimal, and so is a mean, in hundredths.
use Rattle.std.specs.Prelude.{◌≡◌, ℕ, ◌/◌, ◌%◌, ◌^◌, ◌==◌, if◌then◌else◌, List, [], ◌∷◌, ◌++◌, map, Option, Some, None}
use Rattle.std.specs.Prelude.{codes, String, string_bytes}
use Rattle.std.specs.Global.{Global}
use Rattle.std.specs.List.{AllZip}
use Rattle.serde_json.specs.Data.{Data, object, Members, no_members}
use Rattle.json_outputs.specs.Fields.{with_number, with_text, with_time}
use Rattle.json_outputs.specs.Texts.{IsTextOf}
use Rattle.json_stats.specs.Tallies.{with_first}
use Rattle.map_stats.specs.declared.rows.FlowRow.{FlowRow}
use Rattle.map_stats.specs.declared.summary.Delays.{Delays}
use Rattle.map_stats.specs.declared.summary.Summary.{Summary}
use Rattle.map_stats.specs.declared.summary.Waits.{Waits}
use Rattle.map_stats.specs.FlowTexts.{how_many, gone, fraction}
use Rattle.plan_account.specs.WhyTexts.{why_name}

-- what is told, and of which lease: a later one of its SID has its first minislot
abbrev pub flow_members : List ℕ → ℕ → Members
flow_members row lease =
    with_first (lease % 2 ^ 64) (with_number (codes "sid") (lease / 2 ^ 64 % 2 ^ 16) (with_number (codes "channel") (lease / 2 ^ 80)
    (with_text (codes "row") row no_members)))

-- the requests that were accepted, those granted, whether one waits, and those that went with their flow
abbrev pub requests_data : ℕ → Summary → Data
requests_data lease s = object
    (with_number (codes "gone") (gone s) (with_number (codes "waiting") (how_many s.waits) (with_number (codes "granted") s.delays.count
    (with_number (codes "requests") s.asked (flow_members (codes "requests") lease)))))

-- how long the granted ones waited
abbrev pub delays_data : ℕ → Delays → Data
delays_data lease d = object
    (with_time (codes "longest") d.longest (with_time (codes "p99") d.most (with_text (codes "mean") (fraction d.sum d.count)
    (flow_members (codes "delay") lease))))

-- the request that waits, and why
abbrev pub waits_data : ℕ → Waits → Data
waits_data lease w = object
    (with_text (codes "why") (why_name w.why) (with_time (codes "sent") w.sent (with_number (codes "minislots") w.n
    (flow_members (codes "waits") lease))))

-- the windows that have passed, and those in which no grant began
abbrev pub windows_data : ℕ → Summary → Data
windows_data lease s = object (with_number (codes "missed") s.missed (with_number (codes "windows") s.windows (flow_members (codes "windows") lease)))

-- each of these where there is something to tell, as there is a line
abbrev pub requests_row : ℕ → Summary → List Data
requests_row lease s = if s.asked == 0 then [] else requests_data lease s ∷ []

abbrev pub delays_row : ℕ → Delays → List Data
delays_row lease d = if d.count == 0 then [] else delays_data lease d ∷ []

abbrev pub waits_row : ℕ → Option Waits → List Data
waits_row lease None = []
waits_row lease (Some w) = waits_data lease w ∷ []

abbrev pub windows_row : ℕ → Summary → List Data
windows_row lease s = if s.windows == 0 then [] else windows_data lease s ∷ []

abbrev pub flow_data : FlowRow → List Data
flow_data row =
    requests_row row.lease row.summary ++ (delays_row row.lease row.summary.delays ++ (waits_row row.lease row.summary.waits
    ++ windows_row row.lease row.summary))

-- the texts of these values are added behind others
abbrev pub AddsTexts : List Data → List (String Global) → List (String Global) → Type 0
AddsTexts ds old new = (more : List (String Global)) × (new ≡ old ++ more) × AllZip IsTextOf ds (map string_bytes more)

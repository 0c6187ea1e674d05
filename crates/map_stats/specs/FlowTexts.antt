-- What is told of a lease as lines. Numbers are decimal, times and delays in minislots.
use Rattle.std.specs.Prelude.{ℕ, ◌-◌, ◌*◌, ◌/◌, ◌%◌, ◌^◌, ◌==◌, if◌then◌else◌, List, [], ◌∷◌, ◌++◌, Option, Some, None}
use Rattle.std.specs.Prelude.{codes, decimal}
use Rattle.map_stats.specs.declared.rows.FlowRow.{FlowRow}
use Rattle.map_stats.specs.declared.summary.Delays.{Delays}
use Rattle.map_stats.specs.declared.summary.Summary.{Summary}
use Rattle.map_stats.specs.declared.summary.Waits.{Waits}
use Rattle.map_stats.specs.Texts.{first_words}
use Rattle.plan_account.specs.WhyTexts.{why_name}

abbrev pub flow_head : ℕ → List ℕ
flow_head lease =
    codes "channel " ++ (decimal (lease / 2 ^ 80) ++ (codes " sid " ++ (decimal (lease / 2 ^ 64 % 2 ^ 16) ++ first_words (lease % 2 ^ 64))))

abbrev pub how_many : Option Waits → ℕ
how_many None = 0
how_many (Some w) = 1

-- the accepted requests that were neither granted nor wait
abbrev pub gone : Summary → ℕ
gone s = s.asked - s.delays.count - how_many s.waits

-- the requests that were accepted, those granted, whether one waits, and those that went with their flow
abbrev pub requests_line : ℕ → Summary → List ℕ
requests_line lease s =
    if s.asked == 0 then []
    else flow_head lease ++ (codes " requests " ++ (decimal s.asked ++ (codes " granted " ++ (decimal s.delays.count ++ (codes " waiting "
    ++ (decimal (how_many s.waits) ++ (codes " gone " ++ (decimal (gone s) ++ 10 ∷ []))))))))

-- a fraction, rounded down to hundredths
abbrev pub fraction : ℕ → ℕ → List ℕ
fraction whole count =
    decimal (whole / count) ++ (codes "." ++ (decimal (whole % count * 10 / count) ++ decimal (whole % count * 100 / count % 10)))

abbrev pub delays_line : ℕ → Delays → List ℕ
delays_line lease d =
    if d.count == 0 then []
    else flow_head lease ++ (codes " delay mean " ++ (fraction d.sum d.count ++ (codes " p99 " ++ (decimal d.most
    ++ (codes " longest " ++ (decimal d.longest ++ 10 ∷ []))))))

-- the request that waits, and why
abbrev pub waits_line : ℕ → Option Waits → List ℕ
waits_line lease None = []
waits_line lease (Some w) =
    flow_head lease ++ (codes " waits " ++ (decimal w.n ++ (codes " sent " ++ (decimal w.sent ++ (codes " " ++ (why_name w.why ++ 10 ∷ []))))))

-- the windows that have passed, and those in which no grant began
abbrev pub windows_line : ℕ → Summary → List ℕ
windows_line lease s =
    if s.windows == 0 then []
    else flow_head lease ++ (codes " windows " ++ (decimal s.windows ++ (codes " missed " ++ (decimal s.missed ++ 10 ∷ []))))

abbrev pub flow_lines : FlowRow → List ℕ
flow_lines row =
    (requests_line row.lease row.summary ++ delays_line row.lease row.summary.delays)
    ++ (waits_line row.lease row.summary.waits ++ windows_line row.lease row.summary)

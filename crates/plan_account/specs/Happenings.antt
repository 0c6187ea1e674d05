-- What deeds tell of flows: pairs of a key, for a SID of a channel, and what happens there.
use Rattle.std.specs.Prelude.{ℕ, ◌+◌, ◌-◌, ◌*◌, ◌^◌, ◌==◌, ◌&&◌, not, Bool, if◌then◌else◌, max, List, [], ◌∷◌, ◌++◌}
use Rattle.std.specs.Prelude.{flat_map, fold, length}
use Rattle.std.specs.List.{filter}
use Rattle.map_body.specs.declared.element.Element.{Element}
use Rattle.map_body.specs.declared.interval.Interval.{Interval}
use Rattle.map_body.specs.Iucs.{answers_request, request}
use Rattle.map_body.specs.Sids.{everybody}
use Rattle.plan_account.specs.declared.deed.Deed.{Deed}
use Rattle.plan_account.specs.declared.deed.Deed.TheVariants as deeds
use Rattle.plan_account.specs.declared.happening.Happening.{Happening}
use Rattle.plan_account.specs.declared.happening.Happening.TheVariants.{Leased, Asked, Dropped, Given, Waits, Mapped}
use Rattle.plan_account.specs.declared.reach.Left.{Left}
use Rattle.plan_account.specs.Shown.{Shown}

abbrev pub key_of : (ch sid : ℕ) → ℕ
key_of ch sid = ch * 2 ^ 16 + sid

-- an interval of a MAP, unless it is everybody's
abbrev pub given_by : (ch start : ℕ) → Interval → List (ℕ × Happening)
given_by ch start i = if i.sid == everybody then [] else (key_of ch i.sid, Given (start + i.from) (answers_request i.iuc)) ∷ []

-- an element behind the Null, if it tells that a request waits
abbrev pub waits_by : (ch : ℕ) → Element → List (ℕ × Happening)
waits_by ch e = if answers_request e.iuc then (key_of ch e.sid, Waits) ∷ [] else []

-- an interval is free: everybody may ask in it, which isn't so of an opening for first ranging
abbrev pub is_free : Interval → Bool
is_free i = (i.sid == everybody) && (i.iuc == request)

-- the longest run of free minislots, with one interval more
abbrev pub longer : ℕ → Interval → ℕ
longer gap i = if is_free i then max gap (i.to - i.from) else gap

abbrev pub gap_of : List Interval → ℕ
gap_of found = fold longer 0 found

-- how many are placed: grants, polls and openings
abbrev pub placed_in : List Interval → ℕ
placed_in found = length (filter (λ i. not (is_free i)) found)

-- what a MAP left to requests, of which its cut kept so many minislots free
abbrev pub left_by : (keep : ℕ) → List Interval → Left
left_by keep found = record { gap = gap_of found; placed = placed_in found; keep = keep }

-- a MAP: its intervals, then that it is there, and then the requests that it has wait
abbrev pub mapped : (ch start len keep : ℕ) → Shown → List (ℕ × Happening)
mapped ch start len keep m =
    (flat_map (given_by ch start) m.intervals ++ (key_of ch 0, Mapped start (start + len) (left_by keep m.intervals)) ∷ []) ++ flat_map (waits_by ch) m.waiting

-- what the deed of a command of this number tells
abbrev pub tells : ℕ → Deed → List (ℕ × Happening)
tells command (deeds.Flow ch sid modem first last kind) = (key_of ch sid, Leased command modem first last kind) ∷ []
tells command (deeds.Drop ch sid) = (key_of ch sid, Dropped) ∷ []
tells command (deeds.Request ch sid n sent) = (key_of ch sid, Asked command n sent) ∷ []
tells command (deeds.Map ch start len keep m) = mapped ch start len keep m
tells command (deeds.Channel ch) = []
tells command deeds.Other = []

-- what deeds tell in order, the first of a command of this number
abbrev pub tells_from : ℕ → List Deed → List (ℕ × Happening)
tells_from command [] = []
tells_from command (d ∷ ds) = tells command d ++ tells_from (command + 1) ds

-- those of a plan: commands are numbered from 1
abbrev pub told_by : List Deed → List (ℕ × Happening)
told_by ds = tells_from 1 ds

-- What the MAPs among deeds give: pairs of a key and minislots.
use Rattle.std.specs.Prelude.{ℕ, ◌+◌, ◌-◌, ◌*◌, ◌^◌, ◌==◌, if◌then◌else◌, List, [], ◌∷◌, ◌++◌, map, flat_map}
use Rattle.map_body.specs.declared.interval.Interval.{Interval}
use Rattle.map_body.specs.Sids.{everybody}
use Rattle.plan_account.specs.declared.deed.Deed.{Deed}
use Rattle.plan_account.specs.declared.deed.Deed.TheVariants as deeds
use Rattle.plan_account.specs.FlowsHeld.{since_at}
use Rattle.plan_account.specs.Happenings.{key_of, told_by}
use Rattle.plan_account.specs.Pasts.{at_key}

-- a MAP: its channel, and how long it is
abbrev pub maps_in : Deed → List (ℕ × ℕ)
maps_in (deeds.Map ch start len keep m) = (ch, len) ∷ []
maps_in (deeds.Channel ch) = []
maps_in (deeds.Flow ch sid modem first last kind) = []
maps_in (deeds.Drop ch sid) = []
maps_in (deeds.Request ch sid n sent) = []
maps_in deeds.Other = []

-- an interval of a channel: its key by channel and use, and how long it is
abbrev pub use_given : ℕ → Interval → ℕ × ℕ
use_given ch i = (ch * 16 + i.iuc, i.to - i.from)

-- a use of a SID's lease as one number
abbrev pub sid_key : (ch sid since iuc : ℕ) → ℕ
sid_key ch sid since iuc = ((ch * 2 ^ 14 + sid) * 2 ^ 64 + since) * 16 + iuc

-- the same by channel, SID, lease and use, unless it is everybody's, where this says what lease each SID has
abbrev pub sid_given : (since : ℕ → ℕ) → ℕ → Interval → List (ℕ × ℕ)
sid_given since ch i = if i.sid == everybody then [] else (sid_key ch i.sid (since (key_of ch i.sid)) i.iuc, i.to - i.from) ∷ []

-- those of the intervals of a MAP
abbrev pub uses_in : Deed → List (ℕ × ℕ)
uses_in (deeds.Map ch start len keep m) = map (use_given ch) m.intervals
uses_in (deeds.Channel ch) = []
uses_in (deeds.Flow ch sid modem first last kind) = []
uses_in (deeds.Drop ch sid) = []
uses_in (deeds.Request ch sid n sent) = []
uses_in deeds.Other = []

abbrev pub sids_in : (since : ℕ → ℕ) → Deed → List (ℕ × ℕ)
sids_in since (deeds.Map ch start len keep m) = flat_map (sid_given since ch) m.intervals
sids_in since (deeds.Channel ch) = []
sids_in since (deeds.Flow ch sid modem first last kind) = []
sids_in since (deeds.Drop ch sid) = []
sids_in since (deeds.Request ch sid n sent) = []
sids_in since deeds.Other = []

-- what lease the SID of a key has behind deeds
abbrev pub since_behind : List Deed → ℕ → ℕ
since_behind ds q = since_at (at_key (told_by ds) q).past

-- those of deeds in order
abbrev pub maps_of : List Deed → List (ℕ × ℕ)
maps_of ds = flat_map maps_in ds

abbrev pub uses_of : List Deed → List (ℕ × ℕ)
uses_of ds = flat_map uses_in ds

abbrev pub sids_from : (before : List Deed) → List Deed → List (ℕ × ℕ)
sids_from before [] = []
sids_from before (d ∷ ds) = sids_in (since_behind before) d ++ sids_from (before ++ d ∷ []) ds

abbrev pub sids_of : List Deed → List (ℕ × ℕ)
sids_of ds = sids_from [] ds

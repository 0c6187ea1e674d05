-- What has happened to flows, in tables by channel and by key.
use Rattle.std.specs.Prelude.{◌≡◌, ℕ, ◌/◌, ◌^◌, ◌==◌, if◌then◌else◌, List, length, fold, Option, Some, None}
use Rattle.std.specs.Prelude.{unwrap_or}
use Rattle.std.specs.Ordering.{nat_cmp}
use Rattle.std.specs.BTreeMap.{get}
use Rattle.plan_account.specs.declared.deed.Deed.{Deed}
use Rattle.plan_account.specs.declared.happening.Happening.{Happening}
use Rattle.plan_account.specs.declared.happening.Happening.TheVariants.{Leased, Asked, Dropped, Given, Waits, Mapped}
use Rattle.plan_account.specs.declared.reach.Reach.{Reach}
use Rattle.plan_account.specs.declared.flows.Flows.{Flows}
use Rattle.plan_account.specs.Happenings.{told_by}
use Rattle.plan_account.specs.Pasts.{Past, At, at_step, at_key, no_reach, no_past, past_step}

-- what the tables have at a key
abbrev pub at_in : Flows → ℕ → At
at_in s q = record { reach = unwrap_or (get nat_cmp s.reaches (q / 2 ^ 16)) no_reach; past = get nat_cmp s.pasts q }

-- what the last lease at a key is known by
abbrev pub since_at : Option Past → ℕ
since_at None = 0
since_at (Some p) = p.since

-- the same by the tables
abbrev pub since_in : Flows → ℕ → ℕ
since_in s q = since_at (at_in s q).past

-- the tables hold what these deeds tell
pub record HoldsFlows (ds : List Deed) (s : Flows) : Type 0 where
  pub count : s.count ≡ length ds
  pub at : (q : ℕ) → at_in s q ≡ at_key (told_by ds) q

-- with more happenings
abbrev pub Grows : List (ℕ × Happening) → Flows → Flows → Type 0
Grows told old new = (new.count ≡ old.count) × ((q : ℕ) → at_in new q ≡ fold (at_step q) (at_in old q) told)

-- the past at a key, where something happens to the flow of one
abbrev pub past_at_step : ℕ → Reach → Option Past → ℕ → Happening → Option Past
past_at_step q reach past key h = if key == q then Some (past_step reach (unwrap_or past (no_past key)) h) else past

-- it happens to a flow, and not to a channel
abbrev pub IsOfFlow : Happening → Type 0
IsOfFlow (Leased command modem first last kind) = Unit {0}
IsOfFlow (Asked command n sent) = Unit {0}
IsOfFlow Dropped = Unit {0}
IsOfFlow (Given at answers) = Unit {0}
IsOfFlow Waits = Unit {0}
IsOfFlow (Mapped start end left) = ⊥

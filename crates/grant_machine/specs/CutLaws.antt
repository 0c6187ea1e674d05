-- What holds of every cut by what it asks: the minislots that it keeps, and its back-offs.
use Rattle.std.specs.Prelude.{◌≡◌, ◌≢◌, ℕ, suc, ◌+◌, ◌-◌, ◌<◌, ◌≤◌, ◌||◌, min, Bool, List, ◌∷◌, ◌++◌, length, take}
use Rattle.std.specs.Prelude.{sum_by, Option, Some, slice_get}
use Rattle.std.specs.List.{filter, list_any, AllByRecursion, Contains}
use Rattle.std.specs.List.Sorted.{IsStrictlyIncreasing}
use Rattle.map_body.specs.declared.element.Element.{Element}
use Rattle.map_body.specs.Sids.{everybody}
use Rattle.map_body.specs.Iucs as iucs
use Rattle.map_body.specs.Body.{Body}
use Rattle.map_body.specs.Layout.{IsBody}
use Rattle.map_body.specs.Cell.{IsCell}
use Rattle.flow_state.specs.declared.flow.Waiting.{Waiting}
use Rattle.flow_state.specs.Rows.{Rows, Table, table_of, last_of}
use Rattle.grant_machine_parts.specs.declared.settings.CutSettings.{CutSettings}
use Rattle.grant_machine_parts.specs.declared.placing.Cause.TheVariants.{Sent}
use Rattle.grant_machine_parts.specs.declared.placing.Placement.{Placement}
use Rattle.grant_machine_parts.specs.Placing.{is_window, first_fit}
use Rattle.grant_machine_parts.specs.Cutting.{Filled, end_of, in_order, is_grant_of, fill}
use Rattle.grant_machine.specs.declared.command.Command.{Command}
use Rattle.grant_machine.specs.Steps.{cut_command}
use Rattle.grant_machine.specs.Runs.{rows_after, Grant, step_grants}
use Rattle.grant_machine.specs.Laws.{IsMapAt}

-- command number k is a cut of a channel that asks this, and gives this MAP
pub record IsCutAt (cs : List Command) (k ch : ℕ) (asks : CutSettings) (start len : ℕ) (bytes : List ℕ) : Type 0 where
  pub asked : slice_get cs k ≡ Some (cut_command ch asks)
  pub given : IsMapAt cs k ch start len bytes

-- the rows before command number k, and the grants that a cut in its place places
abbrev pub rows_before : List Command → ℕ → Rows
rows_before cs k = rows_after (take k cs)

abbrev pub cut_grants : List Command → (k ch : ℕ) → CutSettings → List Grant
cut_grants cs k ch asks = step_grants (rows_before cs k) (cut_command ch asks)

-- ---- minislots that are kept

-- so many minislots are granted at due times of flows
abbrev pub window_minislots : List Grant → ℕ
window_minislots gs = sum_by (λ g. g.size) (filter (λ g. is_window g.cause) gs)

-- a minislot of a MAP is all modems', for requests
pub record IsFreeCell (map : Body) (len x : ℕ) : Type 0 where
  pub within : x < len
  pub element : Element
  pub cell : IsCell map x element
  pub sid_is : element.sid ≡ everybody
  pub iuc_is : element.iuc ≡ iucs.request

-- as many minislots as a cut keeps are all modems', or as many as due times leave, if these are fewer
abbrev pub MinislotsAreKept : Type 0
MinislotsAreKept =
    (cs : List Command) (k ch start len : ℕ) (asks : CutSettings) (bytes : List ℕ) (map : Body)
    → IsCutAt cs k ch asks start len bytes → IsBody bytes map
    → (offsets : List ℕ) × IsStrictlyIncreasing offsets
    × (min asks.keep (len - window_minislots (cut_grants cs k ch asks)) ≤ length offsets) × AllByRecursion (IsFreeCell map len) offsets

-- ---- requests of which none is held back

-- what is placed before a request's turn: due times, and the requests before it in their order
abbrev pub is_ahead : List Waiting → Placement → Bool
is_ahead before p = is_window p.cause || list_any (λ v. is_grant_of v p) before

-- where a request fits first then
abbrev pub fit_in_turn : Table → Filled → List Waiting → Waiting → Option ℕ
fit_in_turn t f before w = first_fit f.span (filter (is_ahead before) f.placements) w.n f.span.start (end_of f.span - w.n) (last_of t w.sid)

-- a waiting request has a first fit in its turn, in the MAP that a cut makes of a table
pub record HasFit (t : Table) (asks : CutSettings) (w : Waiting) (x : ℕ) : Type 0 where
  pub before : List Waiting
  pub behind : List Waiting
  pub order : in_order t t.waiting ≡ before ++ w ∷ behind
  pub fits : fit_in_turn t (fill t asks) before w ≡ Some x

-- where nothing is kept, each request that has a first fit in its turn is placed there, whole
abbrev pub NothingIsHeldBack : Type 0
NothingIsHeldBack =
    (cs : List Command) (k ch start len x : ℕ) (asks : CutSettings) (bytes : List ℕ) (t : Table) (w : Waiting)
    → IsCutAt cs k ch asks start len bytes → asks.keep ≡ 0 → table_of (rows_before cs k) ch ≡ Some t → HasFit t asks w x
    → Contains (cut_grants cs k ch asks) (record { channel = ch; sid = w.sid; start = start + x; size = w.n; cause = Sent w.sent })

-- ---- back-offs

-- a MAP tells the back-off of its cut, or the channel's own where that is (255, 255)
pub record IsToldBackoff (own asked told : ℕ × ℕ) : Type 0 where
  pub cut : asked ≢ (255, 255) → told ≡ asked
  pub channel : asked ≡ (255, 255) → told ≡ own

-- a MAP tells the back-offs that its cut asks for, by the channel's row before it; after it the row has the same ones
pub record AreTold (cs : List Command) (k ch : ℕ) (asks : CutSettings) (map : Body) : Type 0 where
  pub before : Table
  pub after : Table
  pub before_is : table_of (rows_before cs k) ch ≡ Some before
  pub after_is : table_of (rows_before cs (suc k)) ch ≡ Some after
  pub ranging : IsToldBackoff before.row.channel.ranging_backoff asks.ranging_backoff map.head.ranging_backoff
  pub sending : IsToldBackoff before.row.channel.data_backoff asks.data_backoff map.head.data_backoff
  pub ranging_stays : after.row.channel.ranging_backoff ≡ before.row.channel.ranging_backoff
  pub sending_stays : after.row.channel.data_backoff ≡ before.row.channel.data_backoff

-- so does each MAP
abbrev pub BackoffsAreTold : Type 0
BackoffsAreTold =
    (cs : List Command) (k ch start len : ℕ) (asks : CutSettings) (bytes : List ℕ) (map : Body)
    → IsCutAt cs k ch asks start len bytes → IsBody bytes map → AreTold cs k ch asks map

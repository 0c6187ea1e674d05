-- The MAP body that tells modems of a filled MAP.
use Rattle.std.specs.Prelude.{ℕ, ◌-◌, ◌==◌, ◌||◌, if◌then◌else◌, List, ◌∷◌, ◌++◌, map, Option, Some, None, is_some}
use Rattle.std.specs.List.{filter_map, range_with_len}
use Rattle.minislot_time.specs.Wire.{wire}
use Rattle.map_body.specs.declared.element.Element.{Element}
use Rattle.map_body.specs.declared.head.Head.{Head}
use Rattle.map_body.specs.Iucs as iucs
use Rattle.map_body.specs.Sids.{nobody, everybody}
use Rattle.map_body.specs.Body.{Body}
use Rattle.map_body.specs.Layout.{layout}
use Rattle.flow_state.specs.declared.channel.Channel.{Channel}
use Rattle.flow_state.specs.declared.flow.Waiting.{Waiting}
use Rattle.flow_state.specs.Rows.{Table}
use Rattle.grant_machine_parts.specs.Placing.{Placement, holder}
use Rattle.grant_machine_parts.specs.Cutting.{Filled, grant_iuc, in_order}

-- the SID that a MAP tells of minislots of this use that are given to a SID: initial maintenance is everybody's
-- (CM-SP-MULPIv3.1, MAP message: Initial Maintenance)
abbrev pub told_sid : (sid iuc : ℕ) → ℕ
told_sid sid iuc = if iuc == iucs.initial_maintenance then everybody else sid

-- the element of a placement; of free minislots, which all modems may use for requests; of the end; of a request that
-- waits
abbrev pub placed_element : Placement → Element
placed_element p = record { sid = told_sid p.sid p.iuc; iuc = p.iuc; offset = p.offset }

abbrev pub free_element : ℕ → Element
free_element x = record { sid = everybody; iuc = iucs.request; offset = x }

abbrev pub null_element : ℕ → Element
null_element x = record { sid = nobody; iuc = iucs.null; offset = x }

abbrev pub pending_element : Channel → ℕ → Waiting → Element
pending_element c len w = record { sid = w.sid; iuc = grant_iuc c w.n; offset = len }

-- the element that begins at offset x: a placement's at its first minislot, and that of a longest free run at its first
abbrev pub beginning : ℕ → Option Placement → Option Placement → Option Element
beginning x before (Some p) = if p.offset == x then Some (placed_element p) else None
beginning x before None = if (x == 0) || is_some before then Some (free_element x) else None

abbrev pub begins_at : List Placement → ℕ → Option Element
begins_at ps x = beginning x (holder ps (x - 1)) (holder ps x)

-- elements by offset, the Null at the length, then the requests that still wait
abbrev pub elements_of : Table → Filled → List Element
elements_of t f =
    filter_map (begins_at f.placements) (range_with_len 0 f.span.len)
    ++ null_element f.span.len ∷ map (pending_element t.row.channel f.span.len) (in_order t f.waiting)

abbrev pub head_of : Channel → (start ack : ℕ) → Head
head_of c start ack = record { channel = c.id; ucd = c.ucd; start = wire start; ack = wire ack; ranging_backoff = c.ranging_backoff; data_backoff = c.data_backoff }

abbrev pub body_of : Table → Filled → Body
body_of t f = record { head = head_of f.told f.span.start f.ack; elements = elements_of t f }

-- its bytes, the reserved byte 0
abbrev pub bytes_of : Table → Filled → List ℕ
bytes_of t f = layout (body_of t f).head (body_of t f).elements 0

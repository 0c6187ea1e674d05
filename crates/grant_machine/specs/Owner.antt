-- Which modem a minislot belongs to, and what MAPs tell modems.
use Rattle.std.specs.Prelude.{◌≡◌, ℕ, ◌+◌, ◌-◌, ◌≤◌, List, Some, slice_get}
use Rattle.std.specs.List.{Contains}
use Rattle.map_body.specs.declared.element.Element.{Element}
use Rattle.map_body.specs.Iucs as iucs
use Rattle.map_body.specs.Body.{Body}
use Rattle.map_body.specs.Layout.{IsBody, IsWritten}
use Rattle.map_body.specs.Rules.{NoNullBefore}
use Rattle.map_body.specs.Cell.{IsCell}
use Rattle.minislot_time.specs.Wire.{wire}
use Rattle.flow_state.specs.Limits.{last_sid, last_time, most_minislots}
use Rattle.grant_machine.specs.declared.output.Output.{Output}
use Rattle.grant_machine.specs.declared.output.Output.TheVariants as outputs

-- some MAP of the outputs gives minislot m of the channel to an element
pub record IsGiven (outs : List Output) (ch m : ℕ) (e : Element) : Type 0 where
  pub start : ℕ
  pub len : ℕ
  pub bytes : List ℕ
  pub map : Body
  pub told : Contains outs (outputs.Map ch start len bytes)
  pub body : IsBody bytes map
  pub begun : start ≤ m
  pub cell : IsCell map (m - start) e

-- the outputs assigned the SID to this modem for a lease, first to last, in which minislot m lies
pub record IsLeased (outs : List Output) (modem ch sid m : ℕ) : Type 0 where
  pub first : ℕ
  pub last : ℕ
  pub assigned : Contains outs (outputs.Assigned modem ch sid first last)
  pub begun : first ≤ m
  pub not_ended : m ≤ last

-- some MAP gives minislot m of the channel to a unicast SID that is leased to this modem there
pub record Owns (outs : List Output) (ch m modem : ℕ) : Type 0 where
  pub element : Element
  pub given : IsGiven outs ch m element
  pub unicast : (1 ≤ element.sid) × (element.sid ≤ last_sid)
  pub assigned : IsLeased outs modem ch element.sid m

-- the first Null stands at this offset (CM-SP-MULPIv3.1, MAP message: where the MAP ends)
pub record IsNullAt (map : Body) (offset : ℕ) : Type 0 where
  pub place : ℕ
  pub null : Element
  pub here_is : slice_get map.elements place ≡ Some null
  pub is_null : null.iuc ≡ iucs.null
  pub first : NoNullBefore map.elements place
  pub offset_is : null.offset ≡ offset

-- the bytes are a MAP body as it is written: of this channel, with the low bits of its start, from its first minislot on
-- and as long as a MAP may be up to the Null
pub record IsMapOf (ch start len : ℕ) (bytes : List ℕ) : Type 0 where
  pub map : Body
  pub body : IsWritten bytes map
  pub channel : map.head.channel ≡ ch
  pub start_is : map.head.start ≡ wire start
  pub begins : (e : Element) → slice_get map.elements 0 ≡ Some e → e.offset ≡ 0
  pub null : IsNullAt map len
  pub some : 1 ≤ len
  pub most : len ≤ most_minislots
  pub last : start + len ≤ last_time

-- What a filled MAP holds.
use Rattle.std.specs.Prelude.{◌≡◌, List, ◌∷◌, ◌++◌, map}
use Rattle.std.specs.List.{AllByRecursion, filter_map, range_with_len}
use Rattle.minislot_time.specs.Extent.{Extent}
use Rattle.map_body.specs.declared.element.Element.{Element}
use Rattle.flow_state.specs.declared.channel.Channel.{Channel}
use Rattle.flow_state.specs.Rows.{Table, last_of}
use Rattle.flow_state.specs.View.{flow_view}
use Rattle.grant_machine.specs.CutRows.{due_ones}
use Rattle.grant_machine.specs.declared.cut.Draft.{Draft}
use Rattle.grant_machine_parts.specs.declared.settings.CutSettings.{CutSettings}
use Rattle.grant_machine_parts.specs.Cutting.{fill_span, flows_served, end_of, in_order, still_waiting}
use Rattle.grant_machine_parts.specs.Drawing.{begins_at, null_element, pending_element}
use Rattle.grant_machine_parts.specs.Lent.{IsLent}
use Rattle.grant_machine_parts.specs.Ranks.{requests_in, going_on, IsOfLast}

-- a table's MAP, filled as a cut asks, with the flows that were due before its end and the waiting requests by priority
pub record IsFilledBy (t : Table) (span : Extent) (s : CutSettings) (f : Draft) : Type 0 where
  pub span_is : f.filling.span ≡ span
  pub placements : f.filling.placements ≡ (fill_span t span s).placements
  pub flows : map flow_view f.flows.items ≡ due_ones t (end_of span) (flows_served t span)
  pub lent : AllByRecursion IsLent f.flows.items
  pub requests : requests_in f.ranked.items ≡ in_order t t.waiting
  pub lasts : AllByRecursion (IsOfLast (last_of t)) f.ranked.items

-- the elements of a filled MAP: those by offset, the Null at its length, then those of the requests that still wait and
-- go on
abbrev pub elements_in : Channel → Draft → List Element
elements_in c f =
    filter_map (begins_at f.filling.placements) (range_with_len 0 f.filling.span.len)
    ++ null_element f.filling.span.len ∷ map (pending_element c f.filling.span.len) (still_waiting f.filling.placements (requests_in (going_on (end_of f.filling.span) f.ranked.items)))

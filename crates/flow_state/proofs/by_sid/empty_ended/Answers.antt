use Rattle.std.proofs.Common.{◌≡◌, None, sym, ap, ◌∙◌, arith}
use Rattle.std.specs.Map.{keys_of}
use Rattle.indexmap.specs.IndexMap.{set_value_at}
use Rattle.flow_state.specs.StoredFlows.{Places, there, flow_at, is_ended_flow}
use Rattle.flow_state.proofs.BySid.{cleared, cleared_on, cleared_off, cleared_all, cleared_keys}
use Rattle.flow_state.proofs.by_sid.empty_ended.Goals as goal
use Rattle.flow_state.proofs.by_sid.empty_ended.Goals.{then-has_ended, else-has_ended}

pub loop-place-preserved : goal.loop-place-preserved
loop-place-preserved c =
    let ended : c.has_ended.result ≡ is_ended_flow c.args.end (flow_at (cleared c.args.end c.loop-place.place c.args.places.now.entries) c.loop-place.place) =
    c.has_ended.ensures ∙ ap (λ (ps : Places). is_ended_flow c.args.end (flow_at ps c.loop-place.place)) c.loop-place.invariant in
    elim c.if-has_ended.branch [
      | then-has_ended w ↦
          ap (λ m. m.entries) w.places-is ∙ ap (λ (ps : Places). set_value_at ps c.loop-place.place None) c.loop-place.invariant
          ∙ cleared_on c.args.end c.loop-place.place c.args.places.now.entries (sym ended ∙ w.if-has_ended.true)
      | else-has_ended w ↦
          ap (λ m. m.entries) w.places-is ∙ c.loop-place.invariant ∙ cleared_off c.args.end c.loop-place.place c.args.places.now.entries (sym ended ∙ w.if-has_ended.false)
    ]

pub returns-clause-kept : goal.returns-clause-kept
returns-clause-kept c = ap there c.loop-place.invariant ∙ cleared_all c.args.end c.loop-place.place c.args.places.now.entries (omega arith)

pub returns-clause-keys : goal.returns-clause-keys
returns-clause-keys c = ap keys_of c.loop-place.invariant ∙ cleared_keys c.args.end c.loop-place.place c.args.places.now.entries

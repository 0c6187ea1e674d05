use Rattle.std.proofs.Common.{◌≡◌, ◌+◌, ℕ, max, Option, ap, ◌∙◌, arith}
use Rattle.std.specs.Option.{option_or}
use Rattle.flow_state.specs.declared.reason.Field.TheVariants as fields
use Rattle.flow_state.specs.declared.reason.Reason.{Reason}
use Rattle.flow_state.specs.Limits.{last_time}
use Rattle.flow_state.specs.Reasons.{outside}
use Rattle.grant_machine_parts.specs.declared.settings.CutSettings.{CutSettings}
use Rattle.grant_machine.specs.Why.{why_times, why_kept}
use Rattle.grant_machine.proofs.Whys.{times_early, first_some, first_none}
use Rattle.grant_machine.proofs.why.why_cut.Goals as goal

pub returns-in-Some : goal.returns-in-Some
returns-in-Some c = first_some c.in-Some.reason (why_times c.args.settings.now) _ _ c.in-Some.ensures

pub overflow_add-end : goal.overflow_add-end
overflow_add-end c =
    let early = times_early c.args.settings.now c.in_default.ensures in
    let short = early.0 in
    let soon = early.1 in
    let start = c.max.ensures in
    let len = c.from.ensures in
    let next = c.requires in
    omega (arith, short, soon, start, len, next)

pub returns : goal.returns
returns c =
    let s : CutSettings = c.args.settings.now in
    let start = c.max.ensures in
    let len = c.from.ensures in
    let end : c.max.result + c.from.result ≡ max c.args.row.now.next_start s.not_before + s.len = omega (arith, start, len) in
    first_none (why_times s) (outside fields.End (max c.args.row.now.next_start s.not_before + s.len) 0 last_time) (why_kept s) c.or.result c.in_default.ensures
    (c.or.ensures
    ∙ ap (λ (o : Option Reason). option_or o c.why_kept.result) (c.outside.ensures ∙ ap (λ (n : ℕ). outside fields.End n 0 last_time) end)
    ∙ ap (λ (o : Option Reason). option_or (outside fields.End (max c.args.row.now.next_start s.not_before + s.len) 0 last_time) o) c.why_kept.ensures)

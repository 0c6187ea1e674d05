use Rattle.std.proofs.Common.{◌≡◌, ◌≤◌, length, sym, ap, subst, ◌∙◌, arith}
use Rattle.flow_state.specs.declared.channel.Channel.{Channel}
use Rattle.flow_state.specs.declared.channel.ChannelRow.{ChannelRow}
use Rattle.grant_machine.specs.Plans.{elements_in}
use Rattle.grant_machine_parts.specs.Cutting.{told_channel}
use Rattle.grant_machine_parts.proofs.Callers.{is_cut}
use Rattle.grant_machine.proofs.Closing.{filled_again, made_unicast, made_few}
use Rattle.grant_machine.proofs.cut.make_map.Goals as goal

pub fill-requires : goal.fill-requires
fill-requires c =
    let cut = is_cut c.args.table.now c.args.settings.now c.requires.good in
    let end = cut.end in
    let begun = c.requires.begun in
    record { reached = c.requires.reached; short = cut.most; early = omega (arith, end, begun) }

pub draw-requires-clause-unicast : goal.draw-requires-clause-unicast
draw-requires-clause-unicast c =
    made_unicast c.args.table.now c.args.settings.now c.fill.new.filled c.requires.reached c.requires.good
    (filled_again c.args.table.now c.args.settings.now c.fill.new.filled c.requires.begun c.in_ok-fill.ensures)

pub draw-requires-clause-few : goal.draw-requires-clause-few
draw-requires-clause-few c =
    let told : c.told-told.result ≡ told_channel c.args.table.now.row.channel c.args.settings.now = c.told-told.ensures ∙ ap (λ (r : ChannelRow). told_channel r.channel c.args.settings.now) c.row.ensures.row in
    subst (λ (d : Channel). length (elements_in d c.fill.new.filled) ≤ 255) (sym told)
    (made_few c.args.table.now c.args.settings.now c.fill.new.filled c.requires.reached c.requires.good
    (filled_again c.args.table.now c.args.settings.now c.fill.new.filled c.requires.begun c.in_ok-fill.ensures))

use Rattle.std.proofs.Common.{cond, None, sym, ap, ◌∙◌}
use Rattle.flow_state.specs.StoredLeases.{named}
use Rattle.flow_state.proofs.Named.{place_named, kept_name, fewer_names, none_named}
use Rattle.flow_state.proofs.holders.forget_name.Goals as goal

pub returns-then-name_place-clause-own : goal.returns-then-name_place-clause-own
returns-then-name_place-clause-own c =
    c.swap_remove.ensures.updates.0 (c.args.lease.modem, c.args.lease.tag)
    ∙ ap (λ b. cond b None (named c.args.names.now.entries c.args.lease.modem c.args.lease.tag)) (sym c.if-have_one_holder.ensures)

pub returns-then-name_place-clause-kept : goal.returns-then-name_place-clause-kept
returns-then-name_place-clause-kept c = λ m t p is apart.
    c.swap_remove.ensures.updates.0 (m, t)
    ∙ kept_name c.args.names.now.entries c.args.before.modem c.args.before.tag c.args.place m t p
    (place_named (named c.args.names.now.entries c.args.before.modem c.args.before.tag) c.args.place c.if-name_place.ensures) is apart

pub returns-then-name_place-clause-fewer : goal.returns-then-name_place-clause-fewer
returns-then-name_place-clause-fewer c = λ m t p is.
    fewer_names c.args.names.now.entries c.args.before.modem c.args.before.tag m t p (sym (c.swap_remove.ensures.updates.0 (m, t)) ∙ is)

pub returns-then-name_place-clause-gone : goal.returns-then-name_place-clause-gone
returns-then-name_place-clause-gone c = λ is. absurd (none_named _ c.args.place c.swap_remove.ensures.updates.1 is)

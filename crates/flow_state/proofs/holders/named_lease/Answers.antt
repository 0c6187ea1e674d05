use Rattle.std.proofs.Common.{length, refl, sym, ◌∙◌}
use Rattle.std.proofs.lemmas.Option.{slice_get_past, slice_get_read}
use Rattle.flow_state.proofs.Named.{found_at, no_place, no_lease, other_lease}
use Rattle.flow_state.proofs.holders.named_lease.Goals as goal

pub returns-in_err-place : goal.returns-in_err-place
returns-in_err-place c =
    c.from_residual.ensures ∙ no_place c.args.start c.args.modem c.args.tag c.args.names.now.entries c.args.latest.now c.requires c.in_err-place.ensures.value

pub returns-in_err-lease : goal.returns-in_err-lease
returns-in_err-lease c =
    c.from_residual-in_err-lease.ensures
    ∙ no_lease c.args.start c.args.modem c.args.tag c.args.names.now.entries c.args.latest.now c.requires c.in_ok-place.field-0.now c.from.result c.in_ok-place.ensures.value c.from.ensures (sym (slice_get_past c.args.latest.now c.from.result c.in_err-lease.ensures.lookup.3))

pub returns-then-is_lease_from : goal.returns-then-is_lease_from
returns-then-is_lease_from c =
    found_at c.args.start c.args.modem c.args.tag c.args.names.now.entries c.args.latest.now c.requires c.in_ok-place.field-0.now c.from.result c.in_ok-lease.field-0.now c.in_ok-place.ensures.value c.from.ensures (sym (slice_get_read c.args.latest.now (length c.args.latest.now) c.from.result c.in_ok-lease.field-0.now refl c.in_ok-lease.ensures.lookup.3.0 c.in_ok-lease.ensures.lookup.1)) c.if-is_lease_from.ensures

pub returns-else-is_lease_from : goal.returns-else-is_lease_from
returns-else-is_lease_from c =
    other_lease c.args.start c.args.modem c.args.tag c.args.names.now.entries c.args.latest.now c.requires c.in_ok-place.field-0.now c.from.result c.in_ok-lease.field-0.now c.in_ok-place.ensures.value c.from.ensures (sym (slice_get_read c.args.latest.now (length c.args.latest.now) c.from.result c.in_ok-lease.field-0.now refl c.in_ok-lease.ensures.lookup.3.0 c.in_ok-lease.ensures.lookup.1)) c.if-is_lease_from.ensures

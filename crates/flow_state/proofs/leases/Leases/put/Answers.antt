use Rattle.std.proofs.Common.{◌≡◌, ℕ, ◌+◌, ◌-◌, ◌/◌, ◌<◌, ◌≤◌, true, false, List, length, slice_get, ltb, sym, ap}
use Rattle.std.proofs.Common.{subst, ◌∙◌, refl, arith}
use Rattle.flow_state.specs.Limits.{last_sid}
use Rattle.flow_state.specs.Rows.{Lease, put_lease}
use Rattle.flow_state.specs.StoredLeases.{AreNamed, NameLeases, IsBound, put_at}
use Rattle.flow_state.proofs.Bounds.{bounds_after}
use Rattle.flow_state.proofs.Freed.{AreGiven, put_over, put_last, given_put, few_put}
use Rattle.flow_state.proofs.Named.{named_put, names_put}
use Rattle.flow_state.proofs.Puts.{put_within, put_behind}
use Rattle.flow_state.proofs.leases.Leases.put.Goals as goal

-- a lease in its place by SID is one put at the place below its SID
put_is : (ls : List Lease) (l : Lease) → AreGiven ls → 1 ≤ l.sid → l.sid ≤ length ls + 1 → put_at ls (l.sid - 1) l ≡ put_lease l ls
put_is ls l g one next =
    elim (ltb (l.sid - 1) (length ls)) as (λ b. ltb (l.sid - 1) (length ls) ≡ b → put_at ls (l.sid - 1) l ≡ put_lease l ls) [
      | true ↦ λ f. let lt : l.sid - 1 < length ls = grind (arith, f) in put_within ls (l.sid - 1) l lt ∙ sym (put_over l ls g one lt)
      | false ↦ λ f. let ge : length ls ≤ l.sid - 1 = grind (arith, f) in put_behind ls (l.sid - 1) l ge ∙ sym (put_last l ls g (omega arith))
    ] refl

next_after : (ls now : List Lease) (l : Lease) → ls ≡ now → l.sid ≤ length now + 1 → l.sid ≤ length ls + 1
next_after ls now l view le = let same : length ls ≡ length now = ap length view in omega arith

put_after : (c : goal.After-put_at-2) → c.put_at.new.items.items ≡ put_at c.self.inside.latest.items c.from-at.result c.args.lease
put_after c = c.put_at.ensures ∙ ap (λ (os : List Lease). put_at os c.from-at.result c.args.lease) c.in_ok-reserve.ensures.items

leases_after : (c : goal.After-put_at-2) → c.put_at.new.items.items ≡ put_lease c.args.lease c.self.inside.latest.items
leases_after c =
    put_after c ∙ ap (λ n. put_at c.self.inside.latest.items n c.args.lease) c.from-at.ensures
    ∙ put_is c.self.inside.latest.items c.args.lease c.self.invariant.given c.requires.some (next_after c.self.inside.latest.items c.args.self.now c.args.lease c.self.view_is c.requires.next)

pub invariant_of-self-2 : goal.invariant_of-self-2
invariant_of-self-2 c =
    let next = next_after c.self.inside.latest.items c.args.self.now c.args.lease c.self.view_is c.requires.next in
    let at : c.from-at.result ≡ c.args.lease.sid - 1 = c.from-at.ensures in
    let bounds = bounds_after c.self.inside.latest.items c.put_at.new.items.items c.self.inside.first_ends.items c.put_at-2.new.items.items c.from-at.result c.args.lease c.first_end_at-first_end.result
    (put_after c)
    (c.put_at-2.ensures ∙ ap (λ (ns : List ℕ). put_at ns (c.from-at.result / 128) c.first_end_at-first_end.result) c.in_ok-reserve-2.ensures.items)
    (omega (arith, next, at))
    (subst (λ (os : List Lease). IsBound os (c.from-at.result / 128) c.first_end_at-first_end.result) c.deref-3.ensures.value c.first_end_at-first_end.ensures)
    c.self.invariant.bounds c.self.invariant.blocks in
    record {
      given = subst AreGiven (sym (leases_after c)) (given_put c.args.lease c.self.inside.latest.items c.self.invariant.given c.requires.some next);
      few = subst (λ (os : List Lease). length os ≤ last_sid) (sym (leases_after c)) (few_put c.args.lease c.self.inside.latest.items c.self.invariant.given c.requires.some next c.self.invariant.few c.requires.unicast);
      named = subst (λ (os : List Lease). AreNamed c.later_end-self-inside.result c.forget_before.new.names.entries os) (sym (put_after c ∙ ap (λ n. put_at c.self.inside.latest.items n c.args.lease) at))
          (named_put c.self.inside.latest.items (c.args.lease.sid - 1) c.args.lease c.self.inside.unnamed_until c.later_end-self-inside.result c.self.inside.names.entries c.insert.new.self.entries c.forget_before.new.names.entries c.in_ok-named.named
          (omega (arith, next)) c.self.invariant.named c.in_ok-named.ensures.old c.in_ok-named.ensures.updates.1
          (λ m t e. c.in_ok-named.ensures.updates.2 (m, t) e)
          c.forget_before.ensures.own c.forget_before.ensures.kept c.later_end-self-inside.ensures.later
          (λ p o is e. c.later_end-self-inside.ensures.ended p o is (ap (λ (os : List Lease). slice_get os p) (c.deref.ensures.value ∙ c.in_ok-reserve.ensures.items) ∙ e)));
      name_leases = subst (λ (os : List Lease). NameLeases c.forget_before.new.names.entries os) (sym (put_after c ∙ ap (λ n. put_at c.self.inside.latest.items n c.args.lease) at))
          (names_put c.self.inside.latest.items (c.args.lease.sid - 1) c.args.lease c.self.inside.names.entries c.insert.new.self.entries c.forget_before.new.names.entries
          (omega (arith, next)) c.self.invariant.name_leases c.in_ok-named.ensures.updates.1
          (λ m t e. c.in_ok-named.ensures.updates.2 (m, t) e)
          c.forget_before.ensures.fewer
          (λ b e f. c.forget_before.ensures.gone b (c.lease_at-before.ensures ∙ ap (λ (os : List Lease). slice_get os c.from-at.result) (c.deref-2.ensures.value ∙ c.in_ok-reserve.ensures.items) ∙ ap (slice_get c.self.inside.latest.items) at ∙ e) f));
      bounds = bounds.0;
      blocks = bounds.1;
    }

pub returns-clause-ok : goal.returns-clause-ok
returns-clause-ok c = leases_after c ∙ ap (put_lease c.args.lease) c.self.view_is

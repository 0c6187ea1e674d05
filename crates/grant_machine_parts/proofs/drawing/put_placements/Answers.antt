use Rattle.std.proofs.Common.{◌≡◌, ◌-◌, ◌<◌, ◌++◌, Some, None, Option, is_none, false, refl, sym, ap, subst, ◌∙◌, arith}
use Rattle.std.specs.List.{filter_map, range_with_len}
use Rattle.std.specs.Option.{IsSome}
use Rattle.std.proofs.lemmas.List.{append-nil}
use Rattle.grant_machine_parts.specs.Placing.{Placement, holds, holder}
use Rattle.grant_machine_parts.specs.Drawing.{begins_at}
use Rattle.flow_state.proofs.Callers.{found_has}
use Rattle.grant_machine_parts.proofs.Drawn.{inside_begins, placement_more}
use Rattle.grant_machine_parts.proofs.drawing.put_placements.Goals as goal

some_held : (o p : Option Placement) → p ≡ o → is_none o ≡ false → IsSome p
some_held None p e held = absurd cc
some_held (Some q) p e held = subst (λ (r : Option Placement). IsSome r) (sym e) refl

pub unwrap-placement-requires : goal.unwrap-placement-requires
unwrap-placement-requires c = some_held (holder c.args.placements.now c.loop-x.x) c.holder_near.result c.holder_near.ensures (c.requires.held c.loop-x.x c.loop-x.invariant.least c.loop-x-test.true)

pub behind-x-requires-clause-held : goal.behind-x-requires-clause-held
behind-x-requires-clause-held c = (found_has (holds c.loop-x.x) c.args.placements.now c.unwrap-placement.result (sym c.holder_near.ensures ∙ c.unwrap-placement.ensures)).1

pub loop-x-init : goal.loop-x-init
loop-x-init c =
    let none : c.args.from - c.args.from ≡ 0 = omega arith in
    record {
      least = omega arith;
      most = c.requires.order;
      put = sym (ap (λ n. c.args.elements.now.items ++ filter_map (begins_at c.args.placements.now) (range_with_len c.args.from n)) none ∙ append-nil c.args.elements.now.items);
    }

pub loop-x-preserved : goal.loop-x-preserved
loop-x-preserved c =
    let ps = c.args.placements.now in
    let x = c.loop-x.x in
    let p = c.unwrap-placement.result in
    let held : holder ps x ≡ Some p = sym c.holder_near.ensures ∙ c.unwrap-placement.ensures in
    let b = c.behind-x.ensures in
    let more : x < c.behind-x.result = b.more in
    record {
      least = omega (arith, c.loop-x.invariant.least, more);
      most = b.most;
      put = placement_more ps p c.args.from x c.behind-x.result c.args.elements.now.items c.loop-x.elements.items c.put_placement.new.elements.items c.loop-x.invariant.least more held
          (λ z gt lt. inside_begins ps p x z (c.requires.alone (b.inside z gt lt).0) held gt (b.inside z gt lt).1)
          c.loop-x.invariant.put c.in_ok-put_placement.ensures;
    }

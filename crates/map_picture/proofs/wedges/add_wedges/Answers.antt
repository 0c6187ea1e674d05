use Rattle.std.proofs.Common.{◌≡◌, ◌++◌, string_bytes, subst, arith}
use Rattle.xml_text.specs.Xml.{Xml, render}
use Rattle.xml_text.proofs.Callers.{each_more}
use Rattle.map_picture.specs.Wedges.{wedge_at}
use Rattle.map_picture.proofs.Wedged.{all_wedges, none_yet}
use Rattle.map_picture.proofs.wedges.add_wedges.Goals as goal

pub loop-k-init : goal.loop-k-init
loop-k-init c = none_yet c.args.sent.now c.args.strip.now c.count_before-first.result (string_bytes c.args.out.now) c.count_before-first.ensures

pub loop-k-preserved : goal.loop-k-preserved
loop-k-preserved c = each_more c.loop-k.k (wedge_at c.args.sent.now c.args.strip.now) _ _ _ c.loop-k.invariant c.in_ok-add_wedge_at.ensures

pub returns : goal.returns
returns c =
    let all = all_wedges c.args.sent.now c.args.strip.now c.count_before-past.result c.loop-k.k (rw c.from.ensures at c.count_before-past.ensures) (omega (arith, c.loop-k-test.false)) in
    subst (λ (x : Xml). string_bytes c.loop-k.out ≡ string_bytes c.args.out.now ++ render x) all c.loop-k.invariant

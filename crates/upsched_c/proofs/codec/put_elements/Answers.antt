use Rattle.std.proofs.Common.{◌≡◌, ℕ, suc, ◌+◌, ◌≤◌, ◌++◌, map, take, drop, length, set, ap, ◌∙◌, arith}
use Rattle.std.proofs.lemmas.List.{map-set, length-map}
use Rattle.map_body.specs.declared.element.Element.{Element}
use Rattle.upsched_c.proofs.Fields.{one_more_in_front}
use Rattle.upsched_c.specs.Structs.{element_value}
use Rattle.upsched_c.proofs.codec.put_elements.Goals as goal

pub loop-i-preserved : goal.loop-i-preserved
loop-i-preserved c =
    let olds = map element_value c.args.elements.now in
    let found = c.args.found.now in
    let i = c.loop-i.i in
    let one = c.index-found-i.result in
    let written : map element_value (set c.loop-i.elements i c.element_out.result) ≡ set (map element_value c.loop-i.elements) i (element_value c.element_out.result) = map-set element_value c.loop-i.elements i c.element_out.result in
    let room : length found ≤ length olds = omega (arith, length-map c.args.elements.now element_value, c.requires) in
    let front = one_more_in_front found olds i one c.loop-i-test.true room in
    let step : suc i ≡ i + 1 = omega arith in
    written ∙ rw (c.loop-i.invariant, c.element_out.ensures) (ap (λ (e : Element). set (take i found ++ drop i olds) i e) c.index-found-i.is ∙ front ∙ ap (λ (n : ℕ). take n found ++ drop n olds) step)

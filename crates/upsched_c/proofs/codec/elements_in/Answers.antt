use Rattle.std.proofs.Common.{get_or}
use Rattle.upsched_c.specs.declared.structs.MapElement.{MapElement}
use Rattle.upsched_c.proofs.Fields.{element_at}
use Rattle.upsched_c.proofs.codec.elements_in.Goals as goal

pub element_in-requires : goal.element_in-requires
element_in-requires c =
    let es = c.args.elements.now in
    let i = c.loop-element.element-index in
    let d : MapElement = record { sid = 0; offset = 0; iuc = 0 } in
    c.requires i c.loop-element-test.true (get_or es i d) (element_at es i d c.loop-element-test.true)

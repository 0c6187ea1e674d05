use Rattle.std.proofs.Common.{◌≡◌, ℕ, ◌+◌, ◌∙◌, refl}
use Rattle.xml_text.specs.Xml.{Tag}
use Rattle.xml_text.specs.Xml.Tag.{Rectangle}
use Rattle.map_body.specs.declared.interval.Interval.{Interval}
use Rattle.map_picture.specs.declared.axis.Axis.{Axis}
use Rattle.map_picture.specs.Axis.{at, wide}
use Rattle.map_picture.specs.Cells.{class_of, high}
use Rattle.map_picture.proofs.Rendered.{other_shape}
use Rattle.map_picture.proofs.owners.add_grant_mark.Goals as goal

pub returns : goal.returns
returns c =
    let axis : Axis = c.args.owner.now.page.axis in
    let i : Interval = c.args.interval.now in
    let from : ℕ = c.args.start + i.from in
    let to : ℕ = c.args.start + i.to in
    let drawn : Tag = Rectangle c.at.result c.args.owner.now.y c.wide.result c.high.result c.class_of-class.result.now in
    let same : drawn ≡ Rectangle (at axis from) c.args.owner.now.y (wide axis from to) (high i) (class_of i.sid) =
    rw (c.at.ensures.value, c.wide.ensures, c.high.ensures, c.class_of-class.ensures, c.from.ensures, c.get.ensures.same, c.from-2.ensures, c.get-2.ensures.same, c.get-3.ensures.same) refl in
    other_shape c.add_block.result _ _ _ _ _ _ (c.as_str.ensures.value ∙ c.in_ok-title.ensures) same c.add_block.ensures

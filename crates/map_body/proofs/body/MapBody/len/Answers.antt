use Rattle.std.proofs.Common.{sym, ap, ◌∙◌, refl}
use Rattle.std.proofs.lemmas.Option.{slice_get_read}
use Rattle.map_body.specs.Body.{Body}
use Rattle.map_body.specs.Intervals.{null_offset}
use Rattle.map_body.proofs.Nulls.{null_offset_at}
use Rattle.map_body.proofs.Cells.{null_within}
use Rattle.map_body.proofs.body.MapBody.len.Goals as goal

pub returns : goal.returns
returns c =
    let es = c.self.inside.elements.items in
    let null = c.self.inside.null in
    let at = slice_get_read es _ null c.index.result.now refl (null_within es null c.self.invariant.2) c.index.ensures in
    ap (λ (b : Body). null_offset b.elements) (sym c.self.view_is) ∙ null_offset_at es null c.index.result.now c.self.invariant.2 at

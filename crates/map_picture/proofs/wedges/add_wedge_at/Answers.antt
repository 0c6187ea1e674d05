use Rattle.std.proofs.Common.{◌≡◌, length, Some, slice_get, refl, sym, ◌∙◌, arith}
use Rattle.std.proofs.lemmas.Option.{slice_get_read}
use Rattle.map_picture.specs.declared.sent.Sent.{Sent}
use Rattle.map_picture.proofs.Wedged.{one_wedge}
use Rattle.map_picture.proofs.wedges.add_wedge_at.Goals as goal

pub returns : goal.returns
returns c =
    let t : Sent = c.index-sent-k.result in
    let there : slice_get c.args.sent.now c.args.k ≡ Some t =
    slice_get_read c.args.sent.now (length c.args.sent.now) c.args.k t refl (omega (arith, c.if-k-sent.false)) c.index-sent-k.is in
    one_wedge c.add_wedge.result _ _ c.args.sent.now c.args.strip.now c.args.k t c.collides.result there
    (sym c.is_in.ensures.value ∙ c.if-not-is_in.false) c.collides.ensures c.add_wedge.ensures

use Rattle.std.proofs.Common.{◌≡◌}
use Rattle.grant_machine_parts.proofs.drawing.draw.Goals as goal

pub put_intervals-requires : goal.put_intervals-requires
put_intervals-requires c =
    let ps : c.placements.result.now ≡ c.args.filling.now.placements = c.placements.ensures.same in
    let len : c.len-len.result ≡ c.args.filling.now.span.len = c.len-len.ensures.same in
    record {
      short = c.len-len.ensures.short;
      free = rw (ps, len) c.gaps.ensures;
      alone = λ on. rw ps (c.is_apart.ensures on);
    }

use Rattle.map_body.specs.Sids.{everybody}
use Rattle.modem.proofs.AtKept.{HasAt-kept}
use Rattle.modem.proofs.kept.is_open_in.Goals as goal

pub returns : goal.returns
returns c =
    let there = HasAt-kept c.around.result.now c.args.ch c.args.«at» everybody 1 in
    let same = c.around.ensures.same everybody 1 in
    rw c.has_at.ensures (λ h. same.0 (there.0 h), λ h. there.1 (same.1 h))

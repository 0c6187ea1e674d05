use Rattle.map_body.proofs.Extents.{no_extent, where_none}
use Rattle.map_body.proofs.heard.body_near.Goals as goal

pub returns-clause-none : goal.returns-clause-none
returns-clause-none c =
    where_none c.extended.result (λ none start stop extent. no_extent c.args.near c.args.map.now c.len-len.result start stop c.len-len.ensures (λ s near. none s (rw c.head-head.ensures near)) extent) c.extended.ensures.none

use Rattle.std.proofs.Common.{◌≡◌, ap, sym, ◌∙◌}
use Rattle.map_body.specs.Body.{Body}
use Rattle.map_body.proofs.Callers.{one_body, body_no_fault}
use Rattle.map_body.proofs.Extents.{no_extent, where_none}
use Rattle.map_body.proofs.heard.heard_near.Goals as goal

pub returns-in-Ok-clause-none : goal.returns-in-Ok-clause-none
returns-in-Ok-clause-none c =
    let (told, body, head_is, null) = c.in-Ok.ensures.read in
    where_none c.extended.result
    (λ none map start stop reads.
    let one : told ≡ map = one_body c.args.bytes.now told map body reads.body in
    no_extent c.args.near map c.in-Ok.outline.len start stop (rw one at null) (λ s near. none s (rw (sym head_is ∙ ap (λ (m : Body). m.head) one) near)) reads.extent)
    c.extended.ensures.none

pub returns-in-Err-clause-none : goal.returns-in-Err-clause-none
returns-in-Err-clause-none c = λ map start stop reads. body_no_fault c.args.bytes.now map c.in-Err.field-0 reads.body c.in-Err.ensures.fault

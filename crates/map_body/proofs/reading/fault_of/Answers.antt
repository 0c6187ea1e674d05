use Rattle.std.proofs.Common.{◌≡◌, Some}
use Rattle.map_body.specs.declared.judging.Outline.{Outline}
use Rattle.map_body.specs.Body.{Body}
use Rattle.map_body.specs.Intervals.{null_offset}
use Rattle.map_body.specs.Layout.{IsBody}
use Rattle.map_body.proofs.Readings.{is_fault}
use Rattle.map_body.proofs.reading.fault_of.Goals as goal

pub unwrap_err-requires : goal.unwrap_err-requires
unwrap_err-requires c = is_fault (λ (outline : Outline). (map : Body) × IsBody c.args.bytes.now map × (map.head ≡ outline.head) × (null_offset map.elements ≡ Some outline.len)) c.judge.result c.judge.ensures.read (λ outline told. c.requires told.0 told.1)

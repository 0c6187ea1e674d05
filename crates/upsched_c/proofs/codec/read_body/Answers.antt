use Rattle.std.proofs.Common.{Err, ap}
use Rattle.map_body.specs.declared.fault.MapFault.{MapFault}
use Rattle.upsched_c.proofs.Rooms.{lacks}
use Rattle.upsched_c.proofs.codec.read_body.Goals as goal

pub returns-in-Err-OutOfMemory : goal.returns-in-Err-OutOfMemory
returns-in-Err-OutOfMemory c =
    let body = c.in-Err-OutOfMemory.ensures.whole (ap (λ (f : MapFault). Err f) c.in-Err-OutOfMemory.field-0-is) in
    lacks _ _ _ _ _ _ body.0 body.1 (c.without_memory.ensures body.0 body.1)

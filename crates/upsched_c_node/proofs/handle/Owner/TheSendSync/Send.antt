-- What a handle owns says the same to every thread.
use denote.Param.Send.{IsSend, AllSend, owning_send, struct_send, sendable}
use denote.Struct.Struct.{exits_of}
use denote.Struct.Owning.{shape, fields, to}
use Rattle.upsched_c_parts.proofs.Owners.{owned_keyless, quiet}
use Rattle.upsched_c_node.specs.contracts.handle.Held as inner
use Rattle.upsched_c_node.proofs.handle.Held.TheSendSync.{the_send as held}
use Rattle.upsched_c_node.specs.contracts.handle.Owner.{the_row, the_type}

pub send : IsSend the_row
send =
    let all : AllSend (fields the_type) = (search sendable, tt) in
    owning_send the_type all (λ d. owned_keyless inner.the_row held d.at d.value)
    (λ k. quiet (to the_type) (exits_of k (fields the_type)) ((struct_send (shape the_type) all).leaving k))

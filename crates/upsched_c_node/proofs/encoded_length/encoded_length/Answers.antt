use Rattle.std.proofs.Common.{◌≡◌, ℕ, arith, length, length-take, take}
use Rattle.upsched_c_node.proofs.Encoding.{letter_told}
use Rattle.upsched_c_node.proofs.encoded_length.encoded_length.Goals as goal

pub returns-clause-letter : goal.returns-clause-letter
returns-clause-letter c =
    let f = c.args.fields.now in
    let size : f.value_len ≡ length (take f.value_len f.value) = grind (arith, length-take {A = ℕ}) in
    letter_told f c.args.votes.now c.requires (omega arith) (omega arith) size c.votes_length.ensures.fits

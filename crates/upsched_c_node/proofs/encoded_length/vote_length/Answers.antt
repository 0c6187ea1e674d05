use Rattle.std.proofs.Common.{◌+◌, ◌∙◌, ap, length, take, sym}
use Rattle.upsched_c_node.proofs.Encoding.{vote_bytes}
use Rattle.upsched_c_node.proofs.encoded_length.vote_length.Goals as goal

pub returns-clause-length : goal.returns-clause-length
returns-clause-length c row is =
    ap (λ n. 24 + length (take n c.args.vote.now.value)) c.from.ensures ∙ sym (vote_bytes c.args.vote.now row is)

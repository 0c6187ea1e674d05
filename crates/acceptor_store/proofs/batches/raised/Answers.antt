use Rattle.std.proofs.Common.{ap, ◌∙◌, arith}
use Rattle.acceptor_store.proofs.Words.{IfSome_then, number_of}
use Rattle.acceptor_store.proofs.Beside.{raised_row, raised_vote}
use Rattle.acceptor_store.proofs.batches.raised.Goals as goal

pub returns-in-Promised : goal.returns-in-Promised
returns-in-Promised c =
    IfSome_then c.promised_too.result c.promised_too.ensures (λ n it x v known. rw c.in-Promised.is (record {
      tries = ap number_of it.1 ∙ known.tries;
      promises = ap number_of it.2 ∙ raised_row c.in-Promised.ballot x (omega (arith, it.0, known.promises));
    }))

pub returns-in-Vote : goal.returns-in-Vote
returns-in-Vote c =
    IfSome_then c.promised_too-in-Vote.result c.promised_too-in-Vote.ensures (λ n it x v known. rw c.in-Vote.is (record {
      tries = ap number_of it.1 ∙ known.tries;
      promises = ap number_of it.2 ∙ raised_vote c.in-Vote.field-0 (record { ballot = c.in-Vote.ballot; value = v }) x (omega (arith, it.0, known.promises));
    }))

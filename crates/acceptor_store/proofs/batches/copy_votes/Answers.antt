use Rattle.std.proofs.Common.{List, Some, ◌+◌, ℕ, sym, ap, ◌∙◌, arith}
use Rattle.std.proofs.lemmas.Option.{slice_get-get_or}
use Rattle.acceptor_store.proofs.Words.{Cast}
use Rattle.acceptor_store.proofs.Copying.{next_vote}
use Rattle.acceptor_store.proofs.batches.copy_votes.Goals as goal

pub loop-vote-init : goal.loop-vote-init
loop-vote-init c sound none = ap (λ (v : List (ℕ × Cast)). record c.args.records.now { votes = v }) none

pub loop-vote-preserved : goal.loop-vote-preserved
loop-vote-preserved c sound none =
    next_vote c.args.records.now c.loop-vote.records c.copy_vote.new.records c.args.votes.now c.loop-vote.vote-index (c.loop-vote.vote-index + 1) c.vote-item.result (omega arith)
    (slice_get-get_or c.args.votes.now c.loop-vote.vote-index _ c.loop-vote-test.true ∙ ap Some (sym c.vote-item.is)) sound (c.loop-vote.invariant sound none) c.in_ok-copy_vote.ensures

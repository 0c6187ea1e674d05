use Rattle.acceptor_store.proofs.Copying.{made_up}
use Rattle.acceptor_store.proofs.batches.of_rows.Goals as goal

pub returns : goal.returns
returns c x sound tried row votes learned =
    made_up x c.in_ok-records.records c.copy_votes.new.records c.copy_all_learned.new.records _ _ c.args.votes.now c.args.learned.now c.in_ok-records.ensures c.in_ok-copy_votes.ensures c.in_ok-copy_all_learned.ensures sound tried row votes learned

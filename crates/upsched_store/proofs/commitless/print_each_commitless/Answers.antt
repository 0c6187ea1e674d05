use Rattle.upsched_store.specs.Commitless.{commitless_in}
use Rattle.upsched_store.proofs.Lines.{line_more}
use Rattle.upsched_store.proofs.commitless.print_each_commitless.Goals as goal

pub loop-found-preserved : goal.loop-found-preserved
loop-found-preserved g c =
    line_more (commitless_in c.args.folder.now) c.args.states.now c.loop-found.found-index c.found-item.result (g.E.Write.contents c.args.errors.now) (g.E.Write.contents c.loop-found.errors) (g.E.Write.contents c.print_commitless_in.new.errors)
    c.loop-found-test.true c.found-item.is c.loop-found.invariant c.in_ok-print_commitless_in.ensures

use Rattle.std.proofs.Common.{inl, inr, refl}
use Rattle.node.specs.View.{started}
use Rattle.upsched_store.proofs.Served.{began_over}
use Rattle.upsched_store.proofs.stored_node_run.serve_over.Goals as goal

pub serve_started-requires-clause-holds : goal.serve_started-requires-clause-holds
serve_started-requires-clause-holds g c = λ honest.
    let it = c.in-Ok.ensures in
    let over = it.over honest in
    (started over.0, over.3, over.2, (it.sound honest over.0 over.2).0)

pub returns-in-Ok-clause-runs : goal.returns-in-Ok-clause-runs
returns-in-Ok-clause-runs g c =
    let it = c.in-Ok.ensures in
    inr (it.started_over.0, record { store = c.in-Ok.started.1; over = began_over _ _ _ _ _ _ _ _ _ it }, c.serve_started.ensures (started it.started_over.0) it.started_over.1)

pub returns-in-Err-clause-runs : goal.returns-in-Err-clause-runs
returns-in-Err-clause-runs g c = inl (c.unstarted.result, c.unstarted.ensures, refl, (refl, refl))

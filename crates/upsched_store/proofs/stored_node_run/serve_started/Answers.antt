use Rattle.std.proofs.Common.{inl, subst}
use Rattle.upsched_store.specs.Stops.{StopsBy}
use Rattle.upsched_store.specs.Crashes.{TellsCause}
use Rattle.upsched_store.proofs.Served.{served_by, stands_in}
use Rattle.upsched_store.proofs.stored_node_run.serve_started.Goals as goal

pub returns : goal.returns
returns g c view stands =
    inl (inl (
      c.tell_first.new.output,
      c.in_default-tell_first.ensures.written,
      record {
        end = c.serve_batched_member-end.result;
        store = c.serve_batched_member-end.new.seat.noted.store;
        serves = served_by _ _ _ c.in-Ok.seat.seat c.args.started.0 _ _ _ _ _ _ _ _ _ c.in-Ok.ensures.node c.requires.members c.requires.id
            (c.serve_batched_member-end.ensures view (stands_in c.in-Ok.seat.seat c.args.started.0 view c.in-Ok.ensures.node c.in-Ok.ensures.up stands));
        tells = subst (λ store. StopsBy (λ cause. TellsCause g.S.CountsRefusals.refusals store cause) c.serve_batched_member-end.result c.stopped_by.result) c.into_store.ensures c.stopped_by.ensures;
      },
    ))

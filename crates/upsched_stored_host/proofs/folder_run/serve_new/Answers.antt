use Rattle.std.proofs.Common.{inl, inr, refl, sym, subst}
use Rattle.upsched_stored_host.specs.Folder.{IsNewHost}
use Rattle.upsched_stored_host.specs.Serving.{CanServe}
use Rattle.upsched_stored_host.proofs.folder_run.serve_new.Goals as goal

pub serve_from-end-requires : goal.serve_from-end-requires
serve_from-end-requires g c = subst (λ host. CanServe host) (sym c.new-server.ensures) (record { kept = c.in-Ok.ensures.kept; members = c.in-Ok.ensures.members; never = λ node. refl })

pub returns-in-Ok : goal.returns-in-Ok
returns-in-Ok g c = record {
  id = c.member-id.result.0;
  members = c.member-id.result.1;
  of = c.member-id.ensures;
  runs = inr (
    c.new-server.result,
    c.serve_from-end.new.server,
    c.serve_from-end.result,
    subst (λ host. IsNewHost g.F.Folder g.D.Databases g.D.Store.WriteStore c.args.given host) (sym c.new-server.ensures) (record {
      of = record {
        member = c.in-Ok.ensures.member;
        places = c.in-Ok.ensures.places;
        members = c.in-Ok.ensures.members;
        honest = λ e seat at. refl;
        kept = c.in-Ok.ensures.kept;
        begins = c.in-Ok.ensures.begins;
      };
      possible = c.in-Ok.ensures.begun.0;
      made = c.in-Ok.ensures.begun.1;
      stands = c.in-Ok.ensures.stands (λ e seat at. refl);
    }),
    c.serve_from-end.ensures.served,
    c.ended.ensures,
  );
}

pub returns-in-Err : goal.returns-in-Err
returns-in-Err g c = record { id = c.member-id.result.0; members = c.member-id.result.1; of = c.member-id.ensures; runs = inl (c.in-Err.fault, c.in-Err.ensures.none, (refl, refl), refl) }

use Rattle.std.proofs.Common.{inl, inr, refl, sym, subst}
use Rattle.upsched_stored_host.specs.Folder.{IsLeftHost}
use Rattle.upsched_stored_host.specs.Serving.{CanServe}
use Rattle.upsched_stored_host.proofs.folder_run.serve_again.Goals as goal

pub serve_on-end-requires : goal.serve_on-end-requires
serve_on-end-requires g c = subst (λ host. CanServe host) (sym c.new-server.ensures) (record { kept = c.in-Ok.ensures.kept; members = c.in-Ok.ensures.members; never = λ node. refl })

pub returns-in-Ok : goal.returns-in-Ok
returns-in-Ok g c = record {
  id = c.member-id.result.0;
  members = c.member-id.result.1;
  of = c.member-id.ensures;
  runs = inr (
    c.new-server.result,
    c.serve_on-end.new.server,
    c.serve_on-end.result,
    subst (λ host. IsLeftHost g.F.Folder g.D.Databases g.D.Store.WriteStore c.args.given host) (sym c.new-server.ensures) (record {
      of = record {
        member = c.in-Ok.ensures.member;
        places = c.in-Ok.ensures.places;
        members = c.in-Ok.ensures.members;
        honest = λ e seat at. refl;
        kept = c.in-Ok.ensures.kept;
        begins = c.in-Ok.ensures.begins;
      };
      start = c.in-Ok.ensures.resumed.0;
      found = c.in-Ok.ensures.resumed.1;
      gone = c.in-Ok.ensures.resumed.2;
      resumes = c.in-Ok.ensures.resumed.3;
    }),
    c.serve_on-end.ensures.served,
    c.ended.ensures,
  );
}

pub returns-in-Err : goal.returns-in-Err
returns-in-Err g c = record { id = c.member-id.result.0; members = c.member-id.result.1; of = c.member-id.ensures; runs = inl (c.in-Err.fault, c.in-Err.ensures.none, (refl, refl), refl) }

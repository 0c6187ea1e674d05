use Rattle.std.proofs.Common.{◌≡◌, inl, inr, refl, sym, subst}
use Rattle.folder_hosts.specs.declared.opens.FolderOpens.{FolderOpens}
use Rattle.upsched_stored_host.proofs.folder_run.serve_joining.Goals as goal

pub serve_once_joined-requires : goal.serve_once_joined-requires
serve_once_joined-requires g c = λ node. refl

pub returns-in-Ok : goal.returns-in-Ok
returns-in-Ok g c = record {
  id = c.member-id.result.0;
  members = c.member-id.result.1;
  of = c.member-id.ensures;
  runs = inr (
    c.in-Ok.opens,
    record {
      folder = subst (λ (o : FolderOpens g.row.F.Denot g.row.D.Denot). o.folder ≡ c.args.given.folder) (sym c.in-Ok.ensures.waits.0) refl;
      databases = subst (λ (o : FolderOpens g.row.F.Denot g.row.D.Denot). o.databases ≡ c.args.given.databases) (sym c.in-Ok.ensures.waits.0) refl;
      fresh = c.in-Ok.ensures.waits.1;
    },
    c.serve_once_joined.ensures,
  );
}

pub returns-in-Err : goal.returns-in-Err
returns-in-Err g c = record { id = c.member-id.result.0; members = c.member-id.result.1; of = c.member-id.ensures; runs = inl (c.in-Err.fault, c.in-Err.ensures.none, (refl, refl), refl) }

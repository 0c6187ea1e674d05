use Rattle.std.proofs.Common.{rules, refl, [], ◌∷◌}
use Rattle.stored_hosts.specs.Acts.Act.{Makes, Renames, Syncs, SyncsFile, Writes}
use Rattle.stored_hosts.specs.Committing.{file_of}
use Rattle.stored_hosts.specs.declared.names.FileKind.TheVariants.{State, Part}
use Rattle.stored_hosts.proofs.Doing.{fails_at, last_failed, told_failed}
use Rattle.stored_hosts.proofs.committing.commit_bytes.Goals as goal

pub returns-in_err-target-clause-fails : goal.returns-in_err-target-clause-fails
returns-in_err-target-clause-fails g c =
    told_failed g.F.Folder.does _ c.in_err-target.field-0.0 _ _ _ (search rules)
    (fails_at g.F.Folder.does _ c.args.folder.now _ [] (Writes (file_of c.args.epoch Part) c.args.bytes.now ∷ SyncsFile (file_of c.args.epoch Part) ∷ Renames (file_of c.args.epoch Part) (file_of c.args.epoch State) ∷ Syncs ∷ [])
    (Makes (file_of c.args.epoch Part)) c.in_err-target.field-0.0 refl c.in_err-target.ensures.does)

pub returns-in_err-write-clause-fails : goal.returns-in_err-write-clause-fails
returns-in_err-write-clause-fails g c =
    told_failed g.F.Folder.does _ c.in_err-write.field-0.0 _ _ _ (search rules)
    (fails_at g.F.Folder.does _ c.make.new.self _ (Makes (file_of c.args.epoch Part) ∷ []) (SyncsFile (file_of c.args.epoch Part) ∷ Renames (file_of c.args.epoch Part) (file_of c.args.epoch State) ∷ Syncs ∷ [])
    (Writes (file_of c.args.epoch Part) c.args.bytes.now) c.in_err-write.field-0.0 (c.make.new.self, c.in_ok-target.ensures.does, refl)
    (c.in_err-write.ensures.does (file_of c.args.epoch Part) c.in_ok-target.ensures.open))

pub returns-in_err-sync_file-clause-fails : goal.returns-in_err-sync_file-clause-fails
returns-in_err-sync_file-clause-fails g c =
    let part = file_of c.args.epoch Part in
    let wrote = c.in_ok-write.ensures.does part c.in_ok-target.ensures.open in
    told_failed g.F.Folder.does _ c.in_err-sync_file.field-0.0 _ _ _ (search rules)
    (fails_at g.F.Folder.does _ c.write.new.self _ (Makes part ∷ Writes part c.args.bytes.now ∷ []) (Renames part (file_of c.args.epoch State) ∷ Syncs ∷ [])
    (SyncsFile part) c.in_err-sync_file.field-0.0 (c.make.new.self, c.in_ok-target.ensures.does, (c.write.new.self, wrote, refl)) (c.in_err-sync_file.ensures.does part (c.in_ok-write.ensures.open part c.in_ok-target.ensures.open)))

pub returns-in_err-rename-clause-fails : goal.returns-in_err-rename-clause-fails
returns-in_err-rename-clause-fails g c =
    let part = file_of c.args.epoch Part in
    let wrote = c.in_ok-write.ensures.does part c.in_ok-target.ensures.open in
    let synced = c.in_ok-sync_file.ensures.does part (c.in_ok-write.ensures.open part c.in_ok-target.ensures.open) in
    told_failed g.F.Folder.does _ c.in_err-rename.field-0.0 _ _ _ (search rules)
    (fails_at g.F.Folder.does _ c.sync_file.new.self _ (Makes part ∷ Writes part c.args.bytes.now ∷ SyncsFile part ∷ []) (Syncs ∷ [])
    (Renames part (file_of c.args.epoch State)) c.in_err-rename.field-0.0 (c.make.new.self, c.in_ok-target.ensures.does, (c.write.new.self, wrote, (c.sync_file.new.self, synced, refl))) c.in_err-rename.ensures.does)

pub returns-clause-fails : goal.returns-clause-fails
returns-clause-fails g c =
    let part = file_of c.args.epoch Part in
    let wrote = c.in_ok-write.ensures.does part c.in_ok-target.ensures.open in
    let synced = c.in_ok-sync_file.ensures.does part (c.in_ok-write.ensures.open part c.in_ok-target.ensures.open) in
    last_failed g.F.Folder.does c.sync.result _ c.rename.new.self _ (Makes part ∷ Writes part c.args.bytes.now ∷ SyncsFile part ∷ Renames part (file_of c.args.epoch State) ∷ [])
    Syncs (c.make.new.self, c.in_ok-target.ensures.does, (c.write.new.self, wrote, (c.sync_file.new.self, synced, (c.rename.new.self, c.in_ok-rename.ensures.does, refl)))) c.sync.ensures.does

use Rattle.std.proofs.Common.{◌≡◌, Err, rules, sym, subst, take, ◌+◌}
use Rattle.std.specs.Prelude.{IfErr}
use Rattle.stored_hosts.specs.Acts.{AreDone, FailsAmong}
use Rattle.stored_hosts.specs.Leaving.{goes}
use Rattle.stored_hosts.proofs.Doing.{done_next, fails_at, gone, gone_at, gone_on, kept_on}
use Rattle.stored_hosts.proofs.leaving.remove_layer.Goals.{then-goes+in_ok-remove, else-goes}
use Rattle.stored_hosts.proofs.leaving.remove_layer.Goals as goal

pub loop-file-preserved : goal.loop-file-preserved
loop-file-preserved g c = elim c.if-goes.branch [
  | then-goes+in_ok-remove w ↦
      let so = rw c.goes.ensures at w.if-goes.true in
      let on = gone_on (goes c.args.layer c.args.counts) c.args.files.now c.loop-file.file-index _ c.loop-file-test.true so in
      subst (λ h. AreDone g.F.Folder.does c.args.folder.now (gone (goes c.args.layer c.args.counts) (take (c.loop-file.file-index + 1) c.args.files.now)) h) (sym w.folder-is)
      (subst (λ acts. AreDone g.F.Folder.does c.args.folder.now acts w.remove.new.self) (sym on)
      (done_next g.F.Folder.does c.args.folder.now c.loop-file.folder w.remove.new.self _ _ c.loop-file.invariant w.in_ok-remove.ensures.does))
  | else-goes w ↦
      let so = rw c.goes.ensures at w.if-goes.false in
      let on = kept_on (goes c.args.layer c.args.counts) c.args.files.now c.loop-file.file-index _ c.loop-file-test.true so in
      subst (λ h. AreDone g.F.Folder.does c.args.folder.now (gone (goes c.args.layer c.args.counts) (take (c.loop-file.file-index + 1) c.args.files.now)) h) (sym w.folder-is)
      (subst (λ acts. AreDone g.F.Folder.does c.args.folder.now acts c.loop-file.folder) (sym on) c.loop-file.invariant)
]

pub returns-in_err-remove-clause-fails : goal.returns-in_err-remove-clause-fails
returns-in_err-remove-clause-fails g c =
    let is : c.from_residual.result ≡ Err c.in_err-remove.field-0.0 = search rules in
    let all = gone_at (goes c.args.layer c.args.counts) c.args.files.now c.loop-file.file-index _ c.loop-file-test.true (rw c.goes.ensures at c.if-goes.true) in
    subst (λ r. IfErr r (λ why. FailsAmong g.F.Folder.does c.args.folder.now (gone (goes c.args.layer c.args.counts) c.args.files.now) why c.remove.new.self)) (sym is)
    (subst (λ acts. FailsAmong g.F.Folder.does c.args.folder.now acts c.in_err-remove.field-0.0 c.remove.new.self) (sym all)
    (fails_at g.F.Folder.does c.args.folder.now c.loop-file.folder c.remove.new.self _ _ _ c.in_err-remove.field-0.0 c.loop-file.invariant c.in_err-remove.ensures.does))

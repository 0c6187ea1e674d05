use Rattle.std.proofs.Common.{◌≡◌, Err, rules, refl, sym, subst, inr, [], ◌∷◌}
use Rattle.std.specs.Prelude.{IfErr}
use Rattle.std.proofs.lemmas.Result.{IfErr-weaker, IfOk-weaker}
use Rattle.stored_hosts.specs.Acts.Act.{Syncs}
use Rattle.stored_hosts.specs.Leaving.{FailsToLeave, removals_of}
use Rattle.stored_hosts.specs.declared.leaving.Layer.TheVariants.{States, Databases}
use Rattle.stored_hosts.proofs.Doing.{done_behind, fails_before, fails_behind}
use Rattle.stored_hosts.proofs.leaving.let_go.Goals as goal

pub returns-in_err-remove_layer-clause-fails : goal.returns-in_err-remove_layer-clause-fails
returns-in_err-remove_layer-clause-fails g c =
    let is : c.from_residual-in_err-remove_layer.result ≡ Err c.in_err-remove_layer.field-0.0 = search rules in
    let files = c.in_ok-files.files.items in
    let failed = fails_before g.F.Folder.does c.args.folder.now c.remove_layer.new.folder (removals_of States c.args.counts files) (Syncs ∷ removals_of Databases c.args.counts files)
    c.in_err-remove_layer.field-0.0 (rw c.as_slice.ensures.value at c.in_err-remove_layer.ensures.fails) in
    subst (λ r. IfErr r (λ why. FailsToLeave g.F.Folder.lists g.F.Folder.unread g.F.Folder.does c.args.counts c.args.folder.now why c.remove_layer.new.folder)) (sym is)
    (inr (files, c.in_ok-files.ensures.lists, failed))

pub returns-clause-done : goal.returns-clause-done
returns-clause-done g c =
    let files = c.in_ok-files.files.items in
    IfOk-weaker c.remove_layer-2.result _ _ (λ _ done. (
      files,
      c.in_ok-files.ensures.lists,
      done_behind g.F.Folder.does c.args.folder.now c.remove_layer.new.folder c.remove_layer-2.new.folder (removals_of States c.args.counts files) (Syncs ∷ removals_of Databases c.args.counts files)
          (rw c.as_slice.ensures.value at c.in_ok-remove_layer.ensures.done) (c.sync.new.self, c.in_ok-sync.ensures.does, rw c.as_slice-2.ensures.value at done),
    )) c.remove_layer-2.ensures.done

pub returns-clause-fails : goal.returns-clause-fails
returns-clause-fails g c =
    let files = c.in_ok-files.files.items in
    IfErr-weaker c.remove_layer-2.result _ _ (λ why failed. inr (
      files,
      c.in_ok-files.ensures.lists,
      fails_behind g.F.Folder.does c.args.folder.now c.remove_layer.new.folder c.remove_layer-2.new.folder (removals_of States c.args.counts files) (Syncs ∷ removals_of Databases c.args.counts files) why
          (rw c.as_slice.ensures.value at c.in_ok-remove_layer.ensures.done)
          (fails_behind g.F.Folder.does c.remove_layer.new.folder c.sync.new.self c.remove_layer-2.new.folder (Syncs ∷ []) (removals_of Databases c.args.counts files) why
          (c.sync.new.self, c.in_ok-sync.ensures.does, refl) (rw c.as_slice-2.ensures.value at failed)),
    )) c.remove_layer-2.ensures.fails

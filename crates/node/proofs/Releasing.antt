-- What a node that is up releases.
use Rattle.std.proofs.Common.{◌≡◌, ◌∙◌, ℕ, refl, sym, ap, subst, List, Ok, Err, false, length}
use Rattle.acceptor.specs.Content.{Content}
use Rattle.command_log.specs.Values.{outputs_of_values}
use Rattle.map_release.specs.Released.{released}
use Rattle.map_release.specs.declared.numbered.Numbered.{Numbered}
use Rattle.proposer.specs.declared.fault.NodeFault.{NodeFault as Fault}
use Rattle.node.specs.Learned.{Learned}
use Rattle.node.specs.Releases.{Releases, released_all}
use Rattle.node.specs.View.{View, Standing, values_from}
use Rattle.node.specs.View.Standing.{Running, Stopped}
use Rattle.node.specs.Sched.{Stands, view_over}
use Rattle.node.specs.declared.parts.Parts.{Parts}
use Rattle.node.specs.declared.knowledge.Knowledge.{Knowledge}

module _ {R : Type 0} (may_find : R → Content → Type 0) (old : Parts R) (up : old.is_down ≡ false) (knows : Knowledge) where
  abbrev later : Parts R
  later = record old { knowledge = knows }

  pub releases : (now : ℕ) (numbered : List Numbered) → numbered ≡ released now old.knowledge.cursor (outputs_of_values (values_from 1 old.knowledge.tally.learned))
      → knows ≡ record old.knowledge { cursor = length (values_from 1 old.knowledge.tally.learned) }
      → (s : Standing) → Stands may_find old s → (t : Standing) × Releases s now (Ok numbered) t × Stands may_find later t
  releases now numbered is after (Running view) stands =
      let told : numbered ≡ released now view.cursor (outputs_of_values (values_from 1 view.tally.learned)) = subst (λ (v : View). numbered ≡ released now v.cursor (outputs_of_values (values_from 1 v.tally.learned))) (sym stands.1) is in
      let same : released_all view ≡ view_over later view.content =
      ap released_all stands.1 ∙ ap (λ (l : Learned). record (view_over old view.content) { tally = l.tally; cursor = l.cursor }) (sym after) in
      (Running (released_all view), (told, refl), (up, same, stands.2))
  releases now numbered is after (Stopped c doubt) stands = absurd (cc (up, stands.0))

  pub wants : (now : ℕ) (fault : Fault) → fault ≡ Fault.OutOfMemory → knows ≡ old.knowledge → (s : Standing) → Stands may_find old s → (t : Standing) × Releases s now (Err fault) t × Stands may_find later t
  wants now fault is after (Running view) stands =
      subst (λ f. (t : Standing) × Releases (Running view) now (Err f) t × Stands may_find later t) (sym is) (subst (λ (k : Knowledge). (t : Standing) × Releases (Running view) now (Err Fault.OutOfMemory) t × Stands may_find record old { knowledge = k } t) (sym after) (Running view, refl, stands))
  wants now fault is after (Stopped c doubt) stands = absurd (cc (up, stands.0))

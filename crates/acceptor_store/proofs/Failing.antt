-- What stays true of the records where a call failed, or made no statement.
use Rattle.std.proofs.Common.{◌≡◌, inl, inr, Bool, true, false, if◌then◌else◌, Some, Option, sym, subst, ◌∙◌, arith}
use Rattle.acceptor_store.proofs.Words.{Ghosts, Trees, HasCleanDisk, Survives, Held, state, Content, Write, after_write}
use Rattle.acceptor_store.proofs.Words.{Stop, Memory, Down, Owner, LeavesOpen, leaves_open, AreTablesFor, ServesFor}
use Rattle.acceptor_store.proofs.Words.{StillServes, DoesNotServe, MayHaveCounted, ServesKnown, Numbers, IsLinked, IsServing}
use Rattle.acceptor_store_parts.specs.declared.Stop.TheVariants.{Refused}
use Rattle.acceptor_store.proofs.CountsKnown.{still_known}

-- records that are up still are over a connection that is open
open_still : (stop : Stop) (is_up : Bool) → (if leaves_open stop then is_up else false) ≡ true → LeavesOpen stop
open_still Memory is_up up = tt
open_still Refused is_up up = tt
open_still Down is_up up = absurd (let e : false ≡ true = up in cc)

module _ {S : Type 0} (g : Ghosts S) (was : Option (Held S)) {owner : Option Owner} {held : Option (Held S)} {old : Held S} (new : Held S) {is_up is_up′ : Bool} {hi : Numbers} (stop : Stop) (some : held ≡ Some old)
    (linked : IsLinked g owner held was is_up hi) (up : is_up ≡ true) (now : is_up′ ≡ (if leaves_open stop then is_up else false)) where
  pub linked_failed : (Commits : Trees → Type 0) → ((db : Trees) → Commits db → (c : Content) → ServesKnown owner hi.count (state g old) c → ∥ ((d : Content) × AreTablesFor owner db d) ∥₁)
      → Survives (state g old) (state g new) Commits → (HasCleanDisk (state g new) → LeavesOpen stop → StillServes (state g old) (state g new)) → IsServing g owner new is_up′ hi
  linked_failed Commits holds survives still clean =
      let before : HasCleanDisk (state g old) = omega (arith, survives.clean, clean) in
      let it = subst (λ h. IsLinked g owner h was is_up hi) some linked before in
      let knew = it.1 up in (
        λ db may. elim (survives.crash clean db may) [ inl stood ↦ it.0 db stood | inr commits ↦ holds db commits knew.0 knew.1 ],
        λ up′. (knew.0, still_known (state g old) (state g new) (still clean (open_still stop is_up (sym now ∙ up′))) owner hi.count knew.0 knew.1, knew.2),
      )

  pub linked_unread : Survives (state g old) (state g new) (λ _. DoesNotServe (state g old)) → (HasCleanDisk (state g new) → LeavesOpen stop → StillServes (state g old) (state g new)) → IsServing g owner new is_up′ hi
  linked_unread = linked_failed (λ _. DoesNotServe (state g old)) (λ db none c was. absurd (none c (owner, was.2.serves)))

  pub linked_unwritten : (w : Write) → Survives (state g old) (state g new) (MayHaveCounted owner hi.count (state g old) w) → (HasCleanDisk (state g new) → LeavesOpen stop → StillServes (state g old) (state g new))
      → IsServing g owner new is_up′ hi
  linked_unwritten w = linked_failed (MayHaveCounted owner hi.count (state g old) w) (λ db wrote c was. ∣ (after_write c (Some w), (wrote c was).2.0) ∣₁)

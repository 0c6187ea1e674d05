-- What is told of a call that failed.
use Rattle.std.proofs.Common.{ap, sym, inl, inr, refl, subst, Bool}
use Rattle.std.specs.Prelude.{if◌then◌else◌}
use Rattle.std.proofs.lemmas.Bool.{cases_Bool}
use Rattle.folder_hosts.specs.Faults.{IsEither, is_want, node_told, of_state}
use Rattle.folder_hosts.specs.Folders.{may_fail}
use Rattle.folder_hosts.specs.Starting.{IsOfFirst}
use Rattle.folder_hosts.specs.declared.fault.HostStartFault.{HostStartFault}
use Rattle.folder_hosts.specs.declared.fault.HostStartFault.TheVariants.{NoState, Places, Folder, Database, State, OutOfMemory}
use Rattle.proposer.specs.declared.fault.NodeFault.TheVariants as node

-- a host tells of a call on the folder or a database that it may fail so
pub fails_so : (why : HostStartFault) → may_fail (node_told why)
fails_so NoState = inr refl
fails_so Places = inr refl
fails_so (Folder why) = inr refl
fails_so (State epoch why) = inr refl
fails_so OutOfMemory = inl refl
fails_so (Database epoch why) = elim (cases_Bool (is_want why)) [
  | inl is ↦ inl (ap (λ (b : Bool). if b then node.OutOfMemory else node.StoreRefused) is)
  | inr isn't ↦ inr (ap (λ (b : Bool). if b then node.OutOfMemory else node.StoreRefused) isn't)
]

-- the first state wasn't put there
pub of_first : (told : HostStartFault) → IsEither (of_state 1) told → IsOfFirst told
of_first told (inl is) = subst IsOfFirst (sym is) tt
of_first told (inr it) = subst IsOfFirst (sym it.1) refl

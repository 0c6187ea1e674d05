-- What is told of files that may not be used.
use Rattle.std.proofs.Common.{◌≡◌, subst, Some, None, Result, Ok, Err, IfOk, IsOkAnd, OnErr, ap, sym, ◌∙◌}
use Rattle.std.proofs.lemmas.Option.{same_Some}
use Rattle.stored_nodes.specs.declared.states.FilesState.{FilesState}
use Rattle.stored_nodes.specs.declared.states.FilesState.TheVariants.{Foreign, Unusable}
use Rattle.stored_nodes.specs.declared.start.FileFault.{FileFault}
use Rattle.stored_nodes.specs.declared.states.Told.{Told}
use Rattle.stored_nodes.specs.declared.states.Told.TheVariants.{State, NoOwner, Memory}
use Rattle.stored_nodes.specs.States.{IsTold, state_told}

pub told_unusable : {E : Type 0} (why : FileFault) (r : Result FilesState E) (told : Told) → told ≡ State (Unusable why) → IfOk r (λ state. state_told told ≡ Some state)
    → OnErr r (state_told told ≡ None) → IsOkAnd r (λ state. state ≡ Unusable why)
told_unusable why (Ok state) told is some memory = same_Some state (Unusable why) (sym some ∙ ap state_told is)
told_unusable why (Err e) told is some memory = absurd (cc (sym (ap state_told is) ∙ memory))

-- what is told of files is so of their state
pub told_so : {E : Type 0} (P : FilesState → Type 0) (r : Result FilesState E) (told : Told) → IsTold P told → IfOk r (λ state. state_told told ≡ Some state) → IfOk r P
told_so P (Err e) told is some = tt
told_so P (Ok state) (State found) is some = subst P (same_Some found state some) is
told_so P (Ok state) NoOwner is some = subst P (same_Some Foreign state some) is
told_so P (Ok state) Memory is some = absurd (cc some)

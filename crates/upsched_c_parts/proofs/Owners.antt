-- The owner of a block at an address: what it owns as the machine has it, and on which thread. Assumes `Logic`.
use mir.Raw.{raw as layout_of}
use base.Fraction.{full_share}
use base.Shift.{Keyless}
use denote.Exit.{Exit, unchanged, leaves as lets_go, hidden, under}
use denote.Param.Send.{IsSend, Quiet, part_keyless}
use denote.RawPtr.{lies_at}
use mathlib.Core.Bool.{true≢false}
use Rattle.std.proofs.Crossing as heap
use Rattle.std.specs.Prelude.{IsSome}
use Rattle.std.specs.declared.alloc.Global.{Global}
use Rattle.std.specs.contracts.impls.GlobalAllocator.TheImpl.{ghosts}
use Rattle.upsched_c_parts.specs.Owned.{owned_if}
use Rattle.upsched_c_parts.proofs.Steps.{◌≡◌, ℕ, List, [], ◌∷◌, ◌++◌, refl, sym, subst, box_owns, Option, None, Some}
use Rattle.upsched_c_parts.proofs.Steps.{Ura, bare, Val, vptr, vstruct, vcons, vnil, of_list, Fml, feq, fex, fsep}
use Rattle.upsched_c_parts.proofs.Steps.{never, fst∗, Logic, sem, Item, Goal, Seq, Step, step, ‵, ◌$◌, drop, fsplit}
use Rattle.upsched_c_parts.proofs.Steps.{fjoin, fpick, fpack, feq_i, feq_l, RawPtr, lone, RattleType, Valss, flat, owns}
use Rattle.upsched_c_parts.proofs.Steps.{Ptr, block_ptr, null_ptr, ptr_val, in_a_block, nothing}

abbrev pub alone : Val → Val
alone v = vstruct (vcons v vnil)

module _ (R : RattleType) where
  -- the address as a struct's one field
  abbrev at_alone : Ptr → List Val → Valss (RawPtr ∷ []) → Fml
  at_alone p vs vss = fsep (feq (List Val) vs (vstruct (of_list (flat (RawPtr ∷ []) vss)) ∷ [])) (owns (RawPtr ∷ []) (p, tt) vss)

  -- what such a struct owns
  abbrev pub owner_at : Ptr → Option R.Denot → List Val → Fml
  owner_at p v vs = fsep (fex (Valss (RawPtr ∷ [])) (at_alone p vs)) (owned_if R p v)

  abbrev boxed : Global → Ptr → R.Denot → Fml
  boxed g p x = box_owns (ghosts.dealloc_token g) R p x

  module _ {M : Type 1} {𝓤 : Ura M} {𝓛 : Logic 𝓤} {K : Type 0} {Γ : List (Item 𝓤)} {G : Goal 𝓤 𝓛.H} where
    pub owner_in : K → (g : Global) (b o : ℕ) (x : R.Denot) → Step K 𝓛 (‵ (owner_at (block_ptr b o) (Some x) (alone (vptr b o) ∷ [])) ∷ Γ) G (‵ (boxed g (block_ptr b o) x) ∷ Γ) G
    owner_in t g b o x = step (λ s. let v : Val = alone (vptr b o) in
        fpack t Global (λ heap. boxed heap (block_ptr b o) x) g $ nothing t $ feq_i t (List Val) (vptr b o ∷ []) (vptr b o ∷ []) refl $ fjoin t $ feq_i t (List Val) (v ∷ []) (v ∷ []) refl $ fjoin t $
        fpack t (Valss (RawPtr ∷ [])) (at_alone (block_ptr b o) (v ∷ [])) (vptr b o ∷ [], tt) $ fjoin t $ s)

    pub owner_none : K → Step K 𝓛 (‵ (owner_at null_ptr None (alone (ptr_val null_ptr) ∷ [])) ∷ Γ) G Γ G
    owner_none t = step (λ s. let v : Val = alone (ptr_val null_ptr) in
        nothing t $ nothing t $ feq_i t (List Val) (ptr_val null_ptr ∷ []) (ptr_val null_ptr ∷ []) refl $ fjoin t $ feq_i t (List Val) (v ∷ []) (v ∷ []) refl $ fjoin t $
        fpack t (Valss (RawPtr ∷ [])) (at_alone null_ptr (v ∷ [])) (ptr_val null_ptr ∷ [], tt) $ fjoin t $ s)

    value_out : K → (p : Ptr) (v : Option R.Denot) → IsSome v → ((x : R.Denot) → v ≡ Some x → Seq K 𝓛 (‵ (fex Global (λ g. boxed g p x)) ∷ Γ) G) → Seq K 𝓛 (‵ (owned_if R p v) ∷ Γ) G
    value_out t p None some k = absurd (true≢false (sym some))
    value_out t p (Some x) some k = k x refl

    pub owner_out : K → (p : Ptr) (v : Option R.Denot) (vs : List Val) → IsSome v
        → ((g : Global) (b o : ℕ) (x : R.Denot) → v ≡ Some x → vs ≡ alone (vptr b o) ∷ [] → Seq K 𝓛 (‵ (boxed g (block_ptr b o) x) ∷ Γ) G)
        → Seq K 𝓛 (‵ (owner_at p v vs) ∷ Γ) G
    owner_out t p v vs some k =
        fsplit t $ fpick t (λ vss. fsplit t $ feq_l t (λ ev. fsplit t $ feq_l t (λ ep. drop t $ value_out t p v some (λ x is. fpick t (λ g. in_a_block t p (λ q. boxed g q x) (fst∗ 𝓤 (never 𝓤) (sem 𝓛 (ghosts.dealloc_token g (bare (lone R.mir)) null_ptr))) (λ b o e. k g b o x is
        (subst (λ (q : Ptr). vs ≡ vstruct (of_list (ptr_val q ∷ [])) ∷ []) e (subst (λ (ps : List Val). vs ≡ vstruct (of_list (ps ++ [])) ∷ []) ep ev))))))))

  -- a value that may go to another thread goes with what owns it
  lies : IsSend R → (p : Ptr) (x : R.Denot) → Keyless (lies_at R full_share p x)
  lies sends (block_ptr b o) x = part_keyless R sends full_share x b o
  lies sends null_ptr x = tt

  pub owned_keyless : IsSend R → (p : Ptr) (v : Option R.Denot) → Keyless (owned_if R p v)
  owned_keyless sends p None = tt
  owned_keyless sends p (Some x) = λ g. (lies sends p x, heap.frees.frees g (layout_of (lone R.mir)) p)

pub quiet : {D X : Type 0} (to : D → X) (e : Exit X) → Quiet e → Quiet (hidden (under to e))
quiet to unchanged q = λ x w. tt
quiet to (lets_go L l S s r₀) q = λ d. q (to d)

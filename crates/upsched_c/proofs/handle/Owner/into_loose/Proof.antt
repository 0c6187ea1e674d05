-- `into_loose` passes on what the owner owns.
use Rattle.std.specs.contracts.alloc.Global as heap
use Rattle.std.proofs.alloc.Global.TheLaws as heap_laws
use Rattle.std.specs.contracts.impls.GlobalAllocator.TheImpl.{ghosts}
use Rattle.upsched_c.specs.contracts.handle.Held as inner
use Rattle.upsched_c_parts.proofs.Values.{both, loose_good, loose_in, al}
use Rattle.upsched_c_parts.proofs.Owners.{alone, owner_out}
use Rattle.std.specs.Prelude.{IsSome}
use Rattle.upsched_c.specs.contracts.handle.Owner as owner
use Rattle.upsched_c.specs.contracts.handle.Owner.into_loose.{ended, clauses}
use Rattle.upsched_c.specs.contracts.handle.Owner.into_loose.Key.{name as #self}
use Rattle.upsched_c.proofs.handle.Owner.into_loose.Statement.{statement}
use Rattle.upsched_c.proofs.handle.Owner.into_loose.Code as code
use Rattle.upsched_c_parts.proofs.Steps.{◌≡◌, List, [], ◌∷◌, ◌++◌, refl, sym, subst, Fn, Val, vptr, SProp, ent, emp}
use Rattle.upsched_c_parts.proofs.Steps.{id⊢, WpFn, ‵, raw, ◌⊛◌, ◌$◌, ◌∵◌, !, qed, by, move, keep, split, fsplit, fjoin}
use Rattle.upsched_c_parts.proofs.Steps.{suffices, use0, stop, fld, of_opd, no_more, and_then, returns, enter}
use Rattle.upsched_c_parts.proofs.Steps.{alloc_all, pass_all, free_all, look_at, get, get_in, sets, agg, sub, whole}
use Rattle.upsched_c_parts.proofs.Steps.{fact, fact_i, tables, RattleType, owns, types_at, plain, block_ptr, nothing}
use Rattle.upsched_c_parts.proofs.Steps.{heard, alive, Stays, stay_dropped, walk_of, Goes-blank, handle_tells}
use Rattle.upsched_c_parts.proofs.Steps.{proved_at, leaves, Some}

pub into_loose_spec : {M : Type 1} → statement M
into_loose_spec 𝓤 𝓛 𝓜 𝓡 wired =
    let H = 𝓛.H in let 𝓣 = tables 𝓤 H 𝓜 𝓡 𝓡.env in let R : RattleType = inner.the_row in let Z : RattleType = heap.the_row in let LZ = heap_laws.the_row_laws in let En = ended in let c = clauses 𝓛 𝓜.mem 𝓡.returns in
    let fn : Fn = code.function in let P = plain {n = 0} (λ _. owner.the_row) in let Q = plain {n = 0} (λ _. Z) in let hs : Stays En.signature.params En.kept = (stay_dropped P En.kept.0, (stay_dropped Q En.kept.1.0, tt)) in
    proved_at 𝓛 En hs c 𝓜 𝓡 (Goes-blank 𝓛 0 P En.kept.0 (λ κs x f. tt), (Goes-blank 𝓛 0 Q En.kept.1.0 (λ κs x f. tt), tt)) #self fn (code.unfolded 𝓤 H 𝓜 𝓡 wired) (λ z are.
    let Post : Val → SProp 𝓤 = (walk_of 𝓛 En hs c).post z in let Run : List Val → SProp 𝓤 = λ ws. WpFn 𝓤 H 𝓣.C 𝓣.Λ fn ws Post in
    let d = z.0.3.0 in let a = z.0.3.1.0 in
    qed 𝓛 ((raw (alive 𝓛 En.signature z.0.0 z.0.1) ⊛ ‵ (owns (types_at En.signature.params z.0.0) z.0.3 z.0.4)) ∷ raw (fact 𝓤 (IsSome d.value)) ∷ []) ∵ move ! (1 ∷ []) $ heard ! (IsSome d.value) (λ some. split ! $ move ! (1 ∷ []) $ fsplit ! $
    owner_out R ! d.at d.value z.0.4.0 some (λ g b o x is ws. move ! (1 ∷ []) $ fsplit ! $ handle_tells (al R Z LZ ghosts) ! a z.0.4.1.0 (λ h eh fits.
    -- [the handle; true; the block; alive]
    let w : Val = alone (vptr b o) in
    suffices ! (Run (w ∷ h ∷ [])) (subst (λ (us : List Val). ent 𝓤 (Run (w ∷ h ∷ [])) (Run us)) (sym (λ i. ws i ++ (eh i ++ []))) (id⊢ 𝓤 (Run (w ∷ h ∷ [])))) $
    enter ! 𝓣.C 𝓣.Λ fn (w ∷ h ∷ []) Post $ alloc_all ! (λ ls. pass_all ! refl ((tt, (tt, tt)), (fits, tt)) $
    sets ! (of_opd ! (get_in ! (fld ! refl (stop !)) (sub ! 0 refl (whole !)))) refl (tt, tt) $
    sets ! (of_opd ! (get ! refl)) refl (tt, tt) $
    sets ! (agg ! (and_then ! (get ! refl) (and_then ! (get ! refl) (no_more !)))) refl (loose_good R Z LZ ghosts b o h fits) $
    move ! (2 ∷ 0 ∷ []) $ loose_in R Z LZ ghosts ! b o h a x $
    use0 𝓛 (raw (fact 𝓤 (d.value ≡ Some x))) (fact_i 𝓤 (d.value ≡ Some x) (emp 𝓤) is) $ nothing ! $ nothing ! $ fjoin ! $ nothing ! $ fjoin ! $
    returns ! (look_at ! 0 refl) $ free_all ! refl $ keep ! (4 ∷ 0 ∷ 2 ∷ 1 ∷ []) $
    by ! (leaves 𝓛 En hs c z (both (vptr b o) h) (record { at = block_ptr b o; alloc = a; value = x }) (tt, (tt, tt)) (tt, (tt, tt))))))))

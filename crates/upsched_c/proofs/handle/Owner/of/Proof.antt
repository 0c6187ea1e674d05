-- `of` passes on what the loose box owns.
use Rattle.std.specs.contracts.alloc.Global as heap
use Rattle.std.proofs.alloc.Global.TheLaws as heap_laws
use Rattle.std.specs.contracts.impls.GlobalAllocator.TheImpl.{ghosts}
use Rattle.upsched_c.specs.declared.handle.Held.{Held}
use Rattle.upsched_c.specs.contracts.handle.Held as inner
use Rattle.upsched_c_parts.specs.contracts.loose.Loose as loose
use Rattle.upsched_c_parts.proofs.Values.{both, loose_good, loose_out}
use Rattle.upsched_c_parts.proofs.Owners.{alone, owner_in}
use Rattle.upsched_c.specs.contracts.handle.Owner.of.{ended, clauses}
use Rattle.upsched_c.specs.contracts.handle.Owner.of.Key.{name as #self}
use Rattle.upsched_c.proofs.handle.Owner.of.Statement.{statement}
use Rattle.upsched_c.proofs.handle.Owner.of.Code as code
use Rattle.upsched_c_parts.proofs.Steps.{◌≡◌, List, [], ◌∷◌, ◌++◌, refl, sym, subst, Fn, Val, vptr, SProp, ent, emp}
use Rattle.upsched_c_parts.proofs.Steps.{id⊢, ftrue, WpFn, ‵, raw, ◌⊛◌, ◌$◌, ◌∵◌, !, qed, by, move, keep, drop, split}
use Rattle.upsched_c_parts.proofs.Steps.{fsplit, fjoin, suffices, use0, stop, fld, of_opd, no_more, and_then, returns}
use Rattle.upsched_c_parts.proofs.Steps.{enter, alloc_all, pass_all, free_all, look_at, get, get_in, sets, agg, sub}
use Rattle.upsched_c_parts.proofs.Steps.{whole, fact, fact_i, tables, RattleType, owns, types_at, plain, block_ptr}
use Rattle.upsched_c_parts.proofs.Steps.{nothing, alive, Stays, stay_dropped, walk_of, Goes-blank, proved_at, leaves}
use Rattle.upsched_c_parts.proofs.Steps.{Option, Some}

pub of_spec : {M : Type 1} → statement M
of_spec 𝓤 𝓛 𝓜 𝓡 wired =
    let H = 𝓛.H in let 𝓣 = tables 𝓤 H 𝓜 𝓡 𝓡.env in let R : RattleType = inner.the_row in let Z : RattleType = heap.the_row in let LZ = heap_laws.the_row_laws in let En = ended in let c = clauses 𝓛 𝓜.mem 𝓡.returns in
    let fn : Fn = code.function in let P = plain {n = 0} (λ _. loose.the_row R Z ghosts) in let hs : Stays En.signature.params En.kept = (stay_dropped P En.kept.0, tt) in
    proved_at 𝓛 En hs c 𝓜 𝓡 (Goes-blank 𝓛 0 P En.kept.0 (λ κs x f. tt), tt) #self fn (code.unfolded 𝓤 H 𝓜 𝓡 wired) (λ z are.
    let Post : Val → SProp 𝓤 = (walk_of 𝓛 En hs c).post z in let Run : List Val → SProp 𝓤 = λ ws. WpFn 𝓤 H 𝓣.C 𝓣.Λ fn ws Post in
    let l = z.0.3.0 in let a = l.alloc in let some_x : Option Held = Some l.value in
    qed 𝓛 ((raw (alive 𝓛 En.signature z.0.0 z.0.1) ⊛ ‵ (owns (types_at En.signature.params z.0.0) z.0.3 z.0.4)) ∷ ‵ ftrue ∷ []) ∵ move ! (1 ∷ []) $ drop ! $ split ! $ move ! (1 ∷ []) $ fsplit ! $
    loose_out R Z LZ ghosts ! l z.0.4.0 (λ b o h e ws fits. let w : Val = both (vptr b o) h in
    suffices ! (Run (w ∷ [])) (subst (λ (us : List Val). ent 𝓤 (Run (w ∷ [])) (Run us)) (sym (λ i. ws i ++ [])) (id⊢ 𝓤 (Run (w ∷ [])))) $
    enter ! 𝓣.C 𝓣.Λ fn (w ∷ []) Post $ alloc_all ! (λ ls. pass_all ! refl (loose_good R Z LZ ghosts b o h fits, tt) $
    sets ! (of_opd ! (get_in ! (fld ! refl (stop !)) (sub ! 0 refl (whole !)))) refl (tt, tt) $
    sets ! (of_opd ! (get ! refl)) refl (tt, tt) $
    sets ! (agg ! (and_then ! (get ! refl) (no_more !))) refl (tt, (tt, tt)) $
    move ! (1 ∷ []) $ drop ! $ owner_in R ! a b o l.value $
    use0 𝓛 (raw (fact 𝓤 (some_x ≡ some_x))) (fact_i 𝓤 (some_x ≡ some_x) (emp 𝓤) refl) $ nothing ! $ nothing ! $ fjoin ! $
    returns ! (look_at ! 0 refl) $ free_all ! refl $ keep ! (4 ∷ 0 ∷ 2 ∷ 1 ∷ []) $
    by ! (leaves 𝓛 En hs c z (alone (vptr b o)) (record { at = block_ptr b o; value = some_x }) (tt, tt) (tt, tt)))))

-- `none` owns nothing.
use Rattle.upsched_c_node.specs.declared.handle.Held.{Held}
use Rattle.upsched_c_node.specs.contracts.handle.Held as inner
use Rattle.upsched_c_parts.proofs.Owners.{alone, owner_none}
use Rattle.upsched_c_node.specs.contracts.handle.Owner.none.{ended, clauses}
use Rattle.upsched_c_node.specs.contracts.handle.Owner.none.Key.{name as #self}
use Rattle.upsched_c_node.proofs.handle.Owner.none.Statement.{statement}
use Rattle.upsched_c_node.proofs.handle.Owner.none.Code as code
use Rattle.upsched_c_parts.proofs.Steps.{◌≡◌, [], ◌∷◌, refl, lit<, Fn, Val, SProp, emp, ftrue, ‵, raw, ◌⊛◌, ◌$◌, ◌∵◌}
use Rattle.upsched_c_parts.proofs.Steps.{ !, qed, by, move, keep, drop, split, use0, lit, no_more, and_then, returns}
use Rattle.upsched_c_parts.proofs.Steps.{enter}
use Rattle.upsched_c_parts.proofs.Steps.{alloc_all, pass_all, free_all, look_at, sets, agg, fact, fact_i, tables, owns}
use Rattle.upsched_c_parts.proofs.Steps.{types_at, null_ptr, ptr_val, nothing, alive, Stays, walk_of, proved_at, leaves}
use Rattle.upsched_c_parts.proofs.Steps.{Option, None}

pub none_spec : {M : Type 1} → statement M
none_spec 𝓤 𝓛 𝓜 𝓡 wired =
    let H = 𝓛.H in let 𝓣 = tables 𝓤 H 𝓜 𝓡 𝓡.env in let En = ended in let c = clauses 𝓛 𝓜.mem 𝓡.returns in let fn : Fn = code.function in let hs : Stays En.signature.params En.kept = tt in let n : Option Held = None in
    proved_at 𝓛 En hs c 𝓜 𝓡 tt #self fn (code.unfolded 𝓤 H 𝓜 𝓡 wired) (λ z are.
    let Post : Val → SProp 𝓤 = (walk_of 𝓛 En hs c).post z in
    qed 𝓛 ((raw (alive 𝓛 En.signature z.0.0 z.0.1) ⊛ ‵ (owns (types_at En.signature.params z.0.0) z.0.3 z.0.4)) ∷ ‵ ftrue ∷ []) ∵ move ! (1 ∷ []) $ drop ! $ split ! $ move ! (1 ∷ []) $
    enter ! 𝓣.C 𝓣.Λ fn [] Post $ alloc_all ! (λ ls. pass_all ! refl tt $
    sets ! (agg ! (and_then ! (lit ! tt) (no_more !))) refl (tt, (record { fits = lit< tt }, tt)) $ owner_none inner.the_row ! $
    use0 𝓛 (raw (fact 𝓤 (n ≡ n))) (fact_i 𝓤 (n ≡ n) (emp 𝓤) refl) $ nothing ! $
    returns ! (look_at ! 0 refl) $ free_all ! refl $ keep ! (4 ∷ 0 ∷ 2 ∷ 1 ∷ []) $
    by ! (leaves 𝓛 En hs c z (alone (ptr_val null_ptr)) (record { at = null_ptr; value = n }) tt tt)))

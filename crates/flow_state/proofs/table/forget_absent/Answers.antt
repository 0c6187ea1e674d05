use Rattle.std.proofs.Common.{◌≡◌, ◌≢◌, Bor, true, not, nat_eq, is_none, Option, Some, None, sym, ◌∙◌, ap, subst}
use Rattle.std.specs.Prelude.{IsSome}
use Rattle.std.specs.Map.{lookup}
use Rattle.std.specs.Option.{option_copied}
use Rattle.flow_state.specs.declared.dues.Dues.{Dues}
use Rattle.flow_state.specs.declared.flow.Flow.{Flow}
use Rattle.flow_state.specs.StoredDues.{IsDueFrom}
use Rattle.flow_state.proofs.table.forget_absent.Goals as goal
use Rattle.flow_state.proofs.table.forget_absent.Goals.{then-is_none, else-is_none}

absent : (o : Option (Bor Flow)) (q : Option Flow) → option_copied o ≡ q → is_none o ≡ true → IsSome q → ⊥
absent (Some b) q same e h = cc
absent None (Some f) same e h = cc
absent None None same e h = cc

pub loop-sid-preserved : goal.loop-sid-preserved
loop-sid-preserved c = elim c.if-is_none.branch [
  | then-is_none w ↦ λ sid due there is.
      let other : sid ≢ c.loop-sid.sid = λ at. absent c.get.result _ c.get.ensures (ap not (c.is_none.ensures ∙ ap not w.if-is_none.true)) (subst (λ n. IsSome (lookup (nat_eq n) c.args.flows.now.entries)) at there) in
      subst (λ (ds : Dues). IsDueFrom ds sid due) (sym w.dues-is) (w.forget.ensures sid due other (c.loop-sid.invariant sid due there is))
  | else-is_none w ↦ λ sid due there is. subst (λ (ds : Dues). IsDueFrom ds sid due) (sym w.dues-is) (c.loop-sid.invariant sid due there is)
]

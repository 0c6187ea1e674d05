use Rattle.std.proofs.Common.{◌≡◌, ◌≤◌, List, length, ltb, sym, ap, subst, ◌∙◌}
use Rattle.std.specs.List.{find}
use Rattle.flow_state.specs.Limits.{last_sid}
use Rattle.flow_state.specs.Rows.{Lease, is_over}
use Rattle.flow_state.specs.StoredLeases.{next_of}
use Rattle.flow_state.proofs.Freed.{AreGiven, free_over, free_next}
use Rattle.flow_state.proofs.leases.Leases.free_sid.Goals as goal

pub returns-in-Some : goal.returns-in-Some
returns-in-Some c = λ t same start.
    let now : c.self.inside.latest.items ≡ t.leases = c.self.view_is ∙ sym same in
    free_over t c.in-Some.lease (subst AreGiven now c.self.invariant.given) (subst (λ (ls : List Lease). length ls ≤ last_sid) now c.self.invariant.few)
    (
    ap (find (is_over t)) (sym now) ∙ ap (λ n. find (λ (l : Lease). ltb l.last n) c.self.inside.latest.items) start
    ∙ ap (find (λ (l : Lease). ltb l.last c.args.start)) (sym c.deref.ensures.value) ∙ sym c.first_over.ensures ∙ c.in-Some.is
    )

pub returns-in-None : goal.returns-in-None
returns-in-None c = λ t same start.
    let now : c.self.inside.latest.items ≡ t.leases = c.self.view_is ∙ sym same in
    c.next_sid.ensures ∙ ap next_of (sym same)
    ∙ free_next t (subst AreGiven now c.self.invariant.given) (subst (λ (ls : List Lease). length ls ≤ last_sid) now c.self.invariant.few)
    (
    ap (find (is_over t)) (sym now) ∙ ap (λ n. find (λ (l : Lease). ltb l.last n) c.self.inside.latest.items) start
    ∙ ap (find (λ (l : Lease). ltb l.last c.args.start)) (sym c.deref.ensures.value) ∙ sym c.first_over.ensures ∙ c.in-None.is
    )

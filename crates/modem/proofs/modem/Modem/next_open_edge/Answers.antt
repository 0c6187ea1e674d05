use Rattle.std.proofs.Common.{refl, inl, inr, sym, ◌∙◌}
use Rattle.modem.proofs.Quiet.{no_unsent}
use Rattle.modem.proofs.modem.Modem.next_open_edge.Goals as goal

pub next_edge_in-requires-clause-window : goal.next_edge_in-requires-clause-window
next_edge_in-requires-clause-window c = rw c.as_slice-then-has_unsent.ensures.value ((rw (← c.self.view_is) at c.requires).«open» c.self.inside.open_to_all.items refl)

pub returns-then-has_unsent-clause-same : goal.returns-then-has_unsent-clause-same
returns-then-has_unsent-clause-same c =
    let opens = rw c.as_slice-then-has_unsent.ensures.value at c.next_edge_in.ensures.same in
    rw (← c.self.view_is) (λ x late limit before. inl (opens x late limit before))

pub returns-else-has_unsent-clause-same : goal.returns-else-has_unsent-clause-same
returns-else-has_unsent-clause-same c =
    let none = rw c.as_slice.ensures.value at (sym c.has_unsent.ensures ∙ c.if-has_unsent.false) in
    rw (← c.self.view_is) (λ x late limit before. inr (no_unsent c.self.inside.wants.items c.args.ch none))

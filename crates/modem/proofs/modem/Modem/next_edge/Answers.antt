use Rattle.std.proofs.Common.{refl}
use Rattle.modem.specs.contracts.modem.Modem.{the_view}
use Rattle.modem.proofs.Quiet.{idle_edge}
use Rattle.modem.proofs.modem.Modem.next_edge.Goals as goal

pub next_edge_in-own-requires-clause-window : goal.next_edge_in-own-requires-clause-window
next_edge_in-own-requires-clause-window c = rw c.as_slice.ensures.value ((rw (← c.self.view_is) at c.requires.windows).own c.self.inside.grants.items refl)

pub returns-clause-idle : goal.returns-clause-idle
returns-clause-idle c =
    let opens = rw (← c.self.view_is) at c.next_open_edge-open.ensures.same in
    let grants = rw c.as_slice.ensures.value at c.next_edge_in-own.ensures.same in
    let leases = rw c.as_slice-2.ensures.value at c.next_edge-lease.ensures.same in
    rw (← c.self.view_is) (λ x late limit before idle.
    let both = c.sooner-2.ensures.before x before in
    let first = c.sooner.ensures.before x both.0 in
    idle_edge (the_view c.self.inside) c.args.ch c.args.«at» x (grants x late limit first.0) (opens x late limit first.1) (leases x late both.1) idle)

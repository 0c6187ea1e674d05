-- What is voted for at a place: a value in a ballot (Lamport, Paxos Made Simple, section 2.2).
use Rattle.std.specs.Prelude.{ℕ, List, ◌∷◌, Some, refl}
use Rattle.std.specs.Cmp.{IsPartialOrder, IsTotalOrder, on_total, po}
use Rattle.std.specs.declared.cmp.Ordering.{Ordering}
use Rattle.std.specs.Ordering.{nat_cmp, ordering_then, eq_by_cmp}
use Rattle.std.specs.Cmp.Lexicographic.{nat_list_cmp_total, slice_cmp}
pub use Rattle.learner.specs.declared.groups.Proposal.{Proposal}

abbrev pub proposal_of : ℕ → List ℕ → Proposal
proposal_of b v = record { ballot = b; value = v }

-- proposals go by ballot, and those of one ballot by value
abbrev pub proposal_cmp : Proposal → Proposal → Ordering
proposal_cmp one other = ordering_then (nat_cmp one.ballot other.ballot) (slice_cmp nat_cmp one.value other.value)

-- that is a total order
pub proposal_total : IsTotalOrder proposal_cmp
proposal_total = on_total (λ (p : Proposal). p.ballot ∷ p.value) nat_list_cmp_total

pub proposal_po : IsPartialOrder (eq_by_cmp proposal_cmp) (λ one other. Some (proposal_cmp one other))
proposal_po = po proposal_total (λ one other. refl)

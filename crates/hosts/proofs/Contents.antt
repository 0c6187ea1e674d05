-- The contents over which nodes were opened.
use Rattle.std.proofs.Common.{◌≡◌, ◌⊎◌, ℕ, ◌<◌, ◌≤◌, Some, sym, ◌∙◌, refl, subst, inl, inr, arith}
use Rattle.std.proofs.lemmas.Bool.{cases_lt}
use Rattle.acceptor.specs.Content.{Content, no_content}
use Rattle.node.specs.View.{started}
use Rattle.node.specs.View.Standing.{Running}
use Rattle.node.specs.declared.node.Node.{Ghosts as Nodes}
use Rattle.seats.specs.Occupant.{Stands}
use Rattle.seats.specs.declared.seat.Seat.{Seat}
use Rattle.hosts.specs.Hosts.{IsHonest, seat_of}
use Rattle.hosts.specs.Opened.{IsOpened}
use Rattle.hosts.specs.Views.{AreBegun}
use Rattle.hosts.specs.declared.host.Host.{Host}
use Rattle.hosts.specs.declared.opens.Opens.{Ghosts}
use Rattle.hosts.proofs.Openings.{opened_stands}
use Rattle.hosts.proofs.SlotLemmas.{same_inside}

-- it has a node of an epoch, which was opened
abbrev pub HasOpened : {O N : Type 0} {g : Ghosts O N} {h : Nodes N} → Host O N g h → O → ℕ → Type 0
HasOpened {O} {N} {g} {h} host opens e = (seat : Seat N h) × (seat_of host e ≡ Some seat) × IsOpened g opens e seat

-- the content over which the node of an epoch was opened, where it is one of those from one to another
pub record IsContent {O N : Type 0} {g : Ghosts O N} {h : Nodes N} (host : Host O N g h) (opens : O) (first last e : ℕ) (c : Content) : Type 0 where
  pub begun : first ≤ e → e ≤ last → g.begins opens e c
  pub other : (e < first) ⊎ (last < e) → c ≡ no_content
  pub stands : (seat : Seat N h) → seat_of host e ≡ Some seat → first ≤ e → e ≤ last → Stands seat (Running (started c))

pub content_of : {O N : Type 0} {g : Ghosts O N} {h : Nodes N} (host : Host O N g h) (opens : O) (first last : ℕ) → IsHonest host → ((e : ℕ) → first ≤ e → e ≤ last → HasOpened host opens e)
    → (e : ℕ) → (c : Content) × IsContent host opens first last e c
content_of {O} {N} {g} {h} host opens first last honest opened e = low (cases_lt e first)
  where
    high : first ≤ e → (last < e) ⊎ (e ≤ last) → (c : Content) × IsContent host opens first last e c
    high from (inl above) = (
      no_content,
      record {
        begun = λ l u. absurd (omega (arith, above, u));
        other = λ out. refl;
        stands = λ seat at l u. absurd (omega (arith, above, u));
      },
    )
    high from (inr within) =
        let found = opened e from within in
        let at_it = opened_stands g opens e found.0 found.2 (honest e found.0 found.1) in (
          at_it.0,
          record {
            begun = λ l u. at_it.1;
            other = λ out. elim out [ inl below ↦ absurd (omega (arith, below, from)) | inr above ↦ absurd (omega (arith, above, within)) ];
            stands = λ seat at l u. subst (λ (x : Seat N h). Stands x (Running (started at_it.0))) (same_inside found.0 seat (sym found.1 ∙ at)) at_it.2;
          },
        )

    low : (e < first) ⊎ (first ≤ e) → (c : Content) × IsContent host opens first last e c
    low (inl below) = (
      no_content,
      record {
        begun = λ l u. absurd (omega (arith, below, l));
        other = λ out. refl;
        stands = λ seat at l u. absurd (omega (arith, below, l));
      },
    )
    low (inr from) = high from (cases_lt last e)

pub are_begun : {O N : Type 0} {g : Ghosts O N} {h : Nodes N} (host : Host O N g h) (opens : O) (first last : ℕ) → (at : (e : ℕ) → (c : Content) × IsContent host opens first last e c)
    → AreBegun (g.begins opens) first last (λ e. (at e).0)
are_begun host opens first last at = record { begun = λ e l u. (at e).1.begun l u; others = λ e out. (at e).1.other out }

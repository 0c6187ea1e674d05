-- What nodes begin over, as more are opened.
use Rattle.std.proofs.Common.{◌≡◌, ◌∙◌, ℕ, true, sym, refl, ap, subst}
use Rattle.acceptor.specs.Content.{Content}
use Rattle.node.specs.View.{Standing, started}
use Rattle.node.specs.View.Standing.{Running}
use Rattle.node.specs.declared.node.Node.{Ghosts as Nodes}
use Rattle.seats.specs.Occupant.{IsHonest as IsSeatHonest, Stands, node_of}
use Rattle.seats.specs.Seat.{Shown}
use Rattle.seats.specs.declared.seat.Seat.{Seat}
use Rattle.hosts.specs.Opened.{IsOpened}
use Rattle.hosts.specs.Opening.{KeepsBeginnings}
use Rattle.hosts.specs.declared.opens.Opens.{Ghosts}

pub keeps_none : {O N : Type 0} (g : Ghosts O N) (o : O) → KeepsBeginnings g.member g.begins o o
keeps_none g o = record { member = refl; begins = λ e c b. b }

pub keeps_same : {O N : Type 0} (g : Ghosts O N) (old new : O) → new ≡ old → KeepsBeginnings g.member g.begins old new
keeps_same {O} {N} g old new same = record { member = ap g.member same; begins = λ e c b. subst (λ (o : O). g.begins o e c) same b }

pub keeps_then : {O N : Type 0} (g : Ghosts O N) (old mid new : O) → KeepsBeginnings g.member g.begins old mid → KeepsBeginnings g.member g.begins mid new → KeepsBeginnings g.member g.begins old new
keeps_then g old mid new first then = record { member = then.member ∙ first.member; begins = λ e c b. first.begins e c (then.begins e c b) }

-- a node that is opened later could have been opened before
pub opened_earlier : {O N : Type 0} {h : Nodes N} (g : Ghosts O N) (old mid : O) → KeepsBeginnings g.member g.begins old mid → (e : ℕ) (seat : Seat N h) → IsOpened g mid e seat → IsOpened g old e seat
opened_earlier g old mid keeps e seat is = record {
  up = is.up;
  opened = record {
    id = is.opened.id ∙ ap (λ m. m.0) keeps.member;
    members = is.opened.members ∙ ap (λ m. m.1) keeps.member;
    up = is.opened.up;
    begins = λ honest. let b = is.opened.begins honest in (b.0, keeps.begins e b.0 b.1, b.2);
  };
  sure = is.sure;
  kept = is.kept;
}

-- a node that was opened, and is honest, is where it was opened
pub opened_stands : {O N : Type 0} {h : Nodes N} (g : Ghosts O N) (opens : O) (e : ℕ) (seat : Seat N h) → IsOpened g opens e seat → IsSeatHonest seat
    → (c : Content) × g.begins opens e c × Stands seat (Running (started c))
opened_stands {O} {N} {h} g opens e seat is honest =
    let b = is.opened.begins honest in
    let s : Standing = Running (started b.0) in
    let shown : Shown true (h.stands (node_of seat)) s = (b.2, started b.0, refl) in
    (b.0, b.1, subst (λ up. Shown up (h.stands (node_of seat)) s) (sym is.up) shown)

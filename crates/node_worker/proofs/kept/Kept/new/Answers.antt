use Rattle.std.proofs.Common.{Bool, IsTrue, List, arith, refl, subst, sym}
use Rattle.acceptor.specs.Content.{no_content}
use Rattle.node.specs.View.{started}
use Rattle.seats.specs.Seat.{Shown}
use Rattle.seats.specs.Occupant.{node_of, who_of}
use Rattle.node_worker.specs.Entries.{EntryView}
use Rattle.node_worker.specs.Replays.{ReplaysTo, opening}
use Rattle.node_worker.proofs.kept.Kept.new.Goals as goal

pub invariant_of-result : goal.invariant_of-result
invariant_of-result g c = (
  omega (arith, c.in_ok-entries.ensures.len),
  λ honest.
      let fresh = c.requires.fresh (subst (λ n. IsTrue (g.N.Node.honest n)) c.new.ensures.node honest) in
      let stands = subst (λ n. g.N.Node.stands n opening) (sym c.new.ensures.node) fresh in (
        opening,
        subst (λ (up : Bool). Shown up (g.N.Node.stands (node_of c.new.result)) opening) (sym c.new.ensures.up) (stands, started no_content, refl),
        subst (λ (es : List EntryView). ReplaysTo (who_of c.new.result).members (who_of c.new.result).id es opening) (sym c.in_ok-entries.ensures.items) refl,
      ),
)

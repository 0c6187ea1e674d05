-- A node that keeps what it did, for a process that may crash.
use Rattle.std.specs.Prelude.{◌≡◌}
use Rattle.node.specs.View.{Standing}
use Rattle.node.specs.declared.node.Node.{Ghosts}

-- a node that did nothing but that: it stands wherever it stood
pub record IsSameNode {N : Type 0} (g : Ghosts N) (old new : N) : Type 0 where
  pub who : g.who new ≡ g.who old
  pub honest : g.honest new ≡ g.honest old
  pub clean : g.clean new ≡ g.clean old
  pub role : g.role new ≡ g.role old
  pub stands : (s : Standing) → g.stands old s → g.stands new s

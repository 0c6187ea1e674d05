-- What a node releases.
use Rattle.std.specs.Prelude.{◌≡◌, ℕ, List, Result, Ok, Err, Vec, length}
use Rattle.std.specs.declared.alloc.Global.{Global}
use Rattle.command_log.specs.Values.{outputs_of_values}
use Rattle.map_release.specs.Released.{released}
use Rattle.map_release.specs.declared.numbered.Numbered.{Numbered}
use Rattle.proposer.specs.declared.fault.NodeFault.{NodeFault as Fault}
use Rattle.proposer.specs.declared.fault.NodeFault.TheVariants.{Down}
use Rattle.node.specs.View.{View, Standing, gapless}
use Rattle.node.specs.View.Standing.{Running, Stopped}
use Rattle.node.specs.Calls.{StoreFails}

-- the outputs of a call that was answered
abbrev pub outputs : Result (Vec Numbered Global) Fault → Result (List Numbered) Fault
outputs (Ok numbered) = Ok numbered.items
outputs (Err fault) = Err fault

-- the cursor moves to the end of the gapless values
abbrev pub released_all : View → View
released_all view = record view { cursor = length (gapless view) }

-- a running node releases the outputs of its gapless values behind the cursor, without the MAPs that have ended, and
-- one that is down answers so
abbrev pub Releases : Standing → (now : ℕ) → Result (List Numbered) Fault → Standing → Type 0
Releases (Running view) now (Ok numbered) new = (numbered ≡ released now view.cursor (outputs_of_values (gapless view))) × (new ≡ Running (released_all view))
Releases (Running view) now (Err fault) new = StoreFails view fault new
Releases (Stopped c doubt) now result new = (result ≡ Err Down) × (new ≡ Stopped c doubt)

-- What a node releases.
use Rattle.std.specs.Prelude.{ℕ, List}
use Rattle.command_log.specs.Values.{outputs_of_values}
use Rattle.map_release.specs.declared.numbered.Numbered.{Numbered}
use Rattle.map_release.specs.Released.{released as released_behind}
use Rattle.node.specs.View.{View, gapless}
pub use Rattle.node.specs.Releases.{released_all}

-- the outputs of its gapless values behind its cursor, without the MAPs that have ended
abbrev pub released : View → ℕ → List Numbered
released view now = released_behind now view.cursor (outputs_of_values (gapless view))

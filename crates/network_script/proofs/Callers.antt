-- What crates above cite: the headline of every run, whose modems are known by their ids, what modems hold of outputs that they heard, what stands where in lists, two parts of a run as one, and
-- which standing is a node's.
pub use Rattle.network_script.proofs.Whole.{headline, modems_are_named}
pub use Rattle.network_script.proofs.Lists.{in_right, get_same, get_other}
pub use Rattle.map_body.proofs.Callers.{get_front, get_behind}
pub use Rattle.network_script.proofs.Joining.{along_joins, along_on}
pub use Rattle.network_script.proofs.Places.{each_at, standings_length}
pub use Rattle.network_script.proofs.Outputs.{beginning, get_some}
pub use Rattle.network_script.proofs.Owners.{held_owned}

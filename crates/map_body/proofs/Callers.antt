-- What the crates above cite of this crate's proofs.
pub use Rattle.map_body.proofs.Readings.{one_body, body_no_fault}
pub use Rattle.map_body.proofs.Lists.{get_front, get_behind}
pub use Rattle.map_body.proofs.Extents.{where_none}

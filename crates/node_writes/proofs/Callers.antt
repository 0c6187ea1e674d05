-- What crates above cite: the next write leads on, and writes lead to one content.
pub use Rattle.node_writes.proofs.Leading.{lead_next}
pub use Rattle.node_writes.proofs.Once.{lead_once}

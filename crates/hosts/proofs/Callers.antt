-- What crates above cite: of which epochs a host has nodes, as it stands.
pub use Rattle.hosts.proofs.Windows.{is_asked_near, is_gone}

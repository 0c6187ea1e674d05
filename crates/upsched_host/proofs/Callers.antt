-- What crates above cite: words name one host.
pub use Rattle.upsched_host.proofs.AsNamed.{as_named}

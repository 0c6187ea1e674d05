-- What crates above cite: a call leaves the content after its write, and what was handed out leads there.
pub use Rattle.told_writes.proofs.Contents.{content_after}
pub use Rattle.told_writes.proofs.Leading.{hands_on, lead_rows, never_strange}
pub use Rattle.told_writes.proofs.Told.{leads_on, written}

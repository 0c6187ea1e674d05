-- What crates above cite: what waits leads on with a write more, and what is held where all is stored, or fails to be.
pub use Rattle.kept_node.proofs.Noting.{began, fails_then, kept_then, notes_on}

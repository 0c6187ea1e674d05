-- What crates above cite: what is held is still held where the same may be found, the greatest ballot of votes where one is put, and rows that stay sound where one is put.
pub use Rattle.acceptor.proofs.Certain.{still_holds, same_then}
pub use Rattle.acceptor.proofs.Greatest.{greatest_apart, greatest_max, replaced}
pub use Rattle.acceptor.proofs.SoundRows.{rows_put, values_put}

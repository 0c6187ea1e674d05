-- What crates above cite: outputs with their places, one more of them, and those behind a cursor.
pub use Rattle.map_release.proofs.Steps.{drop_front, numbered_length, numbered_push}

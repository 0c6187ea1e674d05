-- What crates above cite: tables hold one content, in one way, all rows are those from place 1 on, votes and learned values are shown in one way, and tables for an owner are those of its version.
pub use Rattle.acceptor_store_parts.proofs.Once.{content_once, count_bytes_once, count_once, one_content, tables_prop}
pub use Rattle.acceptor_store_parts.proofs.Places.{all_rows}
pub use Rattle.acceptor_store_parts.proofs.Shapes.{all_shown, all_learned_shown}
pub use Rattle.acceptor_store_parts.proofs.Answered.{table_of_learned}
pub use Rattle.acceptor_store_parts.proofs.Owners.{as_version, serves_as, serves_for, tables_as, tables_for}

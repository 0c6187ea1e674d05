-- What crates above cite: two words name one member.
pub use Rattle.upsched_node.proofs.Members.{one_member}

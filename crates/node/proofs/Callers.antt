-- What crates above cite: what is in a part of a list, by place or by test.
pub use Rattle.node.proofs.Catching.{in_filter, in_take}

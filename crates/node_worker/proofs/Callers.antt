-- What crates above cite: records of nodes with one more, what is sound without modems, and what stands where in lists.
pub use Rattle.network_script.proofs.Callers.{get_same, get_other, get_some}
pub use Rattle.node_worker.proofs.Plants.{AllCome-snoc, entries_of-append}
pub use Rattle.node_worker.proofs.Played.{sound_alone}

-- What the crates above cite of this crate's proofs: what holds of the outputs of any list of commands.
pub use Rattle.grant_machine.proofs.Leases.{leases_are_apart}
pub use Rattle.grant_machine.proofs.Maps.{maps_are_disjoint}
pub use Rattle.grant_machine.proofs.Reaching.{outputs_append, reached_opening, rows_append, rows_push}
pub use Rattle.grant_machine.proofs.Schedules.{one_each, owners_are_one, sids_are_unicast}
pub use Rattle.grant_machine.proofs.Timely.{grants_are_leased}
pub use Rattle.grant_machine.proofs.Standing.{reached_firm}

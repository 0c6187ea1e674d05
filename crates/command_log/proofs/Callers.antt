-- What crates above cite of a log's rows, its values without a gap, and their outputs.
pub use Rattle.command_log.proofs.Rows.{none_below, are_rows_put, put_same, values_grow, values_here, value_is_at}
pub use Rattle.command_log.proofs.Runs.{values_length, outputs_append, outputs_first}
pub use Rattle.command_log.proofs.Applied.{is_last}
pub use Rattle.command_log.proofs.Outputs.{output_among}

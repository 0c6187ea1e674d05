-- What the crates above cite of this crate's proofs.
pub use Rattle.grant_machine_parts.proofs.Bodies.{cell_of_free, cell_of_placement, cell_tells, count, fill_placed}
pub use Rattle.grant_machine_parts.proofs.Bodies.{holds_below, holds_from, it_holds, none_before, null_at}
pub use Rattle.grant_machine_parts.proofs.Carved.{all_push}
pub use Rattle.grant_machine_parts.proofs.Counted.{due_minislots, free_is_none, kept_free}
pub use Rattle.grant_machine_parts.proofs.InTurn.{in_turn}
pub use Rattle.grant_machine_parts.proofs.Fillings.{Asks, Becomes, IsDueOf, IsFor, IsLeased, IsOfFlow, Moves}
pub use Rattle.grant_machine_parts.proofs.Fillings.{cut_is_well, due_is, fill_moves, flow_from, grants_of, in_order_has}
pub use Rattle.grant_machine_parts.proofs.Fillings.{is_cut, maintenance_of, polls_of, requested_high, served_from}
pub use Rattle.grant_machine_parts.proofs.Fillings.{timed, unsolicited_high, windows_keep, zip_twice}
pub use Rattle.grant_machine_parts.proofs.Orders.{in_order_fewer, passing_in_order}
pub use Rattle.grant_machine_parts.proofs.Served.{IsSized, Serving, fills_for, filter_one, is_to}
pub use Rattle.grant_machine_parts.proofs.Windows.{InWindow, Rising, placed_tells, rising_later}
pub use Rattle.grant_machine_parts.proofs.Written.{cut_elements, cut_few, cut_most, cut_placed, cut_written, pending}
pub use Rattle.grant_machine_parts.proofs.Written.{pending_plain}

-- What the crates above cite of this crate's proofs.
pub use Rattle.flow_state.proofs.Adopted.{apart_added, firm_added, views_back, whole_adoptable, whole_is}
pub use Rattle.flow_state.proofs.Assignments.{IsAdded, eqb_apart, eqb_same, find_kept, find_passes, find_pushed}
pub use Rattle.flow_state.proofs.Assignments.{first_early, free_is_free, has_put, is_added, lease_is, leased}
pub use Rattle.flow_state.proofs.Assignments.{over_before, put_found, put_others, unwrap_some}
pub use Rattle.flow_state.proofs.DueTimes.{number_is, some_interval}
pub use Rattle.flow_state.proofs.Filters.{filter_alike, filter_append, filter_between, filter_map_same, filter_none}
pub use Rattle.flow_state.proofs.Filters.{filter_others, filter_sub, filter_swap, find_is}
pub use Rattle.flow_state.proofs.Found.{KeepsId, at_same, changed, find_added, find_changed, flow_keeps_id}
pub use Rattle.flow_state.proofs.Found.{found_before, is_found, refusal_there, same_id, some_is, there}
pub use Rattle.flow_state.proofs.Keyed.{eqb_sym}
pub use Rattle.flow_state.proofs.Members.{Has, all_has, any_has, at_contains, contains_at, filter_empty, filter_has}
pub use Rattle.flow_state.proofs.Members.{found_has, has_all, has_any, has_at, has_between, has_either, has_filter}
pub use Rattle.flow_state.proofs.Members.{has_flat_map, has_found, has_left, has_map, has_pushed, has_right, map_has}
pub use Rattle.flow_state.proofs.Members.{place_of, unfound}
pub use Rattle.flow_state.proofs.Told.{due_set, told_after, untold}
pub use Rattle.flow_state.proofs.Wells.{IsWell, IsWellFlow, IsWellLease, IsWellRequest, RisingFrom, asked, asked_same}
pub use Rattle.flow_state.proofs.Wells.{change_is_well, drop_is_well, ended_with, filter_both, filter_fewer, flow_found}
pub use Rattle.flow_state.proofs.Wells.{flow_is_well, flow_lease, free_apart, free_range, has_inserted, inserted_has}
pub use Rattle.flow_state.proofs.Wells.{is_asked, new_is_well, one_flow, passes_on, request_is_well, rising_filter}
pub use Rattle.flow_state.proofs.Whys.{bad, backoff_bad, both_bad, most_bad, on_refuses, outside_bad, refusal}

use Rattle.std.proofs.Common.{◌≡◌, drop}
use Rattle.std.specs.List.{AllByRecursion}
use Rattle.flow_state.specs.Changes.{told_in_table, TellsDue}
use Rattle.flow_state.proofs.at_channel.set_due_times.Given as goal

-- those from this one on, after those before it
abbrev pub invariant-loop-flow : goal.invariant-loop-flow
invariant-loop-flow l = record {
  rest : told_in_table l.fn.table l.served ≡ told_in_table l.table (drop l.flow-index l.served);
  tell : AllByRecursion (TellsDue l.table) l.served;
}

-- What modems that begin anew are told once more.
use Rattle.std.specs.Prelude.{◌≡◌, ℕ, List, ◌∷◌, map, filter, nat_lt, not}
use Rattle.std.specs.List.{Contains, flat_map}
use Rattle.flow_state.specs.Firm.{AreFirm}
use Rattle.flow_state.specs.declared.flow.Lease.{Lease}
use Rattle.flow_state.specs.Rows.{Rows, Table}
use Rattle.grant_machine.specs.Steps.{lease_output}
use Rattle.grant_machine.specs.declared.output.Output.{Output}
use Rattle.grant_machine.specs.declared.output.Output.TheVariants.{ChannelSet}
use Rattle.command_log.specs.Values.{outputs_of_values}
use Rattle.epochs.specs.Scheduling.{tables_after}

-- the leases of a channel that aren't over when its next MAP begins, as they are told
abbrev pub leases_again : (ch next_start : ℕ) → List Lease → List Output
leases_again ch next_start leases = map (λ l. lease_output l.modem ch l) (filter (λ l. not (nat_lt l.last next_start)) leases)

-- a channel's count as its row has it, and then by SID each latest lease that isn't over
abbrev pub table_again : Table → List Output
table_again t = ChannelSet t.row.channel.id t.row.channel.ucd ∷ leases_again t.row.channel.id t.row.next_start t.leases

-- the same of each channel, in the order in which channels were set
abbrev pub again_of : Rows → List Output
again_of rows = flat_map table_again rows

-- what tables that commands could leave tell again was an output of the values that they are behind
abbrev pub RowsAreTold : Type 0
RowsAreTold = (values : List (List ℕ)) → AreFirm (tables_after values) → (o : Output) → Contains (again_of (tables_after values)) o → Contains (outputs_of_values values) o

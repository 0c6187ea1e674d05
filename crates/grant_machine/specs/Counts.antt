-- The UCD Counts of MAPs, and how those of a channel follow one another.
use Rattle.std.specs.Prelude.{◌≡◌, ◌⊎◌, ℕ, ◌<◌, List, Some, slice_get}
use Rattle.map_body.specs.Body.{Body}
use Rattle.map_body.specs.Layout.{IsBody}
use Rattle.flow_state.specs.Refusals.{next_count}
use Rattle.grant_machine.specs.declared.command.Command.{Command}
use Rattle.grant_machine.specs.declared.output.Output.{Output}
use Rattle.grant_machine.specs.declared.output.Output.TheVariants as outputs
use Rattle.grant_machine.specs.Runs.{outputs_of}
use Rattle.grant_machine.specs.Laws.{IsMapAt}

-- output number k gives the channel this UCD Count
abbrev pub IsCountAt : List Output → (k ch ucd : ℕ) → Type 0
IsCountAt outs k ch ucd = slice_get outs k ≡ Some (outputs.ChannelSet ch ucd)

-- output number j does, and none between it and number k gives the channel one
pub record IsLatestCount (outs : List Output) (j k ch ucd : ℕ) : Type 0 where
  pub told : IsCountAt outs j ch ucd
  pub before : j < k
  pub latest : (i other : ℕ) → j < i → i < k → ¬ IsCountAt outs i ch other

-- a MAP has the UCD Count that its channel was last given before it
abbrev pub CountsAreTold : Type 0
CountsAreTold =
    (cs : List Command) (k ch start len : ℕ) (bytes : List ℕ) (map : Body)
    → IsMapAt cs k ch start len bytes → IsBody bytes map
    → (j : ℕ) × IsLatestCount (outputs_of cs) j k ch map.head.ucd

-- of two counts of a channel with none between, the second is the first, or the one that comes after it
abbrev pub CountsStep : Type 0
CountsStep =
    (cs : List Command) (j k ch first second : ℕ)
    → IsLatestCount (outputs_of cs) j k ch first → IsCountAt (outputs_of cs) k ch second
    → (second ≡ first) ⊎ (second ≡ next_count first)

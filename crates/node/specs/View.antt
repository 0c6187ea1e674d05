-- What a node holds.
use Rattle.std.specs.Prelude.{ℕ, List, [], Option}
use Rattle.acceptor.specs.Content.{Content, Write}
pub use Rattle.command_log.specs.Values.{values_from}
use Rattle.learner.specs.Tally.{Tally, no_tally}
use Rattle.proposer.specs.declared.role.Role.{Role}
use Rattle.proposer.specs.declared.role.Role.TheVariants.{Idle}

-- a node that is up
pub record View : Type 0 where
  pub content : Content
  pub role : Role
  pub hint : ℕ
  pub tally : Tally
  pub cursor : ℕ

-- a node that is made over this content, and has read no learned row of it
abbrev pub made : Content → View
made c = record { content = c; role = Idle; hint = 0; tally = no_tally; cursor = 0 }

-- a node as it starts over this content: it has learned what the learned rows hold
abbrev pub started : Content → View
started c = record (made c) { tally = record { counted = []; learned = c.learned } }

-- where a node stands: it runs, or it has its content alone and perhaps a write of which nobody knows whether it was
-- made
pub data Standing : Type 0 where
  Running : View → Standing
  Stopped : Content → (doubt : Option Write) → Standing

-- the learned values from place 1 on without a gap
abbrev pub gapless : View → List (List ℕ)
gapless view = values_from 1 view.tally.learned

-- What a member knows as a proposer.
use Rattle.std.specs.Prelude.{ℕ}
use Rattle.ballots.specs.declared.members.Members.{Members}
use Rattle.proposer.specs.declared.role.Role.{Role}

-- a member by its number, the members, its role, and the greatest ballot that it heard of, or 0
pub record Proposing : Type 0 where
  pub id : ℕ
  pub members : Members
  pub role : Role
  pub hint : ℕ

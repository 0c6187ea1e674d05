-- The words that name a member.
use Rattle.std.specs.Prelude.{◌≡◌, ℕ, ◌<◌, List}
use Rattle.ballots.specs.Members.{member_count}
use Rattle.ballots.specs.declared.members.Members.{Members}
use Rattle.upsched_ends.specs.Members.{NamesMembers, digit}

-- two words name a member by its number, and how many there are
pub record NamesMember (number members : List ℕ) (id : ℕ) (count : Members) : Type 0 where
  pub how_many : NamesMembers members count
  pub which : number ≡ digit id
  pub one_of_them : id < member_count count

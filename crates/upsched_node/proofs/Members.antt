-- Two words name one member.
use Rattle.std.proofs.Common.{◌≡◌, ◌∙◌, ℕ, ◌+◌, List, refl, sym, arith}
use Rattle.ballots.specs.Members.{member_count}
use Rattle.ballots.specs.declared.members.Members.{Members}
use Rattle.ballots.specs.declared.members.Members.TheVariants.{Three, Five}
use Rattle.upsched_ends.specs.Members.{digit}
use Rattle.upsched_node.specs.Member.{NamesMember}

one_digit : (a b : ℕ) → digit a ≡ digit b → a ≡ b
one_digit a b is =
    let same : 48 + a ≡ 48 + b = cc (is) in
    omega (arith, same)

one_count : (c d : Members) → member_count c ≡ member_count d → c ≡ d
one_count Three Three is = refl
one_count Three Five is = absurd (omega (arith, is))
one_count Five Three is = absurd (omega (arith, is))
one_count Five Five is = refl

pub one_member : (number members : List ℕ) (id other : ℕ) (count counted : Members) → NamesMember number members id count → NamesMember number members other counted → (other ≡ id) × (counted ≡ count)
one_member number members id other count counted this that = (
  one_digit other id (sym that.which ∙ this.which),
  one_count counted count (one_digit (member_count counted) (member_count count) (sym that.how_many ∙ this.how_many)),
)

-- Which answers letters or outputs go with.
use Rattle.std.specs.Prelude.{Bool, false, nat_lt}
use Rattle.seats.specs.declared.answer.Answer.{Answer}
use Rattle.seats.specs.declared.answer.Answer.TheVariants.{Sent, Released}

-- letters or outputs go out with it
abbrev pub gives : Answer → Bool
gives (Sent n) = nat_lt 0 n
gives (Released n) = nat_lt 0 n
gives answer = false

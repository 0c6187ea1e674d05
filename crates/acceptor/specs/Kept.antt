-- What records in memory keep beside the content.
use Rattle.std.specs.Prelude.{◌≡◌, ℕ, Bool, true, false, Option, Some, None}
use Rattle.ballots.specs.declared.letters.Cast.{Cast}
use Rattle.acceptor.specs.Content.{Content}

-- the ballot of a vote, or 0 where there is none
abbrev pub ballot_in : Option Cast → ℕ
ballot_in None = 0
ballot_in (Some cast) = cast.ballot

-- a reopen finds just what they keep
abbrev pub is_it : Content → Content → Type 0
is_it kept found = found ≡ kept

-- they always return what was committed, and nothing stands below them
abbrev pub never_lie : Content → Bool
never_lie kept = true

-- no store of theirs fails
abbrev pub no_failures : Content → ℕ
no_failures kept = 0

abbrev pub no_break : Content → Bool
no_break kept = false

-- The reasons why requests wait: as names, and in words.
use Rattle.std.specs.Prelude.{ℕ, ◌==◌, if◌then◌else◌, List, ◌++◌, codes, decimal}
use Rattle.grant_machine_parts.specs.Placing.{most_placements}
use Rattle.plan_account.specs.declared.why.Why.{Why}
use Rattle.plan_account.specs.declared.why.Why.TheVariants.{LeaseEnds, NoMap, NoGap, Placements, Kept}

abbrev pub why_name : Why → List ℕ
why_name LeaseEnds = codes "lease-ends"
why_name NoMap = codes "no-map"
why_name (NoGap longest) = codes "no-gap"
why_name Placements = codes "placements"
why_name (Kept keep) = codes "kept"

abbrev pub gap_words : ℕ → List ℕ
gap_words longest = if longest == 0 then codes "no gap left" else codes "no gap above " ++ decimal longest

abbrev pub placement_words : List ℕ
placement_words = decimal most_placements ++ codes " are placed already"

abbrev pub kept_words : ℕ → List ℕ
kept_words keep = decimal keep ++ codes " are kept free"

abbrev pub why_words : Why → List ℕ
why_words LeaseEnds = codes "its lease ends first"
why_words NoMap = codes "no MAP since"
why_words (NoGap longest) = gap_words longest
why_words Placements = placement_words
why_words (Kept keep) = kept_words keep

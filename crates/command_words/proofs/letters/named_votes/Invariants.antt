use Rattle.std.proofs.Common.{◌≡◌, ◌++◌, flat_map, drop, string_bytes}
use Rattle.command_words.specs.Letters.{named_vote}
use Rattle.command_words.proofs.letters.named_votes.Given as goal

-- the votes so far and those that are left are all
abbrev pub invariant-loop-row : goal.invariant-loop-row
invariant-loop-row l = string_bytes l.text ++ flat_map named_vote (drop l.row-index l.row-items) ≡ flat_map named_vote l.row-items

use Rattle.std.proofs.Common.{◌≡◌, false, map, take}
use Rattle.script_steps.specs.Names.{about_of}
use Rattle.script_steps.proofs.kept.just_sent.Given as goal

abbrev pub invariant-loop-letter : goal.invariant-loop-letter
invariant-loop-letter l = l.sent.items ≡ map (λ x. record { about = about_of x; came = false }) (take l.letter-index l.letters)

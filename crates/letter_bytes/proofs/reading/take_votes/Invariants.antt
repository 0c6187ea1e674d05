use Rattle.std.proofs.Common.{◌≡◌, ◌-◌}
use Rattle.std.specs.Prelude.{IsOk}
use Rattle.letter_bytes.specs.Reading.{vote_at, votes_in}
use Rattle.letter_bytes.proofs.Loop.{with_front}
use Rattle.letter_bytes.proofs.reading.take_votes.Given as goal

abbrev pub invariant-loop : goal.invariant-loop
invariant-loop l = record {
  read : with_front l.votes.items (votes_in (l.count - l.counter) l.rest.now) ≡ votes_in l.count l.initial.rest.now;
  first : IsOk (vote_at l.rest.now) → IsOk (vote_at l.initial.rest.now);
}

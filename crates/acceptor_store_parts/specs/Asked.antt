-- The queries of rows by their place, and the writes.
use Rattle.std.specs.Prelude.{ℕ, ◌==◌, List, codes, map, filter}
use Rattle.ballots.specs.Rows.{rows_from}
use Rattle.acceptor.specs.Content.{Content, Write}
use Rattle.acceptor.specs.Content.Write.{Tries, Promises, Votes, Learns}
use Rattle.sqlite.specs.Order.{Row}
use Rattle.acceptor_store_parts.specs.declared.reads.Asked.{Asked}
use Rattle.acceptor_store_parts.specs.declared.reads.Asked.TheVariants.{VoteAt, VotesFrom, LearnedAt, LearnedFrom}
use Rattle.acceptor_store_parts.specs.declared.writing.Put.{Put}
use Rattle.acceptor_store_parts.specs.declared.writing.Put.TheVariants.{Tried, Promised, Vote, Learned}
use Rattle.acceptor_store_parts.specs.Stored.{vote_shown, learned_shown}

-- the texts
abbrev pub text_of : Asked → List ℕ
text_of VoteAt = codes "SELECT place, ballot, value FROM vote WHERE place = ?1 ORDER BY place"
text_of VotesFrom = codes "SELECT place, ballot, value FROM vote WHERE place >= ?1 ORDER BY place"
text_of LearnedAt = codes "SELECT place, value FROM learned WHERE place = ?1 ORDER BY place"
text_of LearnedFrom = codes "SELECT place, value FROM learned WHERE place >= ?1 ORDER BY place"

-- what they show of a content
abbrev pub shown_of : Asked → ℕ → Content → List Row
shown_of VoteAt place c = map vote_shown (filter (λ v. v.0 == place) c.votes)
shown_of VotesFrom place c = map vote_shown (rows_from c.votes place)
shown_of LearnedAt place c = map learned_shown (filter (λ v. v.0 == place) c.learned)
shown_of LearnedFrom place c = map learned_shown (rows_from c.learned place)

-- the write that a row makes
abbrev pub write_of : Put → Write
write_of (Tried ballot) = Tries ballot
write_of (Promised ballot) = Promises ballot
write_of (Vote place ballot value) = Votes place (record { ballot = ballot; value = value.now })
write_of (Learned place value) = Learns place value.now

-- A row of the code as the row of the definitions.
use Rattle.std.specs.Prelude.{ℕ, List}
use Rattle.ballots.specs.declared.letters.Letter.{Letter}
use Rattle.watched_runs.specs.Rows.{Row}
use Rattle.watched_runs.specs.declared.row.Letters.{Letters}
use Rattle.watched_runs.specs.declared.row.Row.{Row as RowInCode}

abbrev pub numbered : Letters → ℕ × List Letter
numbered l = (l.first, l.letters.now)

abbrev pub shown : RowInCode → Row
shown row = record {
  number = row.number;
  step = row.step;
  event = row.event.now;
  answer = row.answer;
  came = numbered row.came;
  sent = numbered row.sent;
  released = row.released.now;
  sight = row.sight;
}

-- Learned rows that are read are what is learned then.
use Rattle.std.proofs.Common.{◌≡◌, ℕ, ◌+◌, ◌<◌, ◌≤◌, List, [], ◌∷◌, ◌++◌, Option, Some, None, refl, sym, ap, ◌∙◌, arith}
use Rattle.std.proofs.Common.{append-nil, append_assoc}
use Rattle.std.specs.Map.{remove_entry}
use Rattle.std.specs.BTreeMap.{is_at}
use Rattle.std.specs.Ordering.{nat_cmp}
use Rattle.ballots.specs.Rows.{at, put}
use Rattle.ballots.proofs.Callers.{at_after, put_after}
use Rattle.acceptor.specs.Content.{AreRowsFrom}
use Rattle.learner.specs.Tally.{Tally, known, no_tally}
use Rattle.command_log.specs.Values.{Rows}
use Rattle.command_log.specs.View.{AreRows}

-- rows of the log in the words of a log
pub are_rows : (p : ℕ) (rows : Rows) → AreRowsFrom p rows → AreRows p rows
are_rows p [] are = tt
are_rows p (row ∷ rows) are = (are.0, are.1, are_rows (row.0 + 1) rows are.2)

-- rows taken in one after another, each place's first one
abbrev pub take_in : Tally → Rows → Tally
take_in tally [] = tally
take_in tally (row ∷ rows) = take_in (known tally (at tally.learned row.0) row.0 row.1) rows

-- each of the rows stands before place q
abbrev Before : ℕ → Rows → Type 0
Before q [] = Unit {0}
Before q (row ∷ rows) = (row.0 < q) × Before q rows

before_more : (q r : ℕ) (rows : Rows) → q ≤ r → Before q rows → Before r rows
before_more q r [] le before = tt
before_more q r (row ∷ rows) le before = (omega (arith, le, before.0), before_more q r rows le before.1)

at_last : (p : ℕ) (rows : Rows) → Before p rows → at rows p ≡ None
at_last p [] before = refl
at_last p (row ∷ rows) before = at_after row.0 row.1 rows p before.0 ∙ at_last p rows before.1

put_last : (p : ℕ) (v : List ℕ) (rows : Rows) → Before p rows → put rows p v ≡ rows ++ (p, v) ∷ []
put_last p v [] before = refl
put_last p v (row ∷ rows) before = put_after row.0 row.1 rows p v before.0 ∙ ap (λ (r : Rows). row ∷ r) (put_last p v rows before.1)

before_last : (p : ℕ) (v : List ℕ) (rows : Rows) → Before p rows → Before (p + 1) (rows ++ (p, v) ∷ [])
before_last p v [] before = (omega arith, tt)
before_last p v (row ∷ rows) before = (omega (arith, before.0), before_last p v rows before.1)

-- a tally that counts nothing and learned these
abbrev pub of_rows : Rows → Tally
of_rows rows = record { counted = []; learned = rows }

known_last : (p : ℕ) (v : List ℕ) (rows : Rows) (o : Option (List ℕ)) → o ≡ None → Before p rows → known (of_rows rows) o p v ≡ of_rows (rows ++ (p, v) ∷ [])
known_last p v rows None none before = ap of_rows (put_last p v rows before)
known_last p v rows (Some w) none before = absurd (cc (none))

-- rows by ascending place are taken in whole
pub all_in : (q : ℕ) (first rows : Rows) → Before q first → AreRows q rows → take_in (of_rows first) rows ≡ of_rows (first ++ rows)
all_in q first [] before are = ap of_rows (sym (append-nil first))
all_in q first (row ∷ rows) before are =
    let earlier : Before row.0 first = before_more q row.0 first are.0 before in
    ap (λ (t : Tally). take_in t rows) (known_last row.0 row.1 first (at first row.0) (at_last row.0 first earlier) earlier)
    ∙ all_in (row.0 + 1) (first ++ row ∷ []) rows (before_last row.0 row.1 first earlier) are.2
    ∙ ap of_rows (append_assoc first (row ∷ []) rows)

pub whole : (rows : Rows) → AreRows 1 rows → take_in no_tally rows ≡ of_rows rows
whole rows are = all_in 1 [] rows tt are

-- nothing is counted where nothing was
pub none_counted : (tally : Tally) (o : Option (List ℕ)) (p : ℕ) (v : List ℕ) → tally.counted ≡ [] → (known tally o p v).counted ≡ []
none_counted tally None p v none = ap (remove_entry (is_at (nat_cmp p))) none
none_counted tally (Some w) p v none = none

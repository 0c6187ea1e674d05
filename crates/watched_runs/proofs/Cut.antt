-- Rows, cut from the lists of the world that a run left.
use Rattle.std.proofs.Common.{◌≡◌, ◌<◌, ◌+◌, ℕ, zero, suc, List, [], ◌∷◌, ◌++◌, Option, refl, sym, ap, subst, ◌∙◌}
use Rattle.std.proofs.Common.{length, take, drop, get_or, min, append_assoc, append-nil, take_at, arith}
use Rattle.std.proofs.lemmas.List.{length-replicate}
use Rattle.ballots.specs.declared.letters.Letter.{Letter}
use Rattle.seats.specs.declared.answer.Answer.{Answer}
use Rattle.seats.specs.declared.answer.ReleasedOutput.{ReleasedOutput}
use Rattle.world_events.specs.declared.event.Event.{Event}
use Rattle.network_script.specs.Along.{Along}
use Rattle.network_script.specs.Next.{Goes, Next}
use Rattle.network_script.specs.World.{Written, opening}
use Rattle.acceptor.specs.Content.{no_content}
use Rattle.node.specs.View.{started}
use Rattle.node.specs.View.Standing.{Running}
use Rattle.watched_runs.specs.Marks.{noted, row_at, rows_from, seen_in}
use Rattle.watched_runs.specs.Rows.{GoesInRows, IsRun, Row, came_by, row_of}
use Rattle.watched_runs.specs.Sights.{sight}
use Rattle.watched_runs.specs.declared.sight.Sight.{Sight}
use Rattle.watched_runs.specs.declared.mark.Mark.{Mark}
use Rattle.watched_runs.specs.declared.mark.Marks.{Marks}
use Rattle.watched_runs.proofs.Growth.{Grown}

-- one event has an answer
pub one_at_least : {S : Type 0} (Step : S → Event → Answer → S → Type 0) (s s' : S) (event : Event) (report : List Answer) → Along Step s (event ∷ []) report s' → 0 < length report
one_at_least Step s s' event [] goes = absurd goes
one_at_least Step s s' event (a ∷ report) goes = omega arith

pub one_answer : (members : ℕ) (w w' : Written) (event : Event) (report : List Answer) (a : Answer) → Goes members w (event ∷ []) report w' → a ≡ get_or report 0 a → Next members w event a w'
one_answer members w w' event [] a goes is = absurd goes
one_answer members w w' event (b ∷ []) a (mid, next, same) is =
    subst (λ (c : Answer). Next members w event c w') (sym is) (subst (λ (v : Written). Next members w event b v) (sym same) next)
one_answer members w w' event (b ∷ c ∷ report) a goes is = absurd goes.2

-- ---- one event more

rows_more : (n : ℕ) (events : List Event) (event : Event) (marks : List Mark) (mark : Mark) (letters : List Letter) (outputs : List ReleasedOutput) → length events ≡ length marks
    → rows_from n (events ++ event ∷ []) (marks ++ mark ∷ []) letters outputs ≡ rows_from n events marks letters outputs ++ row_at (n + length events) event mark letters outputs ∷ []
rows_more n [] event [] mark letters outputs same = ap (λ k. row_at k event mark letters outputs ∷ []) (omega arith)
rows_more n [] event (m ∷ marks) mark letters outputs same = absurd (omega (arith, same))
rows_more n (e ∷ events) event [] mark letters outputs same = absurd (omega (arith, same))
rows_more n (e ∷ events) event (m ∷ marks) mark letters outputs same =
    let rest = rows_more (n + 1) events event marks mark letters outputs (omega (arith, same)) in
    let count : n + 1 + length events ≡ n + suc (length events) = omega arith in
    ap (λ rows. row_at n e m letters outputs ∷ rows) (rest ∙ ap (λ k. rows_from (n + 1) events marks letters outputs ++ row_at k event mark letters outputs ∷ []) count)

pub goes_more : (members n : ℕ) (w mid w' : Written) (events : List Event) (rows : List Row) (event : Event) (row : Row) → GoesInRows members n w events rows mid → Next members mid event row.answer w'
    → row ≡ row_of (n + length events) row.step event row.answer mid w' → GoesInRows members n w (events ++ event ∷ []) (rows ++ row ∷ []) w'
goes_more members n w mid w' [] [] event row is next cut =
    let begun : Next members w event row.answer w' = subst (λ (v : Written). Next members v event row.answer w') is next in
    let first : row ≡ row_of n row.step event row.answer w w' = cut ∙ ap (λ k. row_of k row.step event row.answer mid w') (omega arith) ∙ ap (λ (v : Written). row_of n row.step event row.answer v w') is in
    (w', begun, first, refl)
goes_more members n w mid w' [] (r ∷ rows) event row goes next cut = absurd goes
goes_more members n w mid w' (e ∷ events) [] event row goes next cut = absurd goes
goes_more members n w mid w' (e ∷ events) (r ∷ rows) event row (between, first, is, goes) next cut =
    let count : n + suc (length events) ≡ n + 1 + length events = omega arith in
    (between, first, is, goes_more members (n + 1) between mid w' events rows event row goes next (cut ∙ ap (λ k. row_of k row.step event row.answer mid w') count))

-- what was there comes first of what there is, and what is more comes behind it
pub front_of : {A : Type 0} (xs ys more zs : List A) → ys ≡ xs ++ more → take (length xs) (ys ++ zs) ≡ xs
front_of xs ys more zs is = ap (λ l. take (length xs) (l ++ zs)) is ∙ ap (take (length xs)) (append_assoc xs more zs) ∙ take_at xs (more ++ zs) (length xs) refl

-- the row that is cut for an event is that of the worlds before and behind it
row_cut : (n step : ℕ) (event : Event) (a : Answer) (w w' : Written) (ls : List Letter) (os : List ReleasedOutput) → Grown w w'
    → row_at n event (noted step event a w w') (w'.letters ++ ls) (w'.outputs ++ os) ≡ row_of n step event a w w'
row_cut n step event a w w' ls os more =
    let before : take (length w.letters) (w'.letters ++ ls) ≡ w.letters = front_of w.letters w'.letters more.letters ls more.sent in
    let sent : take (length w'.letters) (w'.letters ++ ls) ≡ w'.letters = take_at w'.letters ls (length w'.letters) refl in
    let released : take (length w'.outputs) (w'.outputs ++ os) ≡ w'.outputs = take_at w'.outputs os (length w'.outputs) refl in
    λ i. record {
      number = n;
      step = step;
      event = event;
      answer = a;
      came = came_by (before i) event;
      sent = (length w.letters, drop (length w.letters) (sent i));
      released = drop (length w.outputs) (released i);
      sight = sight event w w';
    }

-- these rows are cut for events from the lists of this world, whatever comes behind them
abbrev pub AreCut : List Event → List Mark → Written → List Row → Type 0
AreCut events marks w rows = (ls : List Letter) (os : List ReleasedOutput) → rows_from 0 events marks (w.letters ++ ls) (w.outputs ++ os) ≡ rows

-- of one event more
pub cut_more : (w w' : Written) (events : List Event) (event : Event) (marks : List Mark) (mark : Mark) (step : ℕ) (rows : List Row) → length marks ≡ length events
    → AreCut events marks w rows → Grown w w' → mark ≡ noted step event mark.answer w w' → AreCut (events ++ event ∷ []) (marks ++ mark ∷ []) w' (rows ++ row_of (length events) step event mark.answer w w' ∷ [])
cut_more mid w' events event marks mark step rows size before more is_noted = λ ls os.
    let row : Row = row_of (length events) step event mark.answer mid w' in
    let number : length events ≡ 0 + length events = omega arith in
    let letters : w'.letters ++ ls ≡ mid.letters ++ (more.letters ++ ls) = ap (λ l. l ++ ls) more.sent ∙ append_assoc mid.letters more.letters ls in
    let outputs : w'.outputs ++ os ≡ mid.outputs ++ (more.outputs ++ os) = ap (λ l. l ++ os) more.released ∙ append_assoc mid.outputs more.outputs os in
    let earlier : rows_from 0 events marks (w'.letters ++ ls) (w'.outputs ++ os) ≡ rows =
    ap (λ l. rows_from 0 events marks l (w'.outputs ++ os)) letters
    ∙ ap (λ o. rows_from 0 events marks (mid.letters ++ (more.letters ++ ls)) o) outputs
    ∙ before (more.letters ++ ls) (more.outputs ++ os) in
    let last : row_at (0 + length events) event mark (w'.letters ++ ls) (w'.outputs ++ os) ≡ row =
    ap (λ k. row_at k event mark (w'.letters ++ ls) (w'.outputs ++ os)) (sym number)
    ∙ ap (λ (m : Mark). row_at (length events) event m (w'.letters ++ ls) (w'.outputs ++ os)) is_noted
    ∙ row_cut (length events) step event mark.answer mid w' ls os more in
    rows_more 0 events event marks mark (w'.letters ++ ls) (w'.outputs ++ os) (sym size)
    ∙ (λ j. earlier j ++ last j ∷ [])

-- what is noted, part by part
pub noted_so : (step : ℕ) (event : Event) (a : Answer) (w w' : Written) (l l' o o' : ℕ) (seen : Option Sight) → l ≡ length w.letters → l' ≡ length w'.letters → o ≡ length w.outputs → o' ≡ length w'.outputs
    → seen ≡ sight event w w' → record { step = step; answer = a; letters = (l, l'); outputs = (o, o'); sight = seen } ≡ noted step event a w w'
noted_so step event a w w' l l' o o' seen is_l is_l' is_o is_o' is_seen = λ i. record { step = step; answer = a; letters = (is_l i, is_l' i); outputs = (is_o i, is_o' i); sight = is_seen i }

-- ---- a row by its number

pub rows_length : (n : ℕ) (events : List Event) (marks : List Mark) (letters : List Letter) (outputs : List ReleasedOutput) (i : ℕ) → i < length (rows_from n events marks letters outputs)
    → (i < length events)
rows_length n [] marks letters outputs i lt = absurd (omega (arith, lt))
rows_length n (e ∷ events) [] letters outputs i lt = absurd (omega (arith, lt))
rows_length n (e ∷ events) (m ∷ marks) letters outputs zero lt = omega arith
rows_length n (e ∷ events) (m ∷ marks) letters outputs (suc i) lt = let h = rows_length (n + 1) events marks letters outputs i (omega (arith, lt)) in omega (arith, h)

pub rows_marked : (n : ℕ) (events : List Event) (marks : List Mark) (letters : List Letter) (outputs : List ReleasedOutput) (i : ℕ) → i < length (rows_from n events marks letters outputs)
    → (i < length marks)
rows_marked n [] marks letters outputs i lt = absurd (omega (arith, lt))
rows_marked n (e ∷ events) [] letters outputs i lt = absurd (omega (arith, lt))
rows_marked n (e ∷ events) (m ∷ marks) letters outputs zero lt = omega arith
rows_marked n (e ∷ events) (m ∷ marks) letters outputs (suc i) lt = let h = rows_marked (n + 1) events marks letters outputs i (omega (arith, lt)) in omega (arith, h)

row_there : (n : ℕ) (events : List Event) (marks : List Mark) (letters : List Letter) (outputs : List ReleasedOutput) (i : ℕ) (event : Event) (mark : Mark) (d : Row)
    → i < length (rows_from n events marks letters outputs) → event ≡ get_or events i event → mark ≡ get_or marks i mark
    → row_at (n + i) event mark letters outputs ≡ get_or (rows_from n events marks letters outputs) i d
row_there n [] marks letters outputs i event mark d lt is_event is_mark = absurd (omega (arith, lt))
row_there n (e ∷ events) [] letters outputs i event mark d lt is_event is_mark = absurd (omega (arith, lt))
row_there n (e ∷ events) (m ∷ marks) letters outputs zero event mark d lt is_event is_mark =
    ap (λ k. row_at k event mark letters outputs) (omega arith) ∙ ap (λ (x : Event). row_at n x mark letters outputs) is_event ∙ ap (λ (x : Mark). row_at n e x letters outputs) is_mark
row_there n (e ∷ events) (m ∷ marks) letters outputs (suc i) event mark d lt is_event is_mark =
    let count : n + suc i ≡ n + 1 + i = omega arith in
    ap (λ k. row_at k event mark letters outputs) count ∙ row_there (n + 1) events marks letters outputs i event mark d (omega (arith, lt)) is_event is_mark

-- a run over fresh nodes
pub is_run : (members : ℕ) (ids : List ℕ) (events : List Event) (marks : Marks) (w : Written)
    → GoesInRows (length (opening members ids).nodes) 0 (opening members ids) events (seen_in events marks w).rows w → IsRun members ids events (seen_in events marks w)
is_run members ids events marks w goes =
    let same : GoesInRows members 0 (opening members ids) events (seen_in events marks w).rows w =
    subst (λ (m : ℕ). GoesInRows m 0 (opening members ids) events (seen_in events marks w).rows w) (length-replicate members (Running (started no_content))) goes in
    (w, same, refl, refl, refl)

-- as many rows as events, and as many marks
pub rows_count : (n : ℕ) (events : List Event) (marks : List Mark) (letters : List Letter) (outputs : List ReleasedOutput) → min (length events) (length marks) ≡ length (rows_from n events marks letters outputs)
rows_count n [] marks letters outputs = omega arith
rows_count n (e ∷ events) [] letters outputs = omega arith
rows_count n (e ∷ events) (m ∷ marks) letters outputs = let h = rows_count (n + 1) events marks letters outputs in omega (arith, h)

pub row_here : (events : List Event) (marks : List Mark) (letters : List Letter) (outputs : List ReleasedOutput) (i : ℕ) (event : Event) (mark : Mark) (d : Row)
    → i < length (rows_from 0 events marks letters outputs) → event ≡ get_or events i event → mark ≡ get_or marks i mark
    → row_at i event mark letters outputs ≡ get_or (rows_from 0 events marks letters outputs) i d
row_here events marks letters outputs i event mark d lt is_event is_mark =
    let number : i ≡ 0 + i = omega arith in
    ap (λ k. row_at k event mark letters outputs) number ∙ row_there 0 events marks letters outputs i event mark d lt is_event is_mark

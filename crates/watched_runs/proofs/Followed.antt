-- Entries, as far as they happened: the rows of their events, and which letters came.
use Rattle.std.proofs.Common.{◌≡◌, ℕ, zero, suc, ◌+◌, Bool, true, false, if◌then◌else◌, nat_lt, List, [], ◌∷◌, ◌++◌}
use Rattle.std.proofs.Common.{Option, Some, None, refl, sym, ap, subst, ◌∙◌, length, take, drop, map}
use Rattle.std.proofs.Common.{append_assoc, append-nil}
use Rattle.std.proofs.Common.{add-zero, arith}
use Rattle.std.specs.List.{AllZip}
use Rattle.std.proofs.lemmas.List.{length-append, length-map, length-replicate, map-append}
use Rattle.std.proofs.Math.Seq.{drop-append_seam}
use Rattle.ballots.specs.declared.letters.Letter.{Letter}
use Rattle.script_steps.specs.Came.{Came}
use Rattle.script_steps.specs.Names.{about_of}
use Rattle.script_steps.specs.Plain.{round_of, rounds_of}
use Rattle.script_steps.specs.declared.entry.Entry.{Entry}
use Rattle.script_steps.specs.declared.entry.Entry.TheVariants.{One}
use Rattle.script_steps.specs.declared.step.Step.TheVariants.{Plain}
use Rattle.world_events.specs.declared.event.Event.{Event}
use Rattle.world_events.specs.declared.event.Event.TheVariants.{Lead, Offer, Tell, Deliver, DeliverThenCrash, Crash}
use Rattle.world_events.specs.declared.event.Event.TheVariants.{Restart, Release, Hear, Want, Tick}
use Rattle.network_script.specs.Next.{Goes, Next}
use Rattle.network_script.specs.World.{Written, opening}
use Rattle.acceptor.specs.Content.{no_content}
use Rattle.node.specs.View.{started}
use Rattle.node.specs.View.Standing.{Running}
use Rattle.watched_runs.specs.Following.{GoesOn, HasGone, StepsGo, comes_by, delivered, followed}
use Rattle.watched_runs.specs.Marks.{noted, rows_from, seen_in}
use Rattle.watched_runs.specs.Rows.{GoesInRows, Row, came_by, row_of}
use Rattle.watched_runs.specs.Steps.{AreRounds, IsOf, IsStepRun, Leave, MeansPlain, PlainStepsAreEvents}
use Rattle.watched_runs.specs.Steps.{SoFar, StepRunsAreRuns}
use Rattle.watched_runs.specs.Steps.{after, after_row, begun, came_if, is_all, stage_of, was_taken}
use Rattle.watched_runs.specs.declared.course.Course.{Course}
use Rattle.watched_runs.specs.declared.mark.Mark.{Mark}
use Rattle.watched_runs.specs.declared.mark.Marks.{Marks}
use Rattle.watched_runs.specs.declared.mark.Stage.{Stage}
use Rattle.watched_runs.proofs.Cut.{cut_more, front_of, goes_more, is_run}
use Rattle.watched_runs.proofs.Growth.{Grown, grown}

-- ---- one event more

-- a letter that was sent, and no other, is one of those that come
sent_one : (i : ℕ) (ls : List Letter) (n : ℕ) (came : List ℕ) → came_if (take 1 (drop i ls)) true n came ≡ (if nat_lt i (length ls) then came ++ n ∷ [] else came)
sent_one zero [] n came = refl
sent_one (suc i) [] n came = let no : nat_lt (suc i) 0 ≡ false = grind arith in ap (λ b. if b then came ++ n ∷ [] else came) (sym no)
sent_one zero (l ∷ ls) n came = let yes : nat_lt 0 (suc (length ls)) ≡ true = grind arith in ap (λ b. if b then came ++ n ∷ [] else came) (sym yes)
sent_one (suc i) (l ∷ ls) n came =
    let same : nat_lt i (length ls) ≡ nat_lt (suc i) (suc (length ls)) = grind arith in
    sent_one i ls n came ∙ ap (λ b. if b then came ++ n ∷ [] else came) same

not_taken : (xs : List Letter) (i : ℕ) (came : List ℕ) → came_if xs false i came ≡ came
not_taken [] i came = refl
not_taken (l ∷ ls) i came = refl

delivers : (i : ℕ) (taken : Bool) (so_far : Came) (ls : List Letter) → length so_far.sent ≡ length ls → (comes_by (Some i) taken so_far).came ≡ came_if (take 1 (drop i ls)) taken i so_far.came
delivers i false so_far ls sent = sym (not_taken (take 1 (drop i ls)) i so_far.came)
delivers i true so_far ls sent = ap (λ n. if nat_lt i n then so_far.came ++ i ∷ [] else so_far.came) sent ∙ sym (sent_one i ls i so_far.came)

none_comes : (taken : Bool) (came : List ℕ) → came ≡ came_if [] taken 0 came
none_comes taken came = refl

comes_so : (event : Event) (taken : Bool) (so_far : Came) (ls : List Letter) → length so_far.sent ≡ length ls
    → (comes_by (delivered event) taken so_far).came ≡ came_if (came_by ls event).1 taken (came_by ls event).0 so_far.came
comes_so (Lead k) taken so_far ls sent = refl
comes_so (Offer k value) taken so_far ls sent = refl
comes_so (Tell k to place) taken so_far ls sent = refl
comes_so (Deliver i) taken so_far ls sent = delivers i taken so_far ls sent
comes_so (DeliverThenCrash i) taken so_far ls sent = delivers i taken so_far ls sent
comes_so (Crash k) taken so_far ls sent = refl
comes_so (Restart k) taken so_far ls sent = refl
comes_so (Release k now) taken so_far ls sent = refl
comes_so (Hear m i near) taken so_far ls sent = refl
comes_so (Want m ch sid n) taken so_far ls sent = refl
comes_so (Tick m ch slot random) taken so_far ls sent = refl

-- none is sent as one comes
none_sent : (letter : Option ℕ) (taken : Bool) (so_far : Came) → (comes_by letter taken so_far).sent ≡ so_far.sent
none_sent None taken so_far = refl
none_sent (Some i) false so_far = refl
none_sent (Some i) true so_far = refl

-- ---- how far a run came

after_append : (so : SoFar) (xs ys : List Row) → after so (xs ++ ys) ≡ after (after so xs) ys
after_append so [] ys = refl
after_append so (x ∷ xs) ys = after_append (after_row so x) xs ys

-- one event more
pub gone_more : (members : ℕ) (w0 w w' : Written) (course now : Course) (rows : List Row) (step : ℕ) (event : Event) (mark : Mark)
    → now.events.items ≡ course.events.items ++ event ∷ [] → now.marks.items ≡ course.marks.items ++ mark ∷ [] → now.deliveries ≡ followed event mark w'.letters course.deliveries
    → length w'.nodes ≡ members → HasGone members w0 course rows w → Next members w event mark.answer w' → mark ≡ noted step event mark.answer w w'
    → (more : List Row) × GoesOn members w0 now rows more w w' × AllZip (IsOf step) (event ∷ []) more
gone_more members w0 w w' course now rows step event mark is_events is_marks is_now nodes before next is_noted =
    let events : List Event = course.events.items in
    let marks : List Mark = course.marks.items in
    let so_far : Came = course.deliveries in
    let row : Row = row_of (length events) step event mark.answer w w' in
    let more : Grown w w' = grown members w w' event mark.answer next in
    let so : Came = comes_by (delivered event) (was_taken mark.answer) so_far in
    let number : length events ≡ 0 + length events = omega arith in
    let sent : so.sent ≡ map about_of w.letters = none_sent (delivered event) (was_taken mark.answer) so_far ∙ before.sent in
    let long : length so_far.sent ≡ length w.letters = ap length before.sent ∙ length-map w.letters about_of in
    let count : length so.sent ≡ length w.letters = ap length sent ∙ length-map w.letters about_of in
    let behind : drop (length w.letters) w'.letters ≡ more.letters = ap (drop (length w.letters)) more.sent ∙ drop-append_seam w.letters more.letters in
    let new : drop (length so.sent) w'.letters ≡ more.letters = ap (λ n. drop n w'.letters) count ∙ behind in
    let cut = cut_more w w' events event marks mark step rows before.size before.cut more is_noted in
    let goes = goes_more members 0 w0 w w' events rows event row before.goes next (ap (λ k. row_of k step event mark.answer w w') number) in
    let all_sent : (followed event mark w'.letters so_far).sent ≡ map about_of w'.letters = ap (λ (ls : List Letter). so.sent ++ map about_of ls) new
    ∙ ap (λ abouts. abouts ++ map about_of more.letters) sent ∙ sym (map-append about_of w.letters more.letters) ∙ ap (map about_of) (sym more.sent) in
    let came : came_if (came_by w.letters event).1 (was_taken mark.answer) (came_by w.letters event).0 so_far.came ≡ now.deliveries.came =
    sym (comes_so event (was_taken mark.answer) so_far w.letters long) ∙ ap (λ (c : Came). c.came) (sym is_now) in
    let gone : length events + 1 ≡ length now.events.items = sym (ap length is_events ∙ length-append events (event ∷ [])) in
    let size : length w.letters + length (drop (length w.letters) w'.letters) ≡ length w'.letters =
    ap (λ (ls : List Letter). length w.letters + length ls) behind ∙ sym (length-append w.letters more.letters) ∙ ap length (sym more.sent) in
    let behind_row : after_row (after begun rows) row ≡ record { gone = length now.events.items; sent = length w'.letters; came = now.deliveries.came } =
    ap (λ s. after_row s row) before.stands ∙ (λ i. record { gone = gone i; sent = size i; came = came i }) in (
      row ∷ [],
      record {
        gone = record {
          nodes = nodes;
          size = ap length is_marks ∙ length-append marks (mark ∷ []) ∙ ap (λ k. k + 1) before.size ∙ gone;
          goes = subst (λ (es : List Event). GoesInRows members 0 w0 es (rows ++ row ∷ []) w') (sym is_events) goes;
          cut = λ ls os. ap (λ (es : List Event). rows_from 0 es now.marks.items (w'.letters ++ ls) (w'.outputs ++ os)) is_events
              ∙ ap (λ (ms : List Mark). rows_from 0 (events ++ event ∷ []) ms (w'.letters ++ ls) (w'.outputs ++ os)) is_marks ∙ cut ls os;
          sent = ap (λ (c : Came). c.sent) is_now ∙ all_sent;
          stands = after_append begun rows (row ∷ []) ∙ behind_row;
        };
        letters = more.letters;
        sent = more.sent;
      },
      ((refl, refl), tt),
    )

-- a course that has the same
pub gone_same : (members : ℕ) (w0 w : Written) (a b : Course) (rows : List Row) → b.events.items ≡ a.events.items → b.marks.items ≡ a.marks.items → b.deliveries ≡ a.deliveries
    → HasGone members w0 a rows w → HasGone members w0 b rows w
gone_same members w0 w a b rows is_events is_marks is_came h = record {
  nodes = h.nodes;
  size = ap length is_marks ∙ h.size ∙ sym (ap length is_events);
  goes = subst (λ (es : List Event). GoesInRows members 0 w0 es rows w) (sym is_events) h.goes;
  cut = λ ls os. ap (λ (es : List Event). rows_from 0 es b.marks.items (w.letters ++ ls) (w.outputs ++ os)) is_events
      ∙ ap (λ (ms : List Mark). rows_from 0 a.events.items ms (w.letters ++ ls) (w.outputs ++ os)) is_marks ∙ h.cut ls os;
  sent = ap (λ (c : Came). c.sent) is_came ∙ h.sent;
  stands = h.stands ∙ sym (λ i. record { gone = length (is_events i); sent = length w.letters; came = (is_came i).came });
}

-- more rows, and more behind them
pub goes_on_twice : (members : ℕ) (w0 w mid w' : Written) (course now : Course) (rows xs ys : List Row) → GoesOn members w0 course rows xs w mid → GoesOn members w0 now (rows ++ xs) ys mid w'
    → GoesOn members w0 now rows (xs ++ ys) w w'
goes_on_twice members w0 w mid w' course now rows xs ys one two = record {
  gone = subst (λ (rs : List Row). HasGone members w0 now rs w') (append_assoc rows xs ys) two.gone;
  letters = one.letters ++ two.letters;
  sent = two.sent ∙ ap (λ (ls : List Letter). ls ++ two.letters) one.sent ∙ append_assoc w.letters one.letters two.letters;
}

-- no row more
pub goes_on_still : (members : ℕ) (w0 w : Written) (course : Course) (rows : List Row) → HasGone members w0 course rows w → GoesOn members w0 course rows [] w w
goes_on_still members w0 w course rows gone = record {
  gone = subst (λ (rs : List Row). HasGone members w0 course rs w) (sym (append-nil rows)) gone;
  letters = [];
  sent = sym (append-nil w.letters);
}

pub zip_more : {X Y : Type 0} (P : X → Y → Type 0) (xs zs : List X) (ys vs : List Y) → AllZip P xs ys → AllZip P zs vs → AllZip P (xs ++ zs) (ys ++ vs)
zip_more P [] zs [] vs one two = two
zip_more P [] zs (y ∷ ys) vs one two = absurd one
zip_more P (x ∷ xs) zs [] vs one two = absurd one
zip_more P (x ∷ xs) zs (y ∷ ys) vs one two = (one.0, zip_more P xs zs ys vs one.1 two)

-- one delivery more
pub next_delivery : (n : ℕ) (done left rest all : List ℕ) (i : ℕ) (rows more : List Row) → done ++ left ≡ all → left ≡ i ∷ rest → AllZip (IsOf n) (map Deliver done) rows → AllZip (IsOf n) (Deliver i ∷ []) more
    → ((done ++ i ∷ []) ++ rest ≡ all) × AllZip (IsOf n) (map Deliver (done ++ i ∷ [])) (rows ++ more)
next_delivery n done left rest all i rows more joined next zip one = (
  append_assoc done (i ∷ []) rest ∙ ap (λ l. done ++ l) (sym next) ∙ joined,
  subst (λ (es : List Event). AllZip (IsOf n) es (rows ++ more)) (sym (map-append Deliver done (i ∷ []))) (zip_more (IsOf n) (map Deliver done) (Deliver i ∷ []) rows more zip one),
)

pub all_delivered : (n : ℕ) (done left all : List ℕ) (rows : List Row) → done ++ left ≡ all → left ≡ [] → AllZip (IsOf n) (map Deliver done) rows → AllZip (IsOf n) (map Deliver all) rows
all_delivered n done left all rows joined none zip =
    let whole : done ≡ all = sym (append-nil done) ∙ ap (λ l. done ++ l) (sym none) ∙ joined in
    subst (λ (is : List ℕ). AllZip (IsOf n) (map Deliver is) rows) whole zip

-- ---- rounds

-- a round, by how far the run had come as it began
round_here : (members : ℕ) (w0 w w' : Written) (before now : Course) (rows more : List Row) (n : ℕ) (entry : Entry) → HasGone members w0 before rows w → GoesOn members w0 now rows more w w'
    → AllZip (IsOf n) (round_of entry w.letters before.deliveries.came) more → (ls : List Letter)
    → AllZip (IsOf n) (round_of entry (take (after begun rows).sent (w'.letters ++ ls)) (after begun rows).came) more
round_here members w0 w w' before now rows more n entry gone on zip ls =
    let front : take (length w.letters) (w'.letters ++ ls) ≡ w.letters = front_of w.letters w'.letters on.letters ls on.sent in
    let there : AllZip (IsOf n) (round_of entry (take (length w.letters) (w'.letters ++ ls)) before.deliveries.came) more =
    subst (λ (l : List Letter). AllZip (IsOf n) (round_of entry l before.deliveries.came) more) (sym front) zip in
    subst (λ (so : SoFar). AllZip (IsOf n) (round_of entry (take so.sent (w'.letters ++ ls)) so.came) more) (sym gone.stands) there

rounds_more : (letters : List Letter) (n : ℕ) (entry : Entry) (k : ℕ) (so : SoFar) (xs ys : List Row) → AreRounds letters n entry k so xs
    → AllZip (IsOf n) (round_of entry (take (after so xs).sent letters) (after so xs).came) ys → AreRounds letters n entry (suc k) so (xs ++ ys)
rounds_more letters n entry zero so xs ys none zip =
    let first : AllZip (IsOf n) (round_of entry (take so.sent letters) so.came) ys =
    subst (λ (rs : List Row). AllZip (IsOf n) (round_of entry (take (after so rs).sent letters) (after so rs).came) ys) none zip in
    (ys, [], ap (λ (rs : List Row). rs ++ ys) none ∙ sym (append-nil ys), first, refl)
rounds_more letters n entry (suc k) so xs ys (first, rest, is, one, later) zip =
    let there : after so xs ≡ after (after so first) rest = ap (after so) is ∙ after_append so first rest in
    let last = subst (λ (s : SoFar). AllZip (IsOf n) (round_of entry (take s.sent letters) s.came) ys) there zip in
    (first, rest ++ ys, ap (λ (rs : List Row). rs ++ ys) is ∙ append_assoc first rest ys, one, rounds_more letters n entry k (after so first) rest ys later last)

-- one alone
pub first_round : (members : ℕ) (w0 w w' : Written) (before now : Course) (rows more : List Row) (n : ℕ) (entry : Entry) → HasGone members w0 before rows w → GoesOn members w0 now rows more w w'
    → AllZip (IsOf n) (round_of entry w.letters before.deliveries.came) more → (ls : List Letter) → AreRounds (w'.letters ++ ls) n entry 1 (after begun rows) more
first_round members w0 w w' before now rows more n entry gone on zip ls = (more, [], sym (append-nil more), round_here members w0 w w' before now rows more n entry gone on zip ls, refl)

-- and one more
pub next_round : (members : ℕ) (w0 w mid w' : Written) (course now : Course) (rows xs ys : List Row) (n : ℕ) (entry : Entry) (k : ℕ) → GoesOn members w0 course rows xs w mid
    → GoesOn members w0 now (rows ++ xs) ys mid w' → ((ls : List Letter) → AreRounds (mid.letters ++ ls) n entry k (after begun rows) xs)
    → AllZip (IsOf n) (round_of entry mid.letters course.deliveries.came) ys → (ls : List Letter) → AreRounds (w'.letters ++ ls) n entry (k + 1) (after begun rows) (xs ++ ys)
next_round members w0 w mid w' course now rows xs ys n entry k one two rounds zip ls =
    let letters : mid.letters ++ (two.letters ++ ls) ≡ w'.letters ++ ls = sym (append_assoc mid.letters two.letters ls) ∙ ap (λ (l : List Letter). l ++ ls) (sym two.sent) in
    let earlier = subst (λ (l : List Letter). AreRounds l n entry k (after begun rows) xs) letters (rounds (two.letters ++ ls)) in
    let here = round_here members w0 mid w' course now (rows ++ xs) ys n entry one.gone two zip ls in
    let last = subst (λ (s : SoFar). AllZip (IsOf n) (round_of entry (take s.sent (w'.letters ++ ls)) s.came) ys) (after_append begun rows xs) here in
    let count : suc k ≡ k + 1 = omega arith in
    subst (λ (m : ℕ). AreRounds (w'.letters ++ ls) n entry m (after begun rows) (xs ++ ys)) count (rounds_more (w'.letters ++ ls) n entry k (after begun rows) xs ys earlier last)

-- ---- entries

means_more : (letters : List Letter) (n m : ℕ) (so at : SoFar) (entries : List Entry) (stages : List Stage) (rows more : List Row) (entry : Entry) (stage : Stage) → MeansPlain letters n so entries stages rows
    → m ≡ n + length entries → at ≡ after so rows → AreRounds letters m entry (rounds_of entry) at more → stage ≡ stage_of m entry at (after at more)
    → MeansPlain letters n so (entries ++ entry ∷ []) (stages ++ stage ∷ []) (rows ++ more)
means_more letters n m so at [] [] rows more entry stage none is_number is_at rounds is_stage =
    let number : m ≡ n = is_number ∙ add-zero n in
    let here : at ≡ so = is_at ∙ ap (after so) none in
    let first : AreRounds letters n entry (rounds_of entry) so more = subst (λ (s : SoFar). AreRounds letters n entry (rounds_of entry) s more) here
    (subst (λ (k : ℕ). AreRounds letters k entry (rounds_of entry) at more) number rounds) in
    let marked : stage ≡ stage_of n entry so (after so more) = is_stage ∙ (λ i. stage_of (number i) entry (here i) (after (here i) more)) in
    (more, [], ap (λ (rs : List Row). rs ++ more) none ∙ sym (append-nil more), first, marked, refl)
means_more letters n m so at [] (s ∷ stages) rows more entry stage means is_number is_at rounds is_stage = absurd means
means_more letters n m so at (e ∷ entries) [] rows more entry stage means is_number is_at rounds is_stage = absurd means
means_more letters n m so at (e ∷ entries) (s ∷ stages) rows more entry stage (first, rest, is, of, marked, means) is_number is_at rounds is_stage =
    let number : m ≡ n + 1 + length entries = is_number ∙ (omega arith) in
    let there : at ≡ after (after so first) rest = is_at ∙ ap (after so) is ∙ after_append so first rest in (
      first,
      rest ++ more,
      ap (λ (rs : List Row). rs ++ more) is ∙ append_assoc first rest more,
      of,
      marked,
      means_more letters (n + 1) m (after so first) at entries stages rest more entry stage means number there rounds is_stage,
    )

-- which rows an entry brought, by how many events there were
pub stage_is : (members : ℕ) (w0 w w' : Written) (before now : Course) (rows more : List Row) (n : ℕ) (entry : Entry) (all : Bool) (from to : ℕ) → all ≡ is_all entry → from ≡ length before.events.items
    → to ≡ length now.events.items → HasGone members w0 before rows w → GoesOn members w0 now rows more w w'
    → record { number = n; all = all; from = from; to = to } ≡ stage_of n entry (after begun rows) (after (after begun rows) more)
stage_is members w0 w w' before now rows more n entry all from to whether is_from is_to gone on =
    let begins : from ≡ (after begun rows).gone = is_from ∙ ap (λ (s : SoFar). s.gone) (sym gone.stands) in
    let ends : to ≡ (after (after begun rows) more).gone = is_to ∙ ap (λ (s : SoFar). s.gone) (sym on.gone.stands) ∙ ap (λ (s : SoFar). s.gone) (after_append begun rows more) in
    λ i. record { number = n; all = whether i; from = begins i; to = ends i }

-- one entry more behind those that went
pub next_entry : (mid w' : Written) (letters : List Letter) (n : ℕ) (entries : List Entry) (stages : List Stage) (rows more : List Row) (entry : Entry) (stage : Stage) → w'.letters ≡ mid.letters ++ letters → n ≡ length entries
    → ((ls : List Letter) → MeansPlain (mid.letters ++ ls) 0 begun entries stages rows) → ((ls : List Letter) → AreRounds (w'.letters ++ ls) n entry (rounds_of entry) (after begun rows) more)
    → stage ≡ stage_of n entry (after begun rows) (after (after begun rows) more) → (ls : List Letter) → MeansPlain (w'.letters ++ ls) 0 begun (entries ++ entry ∷ []) (stages ++ stage ∷ []) (rows ++ more)
next_entry mid w' letters n entries stages rows more entry stage sent is_number means rounds is_stage ls =
    let same : mid.letters ++ (letters ++ ls) ≡ w'.letters ++ ls = sym (append_assoc mid.letters letters ls) ∙ ap (λ (l : List Letter). l ++ ls) (sym sent) in
    let earlier = subst (λ (l : List Letter). MeansPlain l 0 begun entries stages rows) same (means (letters ++ ls)) in
    let number : n ≡ 0 + length entries = is_number ∙ (omega arith) in
    means_more (w'.letters ++ ls) 0 n begun (after begun rows) entries stages rows more entry stage earlier number refl (rounds ls) is_stage

-- before the first one
pub none_gone : (members : ℕ) (w : Written) (course : Course) → length w.nodes ≡ members → course.events.items ≡ [] → course.marks.items ≡ [] → course.deliveries ≡ record { sent = []; came = [] } → w.letters ≡ []
    → HasGone members w course [] w
none_gone members w course nodes no_events no_marks none_came none = record {
  nodes = nodes;
  size = ap length no_marks ∙ sym (ap length no_events);
  goes = subst (λ (es : List Event). GoesInRows members 0 w es [] w) (sym no_events) refl;
  cut = λ ls os. ap (λ (es : List Event). rows_from 0 es course.marks.items (w.letters ++ ls) (w.outputs ++ os)) no_events;
  sent = ap (λ (c : Came). c.sent) none_came ∙ ap (map about_of) (sym none);
  stands = sym (λ i. record { gone = length (no_events i); sent = length (none i); came = (none_came i).came });
}

-- all of them
pub all_gone : (members : ℕ) (w w' : Written) (entries : List Entry) (course : Course) (marks : Marks) (rows : List Row) → marks.marks.items ≡ course.marks.items → HasGone members w course rows w'
    → ((ls : List Letter) → MeansPlain (w'.letters ++ ls) 0 begun entries marks.stages.items rows) → StepsGo members w entries course.events.items (seen_in course.events.items marks w') w'
all_gone members w w' entries course marks rows is_marks gone means =
    let events : List Event = course.events.items in
    let lists : rows_from 0 events marks.marks.items w'.letters w'.outputs ≡ rows =
    ap (λ (ms : List Mark). rows_from 0 events ms w'.letters w'.outputs) is_marks
    ∙ ap (λ l. rows_from 0 events course.marks.items l w'.outputs) (sym (append-nil w'.letters))
    ∙ ap (λ o. rows_from 0 events course.marks.items (w'.letters ++ []) o) (sym (append-nil w'.outputs)) ∙ gone.cut [] [] in
    let plain : MeansPlain w'.letters 0 begun entries marks.stages.items rows =
    subst (λ (l : List Letter). MeansPlain l 0 begun entries marks.stages.items rows) (append-nil w'.letters) (means []) in record {
      goes = subst (λ (rs : List Row). GoesInRows members 0 w events rs w') (sym lists) gone.goes;
      plain = subst (λ (rs : List Row). MeansPlain w'.letters 0 begun entries marks.stages.items rs) (sym lists) plain;
    }

-- ---- laws

goes_on : (members n : ℕ) (w w' : Written) (events : List Event) (rows : List Row) → GoesInRows members n w events rows w' → Goes members w events (map (λ row. row.answer) rows) w'
goes_on members n w w' [] [] goes = goes
goes_on members n w w' [] (row ∷ rows) goes = absurd goes
goes_on members n w w' (event ∷ events) [] goes = absurd goes
goes_on members n w w' (event ∷ events) (row ∷ rows) (mid, next, is, goes) = (mid, next, goes_on members (n + 1) mid w' events rows goes)

pub runs : StepRunsAreRuns
runs members ids entries events run is =
    let whole = is.goes in
    (whole.0, goes_on members 0 _ whole.0 events run.rows whole.1, whole.2)

-- the events of rows
abbrev events_in : List Row → List Event
events_in rows = map (λ row. row.event) rows

goes_events : (members n : ℕ) (w w' : Written) (events : List Event) (rows : List Row) → GoesInRows members n w events rows w' → events_in rows ≡ events
goes_events members n w w' [] [] goes = refl
goes_events members n w w' [] (row ∷ rows) goes = absurd goes
goes_events members n w w' (event ∷ events) [] goes = absurd goes
goes_events members n w w' (event ∷ events) (row ∷ rows) (mid, next, is, goes) =
    let one : row.event ≡ event = ap (λ (r : Row). r.event) is in
    let rest = goes_events members (n + 1) mid w' events rows goes in
    λ j. one j ∷ rest j

one_event : (n : ℕ) (e : Event) (rows : List Row) → AllZip (IsOf n) (e ∷ []) rows → events_in rows ≡ e ∷ []
one_event n e [] zip = absurd zip
one_event n e (row ∷ []) zip = ap (λ x. x ∷ []) zip.0.0
one_event n e (row ∷ r ∷ rows) zip = absurd zip.1

means_events : (letters : List Letter) (n : ℕ) (so : SoFar) (script : List Event) (stages : List Stage) (rows : List Row) → MeansPlain letters n so (map (λ event. One (Plain event)) script) stages rows → events_in rows ≡ script
means_events letters n so [] [] rows none = ap events_in none
means_events letters n so [] (s ∷ stages) rows means = absurd means
means_events letters n so (e ∷ script) [] rows means = absurd means
means_events letters n so (e ∷ script) (s ∷ stages) rows (first, rest, is, (round, none, joined, zip, no_more), marked, means) =
    let one : first ≡ round = joined ∙ ap (λ (rs : List Row). round ++ rs) no_more ∙ append-nil round in
    let events : events_in first ≡ e ∷ [] = ap events_in one ∙ one_event n e round zip in
    ap events_in is ∙ map-append (λ row. row.event) first rest ∙ ap (λ es. es ++ events_in rest) events ∙ ap (λ es. e ∷ es) (means_events letters (n + 1) (after so first) script stages rest means)

pub plains : PlainStepsAreEvents
plains members ids script events run is =
    let whole = is.goes in
    sym (goes_events members 0 _ whole.0 events run.rows whole.1) ∙ means_events run.letters 0 begun script run.stages run.rows is.plain

-- a run of entries over fresh nodes, and the world that it leaves
pub step_run : (members : ℕ) (ids : List ℕ) (entries : List Entry) (events : List Event) (marks : Marks) (w : Written)
    → StepsGo (length (opening members ids).nodes) (opening members ids) entries events (seen_in events marks w) w
    → IsStepRun members ids entries events (seen_in events marks w) × Leave members ids events (seen_in events marks w) w
step_run members ids entries events marks w all =
    let same : GoesInRows members 0 (opening members ids) events (seen_in events marks w).rows w =
    subst (λ (m : ℕ). GoesInRows m 0 (opening members ids) events (seen_in events marks w).rows w) (length-replicate members (Running (started no_content))) all.goes in
    (record { goes = is_run members ids events marks w all.goes; plain = all.plain }, same)

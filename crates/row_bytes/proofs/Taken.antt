-- Tables that are taken one behind the other, as a loop does, and where want of memory comes.
use Rattle.std.proofs.Common.{◌≡◌, ℕ, suc, ◌+◌, ◌-◌, ◌<◌, ◌≤◌, List, [], Ok, Err, refl, sym, ap, subst, ◌∙◌, inl, inr}
use Rattle.std.proofs.Common.{arith}
use Rattle.std.specs.Prelude.{IsOk, IsOkAnd, IfErr, IfOk, MatchResult}
use Rattle.flow_state.specs.Rows.{Rows}
use Rattle.flow_state.specs.declared.channel.ChannelRow.{ChannelRow}
use Rattle.flow_state.specs.declared.flow.Lease.{Lease}
use Rattle.flow_state.specs.declared.flow.Flow.{Flow}
use Rattle.flow_state.specs.declared.flow.Waiting.{Waiting}
use Rattle.row_bytes.specs.declared.fault.RowsFault.{RowsFault}
use Rattle.row_bytes.specs.declared.fault.RowsFault.TheVariants.{Short, Trailing, NoChannel, NoFlow, NoRequest, NotFirm}
use Rattle.row_bytes.specs.declared.fault.RowsFault.TheVariants.{OutOfMemory}
use Rattle.row_bytes.specs.Spelling.{Whole}
use Rattle.row_bytes.specs.Reading.{◌>>=◌, AreBytes, FailsReading, HasRow, Read, flows_at, leases_at, number_2_at}
use Rattle.row_bytes.specs.Reading.{requests_at, row_at, whole_at}
use Rattle.row_bytes.specs.Tables.{AreRead, Fails, FaultAt, HasTable, ReadsAll, ReadsOn, ReadsTables, Spells}
use Rattle.row_bytes.specs.Tables.{TakesMemory, TakesTable, at_end}
use Rattle.row_bytes.proofs.Numbers.{bind_ok}
use Rattle.row_bytes.proofs.Behind.{read_once, read_spelled, spelled_read}

-- ---- where want of memory comes

row_read : (bytes : List ℕ) (row : ChannelRow) (rest : List ℕ) → row_at bytes ≡ Ok (row, rest) → HasRow bytes
row_read bytes row rest e = subst IsOk (sym e) refl

-- ---- faults of a whole table

-- a fault of a step is that of all of it
pass : {Y Z : Type 0} (lack more : Type 0) (e : RowsFault) (a : Read Y) (f : Y → Read Z) (whole : Read Z) → (lack → more) → whole ≡ (a >>= f) → FailsReading lack e a → FailsReading more e whole
pass lack more OutOfMemory a f whole weaker is h = weaker h
pass lack more Short a f whole weaker is h = is ∙ ap (λ r. r >>= f) h
pass lack more Trailing a f whole weaker is h = is ∙ ap (λ r. r >>= f) h
pass lack more NoChannel a f whole weaker is h = is ∙ ap (λ r. r >>= f) h
pass lack more NoFlow a f whole weaker is h = is ∙ ap (λ r. r >>= f) h
pass lack more NoRequest a f whole weaker is h = is ∙ ap (λ r. r >>= f) h
pass lack more (NotFirm ch) a f whole weaker is h = is ∙ ap (λ r. r >>= f) h

abbrev whole : ChannelRow → List Lease → List Flow → List Waiting → Whole
whole row leases flows waiting = record { row = row; leases = leases; flows = flows; waiting = waiting }

pub flows_fail : (e : RowsFault) (bytes : List ℕ) (row : ChannelRow) (rest : List ℕ) (leases : List Lease) (behind : List ℕ) → row_at bytes ≡ Ok (row, rest) → leases_at rest ≡ Ok (leases, behind)
    → FailsReading (Unit {0}) e (flows_at row.channel.id leases behind) → FailsReading (HasRow bytes) e (whole_at bytes)
unfolding whole_at
flows_fail e bytes row rest leases behind r l h =
    let is : whole_at bytes ≡ (flows_at row.channel.id leases behind >>= λ f. requests_at f.1 >>= λ w. Ok (whole row leases f.0 w.0, w.1)) = rw (r, l) refl in
    pass (Unit {0}) (HasRow bytes) e (flows_at row.channel.id leases behind) (λ f. requests_at f.1 >>= λ w. Ok (whole row leases f.0 w.0, w.1)) (whole_at bytes) (λ _. row_read bytes row rest r) is h

pub requests_fail : (e : RowsFault) (bytes : List ℕ) (row : ChannelRow) (rest : List ℕ) (leases : List Lease) (behind : List ℕ) (flows : List Flow) (after : List ℕ)
    → row_at bytes ≡ Ok (row, rest) → leases_at rest ≡ Ok (leases, behind) → flows_at row.channel.id leases behind ≡ Ok (flows, after)
    → FailsReading (Unit {0}) e (requests_at after) → FailsReading (HasRow bytes) e (whole_at bytes)
unfolding whole_at
requests_fail e bytes row rest leases behind flows after r l f h =
    let is : whole_at bytes ≡ (requests_at after >>= λ w. Ok (whole row leases flows w.0, w.1)) = rw (r, l, f) refl in
    pass (Unit {0}) (HasRow bytes) e (requests_at after) (λ w. Ok (whole row leases flows w.0, w.1)) (whole_at bytes) (λ _. row_read bytes row rest r) is h

pub leases_fail : (e : RowsFault) (bytes : List ℕ) (row : ChannelRow) (rest : List ℕ) → row_at bytes ≡ Ok (row, rest)
    → FailsReading (Unit {0}) e (leases_at rest) → FailsReading (HasRow bytes) e (whole_at bytes)
unfolding whole_at
leases_fail e bytes row rest r h =
    let is : whole_at bytes ≡ (leases_at rest >>= λ l. flows_at row.channel.id l.0 l.1 >>= λ f. requests_at f.1 >>= λ w. Ok (whole row l.0 f.0 w.0, w.1)) = rw r refl in
    pass (Unit {0}) (HasRow bytes) e (leases_at rest) (λ l. flows_at row.channel.id l.0 l.1 >>= λ f. requests_at f.1 >>= λ w. Ok (whole row l.0 f.0 w.0, w.1)) (whole_at bytes) (λ _. row_read bytes row rest r) is h

-- a whole table that was read has a row
pub whole_first : (bytes : List ℕ) (x : Whole × List ℕ) → whole_at bytes ≡ Ok x → HasRow bytes
unfolding whole_at
whole_first bytes x e =
    let r = bind_ok (row_at bytes) (λ r. leases_at r.1 >>= λ l. flows_at r.0.channel.id l.0 l.1 >>= λ f. requests_at f.1 >>= λ w. Ok (whole r.0 l.0 f.0 w.0, w.1)) x e in
    row_read bytes r.0.0 r.0.1 r.1

-- ---- the loop

-- a table that was taken, and then so many more
pub table_on : (n : ℕ) (old new : Rows) (bytes behind : List ℕ) (x : Read (Rows × List ℕ)) → TakesTable old new behind (whole_at bytes) → ReadsTables n new behind x → ReadsTables (suc n) old bytes x
table_on n old new bytes behind x t more =
    subst (λ (r : Read (Whole × List ℕ)). ReadsOn old r (λ rows after. ReadsTables n rows after x) x) (sym t.is) (inl (t.firm, subst (λ (rows : Rows). ReadsTables n rows behind x) t.more more))

-- the fault of a table is that of them all
table_fails : (n : ℕ) (old : Rows) (bytes : List ℕ) (e : RowsFault) → FaultAt old (whole_at bytes) e → ReadsTables (suc n) old bytes (Err e)
table_fails n old bytes e = by (whole_at bytes)
  where
    by : (w : Read (Whole × List ℕ)) → FaultAt old w e → ReadsOn old w (λ rows after. ReadsTables n rows after (Err e)) (Err e)
    by (Ok x) f = inr (f.0, ap (λ (d : RowsFault). Err d) f.1)
    by (Err d) f = ap (λ (d : RowsFault). Err d) f

pub goes_on : (count i : ℕ) (start old new : Rows) (from bytes behind : List ℕ) → i < count → TakesTable old new behind (whole_at bytes)
    → ((x : Read (Rows × List ℕ)) → ReadsTables (count - i) old bytes x → ReadsTables count start from x)
    → (x : Read (Rows × List ℕ)) → ReadsTables (count - (i + 1)) new behind x → ReadsTables count start from x
goes_on count i start old new from bytes behind lt t so_far x more =
    let k : suc (count - (i + 1)) ≡ count - i = omega arith in
    so_far x (subst (λ n. ReadsTables n old bytes x) k (table_on (count - (i + 1)) old new bytes behind x t more))

fails_so : (count i : ℕ) (start old : Rows) (from bytes : List ℕ) (e : RowsFault) → i < count → FaultAt old (whole_at bytes) e
    → ((x : Read (Rows × List ℕ)) → ReadsTables (count - i) old bytes x → ReadsTables count start from x) → ReadsTables count start from (Err e)
fails_so count i start old from bytes e lt f so_far =
    let k : suc (count - (i + 1)) ≡ count - i = omega arith in
    so_far (Err e) (subst (λ n. ReadsTables n old bytes (Err e)) k (table_fails (count - (i + 1)) old bytes e f))

pub fails_on : (e : RowsFault) (count i : ℕ) (start old : Rows) (from bytes : List ℕ) → i < count → (HasRow bytes → HasRow from)
    → ((x : Read (Rows × List ℕ)) → ReadsTables (count - i) old bytes x → ReadsTables count start from x)
    → Fails (HasRow bytes) (FaultAt old (whole_at bytes)) e → Fails (HasTable count from) (λ d. ReadsTables count start from (Err d)) e
fails_on OutOfMemory count i start old from bytes lt first so_far f = (omega arith, first f)
fails_on Short count i start old from bytes lt first so_far f = fails_so count i start old from bytes Short lt f so_far
fails_on Trailing count i start old from bytes lt first so_far f = fails_so count i start old from bytes Trailing lt f so_far
fails_on NoChannel count i start old from bytes lt first so_far f = fails_so count i start old from bytes NoChannel lt f so_far
fails_on NoFlow count i start old from bytes lt first so_far f = fails_so count i start old from bytes NoFlow lt f so_far
fails_on NoRequest count i start old from bytes lt first so_far f = fails_so count i start old from bytes NoRequest lt f so_far
fails_on (NotFirm ch) count i start old from bytes lt first so_far f = fails_so count i start old from bytes (NotFirm ch) lt f so_far

pub is_done : (count i : ℕ) (start old : Rows) (from bytes : List ℕ) → count ≤ i
    → ((x : Read (Rows × List ℕ)) → ReadsTables (count - i) old bytes x → ReadsTables count start from x) → ReadsTables count start from (Ok (old, bytes))
is_done count i start old from bytes le so_far =
    let k : 0 ≡ count - i = omega arith in so_far (Ok (old, bytes)) (subst (λ n. ReadsTables n old bytes (Ok (old, bytes))) k refl)

-- ---- all tables

-- what goes on behind how many there are is read so
pub counted : (bytes : List ℕ) (count : ℕ) (rest : List ℕ) (x : Read (Rows × List ℕ)) → number_2_at bytes ≡ Ok (count, rest) → ReadsTables count [] rest x → AreRead bytes (x >>= at_end)
counted bytes count rest x e reads = subst (λ (c : Read (ℕ × List ℕ)). ReadsAll c (x >>= at_end)) (sym e) (x, reads, refl)

pub uncounted : (bytes : List ℕ) (e : RowsFault) → number_2_at bytes ≡ Err e → AreRead bytes (Err e)
uncounted bytes e none = subst (λ (c : Read (ℕ × List ℕ)). ReadsAll c (Err e)) (sym none) refl

pub tables_fail : (e : RowsFault) (bytes : List ℕ) (count : ℕ) (rest : List ℕ) → number_2_at bytes ≡ Ok (count, rest)
    → Fails (HasTable count rest) (λ d. ReadsTables count [] rest (Err d)) e → Fails (TakesMemory bytes) (λ d. AreRead bytes (Err d)) e
tables_fail OutOfMemory bytes count rest is f = subst (λ (c : Read (ℕ × List ℕ)). IsOkAnd c (λ n. HasTable n.0 n.1)) (sym is) f
tables_fail Short bytes count rest is f = counted bytes count rest (Err Short) is f
tables_fail Trailing bytes count rest is f = counted bytes count rest (Err Trailing) is f
tables_fail NoChannel bytes count rest is f = counted bytes count rest (Err NoChannel) is f
tables_fail NoFlow bytes count rest is f = counted bytes count rest (Err NoFlow) is f
tables_fail NoRequest bytes count rest is f = counted bytes count rest (Err NoRequest) is f
tables_fail (NotFirm ch) bytes count rest is f = counted bytes count rest (Err (NotFirm ch)) is f

-- ---- answers

pub answer_spells : (r : Read Rows) (bytes : List ℕ) → AreBytes bytes → IfOk r (λ rows. AreRead bytes (Ok rows)) → IfOk r (Spells bytes)
answer_spells (Ok rows) bytes are ok = read_spelled bytes rows are ok
answer_spells (Err e) bytes are ok = tt

other_fault : (bytes : List ℕ) (rows : Rows) (e : RowsFault) → Spells bytes rows → AreRead bytes (Err e) → ⊥
other_fault bytes rows e spells reads = let same = read_once bytes (Err e) (Ok rows) reads (spelled_read bytes rows spells) in cc

pub answer_is : (r : Read Rows) (bytes : List ℕ) → IfOk r (λ rows. AreRead bytes (Ok rows)) → IfErr r (Fails (TakesMemory bytes) (λ e. AreRead bytes (Err e)))
    → (rows : Rows) → Spells bytes rows → MatchResult r (λ read. read ≡ rows) (λ e. (e ≡ OutOfMemory) × TakesMemory bytes)
answer_is (Ok read) bytes ok err rows spells = let same = read_once bytes (Ok read) (Ok rows) ok (spelled_read bytes rows spells) in cc
answer_is (Err OutOfMemory) bytes ok err rows spells = (refl, err)
answer_is (Err Short) bytes ok err rows spells = absurd (other_fault bytes rows Short spells err)
answer_is (Err Trailing) bytes ok err rows spells = absurd (other_fault bytes rows Trailing spells err)
answer_is (Err NoChannel) bytes ok err rows spells = absurd (other_fault bytes rows NoChannel spells err)
answer_is (Err NoFlow) bytes ok err rows spells = absurd (other_fault bytes rows NoFlow spells err)
answer_is (Err NoRequest) bytes ok err rows spells = absurd (other_fault bytes rows NoRequest spells err)
answer_is (Err (NotFirm ch)) bytes ok err rows spells = absurd (other_fault bytes rows (NotFirm ch) spells err)

-- Tables that are read one behind the other are those that were written, and what was written is read again.
use Rattle.std.proofs.Common.{◌≡◌, ℕ, zero, suc, ◌+◌, ◌-◌, ◌^◌, ◌<◌, ◌≤◌, ◌||◌, ◌==◌, Bool, true, false, cond, eqb}
use Rattle.std.proofs.Common.{List, [], ◌∷◌, ◌++◌, length, map, slice_get, Some, None, Ok, Err, refl, sym, ap, subst}
use Rattle.std.proofs.Common.{◌∙◌, append_assoc, append-nil, inl, inr, arith}
use Rattle.std.specs.List.{find, flat_map, list_any, AllByRecursion, IsDistinct, range_with_len}
use Rattle.std.proofs.lemmas.Bool.{eqb-true, le-leb, false_from_ne_true}
use Rattle.std.proofs.lemmas.List.{length-map, nil_from_length}
use Rattle.std.proofs.lemmas.List.Concat.{flat_map-cons}
use Rattle.std.proofs.lemmas.Map.Steps.{length-le_from_distinct_below}
use Rattle.flow_state.specs.declared.flow.Flow.{Flow}
use Rattle.flow_state.specs.declared.flow.Lease.{Lease}
use Rattle.flow_state.specs.declared.flow.Waiting.{Waiting}
use Rattle.flow_state.specs.Firm.{AreFirm, Apart, Has, IsFirm}
use Rattle.flow_state.specs.Limits.{is_size}
use Rattle.flow_state.specs.Rows.{FlowRow, Rows, Table, is_of_sid, is_table, lease_in, lent_flow, table_of}
use Rattle.flow_state.proofs.Callers.{eqb_sym, firm_added, found_has, has_right, place_of, unfound, views_back}
use Rattle.row_bytes.specs.declared.fault.RowsFault.{RowsFault}
use Rattle.row_bytes.specs.declared.fault.RowsFault.TheVariants.{Trailing}
use Rattle.row_bytes.specs.Spelling.{Whole, number_2, whole_of, table_spelling, whole_spelling}
use Rattle.row_bytes.specs.Fits.{FitsFlow, FitsLease, FitsRequest, FitsTable}
use Rattle.row_bytes.specs.Reading.{◌>>=◌, AreBytes, Read, lease_of_sid, number_2_at, whole_at}
use Rattle.row_bytes.specs.Tables.{AreRead, IsFirmBehind, ReadsAll, ReadsOn, ReadsTables, Spells, SpellsNone, at_end}
use Rattle.row_bytes.specs.Tables.{table_of_whole}
use Rattle.row_bytes.proofs.Numbers.{Begins, Begins-none, Begins-then, again_2, begins_2, good_ok, ok_is}
use Rattle.row_bytes.proofs.Items.{AllFrom}
use Rattle.row_bytes.proofs.Parts.{AreNumbered, IsFlow, IsLease, IsRequest}
use Rattle.row_bytes.proofs.Wholes.{IsWhole, numbered, whole_again, whole_begins, whole_fits}

abbrev okay : {A : Type 0} → A → Read A
okay x = Ok x

-- ---- a firm table is read from its bytes

-- leases in order from this SID on
in_order : (place : ℕ) (ls : List Lease) → map (λ l. l.sid) ls ≡ range_with_len (place + 1) (length ls) → AllByRecursion FitsLease ls → AllFrom IsLease place ls
in_order place [] order fits = tt
in_order place (l ∷ ls) order fits =
    let first : l.sid ≡ place + 1 = cc in
    let rest : map (λ (o : Lease). o.sid) ls ≡ range_with_len (place + 1 + 1) (length ls) = cc in
    (record { fits = fits.0; sid = first }, in_order (place + 1) ls rest fits.1)

sid_found : (leases : List Lease) (k : ℕ) (l : Lease) → slice_get leases k ≡ Some l → (sid : ℕ) → sid ≡ k + 1 → lease_of_sid leases sid ≡ Some l
sid_found leases k l found sid is =
    let off : (sid == 0) ≡ false = false_from_ne_true (sid == 0) (λ e. let none : sid ≡ 0 = eqb-true sid 0 e in absurd (omega arith)) in
    let less : sid - 1 ≡ k = omega arith in
    ap (λ (b : Bool). cond b None (slice_get leases (sid - 1))) off ∙ ap (slice_get leases) less ∙ found

-- the lease under which a flow stands is that of its SID
flow_leased : (leases : List Lease) (f : FlowRow) → AreNumbered leases → find (is_of_sid f.sid) leases ≡ Some (lease_in f) → lease_of_sid leases f.sid ≡ Some (lease_in f)
flow_leased leases f numbered found =
    let has = (found_has (is_of_sid f.sid) leases (lease_in f) found).0 in
    let at = place_of leases (lease_in f) has in
    sid_found leases at.0 (lease_in f) at.1 f.sid (numbered at.0 (lease_in f) at.1)

each_flow : (t : Table) → IsFirm t → AreNumbered t.leases → (place : ℕ) (fs : List FlowRow) → ((f : FlowRow) → Has fs f → Has t.flows f) → AllByRecursion FitsFlow (map lent_flow fs)
    → AllFrom (λ p. IsFlow t.leases) place (map lent_flow fs)
each_flow t firm numbered place [] among fits = tt
each_flow t firm numbered place (f ∷ fs) among fits =
    let there = among f (inl refl) in (
      record { fits = fits.0; leased = flow_leased t.leases f numbered (firm.well.given f there).lease; within = (firm.well.flows f there).kind },
      each_flow t firm numbered (place + 1) fs (λ g h. among g (inr h)) fits.1,
    )

size_good : (n : ℕ) → 1 ≤ n → n ≤ 255 → is_size n ≡ true
size_good n some most = rw (le-leb 1 n some, le-leb n 255 most) refl

each_request : (t : Table) → IsFirm t → (place : ℕ) (ws : List Waiting) → ((w : Waiting) → Has ws w → Has t.waiting w) → AllByRecursion FitsRequest ws → AllFrom (λ p. IsRequest) place ws
each_request t firm place [] among fits = tt
each_request t firm place (w ∷ ws) among fits =
    let well = firm.well.requests w (among w (inl refl)) in
    (record { fits = fits.0; within = size_good w.n well.some well.most }, each_request t firm (place + 1) ws (λ v h. among v (inr h)) fits.1)

firm_whole : (t : Table) → IsFirm t → FitsTable t → IsWhole (whole_of t)
firm_whole t firm fits =
    let leases = in_order 0 t.leases firm.well.order fits.leases in
    let sids = numbered t.leases leases in
    record {
      row = record { fits = fits.row; within = firm.well.channel };
      leases = (leases, fits.leases_count);
      flows = (each_flow t firm sids 0 t.flows (λ f h. h) fits.flows, fits.flows_count);
      waiting = (each_request t firm 0 t.waiting (λ w h. h) fits.waiting, fits.waiting_count);
    }

table_back : (t : Table) → IsFirm t → table_of_whole (whole_of t) ≡ t
table_back t firm = ap (λ (fs : List FlowRow). record t { flows = fs }) (views_back t.flows (λ f h. (firm.well.flows f h).kind) firm.idle_flows)

firm_behind : (rows : Rows) (t : Table) → IsFirm t → table_of rows t.row.channel.id ≡ None → IsFirmBehind rows (whole_of t)
firm_behind rows t firm new =
    let back = table_back t firm in
    record { firm = subst IsFirm (sym back) firm; dues = ap (λ (u : Table). map lent_flow u.flows) back; new = new }

-- a whole table that is read is that of its table
whole_back : (rows : Rows) (w : Whole) → IsFirmBehind rows w → whole_of (table_of_whole w) ≡ w
whole_back rows w firm = ap (λ (fs : List Flow). record w { flows = fs }) firm.dues

-- ---- what is read is one thing

on_once : (n : ℕ) (rows : Rows) (w : Read (Whole × List ℕ)) (read other : Read (Rows × List ℕ))
    → ((more : Rows) (behind : List ℕ) → ReadsTables n more behind read → ReadsTables n more behind other → read ≡ other)
    → ReadsOn rows w (λ more behind. ReadsTables n more behind read) read → ReadsOn rows w (λ more behind. ReadsTables n more behind other) other → read ≡ other
on_once n rows (Err e) read other again a b = a ∙ sym b
on_once n rows (Ok x) read other again (inl p) (inl q) = again (rows ++ table_of_whole x.0 ∷ []) x.1 p.1 q.1
on_once n rows (Ok x) read other again (inl p) (inr q) = absurd (q.0 p.0)
on_once n rows (Ok x) read other again (inr p) (inl q) = absurd (p.0 q.0)
on_once n rows (Ok x) read other again (inr p) (inr q) = p.1 ∙ sym q.1

tables_once : (n : ℕ) (rows : Rows) (bytes : List ℕ) (read other : Read (Rows × List ℕ)) → ReadsTables n rows bytes read → ReadsTables n rows bytes other → read ≡ other
tables_once zero rows bytes read other a b = a ∙ sym b
tables_once (suc n) rows bytes read other a b = on_once n rows (whole_at bytes) read other (λ more behind. tables_once n more behind read other) a b

pub read_once : (bytes : List ℕ) (read other : Read Rows) → AreRead bytes read → AreRead bytes other → read ≡ other
read_once bytes read other a b = by (number_2_at bytes) a b
  where
    by : (c : Read (ℕ × List ℕ)) → ReadsAll c read → ReadsAll c other → read ≡ other
    by (Err e) a b = a ∙ sym b
    by (Ok count) a b = a.2 ∙ ap (λ (x : Read (Rows × List ℕ)). x >>= at_end) (tables_once count.0 [] count.1 a.0 b.0 a.1 b.1) ∙ sym b.2

-- ---- what is read was written

record AreTaken (n : ℕ) (rows : Rows) (bytes : List ℕ) (x : Rows × List ℕ) : Type 0 where
  more : Rows
  is : x.0 ≡ rows ++ more
  len : length more ≡ n
  begins : Begins bytes (flat_map table_spelling more) x.1
  fits : AllByRecursion FitsTable more
  firm : AreFirm x.0

on_begin : (n : ℕ) (rows : Rows) (bytes : List ℕ) (w : Read (Whole × List ℕ)) (x : Rows × List ℕ) → AreBytes bytes → AreFirm rows → whole_at bytes ≡ w
    → ((more : Rows) (behind : List ℕ) → AreBytes behind → AreFirm more → ReadsTables n more behind (Ok x) → AreTaken n more behind x)
    → ReadsOn rows w (λ more behind. ReadsTables n more behind (Ok x)) (Ok x) → AreTaken (suc n) rows bytes x
on_begin n rows bytes (Err e) x are firm eq again r = absurd cc
on_begin n rows bytes (Ok w) x are firm eq again (inr r) = let e = r.1 in absurd cc
on_begin n rows bytes (Ok w) x are firm eq again (inl r) =
    let t : Table = table_of_whole w.0 in
    let one = whole_begins bytes w are eq in
    let others = again (rows ++ t ∷ []) w.1 one.0.rest_fits (firm_added rows t r.0.firm r.0.new firm) r.1 in
    let back = whole_back rows w.0 r.0 in
    let first : Begins bytes (table_spelling t) w.1 = subst (λ (v : Whole). Begins bytes (whole_spelling v) w.1) (sym back) one.0 in
    let both = Begins-then bytes (table_spelling t) w.1 (flat_map table_spelling others.more) x.1 first others.begins in
    record {
      more = t ∷ others.more;
      is = others.is ∙ append_assoc rows (t ∷ []) others.more;
      len = ap suc others.len;
      begins = subst (λ (s : List ℕ). Begins bytes s x.1) (sym (flat_map-cons table_spelling t others.more)) both;
      fits = (whole_fits (whole_of t) (subst IsWhole (sym back) one.1), others.fits);
      firm = others.firm;
    }

tables_begin : (n : ℕ) (rows : Rows) (bytes : List ℕ) (x : Rows × List ℕ) → AreBytes bytes → AreFirm rows → ReadsTables n rows bytes (Ok x) → AreTaken n rows bytes x
tables_begin zero rows bytes x are firm e =
    subst (AreTaken 0 rows bytes) (ok_is (rows, bytes) x (sym e)) record { more = []; is = sym (append-nil rows); len = refl; begins = Begins-none bytes are; fits = tt; firm = firm }
tables_begin (suc n) rows bytes x are firm reads = on_begin n rows bytes (whole_at bytes) x are firm refl (λ more behind. tables_begin n more behind x) reads

at_end_ok : (x : Rows × List ℕ) (rows : Rows) → at_end x ≡ Ok rows → (x.1 ≡ []) × (x.0 ≡ rows)
at_end_ok x rows e = let g = good_ok (length x.1 == 0) Trailing x.0 rows e in (nil_from_length x.1 (eqb-true _ _ g.0), g.1)

pub read_spelled : (bytes : List ℕ) (rows : Rows) → AreBytes bytes → AreRead bytes (Ok rows) → Spells bytes rows
read_spelled bytes rows are reads = by (number_2_at bytes) refl reads
  where
    made : (count : ℕ × List ℕ) → number_2_at bytes ≡ Ok count → (x : Rows × List ℕ) → ReadsTables count.0 [] count.1 (Ok x) → at_end x ≡ okay rows → Spells bytes rows
    made count eq x reads e =
        let front = begins_2 bytes count are eq in
        let taken = tables_begin count.0 [] count.1 x front.0.rest_fits (tt, tt) reads in
        let ended = at_end_ok x rows e in
        let same : taken.more ≡ rows = sym taken.is ∙ ended.1 in
        let len : length rows ≡ count.0 = sym (ap (λ (r : Rows). length r) same) ∙ taken.len in
        let tail : count.1 ≡ flat_map table_spelling rows = taken.begins.parts ∙ ap (λ (r : List ℕ). flat_map table_spelling taken.more ++ r) ended.0 ∙ append-nil (flat_map table_spelling taken.more) ∙ ap (λ (r : Rows). flat_map table_spelling r) same in
        let head : number_2 count.0 ≡ number_2 (length rows) = ap number_2 (sym len) in
        record {
          firm = subst AreFirm ended.1 taken.firm;
          fits = record { tables = subst (AllByRecursion FitsTable) same taken.fits; count = subst (λ n. n < 2 ^ 16) (sym len) front.1 };
          parts = front.0.parts ∙ ap (λ (t : List ℕ). number_2 count.0 ++ t) tail ∙ ap (λ (t : List ℕ). t ++ flat_map table_spelling rows) head;
        }

    by_tables : (count : ℕ × List ℕ) → number_2_at bytes ≡ Ok count → (x : Read (Rows × List ℕ)) → ReadsTables count.0 [] count.1 x → okay rows ≡ (x >>= at_end) → Spells bytes rows
    by_tables count eq (Ok x) reads e = made count eq x reads (sym e)
    by_tables count eq (Err f) reads e = absurd cc

    by : (c : Read (ℕ × List ℕ)) → number_2_at bytes ≡ c → ReadsAll c (Ok rows) → Spells bytes rows
    by (Err e) eq r = absurd cc
    by (Ok count) eq r = by_tables count eq r.0 r.1 r.2

-- ---- what was written is read again

all_behind : (P : Table → Type 0) (rows more : Rows) → AllByRecursion P (rows ++ more) → AllByRecursion P more
all_behind P [] more all = all
all_behind P (r ∷ rows) more all = all_behind P rows more all.1

-- a channel behind others isn't among them
apart_new : (rows : Rows) (t : Table) (more : Rows) → Apart (rows ++ t ∷ more) → table_of rows t.row.channel.id ≡ None
apart_new [] t more a = refl
apart_new (r ∷ rows) t more a =
    let other : is_table r.row.channel.id t ≡ false = unfound (is_table r.row.channel.id) (rows ++ t ∷ more) t a.0 (has_right rows (t ∷ more) t (inl refl)) in
    let off : is_table t.row.channel.id r ≡ false = eqb_sym r.row.channel.id t.row.channel.id ∙ other in
    ap (λ b. cond b (Some r) (table_of rows t.row.channel.id)) off ∙ apart_new rows t more a.1

tables_again : (rows more : Rows) (rest : List ℕ) → AreFirm (rows ++ more) → AllByRecursion FitsTable more
    → ReadsTables (length more) rows (flat_map table_spelling more ++ rest) (Ok (rows ++ more, rest))
tables_again rows [] rest firm fits = ap (λ (r : Rows). okay (r, rest)) (append-nil rows)
tables_again rows (t ∷ ts) rest firm fits =
    let behind : List ℕ = flat_map table_spelling ts ++ rest in
    let goes : Rows → List ℕ → Type 0 = λ more after. ReadsTables (length ts) more after (Ok (rows ++ t ∷ ts, rest)) in
    let is : IsFirm t = (all_behind IsFirm rows (t ∷ ts) firm.0).0 in
    let new = apart_new rows t ts firm.1 in
    let same : (rows ++ t ∷ []) ++ ts ≡ rows ++ t ∷ ts = append_assoc rows (t ∷ []) ts in
    let others : ReadsTables (length ts) (rows ++ t ∷ []) behind (Ok ((rows ++ t ∷ []) ++ ts, rest)) = tables_again (rows ++ t ∷ []) ts rest (subst AreFirm (sym same) firm) fits.1 in
    let so : goes (rows ++ t ∷ []) behind = subst (λ (r : Rows). ReadsTables (length ts) (rows ++ t ∷ []) behind (Ok (r, rest))) same others in
    let on : goes (rows ++ table_of_whole (whole_of t) ∷ []) behind = subst (λ (u : Table). goes (rows ++ u ∷ []) behind) (sym (table_back t is)) so in
    let regrouped : flat_map table_spelling (t ∷ ts) ++ rest ≡ table_spelling t ++ behind = ap (λ (s : List ℕ). s ++ rest) (flat_map-cons table_spelling t ts) ∙ append_assoc (table_spelling t) (flat_map table_spelling ts) rest in
    let read : whole_at (flat_map table_spelling (t ∷ ts) ++ rest) ≡ Ok (whole_of t, behind) = ap whole_at regrouped ∙ whole_again (whole_of t) behind (firm_whole t is fits.0) in
    subst (λ (r : Read (Whole × List ℕ)). ReadsOn rows r goes (Ok (rows ++ t ∷ ts, rest))) (sym read) (inl (firm_behind rows t is new, on))

pub spelled_read : (bytes : List ℕ) (rows : Rows) → Spells bytes rows → AreRead bytes (Ok rows)
spelled_read bytes rows spells =
    let tables : List ℕ = flat_map table_spelling rows in
    let all : ReadsTables (length rows) [] (tables ++ []) (Ok (rows, [])) = tables_again [] rows [] spells.firm spells.fits.tables in
    let whole : ReadsTables (length rows) [] tables (Ok (rows, [])) = subst (λ (t : List ℕ). ReadsTables (length rows) [] t (Ok (rows, []))) (append-nil tables) all in
    let counted : number_2_at bytes ≡ Ok (length rows, tables) = ap number_2_at spells.parts ∙ again_2 (length rows) tables spells.fits.count in
    subst (λ (c : Read (ℕ × List ℕ)). ReadsAll c (Ok rows)) (sym counted) (Ok (rows, []), whole, refl)

pub one_list : (bytes : List ℕ) (rows others : Rows) → Spells bytes rows → Spells bytes others → rows ≡ others
one_list bytes rows others a b = ok_is rows others (read_once bytes (Ok rows) (Ok others) (spelled_read bytes rows a) (spelled_read bytes others b))

pub faulted_none : (bytes : List ℕ) (fault : RowsFault) → AreRead bytes (Err fault) → SpellsNone bytes
faulted_none bytes fault reads rows spells = let e = read_once bytes (Err fault) (Ok rows) reads (spelled_read bytes rows spells) in absurd cc

-- ---- how many channels there are

other_id : (r : Table) (rows : Rows) (ch : ℕ) (b : Bool) → is_table ch r ≡ b → (table_of rows ch ≡ None → AllByRecursion (λ y. eqb ch y ≡ false) (map (λ (t : Table). t.row.channel.id) rows))
    → cond b (Some r) (table_of rows ch) ≡ None → AllByRecursion (λ y. eqb ch y ≡ false) (map (λ (t : Table). t.row.channel.id) (r ∷ rows))
other_id r rows ch true is others e = absurd cc
other_id r rows ch false is others e = (eqb_sym ch r.row.channel.id ∙ is, others e)

not_among : (rows : Rows) (ch : ℕ) → table_of rows ch ≡ None → AllByRecursion (λ y. eqb ch y ≡ false) (map (λ (t : Table). t.row.channel.id) rows)
not_among [] ch e = tt
not_among (r ∷ rows) ch e = other_id r rows ch (is_table ch r) refl (not_among rows ch) e

ids_apart : (rows : Rows) → Apart rows → IsDistinct eqb (map (λ (t : Table). t.row.channel.id) rows)
unfolding IsDistinct
ids_apart [] a = tt
ids_apart (r ∷ rows) a = (not_among rows r.row.channel.id a.0, ids_apart rows a.1)

id_below : (r : Table) (rows : Rows) (q : ℕ) (b : Bool) → eqb q r.row.channel.id ≡ b → IsFirm r → (list_any (eqb q) (map (λ (t : Table). t.row.channel.id) rows) ≡ true → q < 2 ^ 8)
    → (b || list_any (eqb q) (map (λ (t : Table). t.row.channel.id) rows)) ≡ true → q < 2 ^ 8
id_below r rows q true is firm others e = let same : q ≡ r.row.channel.id = eqb-true _ _ is in subst (λ n. n < 2 ^ 8) (sym same) firm.fits.id
id_below r rows q false is firm others e = others e

ids_below : (rows : Rows) → AllByRecursion IsFirm rows → (q : ℕ) → list_any (eqb q) (map (λ (t : Table). t.row.channel.id) rows) ≡ true → q < 2 ^ 8
ids_below [] firm q e = absurd cc
ids_below (r ∷ rows) firm q e = id_below r rows q (eqb q r.row.channel.id) refl firm.0 (ids_below rows firm.1 q) e

pub few_channels : (rows : Rows) → AreFirm rows → length rows ≤ 256
few_channels rows firm = omega (arith, length-le_from_distinct_below (map (λ (t : Table). t.row.channel.id) rows) (2 ^ 8) (ids_apart rows firm.1) (ids_below rows firm.0), length-map rows (λ (t : Table). t.row.channel.id))

-- Values that are printed one after another, and those of a plan.
use Rattle.std.proofs.Common.{◌≡◌, ℕ, ◌+◌, ◌<◌, List, [], ◌∷◌, ◌++◌, length, take, get_or, map, Option, Some, None}
use Rattle.std.proofs.Common.{IfSome, Result, Ok, Err, OnOk, ap, ◌∙◌, sym, append_assoc, append-nil, string_bytes}
use Rattle.std.proofs.Common.{String, Global}
use Rattle.std.specs.List.{AllZip, flat_map}
use Rattle.std.proofs.lemmas.List.{take_more, map-append}
use Rattle.std.proofs.lemmas.List.Concat.{flat_map-append}
use Rattle.std.proofs.KnownBytes.{Appends-trans, Appends-kept, Appends-nil}
use Rattle.std.specs.Io.KnownBytes.{Appends, Keeps}
use Rattle.std.specs.Ordering.{nat_cmp}
use Rattle.std.specs.BTreeMap.{IsOrdered}
use Rattle.serde_json.specs.Data.{Data}
use Rattle.grant_machine.specs.declared.command.Command.{Command}
use Rattle.plan_account.specs.declared.deed.Deed.{Deed}
use Rattle.plan_account.specs.declared.flows.Flows.{Flows}
use Rattle.plan_account.specs.FlowsHeld.{HoldsFlows}
use Rattle.map_stats.specs.declared.stats.Stats.{Stats}
use Rattle.map_stats.specs.declared.rows.FlowRow.{FlowRow}
use Rattle.map_stats.specs.declared.tally.Tally.{Tally}
use Rattle.json_outputs.specs.Texts.{IsTextOf}
use Rattle.json_stats.proofs.Added.{both_zipped}
use Rattle.script_text.specs.Plan.{IsPlan}
use Rattle.upsched_json.specs.Lines.{PrintsValue}
use Rattle.upsched_json.specs.Plans.{text_lines}
use Rattle.upsched_check.specs.Stats.{HoldsBoth, TellsFlows}
use Rattle.upsched_check.specs.StatsAsJson.{PrintsValues, TellsStatsAsJson, stats_data}
use Rattle.upsched_check.proofs.Told.{are_stats}

pub none_printed : (old : Option (List ℕ)) → PrintsValues [] old old
none_printed old = ([], tt, Appends-nil old)

-- values behind others
pub both_printed : (ds es : List Data) (old mid new : Option (List ℕ)) → PrintsValues ds old mid → PrintsValues es mid new → PrintsValues (ds ++ es) old new
both_printed ds es old mid new (xs, are, grown) (ys, are', grown') =
    let lines : text_lines (xs ++ ys) ≡ text_lines xs ++ text_lines ys = flat_map-append (λ text. text ++ 10 ∷ []) xs ys in
    (xs ++ ys, both_zipped ds es xs ys are are', rw lines (Appends-trans old mid new _ _ grown grown'))

-- one value
pub one_printed : (d : Data) (old new : Option (List ℕ)) → PrintsValue d old new → PrintsValues (d ∷ []) old new
one_printed d old new (text, is, grown) = (text ∷ [], (is, tt), rw (append-nil (text ++ 10 ∷ [])) grown)

pub printed_kept : (ds : List Data) (old mid new : Option (List ℕ)) → PrintsValues ds old mid → Keeps mid new → PrintsValues ds old new
printed_kept ds old mid new (texts, are, grown) kept = (texts, are, Appends-kept old mid new _ grown kept)

-- the value of one row more of a table, of which these rows are left
pub row_valued : (value : ℕ × Tally → Data) (old mid new : Option (List ℕ)) (whole : List Data) (row : ℕ × Tally) (before after : List (ℕ × Tally)) → before ≡ row ∷ after
    → (done : List Data) × PrintsValues done old mid × (done ++ map value before ≡ whole) → PrintsValue (value row) mid new
    → (done : List Data) × PrintsValues done old new × (done ++ map value after ≡ whole)
row_valued value old mid new whole row before after is (done, printed, left) more = (
  done ++ value row ∷ [],
  both_printed done (value row ∷ []) old mid new printed (one_printed (value row) mid new more),
  append_assoc done (value row ∷ []) (map value after) ∙ ap (λ (rows : List (ℕ × Tally)). done ++ map value rows) (sym is) ∙ left,
)

-- the values of one item more
pub items_valued : {X : Type 0} (values : X → List Data) (xs : List X) (i : ℕ) (d : X) (old mid new : Option (List ℕ)) → i < length xs
    → PrintsValues (flat_map values (take i xs)) old mid → PrintsValues (values (get_or xs i d)) mid new → PrintsValues (flat_map values (take (i + 1) xs)) old new
items_valued values xs i d old mid new below before more =
    let x = get_or xs i d in
    let whole : take (i + 1) xs ≡ take i xs ++ x ∷ [] = take_more xs i d below in
    let all : flat_map values (take (i + 1) xs) ≡ flat_map values (take i xs) ++ values x =
    ap (flat_map values) whole ∙ flat_map-append values (take i xs) (x ∷ []) ∙ ap (λ l. flat_map values (take i xs) ++ l) (append-nil (values x)) in
    rw all (both_printed _ _ old mid new before more)

-- the lines of one text more
pub texts_more : (xs : List (String Global)) (i : ℕ) (x : String Global) (old mid new : Option (List ℕ)) → i < length xs → x ≡ get_or xs i x
    → Appends old mid (text_lines (map string_bytes (take i xs))) → Appends mid new (string_bytes x ++ 10 ∷ [])
    → Appends old new (text_lines (map string_bytes (take (i + 1) xs)))
texts_more xs i x old mid new below here before more =
    let front = map string_bytes (take i xs) in
    let whole : map string_bytes (take (i + 1) xs) ≡ front ++ string_bytes x ∷ [] = rw (take_more xs i x below, ← here) (map-append string_bytes (take i xs) (x ∷ [])) in
    let lines : text_lines (map string_bytes (take (i + 1) xs)) ≡ text_lines front ++ (string_bytes x ++ 10 ∷ []) =
    ap text_lines whole ∙ flat_map-append (λ text. text ++ 10 ∷ []) front (string_bytes x ∷ []) ∙ ap (λ l. text_lines front ++ l) (append-nil (string_bytes x ++ 10 ∷ [])) in
    rw lines (Appends-trans old mid new _ _ before more)

-- where the texts of values were printed as lines, the values were
pub texts_printed : {T E : Type 0} (r : Result T E) (ds : List Data) (texts : List (List ℕ)) (old new : Option (List ℕ)) → AllZip IsTextOf ds texts
    → OnOk r (Appends old new (text_lines texts)) → OnOk r (PrintsValues ds old new)
texts_printed (Err e) ds texts old new are printed = tt
texts_printed (Ok x) ds texts old new are printed = (texts, are, printed)

-- where the values of a plan's tallies were printed, the plan's were told
pub plan_valued : (known old new : Option (List ℕ)) (cs : List Command) (s : Stats) (f : Flows) (rows : List FlowRow) → IfSome known (λ text. IsPlan text cs)
    → HoldsBoth cs s f → ((ds : List Deed) → HoldsFlows ds f → TellsFlows ds rows)
    → IsOrdered nat_cmp s.maps × IsOrdered nat_cmp s.uses × IsOrdered nat_cmp s.sids
    → PrintsValues (stats_data s.maps.entries s.uses.entries s.sids.entries rows) old new → TellsStatsAsJson known old new
plan_valued None old new cs s f rows plan held told ordered printed = tt
plan_valued (Some text) old new cs s f rows plan held told ordered printed =
    let (a, is, are) = are_stats cs s f rows ordered.0 ordered.1 ordered.2 held told in
    (cs, a, s.maps.entries, s.uses.entries, s.sids.entries, rows, plan, is, are, printed)

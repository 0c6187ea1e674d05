-- The rows of flows, one after another.
use Rattle.std.proofs.Common.{◌≡◌, ℕ, List, [], ◌∷◌, ◌++◌, Result, Ok, Err, IfOk, sym, ap, ◌∙◌, append_assoc}
use Rattle.std.proofs.lemmas.Slice.Zip.{all_zipped_more}
use Rattle.std.specs.List.{AllZip}
use Rattle.std.specs.Ordering.{nat_cmp}
use Rattle.std.specs.Map.{lookup, keys_of}
use Rattle.std.specs.List.Sorted.{IsStrictlySortedBy}
use Rattle.std.specs.BTreeMap.{is_at}
use Rattle.plan_account.specs.declared.past.LeaseRow.{LeaseRow}
use Rattle.plan_account.specs.declared.past.RequestRow.{RequestRow}
use Rattle.map_stats.specs.declared.rows.FlowRow.{FlowRow}
use Rattle.map_stats.specs.FlowRows.{AreFlows, IsFlowRow}
use Rattle.map_stats.specs.Sums.{Sums, sums_at}

-- rows of the first entries
abbrev pub HasRows : List (ℕ × Sums) → List (ℕ × Sums) → List FlowRow → Type 0
HasRows whole rest rows = (front : List (ℕ × Sums)) × AllZip IsFlowRow front rows × (front ++ rest ≡ whole)

-- the row of one entry more, of which these are left
pub row_more : (whole : List (ℕ × Sums)) (rows : List FlowRow) (row : FlowRow) (entry : ℕ × Sums) (before after : List (ℕ × Sums)) → before ≡ entry ∷ after
    → HasRows whole before rows → IsFlowRow entry row → HasRows whole after (rows ++ row ∷ [])
row_more whole rows row entry before after is (front, are, all) one = (
  front ++ entry ∷ [],
  all_zipped_more IsFlowRow front rows entry row are one,
  append_assoc front (entry ∷ []) after ∙ ap (λ (es : List (ℕ × Sums)). front ++ es) (sym is) ∙ all,
)

-- those of all, of a call that may have failed
pub are_flows_if_ok : {E : Type 0} {V : Type 0} (r : Result V E) (items : V → List FlowRow) (requests : List RequestRow) (leases : List LeaseRow) (sums : List (ℕ × Sums))
    → IsStrictlySortedBy nat_cmp (keys_of sums) → ((q : ℕ) → lookup (is_at (nat_cmp q)) sums ≡ sums_at requests leases q)
    → IfOk r (λ rows. AllZip IsFlowRow sums (items rows)) → IfOk r (λ rows. AreFlows requests leases (items rows))
are_flows_if_ok (Err e) items requests leases sums ordered at are = tt
are_flows_if_ok (Ok rows) items requests leases sums ordered at are = record { sums = sums; in_order = ordered; at = at; rows_are = are }

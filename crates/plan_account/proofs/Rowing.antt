-- The rows of flows, one after another.
use Rattle.std.proofs.Common.{◌≡◌, ℕ, List, [], ◌∷◌, ◌++◌, refl, sym, ap, ◌∙◌, append_assoc, subst}
use Rattle.std.specs.List.{flat_map}
use Rattle.std.specs.List.Sorted.{IsNonDecreasingBy, IsPermutation}
use Rattle.std.specs.Ordering.{nat_cmp}
use Rattle.std.specs.BTreeMap.{IsOrdered}
use Rattle.plan_account.specs.declared.deed.Deed.{Deed}
use Rattle.plan_account.specs.declared.flows.Flows.{Flows}
use Rattle.plan_account.specs.declared.past.LeaseRow.{LeaseRow}
use Rattle.plan_account.specs.declared.past.RequestRow.{RequestRow}
use Rattle.plan_account.specs.declared.reach.Reach.{Reach}
use Rattle.plan_account.specs.Accounts.{ArePasts, AreLeases, AreRequests, lease_command, leases_in, request_command}
use Rattle.plan_account.specs.Accounts.{requests_in}
use Rattle.plan_account.specs.FlowsHeld.{at_in, HoldsFlows}
use Rattle.plan_account.specs.Happenings.{told_by}
use Rattle.plan_account.specs.Pasts.{Past, At, at_key, leases_at, requests_at}

-- the rows of one flow more, of which these are left
pub rows_more : {E R : Type 0} (f : E → List R) (whole : List R) (before after : List E) (entry : E) (rows more : List R) → before ≡ entry ∷ after
    → rows ++ flat_map f before ≡ whole → more ≡ rows ++ f entry → more ++ flat_map f after ≡ whole
rows_more f whole before after entry rows more is so grown =
    ap (λ r. r ++ flat_map f after) grown ∙ append_assoc rows (f entry) (flat_map f after) ∙ ap (λ es. rows ++ flat_map f es) (sym is) ∙ so

-- the tables' rows are those of what is told
same_rows : {R : Type 0} (g : Reach → Past → List R) (s : Flows) (at : ℕ → At) → ((q : ℕ) → at_in s q ≡ at q) → (es : List (ℕ × Past))
    → flat_map (λ (e : ℕ × Past). g (at_in s e.0).reach e.1) es ≡ flat_map (λ (e : ℕ × Past). g (at e.0).reach e.1) es
same_rows g s at same [] = refl
same_rows g s at same (e ∷ es) =
    let one : g (at_in s e.0).reach e.1 ≡ g (at e.0).reach e.1 = ap (λ (a : At). g a.reach e.1) (same e.0) in
    ap (λ (front : List _). front ++ flat_map (λ (e : ℕ × Past). g (at_in s e.0).reach e.1) es) one
    ∙ ap (λ (rest : List _). g (at e.0).reach e.1 ++ rest) (same_rows g s at same es)

are_pasts : (ds : List Deed) (s : Flows) → IsOrdered nat_cmp s.pasts → HoldsFlows ds s → ArePasts (told_by ds) s.pasts.entries
are_pasts ds s ordered held = record { in_order = ordered; at = λ q. ap (λ (a : At). a.past) (held.at q) }

pub are_requests : (ds : List Deed) (s : Flows) (found rows : List RequestRow) → IsOrdered nat_cmp s.pasts → HoldsFlows ds s → found ≡ flat_map (requests_in s) s.pasts.entries
    → IsPermutation found rows → IsNonDecreasingBy request_command rows → AreRequests ds rows
are_requests ds s found rows ordered held is same in_order = record {
  pasts = s.pasts.entries;
  are = are_pasts ds s ordered held;
  same = subst (λ (from : List RequestRow). IsPermutation from rows) (is ∙ same_rows requests_at s (at_key (told_by ds)) held.at s.pasts.entries) same;
  in_order = in_order;
}

pub are_leases : (ds : List Deed) (s : Flows) (found rows : List LeaseRow) → IsOrdered nat_cmp s.pasts → HoldsFlows ds s → found ≡ flat_map (leases_in s) s.pasts.entries
    → IsPermutation found rows → IsNonDecreasingBy lease_command rows → AreLeases ds rows
are_leases ds s found rows ordered held is same in_order = record {
  pasts = s.pasts.entries;
  are = are_pasts ds s ordered held;
  same = subst (λ (from : List LeaseRow). IsPermutation from rows) (is ∙ same_rows leases_at s (at_key (told_by ds)) held.at s.pasts.entries) same;
  in_order = in_order;
}

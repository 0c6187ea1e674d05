-- The tables of channels that are read are those that were written, and what was written is read again.
use Rattle.std.proofs.Common.{◌≡◌, ℕ, ◌^◌, ◌<◌, List, [], ◌∷◌, ◌++◌, length, Ok, refl, sym, ap, subst, ◌∙◌}
use Rattle.std.proofs.Common.{append_assoc, arith}
use Rattle.std.specs.List.{flat_map}
use Rattle.flow_state.specs.declared.channel.ChannelRow.{ChannelRow}
use Rattle.flow_state.specs.declared.flow.Flow.{Flow}
use Rattle.flow_state.specs.declared.flow.Lease.{Lease}
use Rattle.flow_state.specs.declared.flow.Waiting.{Waiting}
use Rattle.row_bytes.specs.Spelling.{Whole, number_2, row_spelling, lease_spelling, leases_spelling, flow_spelling}
use Rattle.row_bytes.specs.Spelling.{flows_spelling, request_spelling, requests_spelling, whole_spelling}
use Rattle.row_bytes.specs.Fits.{FitsFlow, FitsLease, FitsRequest, FitsWhole}
use Rattle.row_bytes.specs.Reading.{◌>>=◌, AreBytes, byte_at, number_2_at, row_at, lease_at, flow_at, request_at}
use Rattle.row_bytes.specs.Reading.{items_in, leases_at, flows_at, requests_at, whole_at}
use Rattle.row_bytes.proofs.Numbers.{bind_ok, ok_is, Begins, Begins-then, byte_begins, begins_2, again_2}
use Rattle.row_bytes.proofs.Items.{AllFrom, AreItems, all_at, all_by, items_begin, items_again}
use Rattle.row_bytes.proofs.Parts.{IsRow, row_begins, row_again, IsLease, lease_begins, lease_again, AreNumbered}
use Rattle.row_bytes.proofs.Parts.{IsFlow, flow_begins, flow_again, IsRequest, request_begins, request_again}

leases_are : AreItems lease_at lease_spelling IsLease
leases_are = record { begins = lease_begins; again = lease_again }

flows_are : (ch : ℕ) (leases : List Lease) → AreNumbered leases → AreItems (λ place. flow_at ch leases) flow_spelling (λ place. IsFlow leases)
flows_are ch leases numbered = record { begins = λ place. flow_begins ch leases numbered; again = λ place. flow_again ch leases }

requests_are : AreItems (λ place. request_at) request_spelling (λ place. IsRequest)
requests_are = record { begins = λ place. request_begins; again = λ place. request_again }

-- leases of the SIDs from 1 on
pub numbered : (leases : List Lease) → AllFrom IsLease 0 leases → AreNumbered leases
numbered leases all place l e = let is = all_at IsLease 0 leases all place l e in omega (arith, is.sid)

-- leases, flows and requests that are read
abbrev pub AreLeases : List Lease → Type 0
AreLeases leases = AllFrom IsLease 0 leases × (length leases < 2 ^ 16)

abbrev pub AreFlows : List Lease → List Flow → Type 0
AreFlows leases flows = AllFrom (λ place. IsFlow leases) 0 flows × (length flows < 2 ^ 16)

abbrev pub AreRequests : List Waiting → Type 0
AreRequests waiting = AllFrom (λ place. IsRequest) 0 waiting × (length waiting < 2 ^ 8)

leases_begin : (bytes : List ℕ) (x : List Lease × List ℕ) → AreBytes bytes → leases_at bytes ≡ Ok x → Begins bytes (leases_spelling x.0) x.1 × AreLeases x.0
unfolding leases_at
leases_begin bytes x are e =
    let n = bind_ok (number_2_at bytes) (λ n. items_in lease_at 0 n.0 n.1) x e in
    let count = begins_2 bytes n.0 are n.1 in
    let items = items_begin lease_at lease_spelling IsLease leases_are 0 n.0.0 n.0.1 x count.0.rest_fits n.2 in
    let front : Begins bytes (number_2 (length x.0)) n.0.1 = subst (λ (k : ℕ). Begins bytes (number_2 k) n.0.1) (sym items.1) count.0 in
    (Begins-then _ _ _ _ _ front items.0, (items.2, omega (arith, items.1, count.1)))

leases_again : (leases : List Lease) (rest : List ℕ) → AreLeases leases → leases_at (leases_spelling leases ++ rest) ≡ Ok (leases, rest)
unfolding leases_at
leases_again leases rest are =
    let items : List ℕ = flat_map lease_spelling leases ++ rest in
    ap leases_at (append_assoc (number_2 (length leases)) (flat_map lease_spelling leases) rest)
    ∙ rw (again_2 (length leases) items are.1) (items_again lease_at lease_spelling IsLease leases_are 0 leases rest are.0)

flows_begin : (ch : ℕ) (leases : List Lease) → AreNumbered leases → (bytes : List ℕ) (x : List Flow × List ℕ) → AreBytes bytes → flows_at ch leases bytes ≡ Ok x → Begins bytes (flows_spelling x.0) x.1 × AreFlows leases x.0
unfolding flows_at
flows_begin ch leases numbered bytes x are e =
    let n = bind_ok (number_2_at bytes) (λ n. items_in (λ place. flow_at ch leases) 0 n.0 n.1) x e in
    let count = begins_2 bytes n.0 are n.1 in
    let items = items_begin (λ place. flow_at ch leases) flow_spelling (λ place. IsFlow leases) (flows_are ch leases numbered) 0 n.0.0 n.0.1 x count.0.rest_fits n.2 in
    let front : Begins bytes (number_2 (length x.0)) n.0.1 = subst (λ (k : ℕ). Begins bytes (number_2 k) n.0.1) (sym items.1) count.0 in
    (Begins-then _ _ _ _ _ front items.0, (items.2, omega (arith, items.1, count.1)))

flows_again : (ch : ℕ) (leases : List Lease) → AreNumbered leases → (flows : List Flow) (rest : List ℕ) → AreFlows leases flows → flows_at ch leases (flows_spelling flows ++ rest) ≡ Ok (flows, rest)
unfolding flows_at
flows_again ch leases numbered flows rest are =
    let items : List ℕ = flat_map flow_spelling flows ++ rest in
    ap (flows_at ch leases) (append_assoc (number_2 (length flows)) (flat_map flow_spelling flows) rest)
    ∙ rw (again_2 (length flows) items are.1) (items_again (λ place. flow_at ch leases) flow_spelling (λ place. IsFlow leases) (flows_are ch leases numbered) 0 flows rest are.0)

requests_begin : (bytes : List ℕ) (x : List Waiting × List ℕ) → AreBytes bytes → requests_at bytes ≡ Ok x → Begins bytes (requests_spelling x.0) x.1 × AreRequests x.0
unfolding requests_at
requests_begin bytes x are e =
    let n = bind_ok (byte_at bytes) (λ n. items_in (λ place. request_at) 0 n.0 n.1) x e in
    let count = byte_begins bytes n.0 are n.1 in
    let items = items_begin (λ place. request_at) request_spelling (λ place. IsRequest) requests_are 0 n.0.0 n.0.1 x count.0.rest_fits n.2 in
    let front : Begins bytes (length x.0 ∷ []) n.0.1 = subst (λ (k : ℕ). Begins bytes (k ∷ []) n.0.1) (sym items.1) count.0 in
    (Begins-then _ _ _ _ _ front items.0, (items.2, omega (arith, items.1, count.1)))

requests_again : (waiting : List Waiting) (rest : List ℕ) → AreRequests waiting → requests_at (requests_spelling waiting ++ rest) ≡ Ok (waiting, rest)
unfolding requests_at
requests_again waiting rest are = items_again (λ place. request_at) request_spelling (λ place. IsRequest) requests_are 0 waiting rest are.0

-- ---- a table

-- a table that is read, firm or not
pub record IsWhole (w : Whole) : Type 0 where
  pub row : IsRow w.row
  pub leases : AreLeases w.leases
  pub flows : AreFlows w.leases w.flows
  pub waiting : AreRequests w.waiting

pub whole_fits : (w : Whole) → IsWhole w → FitsWhole w
whole_fits w is = record {
  row = is.row.fits;
  leases = all_by IsLease FitsLease (λ place l h. h.fits) 0 w.leases is.leases.0;
  flows = all_by (λ place. IsFlow w.leases) FitsFlow (λ place f h. h.fits) 0 w.flows is.flows.0;
  waiting = all_by (λ place. IsRequest) FitsRequest (λ place r h. h.fits) 0 w.waiting is.waiting.0;
  leases_count = is.leases.1;
  flows_count = is.flows.1;
  waiting_count = is.waiting.1;
}

abbrev whole : ChannelRow → List Lease → List Flow → List Waiting → Whole
whole row leases flows waiting = record { row = row; leases = leases; flows = flows; waiting = waiting }

pub whole_begins : (bytes : List ℕ) (x : Whole × List ℕ) → AreBytes bytes → whole_at bytes ≡ Ok x → Begins bytes (whole_spelling x.0) x.1 × IsWhole x.0
unfolding whole_at
whole_begins bytes x are e =
    let r = bind_ok (row_at bytes) (λ r. leases_at r.1 >>= λ l. flows_at r.0.channel.id l.0 l.1 >>= λ f. requests_at f.1 >>= λ w. Ok (whole r.0 l.0 f.0 w.0, w.1)) x e in
    let l = bind_ok (leases_at r.0.1) (λ l. flows_at r.0.0.channel.id l.0 l.1 >>= λ f. requests_at f.1 >>= λ w. Ok (whole r.0.0 l.0 f.0 w.0, w.1)) x r.2 in
    let f = bind_ok (flows_at r.0.0.channel.id l.0.0 l.0.1) (λ f. requests_at f.1 >>= λ w. Ok (whole r.0.0 l.0.0 f.0 w.0, w.1)) x l.2 in
    let w = bind_ok (requests_at f.0.1) (λ w. Ok (whole r.0.0 l.0.0 f.0.0 w.0, w.1)) x f.2 in
    let row = row_begins bytes r.0 are r.1 in
    let leases = leases_begin r.0.1 l.0 row.0.rest_fits l.1 in
    let flows = flows_begin r.0.0.channel.id l.0.0 (numbered l.0.0 leases.1.0) l.0.1 f.0 leases.0.rest_fits f.1 in
    let requests = requests_begin f.0.1 w.0 flows.0.rest_fits w.1 in
    let spelled = Begins-then _ _ _ _ _ row.0 (Begins-then _ _ _ _ _ leases.0 (Begins-then _ _ _ _ _ flows.0 requests.0)) in
    subst (λ (y : Whole × List ℕ). Begins bytes (whole_spelling y.0) y.1 × IsWhole y.0) (ok_is (whole r.0.0 l.0.0 f.0.0 w.0.0, w.0.1) x w.2)
    (spelled, record { row = row.1; leases = leases.1; flows = flows.1; waiting = requests.1 })

pub whole_again : (w : Whole) (rest : List ℕ) → IsWhole w → whole_at (whole_spelling w ++ rest) ≡ Ok (w, rest)
unfolding whole_at
whole_again w rest is =
    let requests : List ℕ = requests_spelling w.waiting ++ rest in
    let flows : List ℕ = flows_spelling w.flows ++ requests in
    let leases : List ℕ = leases_spelling w.leases ++ flows in
    let regrouped : whole_spelling w ++ rest ≡ row_spelling w.row ++ leases = append_assoc (row_spelling w.row) _ rest ∙ ap (λ (t : List ℕ). row_spelling w.row ++ t) (append_assoc (leases_spelling w.leases) _ rest
    ∙ ap (λ (t : List ℕ). leases_spelling w.leases ++ t) (append_assoc (flows_spelling w.flows) (requests_spelling w.waiting) rest)) in
    ap whole_at regrouped ∙ rw (row_again w.row leases is.row, leases_again w.leases flows is.leases, flows_again w.row.channel.id w.leases (numbered w.leases is.leases.0) w.flows requests is.flows, requests_again w.waiting rest is.waiting) refl

-- What each cut keeps, and which back-offs its MAP tells.
use Rattle.std.proofs.Common.{◌≡◌, ℕ, zero, suc, ◌+◌, ◌-◌, ◌<◌, ◌≤◌, true, false, cond, min, List, [], ◌∷◌, map, filter}
use Rattle.std.proofs.Common.{length, take, Some, None, slice_get, refl, sym, ap, subst, ◌∙◌, arith}
use Rattle.std.specs.List.{sum_by, range_with_len}
use Rattle.std.specs.List.Sorted.{IsStrictlyIncreasing}
use Rattle.std.proofs.lemmas.Bool.{eqb-true, and_parts, false_from_ne_true}
use Rattle.std.proofs.lemmas.Option.{same_Some}
use Rattle.std.proofs.lemmas.List.FromFn.{get_or-range_with_len, length-range_with_len}
use Rattle.std.proofs.lemmas.List.Kept.{IsStrictlyIncreasing-filter}
use Rattle.std.proofs.lemmas.List.Sums.{sum_by-append}
use Rattle.map_body.specs.Body.{Body}
use Rattle.flow_state.specs.Rows.{Rows, Table, table_of}
use Rattle.grant_machine_parts.specs.declared.settings.CutSettings.{CutSettings}
use Rattle.grant_machine_parts.specs.declared.placing.Cause.TheVariants.{Sent}
use Rattle.grant_machine_parts.specs.declared.placing.Placement.{Placement}
use Rattle.grant_machine_parts.specs.Placing.{is_window, is_free}
use Rattle.grant_machine_parts.specs.Cutting.{Filled, fill, fill_refusal, is_own, told_backoff, span_of, table_after}
use Rattle.grant_machine_parts.specs.Cutting.{placement_for}
use Rattle.grant_machine_parts.specs.Drawing.{body_of, bytes_of}
use Rattle.grant_machine.specs.declared.command.Command.{Command}
use Rattle.grant_machine.specs.declared.output.Output.{Output}
use Rattle.grant_machine.specs.declared.output.Output.TheVariants as outputs
use Rattle.grant_machine.specs.Steps.{cut_command, step}
use Rattle.grant_machine.specs.Runs.{outputs_from, rows_from, grant_of, grants_in, step_grants}
use Rattle.grant_machine.specs.CutLaws.{IsCutAt, rows_before, cut_grants, window_minislots, IsFreeCell}
use Rattle.grant_machine.specs.CutLaws.{MinislotsAreKept, NothingIsHeldBack, IsToldBackoff, BackoffsAreTold}
use Rattle.flow_state.proofs.Callers.{Has, IsWell, all_has, at_contains, has_filter, map_has, place_of, some_is}
use Rattle.flow_state.proofs.Members.{range_has}
use Rattle.grant_machine_parts.proofs.Callers.{cell_of_free, cut_most, cut_placed, due_minislots, free_is_none, in_turn}
use Rattle.grant_machine_parts.proofs.Callers.{kept_free, pending, pending_plain}
use Rattle.grant_machine.proofs.Cuts.{cut_of_map}
use Rattle.grant_machine.proofs.Reached.{AllWell, none_well, well_step, rows_keep}
use Rattle.grant_machine.proofs.Tellings.{drawn_body}

-- ---- a cut at its place

-- what a command gives at its place
gives_at : (rows : Rows) (cs : List Command) (k : ℕ) (c : Command) (o : Output) → slice_get cs k ≡ Some c → slice_get (outputs_from rows cs) k ≡ Some o → (step (rows_from rows (take k cs)) c).output ≡ o
gives_at rows [] k c o asked given = absurd cc
gives_at rows (d ∷ cs) zero c o asked given = ap (λ (x : Command). (step rows x).output) (sym (same_Some d c asked)) ∙ same_Some _ _ given
gives_at rows (d ∷ cs) (suc k) c o asked given = gives_at (step rows d).rows cs k c o asked given

rows_at : (rows : Rows) (cs : List Command) (k : ℕ) (c : Command) → slice_get cs k ≡ Some c → rows_from rows (take (suc k) cs) ≡ (step (rows_from rows (take k cs)) c).rows
rows_at rows [] k c asked = absurd cc
rows_at rows (d ∷ cs) zero c asked = ap (λ (x : Command). (step rows x).rows) (same_Some d c asked)
rows_at rows (d ∷ cs) (suc k) c asked = rows_at (step rows d).rows cs k c asked

settings_are : (ch at : ℕ) (a b : CutSettings) → cut_command ch a ≡ cut_command at b → a ≡ b
settings_are ch at a b e =
    let len : a.len ≡ b.len = cc in
    let not_before : a.not_before ≡ b.not_before = cc in
    let ack : a.ack ≡ b.ack = cc in
    let keep : a.keep ≡ b.keep = cc in
    let ranging : a.ranging_backoff ≡ b.ranging_backoff = cc in
    let sending : a.data_backoff ≡ b.data_backoff = cc in
    λ i. record { len = len i; not_before = not_before i; ack = ack i; keep = keep i; ranging_backoff = ranging i; data_backoff = sending i }

-- the table that a cut fills, and what it gives of it
record IsGiven (rows : Rows) (ch : ℕ) (asks : CutSettings) (start len : ℕ) (bytes : List ℕ) : Type 0 where
  pub table : Table
  pub found : table_of rows ch ≡ Some table
  pub well : IsWell table
  pub ok : fill_refusal table.row asks ≡ None
  pub start_is : (span_of table.row asks.len asks.not_before).start ≡ start
  pub len_is : asks.len ≡ len
  pub bytes_is : bytes_of table (fill table asks) ≡ bytes
  pub after : table_of (step rows (cut_command ch asks)).rows ch ≡ Some (table_after table (fill table asks))
  pub grants_are : step_grants rows (cut_command ch asks) ≡ grants_in ch (fill table asks)

given_now : (rows : Rows) (ch : ℕ) (asks : CutSettings) (start len : ℕ) (bytes : List ℕ) → AllWell rows → (step rows (cut_command ch asks)).output ≡ outputs.Map ch start len bytes → IsGiven rows ch asks start len bytes
given_now rows ch asks start len bytes w out =
    let m = cut_of_map rows (cut_command ch asks) ch start len bytes out in
    let cut = m.cut in
    let t : Table = cut.table in
    let same : cut.settings ≡ asks = sym (settings_are ch ch asks cut.settings cut.command) in
    record {
      table = t;
      found = cut.found;
      well = w ch t cut.found;
      ok = subst (λ (a : CutSettings). fill_refusal t.row a ≡ None) same cut.ok;
      start_is = subst (λ (a : CutSettings). (span_of t.row a.len a.not_before).start ≡ start) same m.start_is;
      len_is = subst (λ (a : CutSettings). a.len ≡ len) same m.len_is;
      bytes_is = subst (λ (a : CutSettings). bytes_of t (fill t a) ≡ bytes) same m.bytes_is;
      after = subst (λ (a : CutSettings). table_of (step rows (cut_command ch asks)).rows ch ≡ Some (table_after t (fill t a))) same cut.after;
      grants_are = subst (λ (a : CutSettings). step_grants rows (cut_command ch asks) ≡ grants_in ch (fill t a)) same cut.grants_are;
    }

given_at : (cs : List Command) (k ch : ℕ) (asks : CutSettings) (start len : ℕ) (bytes : List ℕ) → IsCutAt cs k ch asks start len bytes → IsGiven (rows_before cs k) ch asks start len bytes
given_at cs k ch asks start len bytes at =
    given_now (rows_before cs k) ch asks start len bytes (rows_keep AllWell well_step [] (take k cs) none_well) (gives_at [] cs k (cut_command ch asks) (outputs.Map ch start len bytes) at.asked at.given)

-- ---- minislots that are kept

granted_due : (ch start : ℕ) (ps : List Placement) → window_minislots (map (grant_of ch start) ps) ≡ due_minislots ps
granted_due ch start [] = refl
granted_due ch start (p ∷ ps) =
    let rest = granted_due ch start ps in
    let gs = filter (λ g. is_window g.cause) (map (grant_of ch start) ps) in
    let qs = filter (λ q. is_window q.cause) ps in
    let one = sum_by-append (λ g. g.size) (grant_of ch start p ∷ []) gs in
    let two = sum_by-append (λ (q : Placement). q.size) (p ∷ []) qs in
    elim (is_window p.cause) as (λ b. sum_by (λ g. g.size) (cond b (grant_of ch start p ∷ gs) gs) ≡ sum_by (λ (q : Placement). q.size) (cond b (p ∷ qs) qs)) [ true ↦ omega arith | false ↦ rest ]

range_rises : (a n : ℕ) → IsStrictlyIncreasing (range_with_len a n)
range_rises a n k lt =
    let len = length-range_with_len a n in
    let here = get_or-range_with_len a n k 0 (omega arith) in
    let next = get_or-range_with_len a n (k + 1) 0 (omega arith) in
    omega arith

pub minislots_are_kept : MinislotsAreKept
minislots_are_kept cs k ch start len asks bytes body at is_body =
    let g = given_at cs k ch asks start len bytes at in
    let t : Table = g.table in
    let f : Filled = fill t asks in
    let free : List ℕ = filter (is_free f.placements) (range_with_len 0 asks.len) in
    let kept : min asks.keep (asks.len - due_minislots f.placements) ≤ length free = kept_free t f.span asks in
    let due : window_minislots (cut_grants cs k ch asks) ≡ due_minislots f.placements = ap window_minislots g.grants_are ∙ granted_due ch f.span.start f.placements in
    let len_is = g.len_is in
    let drawn : body ≡ body_of t f = drawn_body t asks bytes body g.well g.ok g.bytes_is is_body in (
      free,
      IsStrictlyIncreasing-filter (is_free f.placements) (range_with_len 0 asks.len) (range_rises 0 asks.len),
      omega arith,
      all_has (IsFreeCell body len) free (λ x h.
          let has = has_filter (is_free f.placements) (range_with_len 0 asks.len) x h in
          let within = range_has 0 asks.len x has.0 in
          let below : x < asks.len = omega (arith, within.1) in
          let cell = cell_of_free t f.span f.placements (cut_placed t asks g.well g.ok) asks.len refl (cut_most t asks g.well g.ok) (pending t asks g.well g.ok) (pending_plain t asks g.well g.ok) body x
          (ap (λ (b : Body). b.elements) drawn) below (free_is_none f.placements x has.1) in
          record { within = omega arith; element = cell.0; cell = cell.1; sid_is = cell.2; iuc_is = cell.3 }),
    )

-- ---- requests of which none is held back

pub nothing_is_held_back : NothingIsHeldBack
nothing_is_held_back cs k ch start len x asks bytes t w at none found fit =
    let g = given_at cs k ch asks start len bytes at in
    let same : g.table ≡ t = some_is g.table t (sym g.found ∙ found) in
    let well : IsWell t = subst IsWell same g.well in
    let f : Filled = fill t asks in
    let placed : Has f.placements (placement_for t.row.channel w x) = in_turn t f.span asks fit.before fit.behind w x well none fit.order fit.fits in
    let granted : Has (cut_grants cs k ch asks) (grant_of ch f.span.start (placement_for t.row.channel w x)) =
    subst (λ gs. Has gs (grant_of ch f.span.start (placement_for t.row.channel w x))) (sym (g.grants_are ∙ ap (λ (u : Table). grants_in ch (fill u asks)) same))
    (map_has (grant_of ch f.span.start) f.placements (placement_for t.row.channel w x) placed) in
    let begins : f.span.start ≡ start = subst (λ (u : Table). (span_of u.row asks.len asks.not_before).start ≡ start) same g.start_is in
    let place = place_of (cut_grants cs k ch asks) _ (subst (λ n. Has (cut_grants cs k ch asks) (record { channel = ch; sid = w.sid; start = n + x; size = w.n; cause = Sent w.sent })) begins granted) in
    at_contains (cut_grants cs k ch asks) place.0 _ place.1

-- ---- back-offs

told : (own asked : ℕ × ℕ) → IsToldBackoff own asked (told_backoff own asked)
told own asked = record {
  cut = λ other. ap (λ b. cond b own asked) (false_from_ne_true (is_own asked) (λ e. other (own_is e)));
  channel = λ same. ap (λ (pair : ℕ × ℕ). told_backoff own pair) same;
}
  where
    own_is : is_own asked ≡ true → asked ≡ (255, 255)
    own_is e =
        let both = and_parts _ _ e in
        let first : asked.0 ≡ 255 = eqb-true asked.0 255 both.0 in
        let second : asked.1 ≡ 255 = eqb-true asked.1 255 both.1 in
        λ i. (first i, second i)

pub backoffs_are_told : BackoffsAreTold
backoffs_are_told cs k ch start len asks bytes body at is_body =
    let g = given_at cs k ch asks start len bytes at in
    let t : Table = g.table in
    let f : Filled = fill t asks in
    let drawn : body ≡ body_of t f = drawn_body t asks bytes body g.well g.ok g.bytes_is is_body in
    record {
      before = t;
      after = table_after t f;
      before_is = g.found;
      after_is = ap (λ (rows : Rows). table_of rows ch) (rows_at [] cs k (cut_command ch asks) at.asked) ∙ g.after;
      ranging = subst (λ (b : Body). IsToldBackoff t.row.channel.ranging_backoff asks.ranging_backoff b.head.ranging_backoff) (sym drawn) (told t.row.channel.ranging_backoff asks.ranging_backoff);
      sending = subst (λ (b : Body). IsToldBackoff t.row.channel.data_backoff asks.data_backoff b.head.data_backoff) (sym drawn) (told t.row.channel.data_backoff asks.data_backoff);
      ranging_stays = refl;
      sending_stays = refl;
    }

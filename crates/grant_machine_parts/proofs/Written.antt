-- The bytes of a MAP that isn't refused are a body as it is written.
use Rattle.std.proofs.Common.{◌≡◌, ℕ, ◌<◌, ◌≤◌, ◌^◌, Bool, true, false, cond, ◌||◌, not, List, ◌∷◌, map, length, None}
use Rattle.std.proofs.Common.{refl, ap, subst, arith, leb, length-append, mod-lt}
use Rattle.std.specs.List.{list_any, AllByRecursion}
use Rattle.std.proofs.lemmas.Bool.{leb-true, and_parts}
use Rattle.std.proofs.lemmas.List.{length-map}
use Rattle.map_body.specs.declared.element.Element.{Element}
use Rattle.map_body.specs.Rules.{FitsElement, AreElements}
use Rattle.map_body.specs.Layout.{IsWritten}
use Rattle.flow_state.specs.declared.channel.Channel.{Channel}
use Rattle.flow_state.specs.Limits.{last_sid, most_minislots, is_good_channel, is_backoff}
use Rattle.flow_state.specs.Rows.{Table, has_ended}
use Rattle.grant_machine_parts.specs.Cutting.{CutSettings, Filled, fill, fill_refusal, is_own, told_backoff}
use Rattle.grant_machine_parts.specs.Cutting.{told_channel, is_cut_backoff, end_of, span_of, in_order, still_waiting}
use Rattle.grant_machine_parts.specs.Cutting.{is_grant_of}
use Rattle.grant_machine_parts.specs.Drawing.{null_element, pending_element, begins_at, elements_of, body_of, bytes_of}
use Rattle.flow_state.proofs.Callers.{Has, has_map}
use Rattle.grant_machine_parts.proofs.Orders.{in_order_length}
use Rattle.flow_state.proofs.Callers.{IsWell, filter_fewer}
use Rattle.grant_machine_parts.proofs.Fillings.{IsUse, plain_requested, grant_use, in_order_has, IsCut, is_cut}
use Rattle.grant_machine_parts.proofs.Fillings.{cut_is_well}
use Rattle.grant_machine_parts.proofs.Offsets.{begun}
use Rattle.grant_machine_parts.proofs.Bodies.{ArePlaced, fill_placed, count_few, are_elements, elements_fit}

module _ (t : Table) (s : CutSettings) (w : IsWell t) (ok : fill_refusal t.row s ≡ None) where
  abbrev filled : Filled
  filled = fill t s

  -- the elements of the requests that wait behind the MAP
  abbrev pub pending : List Element
  pending = map (pending_element t.row.channel s.len) (in_order t filled.waiting)

  cut : IsCut t s
  cut = is_cut t s ok

  pub cut_most : s.len ≤ most_minislots
  cut_most = cut.most

  pub cut_placed : ArePlaced t filled.span filled.placements
  cut_placed = fill_placed t (span_of t.row s.len s.not_before) s w cut.end

  pub pending_plain : (e : Element) → Has pending e → IsUse e.iuc × FitsElement e
  pending_plain e h =
      let m = has_map (pending_element t.row.channel s.len) (in_order t filled.waiting) e h in
      let after = cut_is_well t s ok w in
      let r = after.requests m.0 (in_order_has t filled.waiting m.0 m.1) in
      let f = after.flows r.flow r.there in
      let most = cut.most in
      let flow_last : r.flow.sid ≤ last_sid = f.last in
      let flow_is : r.flow.sid ≡ m.0.sid = r.sid in
      let sid_is : m.0.sid ≡ e.sid = ap (λ (d : Element). d.sid) m.2 in
      let offset_is : s.len ≡ e.offset = ap (λ (d : Element). d.offset) m.2 in
      let use_is : IsUse e.iuc = subst IsUse (ap (λ (d : Element). d.iuc) m.2) (plain_requested _ _ (grant_use t.row.channel m.0.n)) in
      (use_is, record { sid = omega arith; iuc = small e.iuc use_is.1; offset = omega arith })
    where
      small : (iuc : ℕ) → iuc < 15 → iuc < 2 ^ 4
      small iuc lt = omega arith

  -- the elements of a MAP are those of a body
  pub cut_elements : AreElements (elements_of t filled)
  cut_elements = are_elements t filled.span filled.placements cut_placed s.len refl cut.most pending pending_plain

  -- and at most 240
  pub cut_few : length (elements_of t filled) ≤ 240
  cut_few =
      let front = count_few t filled.span filled.placements cut_placed s.len refl cut.most pending pending_plain in
      let back : length pending ≡ length (in_order t filled.waiting) = length-map (in_order t filled.waiting) (pending_element t.row.channel s.len) in
      let listed = in_order_length t filled.waiting in
      let kept = filter_fewer (λ v. not (list_any (is_grant_of v) filled.placements)) t.waiting in
      let left = filter_fewer (λ v. not (has_ended t (end_of filled.span) v)) (still_waiting filled.placements t.waiting) in
      let most = w.few in
      let all = length-append {A = Element} (begun (begins_at filled.placements) 0 s.len) (null_element s.len ∷ pending) in
      omega arith

  pub cut_fit : AllByRecursion FitsElement (elements_of t filled)
  cut_fit = elements_fit t filled.span filled.placements cut_placed s.len refl cut.most pending pending_plain

  backoff_small : (start end : ℕ) → is_backoff start end ≡ true → (start < 2 ^ 8) × (end < 2 ^ 8)
  backoff_small start end e =
      let first : start ≤ end = leb-true start end (and_parts (leb start end) (leb end 15) e).0 in
      let second : end ≤ 15 = leb-true end 15 (and_parts (leb start end) (leb end 15) e).1 in
      (omega arith, omega arith)

  channel_backoffs : (c : Channel) → is_good_channel c ≡ true → (c.ranging_backoff.0 < 2 ^ 8) × (c.ranging_backoff.1 < 2 ^ 8) × (c.data_backoff.0 < 2 ^ 8) × (c.data_backoff.1 < 2 ^ 8)
  channel_backoffs c good =
      let tests = and_parts _ _ (and_parts _ _ (and_parts _ _ good).0).0 in
      let ranging = backoff_small c.ranging_backoff.0 c.ranging_backoff.1 tests.0 in
      let sending = backoff_small c.data_backoff.0 c.data_backoff.1 tests.1 in
      (ranging.0, ranging.1, sending.0, sending.1)

  -- and so are those that a MAP tells
  told_small : (own asked : ℕ × ℕ) → is_cut_backoff asked ≡ true → (own.0 < 2 ^ 8) × (own.1 < 2 ^ 8) → ((told_backoff own asked).0 < 2 ^ 8) × ((told_backoff own asked).1 < 2 ^ 8)
  told_small own asked good small = by (is_own asked) good
    where
      by : (b : Bool) → (b || is_backoff asked.0 asked.1) ≡ true → ((cond b own asked).0 < 2 ^ 8) × ((cond b own asked).1 < 2 ^ 8)
      by true e = small
      by false e = backoff_small asked.0 asked.1 e

  told_backoffs : (c : Channel) → is_good_channel c ≡ true
      → ((told_channel c s).ranging_backoff.0 < 2 ^ 8) × ((told_channel c s).ranging_backoff.1 < 2 ^ 8) × ((told_channel c s).data_backoff.0 < 2 ^ 8) × ((told_channel c s).data_backoff.1 < 2 ^ 8)
  told_backoffs c good =
      let own = channel_backoffs c good in
      let two = and_parts _ _ cut.limits in
      let one = and_parts _ _ two.0 in
      let ranging = told_small c.ranging_backoff s.ranging_backoff one.1 (own.0, own.1) in
      let sending = told_small c.data_backoff s.data_backoff two.1 (own.2, own.3) in
      (ranging.0, ranging.1, sending.0, sending.1)

  -- the bytes are the body, as it is written
  pub cut_written : t.row.channel.id < 2 ^ 8 → t.row.channel.ucd < 2 ^ 8 → IsWritten (bytes_of t filled) (body_of t filled)
  cut_written id ucd =
      let few = cut_few in
      let c : Channel = t.row.channel in
      let backoffs = told_backoffs c w.channel in (
        record {
          spelled = refl;
          count = omega arith;
          head_fits = record {
            channel = id;
            ucd = ucd;
            start = mod-lt filled.span.start (omega arith);
            ack = mod-lt filled.ack (omega arith);
            ranging_start = backoffs.0;
            ranging_end = backoffs.1;
            data_start = backoffs.2;
            data_end = backoffs.3;
          };
          elements_fit = cut_fit;
        },
        cut_elements,
      )

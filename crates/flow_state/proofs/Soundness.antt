-- Each change keeps what holds of every table.
use Rattle.std.proofs.Common.{◌≡◌, ℕ, ◌+◌, ◌<◌, ◌≤◌, Bool, true, false, cond, not, List, [], ◌∷◌, map, filter, length}
use Rattle.std.proofs.Common.{refl, sym, ap, subst, ◌∙◌, Some, eqb, arith, length-append, inl, inr}
use Rattle.std.specs.List.{AllByRecursion}
use Rattle.std.proofs.lemmas.Bool.{eqb-false, not-true, ltb-false}
use Rattle.flow_state.specs.declared.flow.FlowKind.{FlowKind}
use Rattle.flow_state.specs.declared.flow.Waiting.{Waiting}
use Rattle.flow_state.specs.Limits.{is_good_kind, last_sid, most_waiting}
use Rattle.flow_state.specs.Rows.{Table, FlowRow, Lease, is_flow, change_flow, is_of, insert_flow, put_lease, free_sid}
use Rattle.flow_state.specs.Rows.{is_ended, has_ended}
use Rattle.flow_state.specs.Changes.{new_flow, add_to_table, drop_in_table, request_in_table, close_table}
use Rattle.flow_state.specs.Sound.{Rise, IsLeasedFlow, IsSound}
use Rattle.flow_state.proofs.Assignments.{put_found, put_others}
use Rattle.flow_state.proofs.Freed.{free_most, given_put, length_put, few_put}
use Rattle.flow_state.proofs.Members.{Has, has_all, all_has, has_filter}
use Rattle.flow_state.proofs.Wells.{RisingFrom, has_inserted, free_range, free_apart, filter_fewer, rising_filter}
use Rattle.flow_state.proofs.Wells.{rising_inserted}

abbrev pub sids : List FlowRow → List ℕ
sids fs = map (λ f. f.sid) fs

abbrev pub AreGood : List FlowRow → Type 0
AreGood fs = AllByRecursion (λ f. is_good_kind f.kind ≡ true) fs

-- the SIDs of flows in order, as the flows tell it
rise_is : (fs : List FlowRow) (low high : ℕ) → Rise low (sids fs) high → RisingFrom (low + 1) fs
rise_is [] low high r = tt
rise_is (f ∷ fs) low high r = (omega (arith, r.0), rise_is fs f.sid high r.2)

rise_of : (fs : List FlowRow) (low high : ℕ) → RisingFrom (low + 1) fs → ((f : FlowRow) → Has fs f → f.sid ≤ high) → Rise low (sids fs) high
rise_of [] low high r most = tt
rise_of (f ∷ fs) low high r most = (omega (arith, r.0), most f (inl refl), rise_of fs f.sid high r.1 (λ g h. most g (inr h)))

rise_most : (fs : List FlowRow) (low high : ℕ) → Rise low (sids fs) high → (f : FlowRow) → Has fs f → f.sid ≤ high
rise_most [] low high r f h = absurd h
rise_most (g ∷ fs) low high r f (inl e) = subst (λ (x : FlowRow). x.sid ≤ high) e r.1
rise_most (g ∷ fs) low high r f (inr h) = rise_most fs g.sid high r.2 f h

rise_filter : (p : FlowRow → Bool) (fs : List FlowRow) (low high : ℕ) → Rise low (sids fs) high → Rise low (sids (filter p fs)) high
rise_filter p fs low high r = rise_of (filter p fs) low high (rising_filter p (low + 1) fs (rise_is fs low high r)) (λ f h. rise_most fs low high r f (has_filter p fs f h).0)

pub rise_higher : (xs : List ℕ) (low high more : ℕ) → high ≤ more → Rise low xs high → Rise low xs more
rise_higher [] low high more le r = tt
rise_higher (x ∷ xs) low high more le r = (r.0, omega (arith, r.1), rise_higher xs x high more le r.2)

-- ---- a flow in its place

rise_inserted : (f : FlowRow) (fs : List FlowRow) (high : ℕ) → Rise 0 (sids fs) high → 1 ≤ f.sid → f.sid ≤ high → ((g : FlowRow) → Has fs g → eqb f.sid g.sid ≡ false) → Rise 0 (sids (insert_flow f fs)) high
rise_inserted f fs high r some most apart =
    rise_of (insert_flow f fs) 0 high (rising_inserted f fs some (λ g h same. eqb-false f.sid g.sid (apart g h) (sym same)) (rise_is fs 0 high r))
    (λ g h. elim (has_inserted f fs g h) [ inl old ↦ rise_most fs 0 high r g old | inr is ↦ subst (λ (x : FlowRow). x.sid ≤ high) is most ])

sids_changed : (fs : List FlowRow) (sid : ℕ) (change : FlowRow → FlowRow) → ((f : FlowRow) → (change f).sid ≡ f.sid) → sids (map (λ f. cond (is_flow sid f) (change f) f) fs) ≡ sids fs
sids_changed [] sid change same = refl
sids_changed (f ∷ fs) sid change same =
    elim (is_flow sid f) as (λ b. (cond b (change f) f).sid ∷ sids (map (λ g. cond (is_flow sid g) (change g) g) fs) ≡ f.sid ∷ sids fs) [
      | true ↦ ap (λ k. k ∷ sids (map (λ g. cond (is_flow sid g) (change g) g) fs)) (same f) ∙ ap (λ (r : List ℕ). f.sid ∷ r) (sids_changed fs sid change same)
      | false ↦ ap (λ (r : List ℕ). f.sid ∷ r) (sids_changed fs sid change same)
    ]

-- what holds of each flow holds of each after a change that keeps it
pub all_changed : (P Q : FlowRow → Type 0) (fs : List FlowRow) (sid : ℕ) (change : FlowRow → FlowRow) → ((f : FlowRow) → P f → Q f) → ((f : FlowRow) → P f → Q (change f)) → AllByRecursion P fs → AllByRecursion Q (map (λ f. cond (is_flow sid f) (change f) f) fs)
all_changed P Q [] sid change same keeps all = tt
all_changed P Q (f ∷ fs) sid change same keeps all =
    (elim (is_flow sid f) as (λ b. Q (cond b (change f) f)) [ true ↦ keeps f all.0 | false ↦ same f all.0 ], all_changed P Q fs sid change same keeps all.1)

pub all_filter : {X : Type 0} (P Q : X → Type 0) (p : X → Bool) (xs : List X) → ((x : X) → p x ≡ true → P x → Q x) → AllByRecursion P xs → AllByRecursion Q (filter p xs)
all_filter P Q p xs keeps all = all_has Q (filter p xs) (λ x h. let w = has_filter p xs x h in keeps x w.1 (has_all P xs x all w.0))

all_inserted : (P Q : FlowRow → Type 0) (f : FlowRow) (fs : List FlowRow) → Q f → ((g : FlowRow) → Has fs g → P g → Q g) → AllByRecursion P fs → AllByRecursion Q (insert_flow f fs)
all_inserted P Q f fs new keeps all = all_has Q (insert_flow f fs) (λ g h. elim (has_inserted f fs g h) [ inl old ↦ keeps g old (has_all P fs g all old) | inr is ↦ subst Q is new ])

abbrev IsGoodFlow : FlowRow → Type 0
IsGoodFlow f = is_good_kind f.kind ≡ true

pub sound_changed : (t : Table) (sid : ℕ) (change : FlowRow → FlowRow) → ((f : FlowRow) → (change f).sid ≡ f.sid) → ((f : FlowRow) → (change f).kind ≡ f.kind)
    → ((f : FlowRow) → IsLeasedFlow t f → IsLeasedFlow (change_flow t sid change) (change f)) → IsSound t → IsSound (change_flow t sid change)
sound_changed t sid change same kind leased s = record {
  given = s.given;
  few = s.few;
  rising = subst (λ (xs : List ℕ). Rise 0 xs (length t.leases)) (sym (sids_changed t.flows sid change same)) s.rising;
  kinds = all_changed IsGoodFlow IsGoodFlow t.flows sid change (λ f g. g) (λ f g. ap is_good_kind (kind f) ∙ g) s.kinds;
  leased = all_changed (IsLeasedFlow t) (IsLeasedFlow (change_flow t sid change)) t.flows sid change (λ f g. record { lease = g.lease; goes_on = g.goes_on }) leased s.leased;
  room = s.room;
}

pub sound_dropped : (t : Table) (sid : ℕ) → IsSound t → IsSound (drop_in_table t sid)
sound_dropped t sid s = record {
  given = s.given;
  few = s.few;
  rising = rise_filter (λ f. not (is_flow sid f)) t.flows 0 (length t.leases) s.rising;
  kinds = all_filter IsGoodFlow IsGoodFlow (λ f. not (is_flow sid f)) t.flows (λ f k g. g) s.kinds;
  leased = all_filter (IsLeasedFlow t) (IsLeasedFlow (drop_in_table t sid)) (λ f. not (is_flow sid f)) t.flows (λ f k g. record { lease = g.lease; goes_on = g.goes_on }) s.leased;
  room = let short : length (filter (λ (w : Waiting). not (is_of sid w)) t.waiting) ≤ length t.waiting = filter_fewer _ t.waiting in let room : length t.waiting ≤ most_waiting = s.room in omega arith;
}

pub sound_requested : (t : Table) (sid n sent : ℕ) → IsSound t → length t.waiting < most_waiting → IsSound (request_in_table t sid n sent)
sound_requested t sid n sent s less = record {
  given = s.given;
  few = s.few;
  rising = subst (λ (xs : List ℕ). Rise 0 xs (length t.leases)) (sym (sids_changed t.flows sid (λ f. record f { last_sent = Some sent }) (λ f. refl))) s.rising;
  kinds = all_changed IsGoodFlow IsGoodFlow t.flows sid (λ f. record f { last_sent = Some sent }) (λ f g. g) (λ f g. g) s.kinds;
  leased = all_changed (IsLeasedFlow t) (IsLeasedFlow (request_in_table t sid n sent)) t.flows sid (λ f. record f { last_sent = Some sent })
      (λ f g. record { lease = g.lease; goes_on = g.goes_on }) (λ f g. record { lease = g.lease; goes_on = g.goes_on }) s.leased;
  room = rw (length-append t.waiting (record { sid = sid; n = n; sent = sent } ∷ [])) (omega arith);
}

-- no flow has a SID that is free
pub none_free : (t : Table) (sid : ℕ) → IsSound t → free_sid t ≡ Some sid → (f : FlowRow) → Has t.flows f → eqb sid f.sid ≡ false
none_free t sid s free f h = free_apart t sid f free (has_all (IsLeasedFlow t) t.flows f s.leased h)

pub sound_added : (t : Table) (l : Lease) (kind : FlowKind) → IsSound t → is_good_kind kind ≡ true → free_sid t ≡ Some l.sid → t.row.next_start ≤ l.last → IsSound (add_to_table t l kind)
sound_added t l kind s good free goes_on =
    let range = free_range t l.sid free in
    let unicast : l.sid ≤ last_sid = omega (arith, range.1) in
    let next : l.sid ≤ length t.leases + 1 = free_most t l.sid s.given s.few free in
    let long = length_put l t.leases s.given range.0 next in
    record {
      given = given_put l t.leases s.given range.0 next;
      few = few_put l t.leases s.given range.0 next s.few unicast;
      rising = rise_inserted (new_flow l kind) t.flows (length (put_lease l t.leases)) (rise_higher (sids t.flows) 0 (length t.leases) (length (put_lease l t.leases)) long.0 s.rising) (omega (arith, range.0)) long.1 (none_free t l.sid s free);
      kinds = all_inserted IsGoodFlow IsGoodFlow (new_flow l kind) t.flows good (λ f h g. g) s.kinds;
      leased = all_inserted (IsLeasedFlow t) (IsLeasedFlow (add_to_table t l kind)) (new_flow l kind) t.flows
          (record { lease = put_found l t.leases; goes_on = goes_on })
          (λ f h g. record { lease = put_others l t.leases f.sid (free_apart t l.sid f free g) ∙ g.lease; goes_on = g.goes_on }) s.leased;
      room = s.room;
    }

pub sound_closed : (t : Table) (end ack : ℕ) → IsSound t → IsSound (close_table t end ack)
sound_closed t end ack s = record {
  given = s.given;
  few = s.few;
  rising = rise_filter (λ f. not (is_ended end f)) t.flows 0 (length t.leases) s.rising;
  kinds = all_filter IsGoodFlow IsGoodFlow (λ f. not (is_ended end f)) t.flows (λ f k g. g) s.kinds;
  leased = all_filter (IsLeasedFlow t) (IsLeasedFlow (close_table t end ack)) (λ f. not (is_ended end f)) t.flows (λ f k g. record { lease = g.lease; goes_on = ltb-false f.last end (not-true (is_ended end f) k) }) s.leased;
  room = let short : length (filter (λ (w : Waiting). not (has_ended t end w)) t.waiting) ≤ length t.waiting = filter_fewer _ t.waiting in let room : length t.waiting ≤ most_waiting = s.room in omega arith;
}

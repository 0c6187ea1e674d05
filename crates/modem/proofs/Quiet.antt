-- What each tick at a minislot does, from what counts there.
use Rattle.std.proofs.Common.{◌≡◌, ℕ, ◌+◌, ◌≤◌, Bool, true, false, cond, ◌==◌, ◌||◌, not, List, [], ◌∷◌, Option, Some}
use Rattle.std.proofs.Common.{None, refl, sym, subst, ◌∙◌, ap, arith, inl, inr, ◌⊎◌, ◌↔◌, ◌&&◌, find, MatchBool}
use Rattle.std.specs.List.{filter, list_any}
use Rattle.std.proofs.lemmas.Map.Views.{any-filter_same}
use Rattle.std.proofs.lemmas.Bool.{and_parts, eqb-true, MatchBool-at_true, MatchBool-at_false}
use Rattle.std.proofs.lemmas.List.Elements.{filter_agree}
use Rattle.map_body.specs.Iucs as iucs
use Rattle.map_body.specs.Sids.{everybody}
use Rattle.modem.proofs.Parts.{no_true, where_false}
use Rattle.modem.proofs.AtKept.{Counts-same}
use Rattle.modem.specs.declared.known.Channel.{Channel}
use Rattle.modem.specs.declared.known.OwnLease.{OwnLease}
use Rattle.modem.specs.declared.known.Want.{Want}
use Rattle.modem.specs.declared.types.Sending.{Sending}
use Rattle.modem.specs.declared.types.Sending.TheVariants.{Unicast, Polled, Ranging}
use Rattle.modem.specs.State.{State, Kept, HasAt, is_own_at, is_own_from}
use Rattle.modem.specs.Wants.{is_want, is_unsent, is_unsent_on, unsent_of, IsLeastUnsent, own_wants, is_lasting}
use Rattle.modem.specs.Wants.{lasting}
use Rattle.modem.specs.Ticks.{Ticks, Counts, IsNotAfter, Silent, Polls, Contends, Shares, SendsBy}
use Rattle.modem.specs.NextEvent.{IsQuiet, EachTick, IsPartOf, Acts}
use Rattle.modem.specs.Idle.{NoneShares, IsShared, NothingBy, SendsAt, IsIdle, HasSame, CoverSame, HasNoUnsent}
use Rattle.modem.specs.declared.action.Action.{Action}
use Rattle.modem.specs.declared.action.Action.TheVariants.{Grant, Poll, Contention, LeaseEnd, Ranging as RangingAct}

pair : (p q : ℕ × ℕ) → p.0 ≡ q.0 → p.1 ≡ q.1 → p ≡ q
pair (a, b) (x, y) e f = ap (λ n. (n, b)) e ∙ ap (λ n. (x, n)) f

-- one SID and IUC counts
pub Counts-once : (ks : List Kept) (ch m : ℕ) (a b : Option (ℕ × ℕ)) → Counts ks ch m a → Counts ks ch m b → a ≡ b
Counts-once ks ch m None None h k = refl
Counts-once ks ch m None (Some q) h k = absurd (h q.0 q.1 k.0)
Counts-once ks ch m (Some p) None h k = absurd (k p.0 p.1 h.0)
Counts-once ks ch m (Some p) (Some q) h k = ap (λ r. Some r) (same (h.1 q.0 q.1 k.0) (k.1 p.0 p.1 h.0))
  where
    same : IsNotAfter p q.0 q.1 → IsNotAfter q p.0 p.1 → p ≡ q
    same (inl a) (inl b) = absurd (omega (arith, a, b))
    same (inl a) (inr b) = absurd (omega (arith, a, b.0))
    same (inr a) (inl b) = absurd (omega (arith, a.0, b))
    same (inr a) (inr b) = pair p q a.0 (omega (arith, a.1, b.1))

pub least_once : (wants : List Want) (ch : ℕ) (a b : Option Want) → IsLeastUnsent wants ch a → IsLeastUnsent wants ch b → a ≡ b
least_once wants ch None None h k = refl
least_once wants ch None (Some w) h k = absurd (let e = sym (h w.sid) ∙ k.0 in cc)
least_once wants ch (Some v) None h k = absurd (let e = sym (k v.sid) ∙ h.0 in cc)
least_once wants ch (Some v) (Some w) h k =
    let up : v.sid ≤ w.sid = h.1 w.sid (λ none. let e = sym none ∙ k.0 in cc) in
    let down : w.sid ≤ v.sid = k.1 v.sid (λ none. let e = sym none ∙ h.0 in cc) in
    let one : v.sid ≡ w.sid = omega (arith, up, down) in
    sym h.0 ∙ ap (λ n. unsent_of wants ch n) one ∙ k.0

module _ (v : State) (c : Channel) (m random : ℕ) (sending : Option Sending) (new : State) (ticks : Ticks v c m random sending new) where
  -- what a tick does by what counts
  by : (counted : Option (ℕ × ℕ)) → Counts v.grants c.id m counted → SendsBy v.leases v.wants c m random ticks.sends.2 sending ticks.sends.4 counted
  by counted counts =
      subst (λ o. SendsBy v.leases v.wants c m random ticks.sends.2 sending ticks.sends.4 o) (Counts-once v.grants c.id m ticks.sends.0 counted ticks.sends.1 counts) ticks.sends.5

  -- nobody takes part
  silent : (is_open : Bool) (wants : List Want) → ((is_open ≡ true) ↔ HasAt v.open_to_all c.id m everybody 1) → NoneShares v c.id m → Shares v.leases v.wants c m random is_open sending wants → Silent v.wants sending wants
  silent false wants opens none h = h
  silent true wants opens (inl shut) h = absurd (shut (opens.0 refl))
  silent true wants opens (inr nobody) (least, is_least, contends) =
      subst (λ o. Contends v.wants c m random sending wants o) (least_once _ c.id least None is_least nobody) contends

  silent_by : (counted : Option (ℕ × ℕ)) (is_open : Bool) (wants : List Want) → ((is_open ≡ true) ↔ HasAt v.open_to_all c.id m everybody 1) → NothingBy v c.id m counted → SendsBy v.leases v.wants c m random is_open sending wants counted → Silent v.wants sending wants
  silent_by None is_open wants opens none h = silent is_open wants opens none h
  silent_by (Some p) is_open wants opens none h = go (iucs.lets_transmit p.1) (iucs.lets_range p.1) (iucs.lets_request p.1) none h
    where
      go : (t k r : Bool) → MatchBool t ⊥ (MatchBool k ⊥ (MatchBool r (unsent_of v.wants c.id p.0 ≡ None) (NoneShares v c.id m))) → MatchBool t ((sending ≡ Some (Unicast p.0)) × (wants ≡ v.wants)) (MatchBool k ((sending ≡ Some (Ranging p.0)) × (wants ≡ v.wants)) (MatchBool r (Polls v.wants p.0 m sending wants (unsent_of v.wants c.id p.0)) (Shares v.leases v.wants c m random is_open sending wants))) → Silent v.wants sending wants
      go true k r none h = absurd none
      go false true r none h = absurd none
      go false false true none h = subst (λ o. Polls v.wants p.0 m sending wants o) none h
      go false false false none h = silent is_open wants opens none h

-- where nothing comes, and all wants stay
pub idle_quiet : (v : State) (c : Channel) (m : ℕ) → IsIdle v c.id m → IsQuiet v c m
idle_quiet v c m idle random sending new ticks =
    let s = silent_by v c m random sending new ticks idle.counted ticks.sends.2 ticks.sends.4 ticks.sends.3 idle.nothing (by v c m random sending new ticks idle.counted idle.counts) in
    (s.0, ticks.sends.6 ∙ ap (λ ws. lasting v.leases c.id (m + 1) ws) s.1 ∙ idle.stay)

-- a grant that counts is used
pub granted : (v : State) (c : Channel) (m sid iuc : ℕ) → Counts v.grants c.id m (Some (sid, iuc)) → iucs.lets_transmit iuc ≡ true → EachTick v c m (λ random sending wants. sending ≡ Some (Unicast sid))
granted v c m sid iuc counts lets random sending new ticks =
    (MatchBool-at_true _ _ lets (by v c m random sending new ticks (Some (sid, iuc)) counts)).0

-- a ranging opportunity that counts is used
pub ranged : (v : State) (c : Channel) (m sid : ℕ) → Counts v.grants c.id m (Some (sid, iucs.station_maintenance)) → EachTick v c m (λ random sending wants. sending ≡ Some (Ranging sid))
ranged v c m sid counts random sending new ticks = (by v c m random sending new ticks (Some (sid, iucs.station_maintenance)) counts).0

-- a poll that counts
pub polled : (v : State) (c : Channel) (m sid iuc : ℕ) (w : Want) → Counts v.grants c.id m (Some (sid, iuc)) → iucs.lets_transmit iuc ≡ false → iucs.lets_range iuc ≡ false → iucs.lets_request iuc ≡ true → unsent_of v.wants c.id sid ≡ Some w → EachTick v c m (λ random sending wants. sending ≡ Some (Polled sid w.n))
polled v c m sid iuc w counts no_grant no_range lets found random sending new ticks =
    let polls = MatchBool-at_true _ _ lets (MatchBool-at_false _ _ no_range (MatchBool-at_false _ _ no_grant (by v c m random sending new ticks (Some (sid, iuc)) counts))) in
    (subst (λ o. Polls v.wants sid m sending ticks.sends.4 o) found polls).0

-- where no grant, ranging opportunity or poll counts
to_shares : (leases : List OwnLease) (wants : List Want) (c : Channel) (m random : ℕ) (is_open : Bool) (sending : Option Sending) (new : List Want) (counted : Option (ℕ × ℕ)) → IsShared counted → SendsBy leases wants c m random is_open sending new counted → Shares leases wants c m random is_open sending new
to_shares leases wants c m random is_open sending new None shared h = h
to_shares leases wants c m random is_open sending new (Some p) shared h = MatchBool-at_false _ _ shared.2 (MatchBool-at_false _ _ shared.1 (MatchBool-at_false _ _ shared.0 h))

-- the least unsent want takes part
pub contended : (v : State) (c : Channel) (m : ℕ) (counted : Option (ℕ × ℕ)) (w : Want) → Counts v.grants c.id m counted → IsShared counted → HasAt v.open_to_all c.id m everybody 1 → IsLeastUnsent (own_wants v.leases c.id m v.wants) c.id (Some w) → EachTick v c m (IsPartOf v c m w)
contended v c m counted w counts shared shares least random sending new ticks =
    let wants = ticks.sends.4 in
    let (some, is_least, contends) = MatchBool-at_true _ _ (ticks.sends.3.1 shares) (to_shares v.leases v.wants c m random ticks.sends.2 sending wants counted shared (by v c m random sending new ticks counted counts)) in
    (wants, subst (λ o. Contends v.wants c m random sending wants o) (least_once _ c.id some (Some w) is_least least) contends, ticks.sends.6)

-- a want goes whose leases end
pub ended : (v : State) (c : Channel) (m : ℕ) (counted : Option (ℕ × ℕ)) (sid : ℕ) → Counts v.grants c.id m counted → NothingBy v c.id m counted → is_own_from v.leases c.id sid (m + 1) ≡ false → EachTick v c m (λ random sending wants. (sending ≡ None) × (list_any (is_want c.id sid) wants ≡ false))
ended v c m counted sid counts nothing over random sending new ticks =
    let s = silent_by v c m random sending new ticks counted ticks.sends.2 ticks.sends.4 ticks.sends.3 nothing (by v c m random sending new ticks counted counts) in
    let same : new.wants ≡ lasting v.leases c.id (m + 1) v.wants = ticks.sends.6 ∙ ap (λ ws. lasting v.leases c.id (m + 1) ws) s.1 in
    (s.0, ap (λ ws. list_any (is_want c.id sid) ws) same ∙ any-filter_same (is_want c.id sid) (is_lasting v.leases c.id (m + 1)) false goes v.wants)
  where
    goes : (w : Want) → is_want c.id sid w ≡ true → is_lasting v.leases c.id (m + 1) w ≡ false
    goes w is =
        let parts = and_parts (w.channel == c.id) (w.sid == sid) is in
        let here : not (w.channel == c.id) ≡ false = ap not parts.0 in
        let one : w.sid ≡ sid = eqb-true w.sid sid parts.1 in
        let past : is_own_from v.leases c.id w.sid (m + 1) ≡ false = ap (λ n. is_own_from v.leases c.id n (m + 1)) one ∙ over in
        ap (λ b. b || is_own_from v.leases c.id w.sid (m + 1)) here ∙ past

-- where what a tick looks at is the same, or nobody takes part, nothing comes either
pub idle_by : (v : State) (ch m x : ℕ) → HasSame v.grants ch m x → CoverSame v.leases ch m x → (NoneShares v ch m → NoneShares v ch x) → IsIdle v ch m → IsIdle v ch x
idle_by v ch m x grants leases shares idle = record {
  counted = idle.counted;
  counts = Counts-same v.grants v.grants ch m x idle.counted grants idle.counts;
  nothing = at_counted idle.counted idle.nothing;
  stay = sym (filter_agree _ _ lasts v.wants) ∙ idle.stay;
}
  where
    lasts : (w : Want) → is_lasting v.leases ch (m + 1) w ≡ is_lasting v.leases ch (x + 1) w
    lasts w = ap (λ b. not (w.channel == ch) || b) (sym (leases.lasts w.sid))

    at_counted : (counted : Option (ℕ × ℕ)) → NothingBy v ch m counted → NothingBy v ch x counted
    at_counted None none = shares none
    at_counted (Some p) none = where_false _ _ _ (iucs.lets_transmit p.1) (where_false _ _ _ (iucs.lets_range p.1) (where_false _ _ _ (iucs.lets_request p.1) shares)) none

-- the same intervals are open to all, and the same SIDs covered
pub shares_same : (v : State) (ch m x : ℕ) → HasSame v.open_to_all ch m x → CoverSame v.leases ch m x → NoneShares v ch m → NoneShares v ch x
shares_same v ch m x opens leases (inl shut) = inl (λ h. shut ((opens everybody 1).0 h))
shares_same v ch m x opens leases (inr nobody) = inr (subst (λ ws. IsLeastUnsent ws ch None) own nobody)
  where
    own : own_wants v.leases ch m v.wants ≡ own_wants v.leases ch x v.wants
    own = filter_agree _ _ (λ w. sym (leases.own w.sid)) v.wants

-- what isn't found among all isn't among some
find_filter_none : (p q : Want → Bool) (ws : List Want) → find p ws ≡ None → find p (filter q ws) ≡ None
find_filter_none p q [] none = refl
find_filter_none p q (w ∷ ws) none = by_test (p w) (q w) refl none (λ rest. find_filter_none p q ws rest)
  where
    by_test : (b c : Bool) → p w ≡ b → cond b (Some w) (find p ws) ≡ None → (find p ws ≡ None → find p (filter q ws) ≡ None) → find p (cond c (w ∷ filter q ws) (filter q ws)) ≡ None
    by_test true c is none more = absurd (let e = none in cc)
    by_test false true is none more = ap (λ b. cond b (Some w) (find p (filter q ws))) is ∙ more none
    by_test false false is none more = more none

-- where no want is unsent nobody takes part
pub shares_unsent : (v : State) (ch x : ℕ) → HasNoUnsent v.wants ch → NoneShares v ch x
shares_unsent v ch x none = inr (λ sid. find_filter_none (λ w. is_want ch sid w && is_unsent w.progress) (λ w. is_own_at v.leases ch w.sid x) v.wants (none sid))

pub idle_edge : (v : State) (ch m x : ℕ) → HasSame v.grants ch m x → HasSame v.open_to_all ch m x ⊎ HasNoUnsent v.wants ch → CoverSame v.leases ch m x → IsIdle v ch m → IsIdle v ch x
idle_edge v ch m x grants (inl opens) leases idle = idle_by v ch m x grants leases (shares_same v ch m x opens leases) idle
idle_edge v ch m x grants (inr unsent) leases idle = idle_by v ch m x grants leases (λ _. shares_unsent v ch x unsent) idle

-- none is unsent where the test finds none
pub no_unsent : (ws : List Want) (ch : ℕ) → list_any (is_unsent_on ch) ws ≡ false → HasNoUnsent ws ch
no_unsent [] ch none sid = refl
no_unsent (w ∷ ws) ch none sid = by_test ((w.channel == ch) && is_unsent w.progress) (w.channel == ch) (w.sid == sid) (is_unsent w.progress) refl none (λ rest. no_unsent ws ch rest sid)
  where
    by_test : (t a b c : Bool) → (a && c) ≡ t → (t || list_any (is_unsent_on ch) ws) ≡ false → (list_any (is_unsent_on ch) ws ≡ false → unsent_of ws ch sid ≡ None) → cond ((a && b) && c) (Some w) (unsent_of ws ch sid) ≡ None
    by_test true a b c is none more = no_true (sym none)
    by_test false true b true is none more = no_true (sym is)
    by_test false true true false is none more = more none
    by_test false true false false is none more = more none
    by_test false false b c is none more = more none

-- what is sent by what counts, done by each tick
pub acts_sent : (v : State) (c : Channel) (m : ℕ) (counted : Option (ℕ × ℕ)) (a : Action) → Counts v.grants c.id m counted → SendsAt v c.id m counted (Some a) → Acts v c m a
acts_sent v c m counted (Grant sid iuc first last) counts (is, lets, from, to, kept) =
    (lets, from, to, kept, granted v c m sid iuc (subst (λ o. Counts v.grants c.id m o) is counts) lets)
acts_sent v c m counted (Poll sid n) counts (iuc, is, no_grant, no_range, lets, w, found, of_n) =
    subst (λ k. EachTick v c m (λ random sending wants. sending ≡ Some (Polled sid k))) of_n (polled v c m sid iuc w (subst (λ o. Counts v.grants c.id m o) is counts) no_grant no_range lets found)
acts_sent v c m counted (Contention sid n) counts (shared, (shares, w, least, of_sid, of_n)) =
    (w, of_sid, of_n, contended v c m counted w counts shared shares least)
acts_sent v c m counted (LeaseEnd sid) counts none = absurd none
acts_sent v c m counted (RangingAct sid first last) counts (is, from, to, kept) =
    (from, to, kept, ranged v c m sid (subst (λ o. Counts v.grants c.id m o) is counts))

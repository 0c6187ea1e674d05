-- Quiet ticks may be left out: the next tick leaves the same modem.
use Rattle.std.proofs.Common.{◌≡◌, ℕ, zero, suc, ◌+◌, ◌<◌, ◌≤◌, Bool, true, false, cond, ◌==◌, List, [], ◌∷◌, Option}
use Rattle.std.proofs.Common.{Some, None, refl, sym, subst, ◌∙◌, ap, arith, ◌↔◌}
use Rattle.std.specs.List.{All}
use Rattle.std.proofs.lemmas.Bool.{eq-eqb}
use Rattle.std.proofs.lemmas.List.Elements.{All-cons}
use Rattle.map_body.specs.Iucs as iucs
use Rattle.map_body.specs.Sids.{everybody}
use Rattle.modem.proofs.Parts.{where_false}
use Rattle.modem.proofs.AtKept.{Counts-same}
use Rattle.modem.proofs.Clocks.{replaced, channel_of-with_channel, clock_of-row, clock_of-placed}
use Rattle.modem.specs.declared.known.Channel.{Channel}
use Rattle.modem.specs.declared.known.OwnLease.{OwnLease}
use Rattle.modem.specs.declared.known.Progress.{Progress}
use Rattle.modem.specs.declared.known.Progress.TheVariants.{Unsent, Sent}
use Rattle.modem.specs.declared.known.Want.{Want}
use Rattle.modem.specs.declared.types.Sending.{Sending}
use Rattle.modem.specs.State.{State, HasAt, channel_of, clock_of, with_channel}
use Rattle.modem.specs.Wants.{lasting}
use Rattle.modem.specs.Hears.{KeepsHeld}
use Rattle.modem.specs.Ticks.{Ticks, TakesPart, Contends, Shares, SendsBy, backoff_number}
use Rattle.modem.specs.NextEvent.{IsQuiet, AreQuiet, ticked, Runs}

-- a row that is put in the place of one that was put there
with_twice : (a b : Channel) (cs : List Channel) → a.id ≡ b.id → with_channel a (with_channel b cs) ≡ with_channel a cs
with_twice a b [] same = refl
with_twice a b (d ∷ ds) same = ap (λ x. x ∷ with_channel a (with_channel b ds)) (head (d.id == b.id) refl) ∙ ap (λ xs. cond (d.id == a.id) a d ∷ xs) (with_twice a b ds same)
  where
    test : (d.id == a.id) ≡ (d.id == b.id)
    test = ap (λ n. d.id == n) same

    head : (t : Bool) → (d.id == b.id) ≡ t → cond ((cond t b d).id == a.id) a (cond t b d) ≡ cond (d.id == a.id) a d
    head true e = ap (λ t. cond t a b) (ap (λ n. b.id == n) same ∙ eq-eqb b.id b.id refl) ∙ sym (ap (λ t. cond t a d) (test ∙ e))
    head false e = refl

-- what a channel's clock doesn't bear on
module _ (c : Channel) (clock : ℕ) where
  abbrev at_clock : Channel
  at_clock = record { id = c.id; ucd = c.ucd; clock = clock; backoff = c.backoff }

  number_same : (w : Want) (random : ℕ) (p : Progress) → backoff_number at_clock w random p ≡ backoff_number c w random p
  number_same w random (Unsent None) = refl
  number_same w random (Unsent (Some n)) = refl
  number_same w random (Sent t) = refl

  contends_same : (wants : List Want) (slot random : ℕ) (s : Option Sending) (new : List Want) (least : Option Want) → Contends wants at_clock slot random s new least ≡ Contends wants c slot random s new least
  contends_same wants slot random s new None = refl
  contends_same wants slot random s new (Some w) = ap (λ n. TakesPart wants slot s new w n) (number_same w random w.progress)

  shares_same : (leases : List OwnLease) (wants : List Want) (slot random : ℕ) (b : Bool) (s : Option Sending) (new : List Want) → Shares leases wants at_clock slot random b s new ↔ Shares leases wants c slot random b s new
  shares_same leases wants slot random false s new = (λ h. h, λ h. h)
  shares_same leases wants slot random true s new = (
    λ (least, is, h). (least, is, subst (λ (X : Type 0). X) (contends_same wants slot random s new least) h),
    λ (least, is, h). (least, is, subst (λ (X : Type 0). X) (sym (contends_same wants slot random s new least)) h),
  )

  sends_same : (leases : List OwnLease) (wants : List Want) (slot random : ℕ) (b : Bool) (s : Option Sending) (new : List Want) (counted : Option (ℕ × ℕ)) → SendsBy leases wants at_clock slot random b s new counted ↔ SendsBy leases wants c slot random b s new counted
  sends_same leases wants slot random b s new None = shares_same leases wants slot random b s new
  sends_same leases wants slot random b s new (Some p) =
      let same = shares_same leases wants slot random b s new in (
        where_false _ _ _ (iucs.lets_transmit p.1) (where_false _ _ _ (iucs.lets_range p.1) (where_false _ _ _ (iucs.lets_request p.1) same.0)),
        where_false _ _ _ (iucs.lets_transmit p.1) (where_false _ _ _ (iucs.lets_range p.1) (where_false _ _ _ (iucs.lets_request p.1) same.1)),
      )

-- a tick that was quiet, and one later
module _ (v w : State) (c : Channel) (m random slot later : ℕ) (sending answer : Option Sending) (new : State) (found : channel_of v.channels c.id ≡ Some c) (after : m < slot) (quiet : IsQuiet v c m) (first : Ticks v c m random sending w) where
  wants_same : w.wants ≡ v.wants
  wants_same = (quiet random sending w first).1

  abbrev pub d : Channel
  d = ticked c m

  now : clock_of w.channels c.id ≡ m + 1
  now = rw first.channels (clock_of-placed c (m + 1) c.backoff v.channels c.id found)

  found_after : channel_of w.channels c.id ≡ Some d
  found_after = subst (λ cs. channel_of cs c.id ≡ Some d) (sym first.channels) (channel_of-with_channel d v.channels c.id ∙ ap (λ o. replaced d c.id o) found ∙ ap (λ b. Some (cond b d c)) (eq-eqb c.id c.id refl))

  rows : with_channel (ticked c slot) w.channels ≡ with_channel (ticked c slot) v.channels
  rows = ap (λ cs. with_channel (ticked c slot) cs) first.channels ∙ with_twice (ticked c slot) d v.channels refl

  rises : new.channels ≡ with_channel (ticked c slot) w.channels → (ch : ℕ) → clock_of w.channels ch ≤ clock_of new.channels ch
  rises made ch = subst (λ cs. clock_of w.channels ch ≤ clock_of cs ch) (sym made) (clock_of-row d (slot + 1) c.backoff w.channels c.id ch found_after (omega (arith, after)))

  held_same : new.channels ≡ with_channel (ticked c slot) w.channels → KeepsHeld w new ↔ KeepsHeld v new
  held_same made = (
    λ held. record {
      grants = λ ch x sid iuc from. let a = held.grants ch x sid iuc from in let b = own ch x sid iuc from in (λ h. b.0 (a.0 h), λ h. a.1 (b.1 h));
      open_to_all = λ ch x from. let a = held.open_to_all ch x from in let b = shared ch x from in (λ h. b.0 (a.0 h), λ h. a.1 (b.1 h));
    },
    λ held. record {
      grants = λ ch x sid iuc from. let a = held.grants ch x sid iuc from in let b = own ch x sid iuc from in (λ h. b.1 (a.0 h), λ h. a.1 (b.0 h));
      open_to_all = λ ch x from. let a = held.open_to_all ch x from in let b = shared ch x from in (λ h. b.1 (a.0 h), λ h. a.1 (b.0 h));
    },
  )
    where
      own : (ch x sid iuc : ℕ) → clock_of new.channels ch ≤ x → HasAt w.grants ch x sid iuc ↔ HasAt v.grants ch x sid iuc
      own ch x sid iuc from = first.held.grants ch x sid iuc (omega (arith, from, rises made ch))

      shared : (ch x : ℕ) → clock_of new.channels ch ≤ x → HasAt w.open_to_all ch x everybody iucs.request ↔ HasAt v.open_to_all ch x everybody iucs.request
      shared ch x from = first.held.open_to_all ch x (omega (arith, from, rises made ch))

  at_slot : (sid iuc : ℕ) → HasAt w.grants c.id slot sid iuc ↔ HasAt v.grants c.id slot sid iuc
  at_slot sid iuc = first.held.grants c.id slot sid iuc (omega (arith, now, after))

  opens_at : HasAt w.open_to_all c.id slot everybody iucs.request ↔ HasAt v.open_to_all c.id slot everybody iucs.request
  opens_at = first.held.open_to_all c.id slot (omega (arith, now, after))

  pub on : Ticks w d slot later answer new → Ticks v c slot later answer new
  on t = record {
    id = t.id ∙ first.id;
    channels = t.channels ∙ rows;
    leases = t.leases ∙ first.leases;
    held = (held_same t.channels).0 t.held;
    sends = (
      t.sends.0,
      Counts-same w.grants v.grants c.id slot slot t.sends.0 (λ sid iuc. ((at_slot sid iuc).1, (at_slot sid iuc).0)) t.sends.1,
      t.sends.2,
      (λ h. opens_at.0 (t.sends.3.0 h), λ h. t.sends.3.1 (opens_at.1 h)),
      t.sends.4,
      (sends_same c (m + 1) v.leases v.wants slot later t.sends.2 answer t.sends.4 t.sends.0).0 (subst (λ ls. SendsBy ls v.wants d slot later t.sends.2 answer t.sends.4 t.sends.0) first.leases (subst (λ ws. SendsBy w.leases ws d slot later t.sends.2 answer t.sends.4 t.sends.0) wants_same t.sends.5)),
      t.sends.6 ∙ ap (λ ls. lasting ls c.id (slot + 1) t.sends.4) first.leases,
    );
  }

  pub back : Ticks v c slot later answer new → Ticks w d slot later answer new
  back t = record {
    id = t.id ∙ sym first.id;
    channels = t.channels ∙ sym rows;
    leases = t.leases ∙ sym first.leases;
    held = (held_same (t.channels ∙ sym rows)).1 t.held;
    sends = (
      t.sends.0,
      Counts-same v.grants w.grants c.id slot slot t.sends.0 at_slot t.sends.1,
      t.sends.2,
      (λ h. opens_at.1 (t.sends.3.0 h), λ h. t.sends.3.1 (opens_at.0 h)),
      t.sends.4,
      subst (λ ws. SendsBy w.leases ws d slot later t.sends.2 answer t.sends.4 t.sends.0) (sym wants_same) (subst (λ ls. SendsBy ls v.wants d slot later t.sends.2 answer t.sends.4 t.sends.0) (sym first.leases) ((sends_same c (m + 1) v.leases v.wants slot later t.sends.2 answer t.sends.4 t.sends.0).1 t.sends.5)),
      t.sends.6 ∙ ap (λ ls. lasting ls c.id (slot + 1) t.sends.4) (sym first.leases),
    );
  }

-- a run of ticks that are quiet: each answers nothing, and a later tick is as without them
pub run_left_out : (n : ℕ) (v w : State) (c d : Channel) (m : ℕ) (answers : List (Option Sending)) → channel_of v.channels c.id ≡ Some c → c.clock ≤ m → AreQuiet v c m (m + n) → Runs n v c m answers w d → All (λ s. s ≡ None) answers × ((slot later : ℕ) (answer : Option Sending) (new : State) → m + n ≤ slot → Ticks w d slot later answer new ↔ Ticks v c slot later answer new)
run_left_out zero v w c d m answers found late quiet (none, same_state, same_channel) = (
  rw none (λ i e lt. absurd (omega (arith, lt))),
  λ slot later answer new from. rw (same_state, same_channel) (λ h. h, λ h. h),
)
run_left_out (suc n) v w c d m answers found late quiet (random, sending, next, rest, first, is, more) =
    let q : IsQuiet v c m = quiet m (omega (arith, late)) (omega arith) in
    let none : sending ≡ None = (q random sending next first).0 in
    let same = wants_same v next c m random (m + 1) 0 sending None next found (omega arith) q first in
    let known = found_after v next c m random (m + 1) 0 sending None next found (omega arith) q first in
    let on_quiet : AreQuiet next (ticked c m) (m + 1) (m + 1 + n) = λ x from before r s new t.
    let there : IsQuiet v c x = quiet x (omega (arith, from, late)) (omega (arith, before)) in
    let told = there r s new (on v next c m random x r sending s new found (omega (arith, from)) q first t) in
    (told.0, told.1 ∙ sym same) in
    let after = run_left_out n next w (ticked c m) d (m + 1) rest known (omega arith) on_quiet more in (
      rw is (All-cons (λ s. s ≡ None) sending rest none after.0),
      λ slot later answer new from.
          let a = after.1 slot later answer new (omega (arith, from)) in (
            λ h. on v next c m random slot later sending answer new found (omega (arith, from)) q first (a.0 h),
            λ h. a.1 (back v next c m random slot later sending answer new found (omega (arith, from)) q first h),
          ),
    )

-- Wants stay in spans.
use Rattle.std.proofs.Common.{◌≡◌, ℕ, suc, ◌+◌, ◌-◌, ◌<◌, ◌≤◌, Bool, true, false, cond, not, ◌==◌, ◌&&◌, ◌||◌, nat_le}
use Rattle.std.proofs.Common.{nat_lt, List, [], ◌∷◌, map, get_or, Option, Some, None, refl, sym, subst, ap, ◌∙◌, arith}
use Rattle.std.specs.List.{All, filter}
use Rattle.std.proofs.lemmas.List.Elements.{All-map, All-filter}
use Rattle.std.proofs.lemmas.Bool.{and_parts, cond_both, eqb-true}
use Rattle.std.proofs.lemmas.Bool.Decides.{nat_tests}
use Rattle.map_body.specs.Iucs as iucs
use Rattle.modem.specs.declared.known.Channel.{Channel}
use Rattle.modem.specs.declared.known.OwnLease.{OwnLease}
use Rattle.modem.specs.declared.known.Want.{Want}
use Rattle.modem.specs.declared.span.Span.{Span}
use Rattle.modem.specs.declared.types.Sending.{Sending}
use Rattle.modem.specs.State.{is_own_from}
use Rattle.modem.specs.Wants.{is_want, is_lasting, lasting, with_want, unsent_of}
use Rattle.modem.specs.Idle.{CoverSame}
use Rattle.modem.specs.declared.known.Progress.TheVariants.{Unsent}
use Rattle.modem.specs.Ticks.{Polls, TakesPart, Contends, Shares, SendsBy, backoff_number, sent_at}
use Rattle.modem.specs.Spans.{Stay, AreSpans, is_within, with_span, forgotten}
use Rattle.modem.proofs.Parts.{by_test}

pub Stay-nowhere : (leases : List OwnLease) (wants : List Want) (s : Span) → s.until ≡ 0 → Stay leases wants s
Stay-nowhere leases wants s none = record { all = λ m from before. absurd (omega (arith, before, none)) }

pub AreSpans-forgotten : (leases : List OwnLease) (wants : List Want) (ss : List Span) → AreSpans leases wants (map forgotten ss)
AreSpans-forgotten leases wants ss =
    All-map (Stay leases wants) forgotten ss (λ i d lt. Stay-nowhere leases wants (forgotten (get_or ss i d)) refl)

-- a span at one of its minislots
pub stay_at : (leases : List OwnLease) (wants : List Want) (s : Span) (ch m : ℕ) → is_within ch m s ≡ true → Stay leases wants s → All (λ w. is_lasting leases ch (m + 1) w ≡ true) wants
stay_at leases wants s ch m within stay =
    let tests : ((s.channel == ch) && (nat_le s.from m && nat_lt m s.until)) ≡ true = within in
    let same : s.channel ≡ ch = grind (arith, nat_tests) in
    let from : s.from ≤ m = grind (arith, nat_tests) in
    let before : m < s.until = grind (arith, nat_tests) in
    subst (λ (k : ℕ). All (λ (w : Want). is_lasting leases k (m + 1) w ≡ true) wants) same (stay.all m from before)

-- one in place of those of its channel
pub AreSpans-with : (leases : List OwnLease) (wants : List Want) (row : Span) (ss : List Span) → AreSpans leases wants ss → Stay leases wants row → AreSpans leases wants (with_span row ss)
AreSpans-with leases wants row ss all stay =
    All-map (Stay leases wants) (λ s. cond (s.channel == row.channel) row s) ss
    (λ i d lt. cond_both ((get_or ss i d).channel == row.channel) row (get_or ss i d) (Stay leases wants) (λ _. stay) (λ _. all i d lt))

-- wants that all stay are those that stay
pub all_last : (leases : List OwnLease) (ch clock : ℕ) (wants : List Want) → All (λ w. is_lasting leases ch clock w ≡ true) wants → lasting leases ch clock wants ≡ wants
all_last leases ch clock [] all = refl
all_last leases ch clock (w ∷ ws) all =
    ap (λ b. cond b (w ∷ lasting leases ch clock ws) (lasting leases ch clock ws)) (all 0 w (omega arith))
    ∙ ap (λ (us : List Want). w ∷ us) (all_last leases ch clock ws (λ i d lt. all (suc i) d (omega (arith, lt))))

-- where the same SIDs have leases that end later
pub Stay-made : (leases : List OwnLease) (wants : List Want) (s : Span) → ((x : ℕ) → s.from ≤ x → x < s.until → CoverSame leases s.channel s.from x) → All (λ w. is_lasting leases s.channel (s.from + 1) w ≡ true) wants → Stay leases wants s
Stay-made leases wants s same last = record {
  all = λ m from before i d lt.
      ap (λ b. not ((get_or wants i d).channel == s.channel) || b) ((same m from before).lasts (get_or wants i d).sid) ∙ last i d lt;
}

-- fewer wants stay too
pub AreSpans-filter : (leases : List OwnLease) (wants : List Want) (test : Want → Bool) (ss : List Span) → AreSpans leases wants ss → AreSpans leases (filter test wants) ss
AreSpans-filter leases wants test ss all = λ i d lt. record {
  all = λ m from before.
      All-filter test (λ w. is_lasting leases (get_or ss i d).channel (m + 1) w ≡ true) wants ((all i d lt).all m from before);
}

-- a want in place of the one of its SID stays as that one does
All-row : (leases : List OwnLease) (ch clock : ℕ) (row : Want) (ws : List Want) → All (λ w. is_lasting leases ch clock w ≡ true) ws → All (λ w. is_lasting leases ch clock w ≡ true) (with_want row ws)
All-row leases ch clock row ws all =
    All-map (λ w. is_lasting leases ch clock w ≡ true) (λ w. cond (is_want row.channel row.sid w) row w) ws
    (λ i d lt. cond_both (is_want row.channel row.sid (get_or ws i d)) row (get_or ws i d) (λ w. is_lasting leases ch clock w ≡ true) (lasting_row (get_or ws i d) (all i d lt)) (λ _. all i d lt))
  where
    lasting_row : (w : Want) → is_lasting leases ch clock w ≡ true → is_want row.channel row.sid w ≡ true → is_lasting leases ch clock row ≡ true
    lasting_row w last same =
        let parts = and_parts (w.channel == row.channel) (w.sid == row.sid) same in
        sym (ap (λ n. not (n == ch) || is_own_from leases ch w.sid clock) (eqb-true w.channel row.channel parts.0) ∙ ap (λ n. not (row.channel == ch) || is_own_from leases ch n clock) (eqb-true w.sid row.sid parts.1)) ∙ last

AreSpans-row : (leases : List OwnLease) (wants : List Want) (row : Want) (ss : List Span) → AreSpans leases wants ss → AreSpans leases (with_want row wants) ss
AreSpans-row leases wants row ss all = λ i d lt. record {
  all = λ m from before. All-row leases (get_or ss i d).channel (m + 1) row wants ((all i d lt).all m from before);
}

-- what is sent changes how far a want has come
module _ (leases : List OwnLease) (wants : List Want) (c : Channel) (slot random : ℕ) (sending : Option Sending) (new : List Want) (ss : List Span) (all : AreSpans leases wants ss) where
  same : new ≡ wants → AreSpans leases new ss
  same e = subst (λ (ws : List Want). AreSpans leases ws ss) (sym e) all

  one : (row : Want) → new ≡ with_want row wants → AreSpans leases new ss
  one row e = subst (λ (ws : List Want). AreSpans leases ws ss) (sym e) (AreSpans-row leases wants row ss all)

  by_part : (w : Want) (number : ℕ) → TakesPart wants slot sending new w number → AreSpans leases new ss
  by_part w number h = by_test _ _ _ (number == 0) (λ s. one (sent_at slot w) s.1) (λ s. one (record w { progress = Unsent (Some (number - 1)) }) s.1) h

  by_least : (least : Option Want) → Contends wants c slot random sending new least → AreSpans leases new ss
  by_least None h = same h.1
  by_least (Some w) h = by_part w (backoff_number c w random w.progress) h

  by_share : (is_open : Bool) → Shares leases wants c slot random is_open sending new → AreSpans leases new ss
  by_share true (least, is, h) = by_least least h
  by_share false h = same h.1

  by_poll : (sid : ℕ) (want : Option Want) → Polls wants sid slot sending new want → AreSpans leases new ss
  by_poll sid None h = same h.1
  by_poll sid (Some w) h = one (sent_at slot w) h.1

  pub AreSpans-sent : (is_open : Bool) (counted : Option (ℕ × ℕ)) → SendsBy leases wants c slot random is_open sending new counted → AreSpans leases new ss
  AreSpans-sent is_open None h = by_share is_open h
  AreSpans-sent is_open (Some p) h =
      by_test _ _ _ (iucs.lets_transmit p.1) (λ s. same s.1) (by_test _ _ _ (iucs.lets_range p.1) (λ s. same s.1) (by_test _ _ _ (iucs.lets_request p.1) (by_poll p.0 (unsent_of wants c.id p.0)) (by_share is_open))) h

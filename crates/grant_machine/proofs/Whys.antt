-- The first reason of a cut is one of its refusal.
use Rattle.std.proofs.Common.{◌≡◌, ℕ, ◌≤◌, Bool, true, false, cond, ◌&&◌, ◌||◌, Option, Some, None, refl, sym, ap, ◌∙◌}
use Rattle.std.proofs.Common.{leb}
use Rattle.std.specs.Option.{option_or}
use Rattle.std.proofs.lemmas.Bool.{leb-true, and_parts}
use Rattle.flow_state.specs.declared.channel.ChannelRow.{ChannelRow}
use Rattle.flow_state.specs.declared.reason.Field.{Field}
use Rattle.flow_state.specs.declared.reason.Reason.{Reason}
use Rattle.flow_state.specs.declared.refusal.Refusal.TheVariants as refusals
use Rattle.flow_state.specs.Limits.{last_time, most_minislots, is_backoff}
use Rattle.flow_state.specs.Reasons.{why_backoff}
use Rattle.flow_state.proofs.Callers.{bad, backoff_bad, both_bad, most_bad, outside_bad, refusal}
use Rattle.grant_machine_parts.specs.declared.settings.CutSettings.{CutSettings}
use Rattle.grant_machine_parts.specs.Cutting.{is_own, is_cut_backoff, are_within_limits, end_of, span_of, fill_refusal}
use Rattle.grant_machine.specs.Why.{why_cut_backoff, why_times, why_kept, why_cut}

cut_backoff_bad : (field : Field) (pair : ℕ × ℕ) → refusal (why_cut_backoff field pair) ≡ bad (is_cut_backoff pair)
cut_backoff_bad field pair = by (is_own pair)
  where
    by : (own : Bool) → refusal (cond own None (why_backoff field pair.0 pair.1)) ≡ bad (own || is_backoff pair.0 pair.1)
    by true = refl
    by false = backoff_bad field pair.0 pair.1

times_bad : (s : CutSettings) → refusal (why_times s) ≡ bad (leb 1 s.len && leb s.len most_minislots && leb s.not_before last_time && leb s.ack last_time)
times_bad s =
    both_bad _ _ (leb 1 s.len && leb s.len most_minislots && leb s.not_before last_time) (leb s.ack last_time)
    (both_bad _ _ (leb 1 s.len && leb s.len most_minislots) (leb s.not_before last_time) (outside_bad _ s.len 1 most_minislots) (most_bad _ s.not_before last_time))
    (most_bad _ s.ack last_time)

kept_bad : (s : CutSettings) → refusal (why_kept s) ≡ bad (are_within_limits s)
kept_bad s =
    both_bad _ _ (leb s.keep most_minislots && is_cut_backoff s.ranging_backoff) (is_cut_backoff s.data_backoff)
    (both_bad _ _ (leb s.keep most_minislots) (is_cut_backoff s.ranging_backoff) (most_bad _ s.keep most_minislots) (cut_backoff_bad _ s.ranging_backoff))
    (cut_backoff_bad _ s.data_backoff)

pub cut_refuses : (row : ChannelRow) (s : CutSettings) → refusal (why_cut row s) ≡ fill_refusal row s
cut_refuses row s =
    both_bad _ _ (leb 1 s.len && leb s.len most_minislots && leb s.not_before last_time && leb s.ack last_time && leb (end_of (span_of row s.len s.not_before)) last_time) (are_within_limits s)
    (both_bad _ _ (leb 1 s.len && leb s.len most_minislots && leb s.not_before last_time && leb s.ack last_time) (leb (end_of (span_of row s.len s.not_before)) last_time)
    (times_bad s) (most_bad _ (end_of (span_of row s.len s.not_before)) last_time))
    (kept_bad s)
    ∙ turned (leb 1 s.len && leb s.len most_minislots && leb s.not_before last_time && leb s.ack last_time && leb (end_of (span_of row s.len s.not_before)) last_time && are_within_limits s)
  where
    turned : (b : Bool) → bad b ≡ cond b None (Some refusals.BadValue)
    turned true = refl
    turned false = refl

-- where no time is refused, a MAP isn't longer than it may be, nor later
pub times_early : (s : CutSettings) → None ≡ why_times s → (s.len ≤ most_minislots) × (s.not_before ≤ last_time)
times_early s none =
    let all = and_parts (leb 1 s.len && leb s.len most_minislots && leb s.not_before last_time) (leb s.ack last_time) (good _ (sym (times_bad s) ∙ ap (λ (o : Option Reason). refusal o) (sym none))) in
    let times = and_parts (leb 1 s.len && leb s.len most_minislots) (leb s.not_before last_time) all.0 in
    (leb-true _ _ (and_parts (leb 1 s.len) (leb s.len most_minislots) times.0).1, leb-true _ _ times.1)
  where
    good : (b : Bool) → bad b ≡ None → b ≡ true
    good true e = refl
    good false e = absurd cc

-- the first of three reasons, where there is a first one, and where there is none
pub first_some : (r : Reason) (a b c : Option Reason) → Some r ≡ a → Some r ≡ option_or (option_or a b) c
first_some r a b c e = ap (λ (o : Option Reason). option_or (option_or o b) c) e

pub first_none : (a b c d : Option Reason) → None ≡ a → d ≡ option_or b c → d ≡ option_or (option_or a b) c
first_none a b c d e f = f ∙ ap (λ (o : Option Reason). option_or (option_or o b) c) e

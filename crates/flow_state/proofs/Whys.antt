-- The first reason is one of the first refusal.
use Rattle.std.proofs.Common.{◌≡◌, ℕ, Bool, true, false, cond, not, ◌&&◌, ◌||◌, length, Option, Some, None, refl, ap}
use Rattle.std.proofs.Common.{◌∙◌, arith, eqb, leb, ltb, is_some, is_none}
use Rattle.std.specs.Option.{option_or, option_map, option_map_or}
use Rattle.flow_state.specs.declared.channel.Channel.{Channel}
use Rattle.flow_state.specs.declared.settings.ChannelSettings.{ChannelSettings}
use Rattle.flow_state.specs.declared.flow.FlowKind.{FlowKind}
use Rattle.flow_state.specs.declared.flow.FlowKind.TheVariants.{BestEffort, Ugs, Poll, Station, Initial}
use Rattle.flow_state.specs.declared.refusal.Refusal.{Refusal}
use Rattle.flow_state.specs.declared.refusal.Refusal.TheVariants as refusals
use Rattle.flow_state.specs.declared.reason.Field.{Field}
use Rattle.flow_state.specs.declared.reason.Reason.{Reason}
use Rattle.flow_state.specs.declared.reason.Reason.TheVariants.{NoChannel, SidsSpent, Waits, Full, BeforeLease}
use Rattle.flow_state.specs.declared.reason.Reason.TheVariants.{OtherPhy, OtherShortMax, WrongCount}
use Rattle.flow_state.specs.Limits.{last_time, longest_interval, most_waiting, is_backoff, is_good_channel}
use Rattle.flow_state.specs.Limits.{are_good_settings, is_size, is_schedule, is_good_kind, takes_no_requests}
use Rattle.flow_state.specs.Refusals.{set_channel_refusal, is_same_phy, is_good_count, next_count, table_change_refusal}
use Rattle.flow_state.specs.Refusals.{is_good_last, table_flow_refusal, table_drop_refusal, is_repeated, is_old}
use Rattle.flow_state.specs.Refusals.{is_busy, request_refusal_on, table_request_refusal, on_table}
use Rattle.flow_state.specs.Rows.{Rows, Table, FlowRow, table_of, flow_of, lease_of, free_sid, waits}
use Rattle.flow_state.specs.Reasons.{reason_refusal, if_so, outside, either, first_of, why_backoff, why_values}
use Rattle.flow_state.specs.Reasons.{why_bad_channel, why_schedule, why_sized, why_kind, why_count, why_change}
use Rattle.flow_state.specs.Reasons.{why_last, why_flow, why_drop, why_bad_request, why_repeated, why_old, why_busy}
use Rattle.flow_state.specs.Reasons.{why_request_on, why_request, why_set_channel, why_on}

abbrev pub refusal : Option Reason → Option Refusal
refusal o = option_map reason_refusal o

-- a bad value, where a test fails
abbrev pub bad : Bool → Option Refusal
bad good = cond (not good) (Some refusals.BadValue) None

if_refuses : (b : Bool) (r : Reason) → refusal (if_so b r) ≡ cond b (Some (reason_refusal r)) None
if_refuses true r = refl
if_refuses false r = refl

pub outside_bad : (field : Field) (value least most : ℕ) → refusal (outside field value least most) ≡ bad (leb least value && leb value most)
outside_bad field value least most = if_refuses (not (leb least value && leb value most)) _

-- there is no value below 0
from_zero : (n : ℕ) (b : Bool) → (leb 0 n && b) ≡ b
from_zero n b = ap (λ c. c && b) (let on : leb 0 n ≡ true = grind arith in on)

pub most_bad : (field : Field) (value most : ℕ) → refusal (outside field value 0 most) ≡ bad (leb value most)
most_bad field value most = outside_bad field value 0 most ∙ ap bad (from_zero value (leb value most))

-- a first bad value, and then what refuses after it
then_or : (a b : Option Reason) (good : Bool) (after : Option Refusal) → refusal a ≡ bad good → refusal b ≡ after → refusal (option_or a b) ≡ cond (not good) (Some refusals.BadValue) after
then_or None b true after p q = q
then_or None b false after p q = absurd cc
then_or (Some r) b true after p q = absurd cc
then_or (Some r) b false after p q = p

pub both_bad : (a b : Option Reason) (p q : Bool) → refusal a ≡ bad p → refusal b ≡ bad q → refusal (option_or a b) ≡ bad (p && q)
both_bad a b p q ea eb = then_or a b p (bad q) ea eb ∙ by p
  where
    by : (p : Bool) → cond (not p) (Some refusals.BadValue) (bad q) ≡ bad (p && q)
    by true = refl
    by false = refl

-- ---- values

pub backoff_bad : (field : Field) (start end : ℕ) → refusal (why_backoff field start end) ≡ bad (is_backoff start end)
backoff_bad field start end = both_bad _ _ (leb start end) (leb end 15) (if_refuses (not (leb start end)) _) (most_bad field end 15)

values_bad : (ranging sending : ℕ × ℕ) (short_max : ℕ) → refusal (why_values ranging sending short_max) ≡ bad (is_backoff ranging.0 ranging.1 && is_backoff sending.0 sending.1 && ltb 0 short_max)
values_bad ranging sending short_max =
    both_bad _ _ (is_backoff ranging.0 ranging.1 && is_backoff sending.0 sending.1) (ltb 0 short_max)
    (both_bad _ _ (is_backoff ranging.0 ranging.1) (is_backoff sending.0 sending.1) (backoff_bad _ ranging.0 ranging.1) (backoff_bad _ sending.0 sending.1))
    (if_refuses (not (ltb 0 short_max)) _)

channel_bad : (c : Channel) → refusal (why_bad_channel c) ≡ bad (is_good_channel c)
channel_bad c = both_bad _ _ _ (leb c.base last_time) (values_bad c.ranging_backoff c.data_backoff c.short_max) (most_bad _ c.base last_time)

schedule_bad : (interval jitter base : ℕ) → refusal (why_schedule interval jitter base) ≡ bad (is_schedule interval jitter base)
schedule_bad interval jitter base =
    both_bad _ _ (leb 1 interval && leb interval longest_interval && ltb jitter interval) (leb base last_time)
    (both_bad _ _ (leb 1 interval && leb interval longest_interval) (ltb jitter interval) (outside_bad _ interval 1 longest_interval) (if_refuses (not (ltb jitter interval)) _))
    (most_bad _ base last_time)

sized_bad : (size interval jitter base : ℕ) → refusal (why_sized size interval jitter base) ≡ bad (is_size size && is_schedule interval jitter base)
sized_bad size interval jitter base = both_bad _ _ (is_size size) (is_schedule interval jitter base) (outside_bad _ size 1 255) (schedule_bad interval jitter base)

kind_bad : (kind : FlowKind) → refusal (why_kind kind) ≡ bad (is_good_kind kind)
kind_bad (BestEffort priority) = most_bad _ priority 7
kind_bad (Ugs size interval jitter base) = sized_bad size interval jitter base
kind_bad (Poll interval jitter base) = schedule_bad interval jitter base
kind_bad (Station size interval jitter base) = sized_bad size interval jitter base
kind_bad (Initial size interval jitter base) = sized_bad size interval jitter base

-- ---- calls on a table

count_bad : (c : Channel) (s : ChannelSettings) → refusal (why_count c s) ≡ bad (is_good_count c s)
count_bad c s = by (eqb s.ucd c.ucd)
  where
    by : (own : Bool)
        → refusal (cond own (either (if_so (not (is_same_phy s.phy c.phy)) OtherPhy) (if_so (not (eqb s.short_max c.short_max)) (OtherShortMax s.short_max c.short_max))) (if_so (not (eqb s.ucd (next_count c.ucd))) (WrongCount s.ucd c.ucd)))
        ≡ bad (cond own (is_same_phy s.phy c.phy && eqb s.short_max c.short_max) (eqb s.ucd (next_count c.ucd)))
    by true = both_bad _ _ (is_same_phy s.phy c.phy) (eqb s.short_max c.short_max) (if_refuses (not (is_same_phy s.phy c.phy)) _) (if_refuses (not (eqb s.short_max c.short_max)) _)
    by false = if_refuses (not (eqb s.ucd (next_count c.ucd))) _

pub change_refuses : (t : Table) (s : ChannelSettings) → refusal (why_change t s) ≡ table_change_refusal t s
change_refuses t s = both_bad _ _ (are_good_settings s) (is_good_count t.row.channel s) (values_bad s.ranging_backoff s.data_backoff s.short_max) (count_bad t.row.channel s)

last_bad : (t : Table) (last : ℕ) → refusal (why_last t.row.next_start last) ≡ bad (is_good_last t last)
last_bad t last = both_bad _ _ (leb last last_time) (leb t.row.next_start last) (most_bad _ last last_time) (if_refuses (not (leb t.row.next_start last)) _)

pub flow_refuses : (t : Table) (modem tag last : ℕ) (kind : FlowKind) → refusal (why_flow t modem tag last kind) ≡ table_flow_refusal t modem tag last kind
flow_refuses t modem tag last kind = by (is_some (lease_of t modem tag))
  where
    by : (known : Bool) → refusal (cond known None (first_of (why_kind kind) (why_last t.row.next_start last) (if_so (is_none (free_sid t)) (SidsSpent t.row.channel.id))))
        ≡ cond known None (cond (not (is_good_kind kind && is_good_last t last)) (Some refusals.BadValue) (cond (is_none (free_sid t)) (Some refusals.SidsSpent) None))
    by true = refl
    by false =
        then_or _ _ (is_good_kind kind && is_good_last t last) _ (both_bad _ _ (is_good_kind kind) (is_good_last t last) (kind_bad kind) (last_bad t last))
        (if_refuses (is_none (free_sid t)) _)

pub drop_refuses : (t : Table) (sid : ℕ) → refusal (why_drop t sid) ≡ table_drop_refusal t sid
drop_refuses t sid = if_refuses (is_none (flow_of t sid)) _

-- ---- requests

old_refuses : (f : FlowRow) (sent : ℕ) → refusal (why_old f sent) ≡ cond (is_old f sent) (Some refusals.OldRequest) None
old_refuses f sent = by (ltb sent f.first) f.last_sent
  where
    by : (before : Bool) (last : Option ℕ) → refusal (either (if_so before (BeforeLease sent f.first)) (why_repeated last sent)) ≡ cond (before || is_repeated last sent) (Some refusals.OldRequest) None
    by true last = refl
    by false None = refl
    by false (Some n) = if_refuses (leb sent n) _

busy_refuses : (t : Table) (sid : ℕ) → refusal (why_busy t sid) ≡ cond (is_busy t sid) (Some refusals.Busy) None
busy_refuses t sid = by (waits t sid)
  where
    by : (there : Bool) → refusal (either (if_so there (Waits sid)) (if_so (leb most_waiting (length t.waiting)) (Full t.row.channel.id))) ≡ cond (there || leb most_waiting (length t.waiting)) (Some refusals.Busy) None
    by true = refl
    by false = if_refuses (leb most_waiting (length t.waiting)) _

request_bad : (f : FlowRow) (n sent : ℕ) → refusal (why_bad_request f n sent) ≡ cond (not (is_size n) || not (leb sent last_time) || ltb f.last sent || takes_no_requests f.kind) (Some refusals.BadValue) None
request_bad f n sent =
    both_bad _ _ (is_size n && leb sent last_time) (not (ltb f.last sent) && not (takes_no_requests f.kind))
    (both_bad _ _ (is_size n) (leb sent last_time) (outside_bad _ n 1 255) (most_bad _ sent last_time))
    (both_bad _ _ (not (ltb f.last sent)) (not (takes_no_requests f.kind)) (if_refuses (ltb f.last sent) _ ∙ twice (ltb f.last sent)) (if_refuses (takes_no_requests f.kind) _ ∙ twice (takes_no_requests f.kind)))
    ∙ same (is_size n) (leb sent last_time) (ltb f.last sent) (takes_no_requests f.kind)
  where
    twice : (b : Bool) → cond b (Some refusals.BadValue) None ≡ bad (not b)
    twice true = refl
    twice false = refl

    same : (size time behind none : Bool) → bad (size && time && (not behind && not none)) ≡ cond (not size || not time || behind || none) (Some refusals.BadValue) None
    same true true true none = refl
    same true true false true = refl
    same true true false false = refl
    same true false behind none = refl
    same false time behind none = refl

-- a first refusal, and what comes after it
then_else : (a b : Option Reason) (on : Bool) (r : Refusal) (after : Option Refusal) → refusal a ≡ cond on (Some r) None → refusal b ≡ after → refusal (option_or a b) ≡ cond on (Some r) after
then_else None b true r after p q = absurd cc
then_else None b false r after p q = q
then_else (Some x) b true r after p q = p
then_else (Some x) b false r after p q = absurd cc

-- two refusals one behind the other, and what comes after both
then_two : (a b c : Option Reason) (p q : Bool) (r s : Refusal) (after : Option Refusal) → refusal a ≡ cond p (Some r) None → refusal b ≡ cond q (Some s) None → refusal c ≡ after
    → refusal (option_or (option_or a b) c) ≡ cond p (Some r) (cond q (Some s) after)
then_two None b c true q r s after ea eb ec = absurd cc
then_two None b c false q r s after ea eb ec = then_else b c q s after eb ec
then_two (Some x) b c true q r s after ea eb ec = ea
then_two (Some x) b c false q r s after ea eb ec = absurd cc

pub request_refuses : (t : Table) (sid n sent : ℕ) → refusal (why_request t sid n sent) ≡ table_request_refusal t sid n sent
request_refuses t sid n sent = by (flow_of t sid)
  where
    by : (o : Option FlowRow) → refusal (why_request_on o t sid n sent) ≡ request_refusal_on o t n sent
    by None = refl
    by (Some f) = then_two (why_bad_request f n sent) (why_old f sent) (why_busy t f.sid) _ _ refusals.BadValue refusals.OldRequest _ (request_bad f n sent) (old_refuses f sent) (busy_refuses t f.sid)

-- ---- calls

pub set_refuses : (rows : Rows) (c : Channel) → refusal (why_set_channel rows c) ≡ set_channel_refusal rows c
set_refuses rows c = then_or (why_bad_channel c) _ (is_good_channel c) _ (channel_bad c) (if_refuses (is_some (table_of rows c.id)) _)

pub on_refuses : (rows : Rows) (ch : ℕ) (why : Table → Option Reason) (first : Table → Option Refusal) → ((t : Table) → refusal (why t) ≡ first t) → refusal (why_on rows ch why) ≡ on_table rows ch first
on_refuses rows ch why first same = by (table_of rows ch)
  where
    by : (o : Option Table) → refusal (option_map_or why o (Some (NoChannel ch))) ≡ option_map_or first o (Some refusals.NoChannel)
    by (Some t) = same t
    by None = refl

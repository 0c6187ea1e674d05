-- Why a command is refused, as text. Fields are called as in a plan.
use Rattle.std.specs.Prelude.{ℕ, List, ◌++◌, codes, decimal}
use Rattle.flow_state.specs.declared.refusal.Refusal.{Refusal}
use Rattle.flow_state.specs.declared.refusal.Refusal.TheVariants as refusals
use Rattle.flow_state.specs.declared.reason.Field.{Field}
use Rattle.flow_state.specs.declared.reason.Field.TheVariants.{ShortMax, Ranging, Data, Base, Priority, Size, Interval}
use Rattle.flow_state.specs.declared.reason.Field.TheVariants.{Last, Minislots, Sent, Len, NotBefore, Ack, Keep, End}
use Rattle.flow_state.specs.declared.reason.Reason.{Reason}
use Rattle.flow_state.specs.declared.reason.Reason.TheVariants as reasons
use Rattle.flow_state.specs.Reasons.{reason_refusal}
use Rattle.flow_state.specs.Refusals.{refusal_number}

abbrev pub refusal_name : Refusal → List ℕ
refusal_name refusals.NoChannel = codes "NoChannel"
refusal_name refusals.ChannelThere = codes "ChannelThere"
refusal_name refusals.NoFlow = codes "NoFlow"
refusal_name refusals.SidsSpent = codes "SidsSpent"
refusal_name refusals.Busy = codes "Busy"
refusal_name refusals.OldRequest = codes "OldRequest"
refusal_name refusals.BadValue = codes "BadValue"
refusal_name refusals.OutOfMemory = codes "OutOfMemory"

-- the key of a field, or the end of a pair of back-offs, or of a MAP
abbrev pub field_name : Field → List ℕ
field_name ShortMax = codes "short_max"
field_name Ranging = codes "the end of ranging"
field_name Data = codes "the end of data"
field_name Base = codes "base"
field_name Priority = codes "priority"
field_name Size = codes "size"
field_name Interval = codes "interval"
field_name Last = codes "last"
field_name Minislots = codes "n"
field_name Sent = codes "sent"
field_name Len = codes "len"
field_name NotBefore = codes "not_before"
field_name Ack = codes "ack"
field_name Keep = codes "keep"
field_name End = codes "the end of the MAP"

-- two numbers in words
abbrev pub between : List ℕ → ℕ → List ℕ → ℕ → List ℕ
between before a behind b = before ++ (decimal a ++ (behind ++ decimal b))

-- which value it is, and what it may be
abbrev pub reason_text : Reason → List ℕ
reason_text (reasons.NoChannel ch) = codes "there is no channel " ++ decimal ch
reason_text (reasons.ChannelThere ch) = codes "there is a channel " ++ decimal ch
reason_text (reasons.NoFlow ch sid) = between (codes "channel ") ch (codes " has no sid ") sid
reason_text (reasons.SidsSpent ch) = codes "channel " ++ (decimal ch ++ codes " has no sid left")
reason_text (reasons.Waits sid) = codes "a request of sid " ++ (decimal sid ++ codes " waits")
reason_text (reasons.Full ch) = codes "no more requests may wait on channel " ++ decimal ch
reason_text (reasons.BeforeLease sent first) = between (codes "sent is ") sent (codes ", before the lease at ") first
reason_text (reasons.Repeated sent last) = between (codes "sent is ") sent (codes ", not behind ") last
reason_text (reasons.Outside field value least most) =
    field_name field ++ (codes " is " ++ (decimal value ++ (codes ", not " ++ (decimal least ++ (codes " to " ++ decimal most)))))
reason_text (reasons.JitterTooLong jitter interval) = between (codes "jitter is ") jitter (codes ", not below interval ") interval
reason_text (reasons.BackoffTurned field start end) =
    field_name field ++ (codes " is " ++ (decimal end ++ (codes ", below its start " ++ decimal start)))
reason_text (reasons.LastTooEarly last next_start) = between (codes "last is ") last (codes ", before the next MAP at ") next_start
reason_text (reasons.BehindLease sent last) = between (codes "sent is ") sent (codes ", behind the lease's last minislot ") last
reason_text (reasons.TakesNoRequests sid) = codes "sid " ++ (decimal sid ++ codes " takes no requests")
reason_text (reasons.WrongCount ucd own) =
    codes "ucd is " ++ (decimal ucd ++ (codes ", neither the channel's " ++ (decimal own ++ codes " nor the next one")))
reason_text reasons.OtherPhy = codes "phy is another one, under the channel's own ucd"
reason_text (reasons.OtherShortMax short_max own) =
    codes "short_max is " ++ (decimal short_max ++ (codes ", not " ++ (decimal own ++ codes ", under the channel's own ucd")))

-- a refusal with its reason
abbrev pub refused_text : Reason → List ℕ
refused_text reason =
    codes "refused " ++ (decimal (refusal_number (reason_refusal reason)) ++ (codes " " ++ (refusal_name (reason_refusal reason) ++ (codes ": " ++ reason_text reason))))

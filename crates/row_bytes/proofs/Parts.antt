-- A channel, a lease, a flow and a request that are read are those that were written, and what was written is read again.
use Rattle.std.proofs.Common.{◌≡◌, ℕ, zero, suc, ◌+◌, ◌-◌, ◌^◌, ◌<◌, ◌≤◌, ◌==◌, Bool, true, false, cond, List, [], ◌∷◌}
use Rattle.std.proofs.Common.{◌++◌, Option, Some, None, Ok, Err, refl, sym, ap, subst, ◌∙◌, append_assoc, slice_get}
use Rattle.std.proofs.Common.{arith}
use Rattle.std.proofs.lemmas.Bool.{eqb-true}
use Rattle.flow_state.specs.declared.channel.Channel.{Channel}
use Rattle.flow_state.specs.declared.channel.ChannelRow.{ChannelRow}
use Rattle.flow_state.specs.declared.channel.Phy.{Phy}
use Rattle.flow_state.specs.declared.channel.Phy.TheVariants.{Tdma, Advanced}
use Rattle.flow_state.specs.declared.flow.Flow.{Flow}
use Rattle.flow_state.specs.declared.flow.FlowKind.{FlowKind}
use Rattle.flow_state.specs.declared.flow.FlowKind.TheVariants.{BestEffort, Ugs, Poll, Station, Initial}
use Rattle.flow_state.specs.declared.flow.Lease.{Lease}
use Rattle.flow_state.specs.declared.flow.Waiting.{Waiting}
use Rattle.flow_state.specs.Limits.{is_good_channel, is_good_kind, is_size}
use Rattle.flow_state.specs.Firm.{FitsChannel}
use Rattle.grant_machine.specs.declared.command.Command.TheVariants as commands
use Rattle.grant_machine.specs.Fits.{FitsKind}
use Rattle.command_log.specs.Spelling.{phy_byte, kind_byte, kind_spelling, spelling}
use Rattle.row_bytes.specs.declared.fault.RowsFault.TheVariants.{NoChannel, NoFlow, NoRequest}
use Rattle.row_bytes.specs.Spelling.{number_2, number_4, number_8, row_spelling, lease_spelling, sent_spelling}
use Rattle.row_bytes.specs.Spelling.{flow_spelling, request_spelling}
use Rattle.row_bytes.specs.Fits.{FitsRow, FitsLease, FitsSent, FitsFlow, FitsRequest}
use Rattle.row_bytes.specs.Reading.{◌>>=◌, AreBytes, Read, good, byte_at, number_2_at, number_4_at, number_8_at, phy_by}
use Rattle.row_bytes.specs.Reading.{phy_at, backoff_at, front_at, channel_at, row_at, lease_at, best_effort_at}
use Rattle.row_bytes.specs.Reading.{timing_at, poll_at, sized_at, fields_by, kind_at, some_sent_at, sent_by, sent_at}
use Rattle.row_bytes.specs.Reading.{lease_of_sid, lease_found, flow_at, request_at}
use Rattle.row_bytes.proofs.Numbers.{bind_ok, good_ok, ok_is, Begins, Begins-then, byte_begins, begins_2, begins_4}
use Rattle.row_bytes.proofs.Numbers.{begins_8, again_2, again_4, again_8}

abbrev okay : {A : Type 0} → A → Read A
okay x = Ok x

-- ---- leases

abbrev lease : (place modem tag first last : ℕ) → Lease
lease place modem tag first last = record { sid = place + 1; modem = modem; tag = tag; first = first; last = last }

-- a lease that is read, of the SID one above its place
pub record IsLease (place : ℕ) (l : Lease) : Type 0 where
  pub fits : FitsLease l
  pub sid : l.sid ≡ place + 1

pub lease_begins : (place : ℕ) (bytes : List ℕ) (x : Lease × List ℕ) → AreBytes bytes → lease_at place bytes ≡ Ok x → Begins bytes (lease_spelling x.0) x.1 × IsLease place x.0
unfolding lease_at
lease_begins place bytes x are e =
    let modem = bind_ok (number_4_at bytes) (λ modem. number_4_at modem.1 >>= λ tag. number_8_at tag.1 >>= λ first. number_8_at first.1 >>= λ last. Ok (lease place modem.0 tag.0 first.0 last.0, last.1)) x e in
    let modem-is = begins_4 bytes modem.0 are modem.1 in
    let tag = bind_ok (number_4_at modem.0.1) (λ tag. number_8_at tag.1 >>= λ first. number_8_at first.1 >>= λ last. Ok (lease place modem.0.0 tag.0 first.0 last.0, last.1)) x modem.2 in
    let tag-is = begins_4 modem.0.1 tag.0 modem-is.0.rest_fits tag.1 in
    let first = bind_ok (number_8_at tag.0.1) (λ first. number_8_at first.1 >>= λ last. Ok (lease place modem.0.0 tag.0.0 first.0 last.0, last.1)) x tag.2 in
    let first-is = begins_8 tag.0.1 first.0 tag-is.0.rest_fits first.1 in
    let last = bind_ok (number_8_at first.0.1) (λ last. Ok (lease place modem.0.0 tag.0.0 first.0.0 last.0, last.1)) x first.2 in
    let last-is = begins_8 first.0.1 last.0 first-is.0.rest_fits last.1 in
    let whole = Begins-then _ _ _ _ _ modem-is.0 (Begins-then _ _ _ _ _ tag-is.0 (Begins-then _ _ _ _ _ first-is.0 last-is.0)) in
    subst (λ (y : Lease × List ℕ). Begins bytes (lease_spelling y.0) y.1 × IsLease place y.0) (ok_is (lease place modem.0.0 tag.0.0 first.0.0 last.0.0, last.0.1) x last.2) (whole, record { fits = record { modem = modem-is.1; tag = tag-is.1; first = first-is.1; last = last-is.1 }; sid = refl })

pub lease_again : (place : ℕ) (l : Lease) (rest : List ℕ) → IsLease place l → lease_at place (lease_spelling l ++ rest) ≡ Ok (l, rest)
unfolding lease_at
lease_again place l rest is =
    let last : List ℕ = number_8 l.last ++ rest in
    let first : List ℕ = number_8 l.first ++ last in
    let tag : List ℕ = number_4 l.tag ++ first in
    let regrouped : lease_spelling l ++ rest ≡ number_4 l.modem ++ tag = simp append_assoc in
    ap (lease_at place) regrouped ∙ rw (again_4 l.modem tag is.fits.modem, again_4 l.tag first is.fits.tag, again_8 l.first last is.fits.first, again_8 l.last rest is.fits.last)
    (ap (λ (s : ℕ). okay (record l { sid = s }, rest)) (sym is.sid))

-- ---- channels

phy_met : (byte : ℕ) (phy : Phy) → phy_by byte ≡ Ok phy → byte ≡ phy_byte phy
phy_met byte phy e = by (byte == 1) refl (byte == 6) refl e
  where
    by : (a : Bool) → (byte == 1) ≡ a → (b : Bool) → (byte == 6) ≡ b → cond a (Ok Tdma) (cond b (Ok Advanced) (Err NoChannel)) ≡ okay phy → byte ≡ phy_byte phy
    by true tdma b _ e = eqb-true byte 1 tdma ∙ ap phy_byte (ok_is Tdma phy e)
    by false _ true advanced e = eqb-true byte 6 advanced ∙ ap phy_byte (ok_is Advanced phy e)
    by false _ false _ e = absurd cc

phy_by_byte : (phy : Phy) → phy_by (phy_byte phy) ≡ Ok phy
phy_by_byte Tdma = refl
phy_by_byte Advanced = refl

phy_begins : (bytes : List ℕ) (x : Phy × List ℕ) → AreBytes bytes → phy_at bytes ≡ Ok x → Begins bytes (phy_byte x.0 ∷ []) x.1 × Unit {0}
phy_begins bytes x are e =
    let byte = bind_ok (byte_at bytes) (λ b. phy_by b.0 >>= λ p. Ok (p, b.1)) x e in
    let phy = bind_ok (phy_by byte.0.0) (λ p. Ok (p, byte.0.1)) x byte.2 in
    let begins = byte_begins bytes byte.0 are byte.1 in
    let same : Begins bytes (phy_byte phy.0 ∷ []) byte.0.1 = subst (λ (b : ℕ). Begins bytes (b ∷ []) byte.0.1) (phy_met byte.0.0 phy.0 phy.1) begins.0 in
    subst (λ (y : Phy × List ℕ). Begins bytes (phy_byte y.0 ∷ []) y.1 × Unit {0}) (ok_is (phy.0, byte.0.1) x phy.2) (same, tt)

phy_again : (phy : Phy) (rest : List ℕ) → phy_at (phy_byte phy ∷ rest) ≡ Ok (phy, rest)
phy_again phy rest = ap (λ (r : Read Phy). r >>= λ p. Ok (p, rest)) (phy_by_byte phy)

-- a back-off of bytes
abbrev FitsBackoff : ℕ × ℕ → Type 0
FitsBackoff b = (b.0 < 2 ^ 8) × (b.1 < 2 ^ 8)

backoff_begins : (bytes : List ℕ) (x : (ℕ × ℕ) × List ℕ) → AreBytes bytes → backoff_at bytes ≡ Ok x → Begins bytes (x.0.0 ∷ x.0.1 ∷ []) x.1 × FitsBackoff x.0
backoff_begins bytes x are e =
    let start = bind_ok (byte_at bytes) (λ start. byte_at start.1 >>= λ end. Ok ((start.0, end.0), end.1)) x e in
    let start-is = byte_begins bytes start.0 are start.1 in
    let end = bind_ok (byte_at start.0.1) (λ end. Ok ((start.0.0, end.0), end.1)) x start.2 in
    let end-is = byte_begins start.0.1 end.0 start-is.0.rest_fits end.1 in
    let whole = Begins-then _ _ _ _ _ start-is.0 end-is.0 in
    subst (λ (y : (ℕ × ℕ) × List ℕ). Begins bytes (y.0.0 ∷ y.0.1 ∷ []) y.1 × FitsBackoff y.0) (ok_is ((start.0.0, end.0.0), end.0.1) x end.2) (whole, (start-is.1, end-is.1))

abbrev channel : Phy → (id ucd short_max : ℕ) → (ranging sending : ℕ × ℕ) → ℕ → Channel
channel phy id ucd short_max ranging sending base = record { id = id; ucd = ucd; phy = phy; short_max = short_max; ranging_backoff = ranging; data_backoff = sending; base = base }

-- the bytes of a channel, a field after another
abbrev channel_text : Channel → List ℕ
channel_text c = (phy_byte c.phy ∷ []) ++ ((c.id ∷ []) ++ ((c.ucd ∷ []) ++ (number_2 c.short_max ++ ((c.ranging_backoff.0 ∷ c.ranging_backoff.1 ∷ []) ++ ((c.data_backoff.0 ∷ c.data_backoff.1 ∷ []) ++ number_8 c.base)))))

channel_text-is : (c : Channel) → channel_text c ≡ spelling (commands.Channel c)
unfolding number_2 number_8
channel_text-is c = refl

-- a channel's first fields, one after another
abbrev front_text : Phy × ℕ × ℕ × ℕ → List ℕ
front_text f = (phy_byte f.0 ∷ []) ++ ((f.1 ∷ []) ++ ((f.2 ∷ []) ++ number_2 f.3))

abbrev FitsFront : Phy × ℕ × ℕ × ℕ → Type 0
FitsFront f = (f.1 < 2 ^ 8) × (f.2 < 2 ^ 8) × (f.3 < 2 ^ 16)

front_begins : (bytes : List ℕ) (x : (Phy × ℕ × ℕ × ℕ) × List ℕ) → AreBytes bytes → front_at bytes ≡ Ok x → Begins bytes (front_text x.0) x.1 × FitsFront x.0
unfolding front_at
front_begins bytes x are e =
    let phy = bind_ok (phy_at bytes) (λ phy. byte_at phy.1 >>= λ id. byte_at id.1 >>= λ ucd. number_2_at ucd.1 >>= λ short. Ok ((phy.0, id.0, ucd.0, short.0), short.1)) x e in
    let phy-is = phy_begins bytes phy.0 are phy.1 in
    let id = bind_ok (byte_at phy.0.1) (λ id. byte_at id.1 >>= λ ucd. number_2_at ucd.1 >>= λ short. Ok ((phy.0.0, id.0, ucd.0, short.0), short.1)) x phy.2 in
    let id-is = byte_begins phy.0.1 id.0 phy-is.0.rest_fits id.1 in
    let ucd = bind_ok (byte_at id.0.1) (λ ucd. number_2_at ucd.1 >>= λ short. Ok ((phy.0.0, id.0.0, ucd.0, short.0), short.1)) x id.2 in
    let ucd-is = byte_begins id.0.1 ucd.0 id-is.0.rest_fits ucd.1 in
    let short = bind_ok (number_2_at ucd.0.1) (λ short. Ok ((phy.0.0, id.0.0, ucd.0.0, short.0), short.1)) x ucd.2 in
    let short-is = begins_2 ucd.0.1 short.0 ucd-is.0.rest_fits short.1 in
    let whole = Begins-then _ _ _ _ _ phy-is.0 (Begins-then _ _ _ _ _ id-is.0 (Begins-then _ _ _ _ _ ucd-is.0 short-is.0)) in
    subst (λ (y : (Phy × ℕ × ℕ × ℕ) × List ℕ). Begins bytes (front_text y.0) y.1 × FitsFront y.0) (ok_is ((phy.0.0, id.0.0, ucd.0.0, short.0.0), short.0.1) x short.2) (whole, (id-is.1, ucd-is.1, short-is.1))

-- the other fields
abbrev backoffs_text : ℕ × ℕ → ℕ × ℕ → ℕ → List ℕ
backoffs_text ranging sending base = (ranging.0 ∷ ranging.1 ∷ []) ++ ((sending.0 ∷ sending.1 ∷ []) ++ number_8 base)

halves : (c : Channel) → front_text (c.phy, c.id, c.ucd, c.short_max) ++ backoffs_text c.ranging_backoff c.data_backoff c.base ≡ channel_text c
halves c = simp append_assoc

channel_of : (bytes behind rest : List ℕ) (phy : Phy) (id ucd short : ℕ) (ranging sending : ℕ × ℕ) (base : ℕ) → Begins bytes (front_text (phy, id, ucd, short)) behind
    → Begins behind (backoffs_text ranging sending base) rest → Begins bytes (channel_text (channel phy id ucd short ranging sending base)) rest
channel_of bytes behind rest phy id ucd short ranging sending base a b =
    subst (λ (t : List ℕ). Begins bytes t rest) (halves (channel phy id ucd short ranging sending base)) (Begins-then bytes (front_text (phy, id, ucd, short)) behind (backoffs_text ranging sending base) rest a b)

backs_begin : (bytes : List ℕ) (f : Phy × ℕ × ℕ × ℕ) (behind : List ℕ) (x : Channel × List ℕ) → Begins bytes (front_text f) behind → FitsFront f
    → (backoff_at behind >>= λ r. backoff_at r.1 >>= λ s. number_8_at s.1 >>= λ b. Ok (channel f.0 f.1 f.2 f.3 r.0 s.0 b.0, b.1)) ≡ okay x → Begins bytes (channel_text x.0) x.1 × FitsChannel x.0
backs_begin bytes f behind x front fits e =
    let r = bind_ok (backoff_at behind) (λ r. backoff_at r.1 >>= λ s. number_8_at s.1 >>= λ b. Ok (channel f.0 f.1 f.2 f.3 r.0 s.0 b.0, b.1)) x e in
    let s = bind_ok (backoff_at r.0.1) (λ s. number_8_at s.1 >>= λ b. Ok (channel f.0 f.1 f.2 f.3 r.0.0 s.0 b.0, b.1)) x r.2 in
    let b = bind_ok (number_8_at s.0.1) (λ b. Ok (channel f.0 f.1 f.2 f.3 r.0.0 s.0.0 b.0, b.1)) x s.2 in
    let ranging = backoff_begins behind r.0 front.rest_fits r.1 in
    let sending = backoff_begins r.0.1 s.0 ranging.0.rest_fits s.1 in
    let base = begins_8 s.0.1 b.0 sending.0.rest_fits b.1 in
    let backs = Begins-then _ _ _ _ _ ranging.0 (Begins-then _ _ _ _ _ sending.0 base.0) in
    let whole = channel_of bytes behind b.0.1 f.0 f.1 f.2 f.3 r.0.0 s.0.0 b.0.0 front backs in
    subst (λ (y : Channel × List ℕ). Begins bytes (channel_text y.0) y.1 × FitsChannel y.0) (ok_is (channel f.0 f.1 f.2 f.3 r.0.0 s.0.0 b.0.0, b.0.1) x b.2)
    (whole, record { id = fits.0; ucd = fits.1; short_max = fits.2; ranging_start = ranging.1.0; ranging_end = ranging.1.1; data_start = sending.1.0; data_end = sending.1.1; base = base.1 })

channel_begins : (bytes : List ℕ) (x : Channel × List ℕ) → AreBytes bytes → channel_at bytes ≡ Ok x → Begins bytes (channel_text x.0) x.1 × FitsChannel x.0
unfolding channel_at
channel_begins bytes x are e =
    let f = bind_ok (front_at bytes) (λ f. backoff_at f.1 >>= λ r. backoff_at r.1 >>= λ s. number_8_at s.1 >>= λ b. Ok (channel f.0.0 f.0.1 f.0.2 f.0.3 r.0 s.0 b.0, b.1)) x e in
    let front = front_begins bytes f.0 are f.1 in
    backs_begin bytes f.0.0 f.0.1 x front.0 front.1 f.2

channel_again : (c : Channel) (rest : List ℕ) → FitsChannel c → channel_at (channel_text c ++ rest) ≡ Ok (c, rest)
unfolding channel_at front_at
channel_again c rest fits =
    let base : List ℕ = number_8 c.base ++ rest in
    let backoffs : List ℕ = c.ranging_backoff.0 ∷ c.ranging_backoff.1 ∷ c.data_backoff.0 ∷ c.data_backoff.1 ∷ base in
    let short : List ℕ = number_2 c.short_max ++ backoffs in
    let regrouped : channel_text c ++ rest ≡ phy_byte c.phy ∷ c.id ∷ c.ucd ∷ short = simp append_assoc in
    ap channel_at regrouped ∙ rw (phy_again c.phy (c.id ∷ c.ucd ∷ short), again_2 c.short_max backoffs fits.short_max, again_8 c.base rest fits.base) refl

-- ---- a channel with its times

abbrev row : Channel → (next ack : ℕ) → ChannelRow
row channel next ack = record { channel = channel; next_start = next; ack = ack }

-- a channel's row that is read
pub record IsRow (r : ChannelRow) : Type 0 where
  pub fits : FitsRow r
  pub within : is_good_channel r.channel ≡ true

pub row_begins : (bytes : List ℕ) (x : ChannelRow × List ℕ) → AreBytes bytes → row_at bytes ≡ Ok x → Begins bytes (row_spelling x.0) x.1 × IsRow x.0
unfolding row_at
row_begins bytes x are e =
    let a = bind_ok (channel_at bytes) (λ a. good NoChannel (is_good_channel a.0) a.0 >>= λ w. number_8_at a.1 >>= λ n. number_8_at n.1 >>= λ k. Ok (row w n.0 k.0, k.1)) x e in
    let w = bind_ok (good NoChannel (is_good_channel a.0.0) a.0.0) (λ w. number_8_at a.0.1 >>= λ n. number_8_at n.1 >>= λ k. Ok (row w n.0 k.0, k.1)) x a.2 in
    let n = bind_ok (number_8_at a.0.1) (λ n. number_8_at n.1 >>= λ k. Ok (row w.0 n.0 k.0, k.1)) x w.2 in
    let k = bind_ok (number_8_at n.0.1) (λ k. Ok (row w.0 n.0.0 k.0, k.1)) x n.2 in
    let good = good_ok (is_good_channel a.0.0) NoChannel a.0.0 w.0 w.1 in
    let channel = channel_begins bytes a.0 are a.1 in
    let next = begins_8 a.0.1 n.0 channel.0.rest_fits n.1 in
    let ack = begins_8 n.0.1 k.0 next.0.rest_fits k.1 in
    let spelled : Begins bytes (spelling (commands.Channel a.0.0)) a.0.1 = subst (λ (t : List ℕ). Begins bytes t a.0.1) (channel_text-is a.0.0) channel.0 in
    let whole = Begins-then _ _ _ _ _ spelled (Begins-then _ _ _ _ _ next.0 ack.0) in
    let same : row a.0.0 n.0.0 k.0.0 ≡ row w.0 n.0.0 k.0.0 = ap (λ (c : Channel). row c n.0.0 k.0.0) good.1 in
    subst (λ (y : ChannelRow × List ℕ). Begins bytes (row_spelling y.0) y.1 × IsRow y.0) (ap (λ (r : ChannelRow). (r, k.0.1)) same ∙ ok_is (row w.0 n.0.0 k.0.0, k.0.1) x k.2)
    (whole, record { fits = record { channel = channel.1; next_start = next.1; ack = ack.1 }; within = good.0 })

pub row_again : (r : ChannelRow) (rest : List ℕ) → IsRow r → row_at (row_spelling r ++ rest) ≡ Ok (r, rest)
unfolding row_at
row_again r rest is =
    let ack : List ℕ = number_8 r.ack ++ rest in
    let next : List ℕ = number_8 r.next_start ++ ack in
    let regrouped : row_spelling r ++ rest ≡ channel_text r.channel ++ next = append_assoc (spelling (commands.Channel r.channel)) (number_8 r.next_start ++ number_8 r.ack) rest
    ∙ ap (λ (t : List ℕ). spelling (commands.Channel r.channel) ++ t) (append_assoc (number_8 r.next_start) (number_8 r.ack) rest)
    ∙ ap (λ (t : List ℕ). t ++ next) (sym (channel_text-is r.channel)) in
    ap row_at regrouped ∙ rw (channel_again r.channel next is.fits.channel, is.within, again_8 r.next_start ack is.fits.next_start, again_8 r.ack rest is.fits.ack) refl

-- ---- kinds

abbrev timing_text : ℕ × ℕ × ℕ → List ℕ
timing_text t = number_4 t.0 ++ (number_4 t.1 ++ number_8 t.2)

abbrev FitsTiming : ℕ × ℕ × ℕ → Type 0
FitsTiming t = (t.0 < 2 ^ 32) × (t.1 < 2 ^ 32) × (t.2 < 2 ^ 64)

timing_begins : (bytes : List ℕ) (x : (ℕ × ℕ × ℕ) × List ℕ) → AreBytes bytes → timing_at bytes ≡ Ok x → Begins bytes (timing_text x.0) x.1 × FitsTiming x.0
unfolding timing_at
timing_begins bytes x are e =
    let interval = bind_ok (number_4_at bytes) (λ interval. number_4_at interval.1 >>= λ jitter. number_8_at jitter.1 >>= λ base. Ok ((interval.0, jitter.0, base.0), base.1)) x e in
    let interval-is = begins_4 bytes interval.0 are interval.1 in
    let jitter = bind_ok (number_4_at interval.0.1) (λ jitter. number_8_at jitter.1 >>= λ base. Ok ((interval.0.0, jitter.0, base.0), base.1)) x interval.2 in
    let jitter-is = begins_4 interval.0.1 jitter.0 interval-is.0.rest_fits jitter.1 in
    let base = bind_ok (number_8_at jitter.0.1) (λ base. Ok ((interval.0.0, jitter.0.0, base.0), base.1)) x jitter.2 in
    let base-is = begins_8 jitter.0.1 base.0 jitter-is.0.rest_fits base.1 in
    let whole = Begins-then _ _ _ _ _ interval-is.0 (Begins-then _ _ _ _ _ jitter-is.0 base-is.0) in
    subst (λ (y : (ℕ × ℕ × ℕ) × List ℕ). Begins bytes (timing_text y.0) y.1 × FitsTiming y.0) (ok_is ((interval.0.0, jitter.0.0, base.0.0), base.0.1) x base.2) (whole, (interval-is.1, jitter-is.1, base-is.1))

timing_again : (t : ℕ × ℕ × ℕ) (rest : List ℕ) → FitsTiming t → timing_at (timing_text t ++ rest) ≡ Ok (t, rest)
unfolding timing_at
timing_again t rest fits =
    let base : List ℕ = number_8 t.2 ++ rest in
    let jitter : List ℕ = number_4 t.1 ++ base in
    let regrouped : timing_text t ++ rest ≡ number_4 t.0 ++ jitter = simp append_assoc in
    ap timing_at regrouped ∙ rw (again_4 t.0 jitter fits.0, again_4 t.1 base fits.1, again_8 t.2 rest fits.2) refl

-- what follows the byte of a kind, a field after another
abbrev kind_text : FlowKind → List ℕ
kind_text (BestEffort priority) = priority ∷ []
kind_text (Ugs size interval jitter base) = number_2 size ++ timing_text (interval, jitter, base)
kind_text (Poll interval jitter base) = timing_text (interval, jitter, base)
kind_text (Station size interval jitter base) = number_2 size ++ timing_text (interval, jitter, base)
kind_text (Initial size interval jitter base) = number_2 size ++ timing_text (interval, jitter, base)

kind_text-is : (kind : FlowKind) → kind_byte kind ∷ kind_text kind ≡ kind_spelling kind
unfolding number_2 number_4 number_8
kind_text-is (BestEffort priority) = refl
kind_text-is (Ugs size interval jitter base) = refl
kind_text-is (Poll interval jitter base) = refl
kind_text-is (Station size interval jitter base) = refl
kind_text-is (Initial size interval jitter base) = refl

-- a kind whose byte is this is read
abbrev IsKind : ℕ → List ℕ → FlowKind × List ℕ → Type 0
IsKind byte bytes x = Begins bytes (kind_text x.0) x.1 × FitsKind x.0 × (byte ≡ kind_byte x.0)

best_effort_begins : (bytes : List ℕ) (x : FlowKind × List ℕ) → AreBytes bytes → best_effort_at bytes ≡ Ok x → IsKind 0 bytes x
best_effort_begins bytes x are e =
    let p = bind_ok (byte_at bytes) (λ p. Ok (BestEffort p.0, p.1)) x e in
    let begins = byte_begins bytes p.0 are p.1 in
    subst (IsKind 0 bytes) (ok_is (BestEffort p.0.0, p.0.1) x p.2) (begins.0, begins.1, refl)

poll_begins : (bytes : List ℕ) (x : FlowKind × List ℕ) → AreBytes bytes → poll_at bytes ≡ Ok x → IsKind 2 bytes x
poll_begins bytes x are e =
    let t = bind_ok (timing_at bytes) (λ t. Ok (Poll t.0.0 t.0.1 t.0.2, t.1)) x e in
    let begins = timing_begins bytes t.0 are t.1 in
    subst (IsKind 2 bytes) (ok_is (Poll t.0.0.0 t.0.0.1 t.0.0.2, t.0.1) x t.2) (begins.0, begins.1, refl)

sized_begins : (byte : ℕ) (kind : (size interval jitter base : ℕ) → FlowKind) (bytes : List ℕ) (x : FlowKind × List ℕ)
    → ((size interval jitter base : ℕ) (rest : List ℕ) → Begins bytes (number_2 size ++ timing_text (interval, jitter, base)) rest → size < 2 ^ 16 → FitsTiming (interval, jitter, base) → IsKind byte bytes (kind size interval jitter base, rest))
    → AreBytes bytes → sized_at kind bytes ≡ Ok x → IsKind byte bytes x
sized_begins byte kind bytes x is are e =
    let s = bind_ok (number_2_at bytes) (λ s. timing_at s.1 >>= λ t. Ok (kind s.0 t.0.0 t.0.1 t.0.2, t.1)) x e in
    let t = bind_ok (timing_at s.0.1) (λ t. Ok (kind s.0.0 t.0.0 t.0.1 t.0.2, t.1)) x s.2 in
    let size = begins_2 bytes s.0 are s.1 in
    let timing = timing_begins s.0.1 t.0 size.0.rest_fits t.1 in
    subst (IsKind byte bytes) (ok_is (kind s.0.0 t.0.0.0 t.0.0.1 t.0.0.2, t.0.1) x t.2)
    (is s.0.0 t.0.0.0 t.0.0.1 t.0.0.2 t.0.1 (Begins-then _ _ _ _ _ size.0 timing.0) size.1 timing.1)

fields_begin : (byte : ℕ) (bytes : List ℕ) (x : FlowKind × List ℕ) → AreBytes bytes → fields_by byte bytes ≡ Ok x → IsKind byte bytes x
fields_begin byte bytes x are e = by (byte == 0) refl (byte == 1) refl (byte == 2) refl (byte == 3) refl (byte == 4) refl e
  where
    is : (n : ℕ) → (byte == n) ≡ true → IsKind n bytes x → IsKind byte bytes x
    is n same h = (h.0, h.1, eqb-true byte n same ∙ h.2)

    by : (a : Bool) → (byte == 0) ≡ a → (b : Bool) → (byte == 1) ≡ b → (c : Bool) → (byte == 2) ≡ c → (d : Bool) → (byte == 3) ≡ d → (f : Bool) → (byte == 4) ≡ f
        → cond a (best_effort_at bytes) (cond b (sized_at Ugs bytes) (cond c (poll_at bytes) (cond d (sized_at Station bytes) (cond f (sized_at Initial bytes) (Err NoFlow))))) ≡ Ok x → IsKind byte bytes x
    by true s b _ c _ d _ f _ e = is 0 s (best_effort_begins bytes x are e)
    by false _ true s c _ d _ f _ e = is 1 s (sized_begins 1 Ugs bytes x (λ size i j b rest begins fits timing. (begins, (fits, timing.0, timing.1, timing.2), refl)) are e)
    by false _ false _ true s d _ f _ e = is 2 s (poll_begins bytes x are e)
    by false _ false _ false _ true s f _ e = is 3 s (sized_begins 3 Station bytes x (λ size i j b rest begins fits timing. (begins, (fits, timing.0, timing.1, timing.2), refl)) are e)
    by false _ false _ false _ false _ true s e = is 4 s (sized_begins 4 Initial bytes x (λ size i j b rest begins fits timing. (begins, (fits, timing.0, timing.1, timing.2), refl)) are e)
    by false _ false _ false _ false _ false _ e = absurd cc

sized_again : (kind : (size interval jitter base : ℕ) → FlowKind) (size interval jitter base : ℕ) (rest : List ℕ) → size < 2 ^ 16 → FitsTiming (interval, jitter, base)
    → sized_at kind ((number_2 size ++ timing_text (interval, jitter, base)) ++ rest) ≡ Ok (kind size interval jitter base, rest)
sized_again kind size interval jitter base rest fits timing =
    ap (sized_at kind) (append_assoc (number_2 size) (timing_text (interval, jitter, base)) rest)
    ∙ rw (again_2 size (timing_text (interval, jitter, base) ++ rest) fits, timing_again (interval, jitter, base) rest timing) refl

fields_again : (kind : FlowKind) (rest : List ℕ) → FitsKind kind → fields_by (kind_byte kind) (kind_text kind ++ rest) ≡ Ok (kind, rest)
fields_again (BestEffort priority) rest fits = refl
fields_again (Ugs size interval jitter base) rest fits = sized_again Ugs size interval jitter base rest fits.0 (fits.1, fits.2, fits.3)
fields_again (Poll interval jitter base) rest fits = rw (timing_again (interval, jitter, base) rest fits) refl
fields_again (Station size interval jitter base) rest fits = sized_again Station size interval jitter base rest fits.0 (fits.1, fits.2, fits.3)
fields_again (Initial size interval jitter base) rest fits = sized_again Initial size interval jitter base rest fits.0 (fits.1, fits.2, fits.3)

-- a kind within the limits that fits
abbrev IsGoodKind : FlowKind → Type 0
IsGoodKind kind = FitsKind kind × (is_good_kind kind ≡ true)

kind_begins : (bytes : List ℕ) (x : FlowKind × List ℕ) → AreBytes bytes → kind_at bytes ≡ Ok x → Begins bytes (kind_spelling x.0) x.1 × IsGoodKind x.0
unfolding kind_at
kind_begins bytes x are e =
    let b = bind_ok (byte_at bytes) (λ b. fields_by b.0 b.1 >>= λ k. good NoFlow (is_good_kind k.0) k.0 >>= λ w. Ok (w, k.1)) x e in
    let k = bind_ok (fields_by b.0.0 b.0.1) (λ k. good NoFlow (is_good_kind k.0) k.0 >>= λ w. Ok (w, k.1)) x b.2 in
    let w = bind_ok (good NoFlow (is_good_kind k.0.0) k.0.0) (λ w. Ok (w, k.0.1)) x k.2 in
    let within = good_ok (is_good_kind k.0.0) NoFlow k.0.0 w.0 w.1 in
    let byte = byte_begins bytes b.0 are b.1 in
    let fields = fields_begin b.0.0 b.0.1 k.0 byte.0.rest_fits k.1 in
    let front : Begins bytes (kind_byte k.0.0 ∷ []) b.0.1 = subst (λ (n : ℕ). Begins bytes (n ∷ []) b.0.1) fields.2 byte.0 in
    let whole = Begins-then _ _ _ _ _ front fields.0 in
    let spelled : Begins bytes (kind_spelling k.0.0) k.0.1 = subst (λ (t : List ℕ). Begins bytes t k.0.1) (kind_text-is k.0.0) whole in
    subst (λ (y : FlowKind × List ℕ). Begins bytes (kind_spelling y.0) y.1 × IsGoodKind y.0) (ap (λ (v : FlowKind). (v, k.0.1)) within.1 ∙ ok_is (w.0, k.0.1) x w.2) (spelled, (fields.1, within.0))

kind_again : (kind : FlowKind) (rest : List ℕ) → IsGoodKind kind → kind_at (kind_spelling kind ++ rest) ≡ Ok (kind, rest)
unfolding kind_at
kind_again kind rest is =
    ap (λ (t : List ℕ). kind_at (t ++ rest)) (sym (kind_text-is kind)) ∙ rw (fields_again kind rest is.0, is.1) refl

-- ---- the last accepted request

abbrev IsSent : List ℕ → Option ℕ × List ℕ → Type 0
IsSent bytes y = Begins bytes (sent_spelling y.0) y.1 × FitsSent y.0

sent_begins : (bytes : List ℕ) (x : Option ℕ × List ℕ) → AreBytes bytes → sent_at bytes ≡ Ok x → Begins bytes (sent_spelling x.0) x.1 × FitsSent x.0
unfolding sent_at
sent_begins bytes x are e = let b = bind_ok (byte_at bytes) (λ b. sent_by b.0 b.1) x e in by b.0 (byte_begins bytes b.0 are b.1).0 (b.0.0 == 0) refl (b.0.0 == 1) refl b.2
  where
    by : (b : ℕ × List ℕ) → Begins bytes (b.0 ∷ []) b.1 → (n : Bool) → (b.0 == 0) ≡ n → (o : Bool) → (b.0 == 1) ≡ o → cond n (Ok (None, b.1)) (cond o (some_sent_at b.1) (Err NoFlow)) ≡ okay x → IsSent bytes x
    by b begins true none o _ e = subst (IsSent bytes) (ok_is (None, b.1) x e) (subst (λ (n : ℕ). Begins bytes (n ∷ []) b.1) (eqb-true b.0 0 none) begins, tt)
    by b begins false _ true some e =
        let s = bind_ok (number_8_at b.1) (λ s. Ok (Some s.0, s.1)) x e in
        let sent = begins_8 b.1 s.0 begins.rest_fits s.1 in
        let front : Begins bytes (1 ∷ []) b.1 = subst (λ (n : ℕ). Begins bytes (n ∷ []) b.1) (eqb-true b.0 1 some) begins in
        subst (IsSent bytes) (ok_is (Some s.0.0, s.0.1) x s.2) (Begins-then _ _ _ _ _ front sent.0, sent.1)
    by b begins false _ false _ e = absurd cc

sent_again : (sent : Option ℕ) (rest : List ℕ) → FitsSent sent → sent_at (sent_spelling sent ++ rest) ≡ Ok (sent, rest)
unfolding sent_at
sent_again None rest fits = refl
sent_again (Some sent) rest fits = rw (again_8 sent rest fits) refl

-- ---- flows

abbrev flow : Lease → FlowKind → ℕ → Option ℕ → Flow
flow lease kind due sent = record { lease = lease; kind = kind; due = due; last_sent = sent }

-- the n-th lease is of SID n
abbrev pub AreNumbered : List Lease → Type 0
AreNumbered leases = (place : ℕ) (l : Lease) → slice_get leases place ≡ Some l → l.sid ≡ place + 1

-- a flow of a table with these leases that is read
pub record IsFlow (leases : List Lease) (f : Flow) : Type 0 where
  pub fits : FitsFlow f
  pub leased : lease_of_sid leases f.lease.sid ≡ Some f.lease
  pub within : is_good_kind f.kind ≡ true

found_ok : (ch : ℕ) (o : Option Lease) (l : Lease) → lease_found ch o ≡ Ok l → o ≡ Some l
found_ok ch (Some a) l e = ap (λ (x : Lease). Some x) (ok_is a l e)
found_ok ch None l e = absurd cc

positive : (n : ℕ) → (n == 0) ≡ false → 1 ≤ n
positive zero e = absurd cc
positive (suc n) e = omega arith

lease_sid : (leases : List Lease) (sid : ℕ) (l : Lease) → AreNumbered leases → lease_of_sid leases sid ≡ Some l → l.sid ≡ sid
lease_sid leases sid l numbered e = by (sid == 0) refl e
  where
    by : (b : Bool) → (sid == 0) ≡ b → cond b None (slice_get leases (sid - 1)) ≡ Some l → l.sid ≡ sid
    by true _ e = absurd cc
    by false other e = let some : 1 ≤ sid = positive sid other in omega (arith, numbered (sid - 1) l e)

pub flow_begins : (ch : ℕ) (leases : List Lease) → AreNumbered leases → (bytes : List ℕ) (x : Flow × List ℕ) → AreBytes bytes → flow_at ch leases bytes ≡ Ok x
    → Begins bytes (flow_spelling x.0) x.1 × IsFlow leases x.0
unfolding flow_at
flow_begins ch leases numbered bytes x are e =
    let s = bind_ok (number_2_at bytes) (λ s. lease_found ch (lease_of_sid leases s.0) >>= λ l. kind_at s.1 >>= λ k. number_8_at k.1 >>= λ d. sent_at d.1 >>= λ t. Ok (flow l k.0 d.0 t.0, t.1)) x e in
    let l = bind_ok (lease_found ch (lease_of_sid leases s.0.0)) (λ l. kind_at s.0.1 >>= λ k. number_8_at k.1 >>= λ d. sent_at d.1 >>= λ t. Ok (flow l k.0 d.0 t.0, t.1)) x s.2 in
    let k = bind_ok (kind_at s.0.1) (λ k. number_8_at k.1 >>= λ d. sent_at d.1 >>= λ t. Ok (flow l.0 k.0 d.0 t.0, t.1)) x l.2 in
    let d = bind_ok (number_8_at k.0.1) (λ d. sent_at d.1 >>= λ t. Ok (flow l.0 k.0.0 d.0 t.0, t.1)) x k.2 in
    let t = bind_ok (sent_at d.0.1) (λ t. Ok (flow l.0 k.0.0 d.0.0 t.0, t.1)) x d.2 in
    let found = found_ok ch (lease_of_sid leases s.0.0) l.0 l.1 in
    let same : l.0.sid ≡ s.0.0 = lease_sid leases s.0.0 l.0 numbered found in
    let sid = begins_2 bytes s.0 are s.1 in
    let kind = kind_begins s.0.1 k.0 sid.0.rest_fits k.1 in
    let due = begins_8 k.0.1 d.0 kind.0.rest_fits d.1 in
    let sent = sent_begins d.0.1 t.0 due.0.rest_fits t.1 in
    let front : Begins bytes (number_2 l.0.sid) s.0.1 = subst (λ (n : ℕ). Begins bytes (number_2 n) s.0.1) (sym same) sid.0 in
    let whole = Begins-then _ _ _ _ _ front (Begins-then _ _ _ _ _ kind.0 (Begins-then _ _ _ _ _ due.0 sent.0)) in
    subst (λ (y : Flow × List ℕ). Begins bytes (flow_spelling y.0) y.1 × IsFlow leases y.0) (ok_is (flow l.0 k.0.0 d.0.0 t.0.0, t.0.1) x t.2)
    (whole, record { fits = record { sid = subst (λ (n : ℕ). n < 2 ^ 16) (sym same) sid.1; kind = kind.1.0; due = due.1; sent = sent.1 }; leased = ap (lease_of_sid leases) same ∙ found; within = kind.1.1 })

pub flow_again : (ch : ℕ) (leases : List Lease) (f : Flow) (rest : List ℕ) → IsFlow leases f → flow_at ch leases (flow_spelling f ++ rest) ≡ Ok (f, rest)
unfolding flow_at
flow_again ch leases f rest is =
    let sent : List ℕ = sent_spelling f.last_sent ++ rest in
    let due : List ℕ = number_8 f.due ++ sent in
    let kind : List ℕ = kind_spelling f.kind ++ due in
    let regrouped : flow_spelling f ++ rest ≡ number_2 f.lease.sid ++ kind = append_assoc (number_2 f.lease.sid) _ rest ∙ ap (λ (t : List ℕ). number_2 f.lease.sid ++ t) (append_assoc (kind_spelling f.kind) _ rest
    ∙ ap (λ (t : List ℕ). kind_spelling f.kind ++ t) (append_assoc (number_8 f.due) (sent_spelling f.last_sent) rest)) in
    ap (flow_at ch leases) regrouped ∙ rw (again_2 f.lease.sid kind is.fits.sid, is.leased, kind_again f.kind due (is.fits.kind, is.within), again_8 f.due sent is.fits.due, sent_again f.last_sent rest is.fits.sent) refl

-- ---- requests

abbrev request : (sid n sent : ℕ) → Waiting
request sid n sent = record { sid = sid; n = n; sent = sent }

-- a request that is read
pub record IsRequest (w : Waiting) : Type 0 where
  pub fits : FitsRequest w
  pub within : is_size w.n ≡ true

pub request_begins : (bytes : List ℕ) (x : Waiting × List ℕ) → AreBytes bytes → request_at bytes ≡ Ok x → Begins bytes (request_spelling x.0) x.1 × IsRequest x.0
unfolding request_at
request_begins bytes x are e =
    let s = bind_ok (number_2_at bytes) (λ s. number_2_at s.1 >>= λ n. good NoRequest (is_size n.0) n.0 >>= λ w. number_8_at n.1 >>= λ t. Ok (request s.0 w t.0, t.1)) x e in
    let n = bind_ok (number_2_at s.0.1) (λ n. good NoRequest (is_size n.0) n.0 >>= λ w. number_8_at n.1 >>= λ t. Ok (request s.0.0 w t.0, t.1)) x s.2 in
    let w = bind_ok (good NoRequest (is_size n.0.0) n.0.0) (λ w. number_8_at n.0.1 >>= λ t. Ok (request s.0.0 w t.0, t.1)) x n.2 in
    let t = bind_ok (number_8_at n.0.1) (λ t. Ok (request s.0.0 w.0 t.0, t.1)) x w.2 in
    let within = good_ok (is_size n.0.0) NoRequest n.0.0 w.0 w.1 in
    let sid = begins_2 bytes s.0 are s.1 in
    let size = begins_2 s.0.1 n.0 sid.0.rest_fits n.1 in
    let sent = begins_8 n.0.1 t.0 size.0.rest_fits t.1 in
    let whole = Begins-then _ _ _ _ _ sid.0 (Begins-then _ _ _ _ _ size.0 sent.0) in
    subst (λ (y : Waiting × List ℕ). Begins bytes (request_spelling y.0) y.1 × IsRequest y.0) (ap (λ (m : ℕ). (request s.0.0 m t.0.0, t.0.1)) within.1 ∙ ok_is (request s.0.0 w.0 t.0.0, t.0.1) x t.2)
    (whole, record { fits = record { sid = sid.1; n = size.1; sent = sent.1 }; within = within.0 })

pub request_again : (w : Waiting) (rest : List ℕ) → IsRequest w → request_at (request_spelling w ++ rest) ≡ Ok (w, rest)
unfolding request_at
request_again w rest is =
    let sent : List ℕ = number_8 w.sent ++ rest in
    let n : List ℕ = number_2 w.n ++ sent in
    let regrouped : request_spelling w ++ rest ≡ number_2 w.sid ++ n = simp append_assoc in
    ap request_at regrouped ∙ rw (again_2 w.sid n is.fits.sid, again_2 w.n sent is.fits.n, is.within, again_8 w.sent rest is.fits.sent) refl

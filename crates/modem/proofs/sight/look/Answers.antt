use Rattle.std.proofs.Common.{ℕ, map, subst, sym, ◌∙◌}
use Rattle.modem.specs.KeptIntervals.{kept_interval}
use Rattle.modem.specs.Sights.{IsFew, IsSeen}
use Rattle.modem.proofs.Sights.{AreSights-with}
use Rattle.modem.proofs.Windows.{still_past}
use Rattle.modem.proofs.sight.look.Goals as goal

pub returns-then-at-last-clause-seen : goal.returns-then-at-last-clause-seen
returns-then-at-last-clause-seen c =
    let grants = map kept_interval c.args.grants.now.items in
    let opens = map kept_interval c.args.shared.now.items in
    let last = c.find-last.result in
    let holds = c.find-last.ensures.holds c.args.channels c.args.grants.now.items c.args.shared.now.items (rw c.as_slice.ensures.value c.requires.known.sights) in
    subst (λ (ch : ℕ). IsSeen c.args.channels grants opens ch c.args.«at» last.counted last.is_open) c.find-last.ensures.channel (holds.seen c.args.«at» c.find-last.ensures.from c.if-at-last.true)

pub renewed-known-requires-clause-holds : goal.renewed-known-requires-clause-holds
renewed-known-requires-clause-holds c =
    c.find-last.ensures.holds c.args.channels c.args.grants.now.items c.args.shared.now.items (rw c.as_slice.ensures.value c.requires.known.sights)

pub anew-sight-requires-clause-past_grants : goal.anew-sight-requires-clause-past_grants
anew-sight-requires-clause-past_grants c =
    let known = c.renewed-known.result in
    rw c.as_slice-2.ensures.value (still_past known.channel known.from c.args.«at» known.past_grants c.renewed-known.new.grants.items c.renewed-known.ensures.from c.renewed-known.ensures.holds.past_grants)

pub anew-sight-requires-clause-past_open : goal.anew-sight-requires-clause-past_open
anew-sight-requires-clause-past_open c =
    let known = c.renewed-known.result in
    rw c.as_slice-3.ensures.value (still_past known.channel known.from c.args.«at» known.past_open c.renewed-known.new.shared.items c.renewed-known.ensures.from c.renewed-known.ensures.holds.past_open)

pub returns-clause-known : goal.returns-clause-known
returns-clause-known c =
    let known = c.renewed-known in
    let holds = rw (c.as_slice-2.ensures.value, c.as_slice-3.ensures.value) at c.anew-sight.ensures.holds in
    record {
      grants = known.ensures.known.grants;
      opens = known.ensures.known.opens;
      sights = rw c.set.ensures (AreSights-with c.args.channels known.new.grants.items known.new.shared.items c.anew-sight.result known.new.sights.items known.ensures.known.sights (holds c.args.channels known.ensures.holds.few));
    }

pub returns-clause-grants_held : goal.returns-clause-grants_held
returns-clause-grants_held c = λ at_ch m sid iuc late.
    c.renewed-known.ensures.grants_held at_ch m sid iuc (λ same. late (sym c.find-last.ensures.channel ∙ same))

pub returns-clause-opens_held : goal.returns-clause-opens_held
returns-clause-opens_held c = λ at_ch m sid iuc late.
    c.renewed-known.ensures.opens_held at_ch m sid iuc (λ same. late (sym c.find-last.ensures.channel ∙ same))

pub returns-clause-seen : goal.returns-clause-seen
returns-clause-seen c =
    let known = c.renewed-known in
    let grants = map kept_interval known.new.grants.items in
    let opens = map kept_interval known.new.shared.items in
    let seen = rw (c.as_slice-2.ensures.value, c.as_slice-3.ensures.value) at c.anew-sight.ensures.seen in
    let few : IsFew c.args.channels known.result.channel c.args.«at» grants opens = subst (λ (ch : ℕ). IsFew c.args.channels ch c.args.«at» grants opens) (sym known.ensures.channel) known.ensures.few in
    subst (λ (ch : ℕ). IsSeen c.args.channels grants opens ch c.args.«at» c.anew-sight.result.counted c.anew-sight.result.is_open) (known.ensures.channel ∙ c.find-last.ensures.channel) (seen c.args.channels few)

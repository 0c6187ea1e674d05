-- Sights hold up to the next edge.
use Rattle.std.proofs.Common.{◌≡◌, ℕ, ◌<◌, Bool, true, cond, ◌==◌, List, map, length, get_or, sym, subst, ap, ◌∙◌}
use Rattle.std.proofs.Common.{arith, ◌↔◌, Option}
use Rattle.std.proofs.lemmas.List.Elements.{All-map}
use Rattle.std.proofs.lemmas.Bool.{cond_both}
use Rattle.std.proofs.lemmas.List.{length-map}
use Rattle.map_body.specs.Sids.{everybody}
use Rattle.modem.specs.declared.kept.KeptInterval.{KeptInterval}
use Rattle.modem.specs.declared.sight.Sight.{Sight}
use Rattle.modem.specs.declared.known.Channel.{Channel}
use Rattle.modem.specs.State.{Kept, HasAt, with_channel}
use Rattle.modem.specs.KeptIntervals.{kept_interval}
use Rattle.modem.specs.Ticks.{Counts}
use Rattle.modem.specs.Idle.{HasSame}
use Rattle.modem.specs.Sights.{IsFew, IsSeen, Holds, AreSights, with_sight, nowhere, forgotten}
use Rattle.modem.proofs.AtKept.{Counts-same}
use Rattle.modem.proofs.Windows.{none_past}

-- a sight that holds nowhere, and a time up to which few intervals are old
pub Holds-begun : (n : ℕ) (grants opens : List KeptInterval) (ch until : ℕ) → ((m : ℕ) → m < until → IsFew n ch m (map kept_interval grants) (map kept_interval opens)) → Holds n grants opens (record (nowhere ch) { few_until = until })
Holds-begun n grants opens ch until few = record {
  seen = λ m from before. absurd (omega (arith, before));
  few = few;
  past_grants = none_past ch 0 grants;
  past_open = none_past ch 0 opens;
}

pub Holds-nowhere : (n : ℕ) (grants opens : List KeptInterval) (ch : ℕ) → Holds n grants opens (nowhere ch)
Holds-nowhere n grants opens ch = Holds-begun n grants opens ch 0 (λ m before. absurd (omega (arith, before)))

pub AreSights-forgotten : (n : ℕ) (grants opens : List KeptInterval) (ss : List Sight) → AreSights n grants opens (map forgotten ss)
AreSights-forgotten n grants opens ss =
    All-map (Holds n grants opens) forgotten ss (λ i d lt. Holds-nowhere n grants opens (get_or ss i d).channel)

-- one in place of those of its channel
pub AreSights-with : (n : ℕ) (grants opens : List KeptInterval) (row : Sight) (ss : List Sight) → AreSights n grants opens ss → Holds n grants opens row → AreSights n grants opens (with_sight row ss)
AreSights-with n grants opens row ss all holds =
    All-map (Holds n grants opens) (λ s. cond (s.channel == row.channel) row s) ss
    (λ i d lt. cond_both ((get_or ss i d).channel == row.channel) row (get_or ss i d) (Holds n grants opens) (λ _. holds) (λ _. all i d lt))

-- what is seen at a minislot is seen at a later one that has the same
pub IsSeen-same : (n ch m x : ℕ) (grants opens : List Kept) (counted : Option (ℕ × ℕ)) (is_open : Bool) → Counts grants ch m counted → ((is_open ≡ true) ↔ HasAt opens ch m everybody 1) → HasSame grants ch m x → HasSame opens ch m x → IsFew n ch x grants opens → IsSeen n grants opens ch x counted is_open
IsSeen-same n ch m x grants opens counted is_open counts shared own common few =
    let there = common everybody 1 in
    record {
      counts = Counts-same grants grants ch m x counted own counts;
      shared = (λ h. there.1 (shared.0 h), λ h. shared.1 (there.0 h));
      few = few;
    }

-- sights hold on where a row of the channels is put in place
pub AreSights-moved : (n : ℕ) (grants opens : List KeptInterval) (ss : List Sight) (row : Channel) (channels now : List Channel) → n ≡ length channels → now ≡ with_channel row channels → AreSights n grants opens ss → AreSights (length now) grants opens ss
AreSights-moved n grants opens ss row channels now size made all =
    let same : length now ≡ length channels = ap length made ∙ length-map channels (λ (d : Channel). cond (d.id == row.id) row d) in
    subst (λ (k : ℕ). AreSights k grants opens ss) (size ∙ sym same) all

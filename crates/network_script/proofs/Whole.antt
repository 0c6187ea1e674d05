-- The headline, from its parts.
use Rattle.ballots.proofs.Callers.{agreement}
use Rattle.command_log.specs.Values.{Owner}
use Rattle.network_script.specs.Headline.{OfEveryRun, WithSchedule, HoldersAreOne, SentByOwner, Headline}
use Rattle.network_script.proofs.Runs.{history_legal, learned_is_chosen}
use Rattle.network_script.proofs.Schedule.{one_schedule, gapless_is_beginning, released_is_output, maps_are_one}
use Rattle.network_script.proofs.Schedule.{covers_once}
pub use Rattle.network_script.proofs.Owners.{held_is_owned, modems_are_named, owners_are_one, sent_is_held}

pub holders_are_one : OfEveryRun HoldersAreOne
holders_are_one members ids script report w run i j id other ch m sid sid' a b =
    let c = one_schedule members ids script report w run in
    owners_are_one members ids script report w run c.0 c.1 ch m id other (held_is_owned members ids script report w run c.0 c.1 i id ch m sid a) (held_is_owned members ids script report w run c.0 c.1 j other ch m sid' b)

pub sent_by_owner : OfEveryRun (WithSchedule SentByOwner)
sent_by_owner members ids script report w run c schedule x sid there unicast =
    let h = sent_is_held members ids script report w run x sid there unicast in
    let mine : Owner c x.channel x.slot h.0 = held_is_owned members ids script report w run c schedule x.modem h.0 x.channel x.slot sid h.1 in
    (h.0, h.1.named, mine, λ other own. owners_are_one members ids script report w run c schedule x.channel x.slot other h.0 own mine)

pub headline : Headline
headline members ids script report w run =
    let s = one_schedule members ids script report w run in
    let legal = history_legal members ids script report w run in (
      s.0,
      record {
        schedule = s.1;
        no_other = s.2;
        legal = legal;
        chosen = λ p v v' a b. agreement members w.history p v v' legal a b;
        learned = learned_is_chosen members ids script report w run;
        gapless = gapless_is_beginning members ids script report w run s.0 s.1;
        released = released_is_output members ids script report w run s.0 s.1;
        maps = maps_are_one members ids script report w run;
        covers = covers_once members ids script report w run s.0 s.1;
        held = held_is_owned members ids script report w run s.0 s.1;
        owners = owners_are_one members ids script report w run s.0 s.1;
        holders = holders_are_one members ids script report w run;
        sent = sent_is_held members ids script report w run;
        by_owner = sent_by_owner members ids script report w run s.0 s.1;
      },
    )

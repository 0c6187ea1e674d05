use Rattle.std.proofs.Common.{refl}
use Rattle.hosts.proofs.SlotLemmas.{slot_after, slot_other_after}
use Rattle.hosts.proofs.host.Host.act_after.Goals as goal

pub returns : goal.returns
returns g c =
    let host = c.args.self.now in
    record {
      before = host.after;
      after = c.act_within.new.seat;
      was = slot_after host.number host.before host.own host.after;
      is = slot_after host.number host.before host.own c.act_within.new.seat;
      beyond = c.act_within.ensures.beyond;
      acts = c.act_within.ensures.acts;
      others = λ f differ. slot_other_after host.number host.before host.own host.after c.act_within.new.seat f differ;
      rest = record { opens = refl; places = refl; number = refl; taken = refl; cursor = refl; scheduler = refl; states = refl; before = refl };
    }

use Rattle.std.proofs.Common.{refl}
use Rattle.hosts.proofs.SlotLemmas.{slot_other_own, slot_own}
use Rattle.hosts.proofs.host.Host.act_own.Goals as goal

pub returns : goal.returns
returns g c =
    let host = c.args.self.now in
    record {
      before = host.own;
      after = c.act_within.new.seat;
      was = slot_own host.number host.before host.own host.after;
      is = slot_own host.number host.before c.act_within.new.seat host.after;
      beyond = c.act_within.ensures.beyond;
      acts = c.act_within.ensures.acts;
      others = λ f differ. slot_other_own host.number host.before host.own c.act_within.new.seat host.after f differ;
      rest = record { opens = refl; places = refl; number = refl; taken = refl; cursor = refl; scheduler = refl; states = refl; before = refl };
    }

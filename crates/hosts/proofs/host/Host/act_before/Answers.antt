use Rattle.std.proofs.Common.{◌≡◌, ◌∙◌, Some, None, ap, arith, false, refl, sym, true}
use Rattle.std.specs.Prelude.{is_some}
use Rattle.hosts.proofs.SlotLemmas.{slot_before, slot_other_before}
use Rattle.hosts.proofs.host.Host.act_before.Goals as goal

pub returns-in_default : goal.returns-in_default
returns-in_default g c e is =
    let host = c.args.self.now in
    let none : host.before ≡ None = cc in
    let wrong : true ≡ false = sym c.requires ∙ ap (λ x. is_some x) none in
    absurd (cc (wrong))

pub returns : goal.returns
returns g c e is =
    let host = c.args.self.now in
    let there : host.before ≡ Some c.in-Some.before = cc in
    record {
      before = c.in-Some.before;
      after = c.act_within.new.seat;
      was = slot_before host.number host.before host.own host.after e is ∙ there;
      is = slot_before host.number (Some c.act_within.new.seat) host.own host.after e is;
      beyond = c.act_within.ensures.beyond;
      acts = c.act_within.ensures.acts;
      others = λ f differ. slot_other_before host.number host.before (Some c.act_within.new.seat) host.own host.after f
          (λ same. differ (omega (arith, same, is)));
      rest = record { opens = refl; places = refl; number = refl; taken = refl; cursor = refl; scheduler = refl; states = refl; before = sym (ap (λ x. is_some x) there) };
    }

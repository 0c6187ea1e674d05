use Rattle.std.proofs.Common.{inl, inr, refl, rules, subst, sym}
use Rattle.seats.specs.Acted.{ask_of, letters_of, outputs_of}
use Rattle.seats.specs.Acts.{Acts}
use Rattle.seats.specs.declared.answer.Answer.{Answer}
use Rattle.network_script.proofs.Places.{numbered_set}
use Rattle.network_script.proofs.world.World.ask.Goals as goal

pub returns-then-k-len : goal.returns-then-k-len
returns-then-k-len g c = inl (search rules, refl, (refl, refl, refl, refl))

pub invariant_of-self : goal.invariant_of-self
invariant_of-self g c =
    let seat = c.index_mut-seat.result.now in
    let acted = c.act-acted.result in
    let done = subst (λ (a : Answer). Acts seat (ask_of c.args.asked) a (letters_of acted) (outputs_of acted) c.act-acted.new.self) (sym c.told-told.ensures) c.act-acted.ensures in
    record { numbered = numbered_set c.args.self.now.seats.items c.args.k seat c.settle.new.self c.index_mut-seat.ensures.value (c.settle.ensures.settles seat (ask_of c.args.asked) (letters_of acted) (outputs_of acted) done).same c.args.self.now.numbered }

pub returns : goal.returns
returns g c =
    let seat = c.index_mut-seat.result.now in
    let acted = c.act-acted.result in
    let done = subst (λ (a : Answer). Acts seat (ask_of c.args.asked) a (letters_of acted) (outputs_of acted) c.act-acted.new.self) (sym c.told-told.ensures) c.act-acted.ensures in
    inr (record {
      before = seat;
      after = c.settle.new.self;
      letters = _;
      outputs = _;
      acts = c.settle.ensures.settles seat (ask_of c.args.asked) (letters_of acted) (outputs_of acted) done;
      within = search rules;
      at = c.index_mut-seat.ensures.value;
      seats = refl;
      sent = c.keep-kept.ensures.sent;
      released = c.keep-kept.ensures.released;
      receivers = refl;
    })

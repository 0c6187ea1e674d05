use Rattle.std.proofs.Common.{◌∙◌, inl, inr, refl, rules, subst, sym}
use Rattle.seats.specs.Acted.{ask_of, letters_of, outputs_of}
use Rattle.seats.specs.Acts.{Acts}
use Rattle.seats.specs.Moves.{Ask}
use Rattle.seats.specs.declared.answer.Answer.{Answer}
use Rattle.network_script.specs.Next.{taking}
use Rattle.network_script.proofs.Places.{numbered_set}
use Rattle.network_script.proofs.world.World.deliver.Goals as goal

pub returns-then-i-len : goal.returns-then-i-len
returns-then-i-len g c = inl (search rules, refl, (refl, refl, refl, refl))

pub returns-then-k-len : goal.returns-then-k-len
returns-then-k-len g c =
    inr (c.index-letter.result.now, c.from-k.result, search rules, c.index-letter.ensures, c.from-k.ensures ∙ c.number.ensures.same, inl (search rules, refl, (refl, refl, refl, refl)))

pub invariant_of-self-2 : goal.invariant_of-self-2
invariant_of-self-2 g c =
    let seat = c.index_mut-seat.result.now in
    let acted = c.act-acted.result in
    let done = subst (λ (a : Answer). Acts seat (ask_of c.taking.result) a (letters_of acted) (outputs_of acted) c.act-acted.new.self) (sym c.told-told.ensures) c.act-acted.ensures in
    record { numbered = numbered_set c.args.self.now.seats.items c.from-k.result seat c.settle.new.self c.index_mut-seat.ensures.value (c.settle.ensures.settles seat (ask_of c.taking.result) (letters_of acted) (outputs_of acted) done).same c.args.self.now.numbered }

pub returns : goal.returns
returns g c =
    let seat = c.index_mut-seat.result.now in
    let acted = c.act-acted.result in
    let done = subst (λ (a : Answer). Acts seat (ask_of c.taking.result) a (letters_of acted) (outputs_of acted) c.act-acted.new.self) (sym c.told-told.ensures) c.act-acted.ensures in
    let ask = taking c.args.crashes c.index-letter.result.now in
    let asked = subst (λ (a : Ask). Acts seat a c.told-told.result (letters_of acted) (outputs_of acted) c.act-acted.new.self) c.taking.ensures done in
    inr (
      c.index-letter.result.now,
      c.from-k.result,
      search rules,
      c.index-letter.ensures,
      c.from-k.ensures ∙ c.number.ensures.same,
      inr (record {
        before = seat;
        after = c.settle.new.self;
        letters = _;
        outputs = _;
        acts = c.settle.ensures.settles seat ask (letters_of acted) (outputs_of acted) asked;
        within = search rules;
        at = c.index_mut-seat.ensures.value;
        seats = refl;
        sent = c.keep-kept.ensures.sent;
        released = c.keep-kept.ensures.released;
        receivers = refl;
      }),
    )

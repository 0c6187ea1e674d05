use Rattle.std.proofs.Common.{◌≡◌, ◌∙◌, ◌+◌, ◌≤◌, None, Some, ap, arith, false, refl, sym, true}
use Rattle.std.specs.Prelude.{is_some}
use Rattle.epochs.specs.Scheduling.{SchedulerView}
use Rattle.hosts.specs.Joining.{IsReadyFor}
use Rattle.hosts.specs.Shifting.{Stays}
use Rattle.hosts.specs.States.{StatesView}
use Rattle.hosts.proofs.Entered.{enters}
use Rattle.hosts.proofs.Joining.{epoch_within}
use Rattle.hosts.proofs.host.Host.begin.Goals as goal

pub invariant_of-self : goal.invariant_of-self
invariant_of-self g c =
    let old = c.args.self.now in
    let mid = c.ready_for.new.self in
    let places : mid.places ≡ old.places = c.ready_for.ensures.stays.places in
    let applied : c.opened.result.applied ≡ c.args.head.now.before = ap (λ (s : SchedulerView). s.applied) c.opened.ensures in
    let epoch : c.args.head.now.epoch ≤ c.args.head.now.before + 1 = epoch_within old c.args.head.now c.requires old.some in
    let none : is_some c.set_own.new.self.next ≡ false = ap (λ (s : StatesView). is_some s.next) c.set_own.ensures in
    record {
      some = mid.some;
      first = omega (arith, c.requires.above);
      window = λ has. omega (arith, c.requires.above, old.first);
      within = omega arith;
      numbered = omega (arith, applied, epoch);
      room = omega (arith, applied, c.requires.of.room, c.requires.of.places, places);
      given = omega (arith, applied);
      who = c.let_go.ensures.keeps.member ∙ mid.who ∙ ap (λ (s : StatesView). (s.id, s.members)) (sym c.set_own.ensures);
      full = λ has. (let wrong : false ≡ true = sym none ∙ has in absurd (cc (wrong)));
      ready = λ full. absurd (omega (arith, full, mid.some));
    }

pub returns-clause-ok : goal.returns-clause-ok
returns-clause-ok g c =
    let old = c.args.self.now in
    let mid = c.ready_for.new.self in
    let bytes = c.in_ok-bytes.bytes in
    let opened = c.in_ok-bytes.opened in
    let ready : IsReadyFor old c.args.head.now c.args.machine bytes.items opened mid = c.in_ok-bytes.ensures.ready in
    let stays : Stays old mid = c.ready_for.ensures.stays in
    record {
      enters = enters old mid _ c.args.head.now.epoch opened stays c.let_go.ensures.keeps refl ready.nodes c.enter.ensures;
      places = stays.places;
      taken = refl;
      cursor = refl;
      scheduler = c.opened.ensures;
      state = (
        bytes.items,
        ready.made,
        c.set_own.ensures ∙ ap (λ (x : StatesView). record x { own = Some bytes.items; next = None }) stays.states,
        record { opened = ready.behind; stored = mid.opens; opens = ready.opens; keeps = ready.keeps; lets_go = c.let_go.ensures.gone },
      );
    }

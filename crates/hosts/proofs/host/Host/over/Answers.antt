use Rattle.std.proofs.Common.{◌≡◌, ◌∙◌, ◌+◌, ◌≤◌, ap, arith, false, sym, true}
use Rattle.std.specs.Prelude.{is_some}
use Rattle.epochs.specs.Scheduling.{SchedulerView}
use Rattle.hosts.specs.States.{StatesView}
use Rattle.hosts.proofs.Starts.{start_some, start_within}
use Rattle.hosts.proofs.host.Host.over.Goals as goal

pub invariant_of-result : goal.invariant_of-result
invariant_of-result g c =
    let head = c.args.start.head in
    let can = c.requires.can in
    let has = c.requires.states in
    let applied : c.opened.result.applied ≡ head.before = ap (λ (s : SchedulerView). s.applied) c.opened.ensures in
    let epoch : head.epoch ≤ head.before + 1 = start_within head can in
    let none : is_some c.args.states.next ≡ false = ap (λ (s : StatesView). is_some s.next) has.is in
    record {
      some = can.few.some;
      first = start_some head can;
      window = c.requires.before;
      within = omega arith;
      numbered = omega (arith, applied, epoch);
      room = omega (arith, applied, can.of.room);
      given = omega (arith, applied);
      who = ap (λ (s : StatesView). (s.id, s.members)) (sym has.is);
      full = λ there. (let wrong : false ≡ true = sym none ∙ there in absurd (cc (wrong)));
      ready = λ full. absurd (omega (arith, full, can.few.some));
    }

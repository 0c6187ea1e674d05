use Rattle.std.proofs.Common.{◌≡◌, ◌∷◌, [], Some, slice_get, subst, sym, refl, rules, take, length, ◌∙◌, is_ok, true}
use Rattle.std.proofs.Common.{ap, ◌+◌, arith}
use Rattle.std.proofs.lemmas.List.{take_all}
use Rattle.network_script.proofs.Joining.{along_on}
use Rattle.std.proofs.lemmas.Option.{slice_get_read}
use Rattle.network_script.proofs.Places.{standings_length, trust_same, trust_then}
use Rattle.network_script.proofs.world.World.run.Goals as goal
use Rattle.network_script.specs.Counts.{CountNext}
use Rattle.network_script.specs.Next.{Next, Goes}
use Rattle.network_script.specs.Outward.{SeenNext}
use Rattle.network_script.specs.World.{Written}
use Rattle.network_script.specs.Worlds.{written}

pub loop-event-init : goal.loop-event-init
loop-event-init g c = record {
  room = search rules;
  count = search rules;
  honesty = λ all. all;
  trust = trust_same _;
  members = refl;
  run = λ all nodes modems history each hold. (nodes, modems, history, each, hold, rw c.in_ok-answers.ensures.items refl);
  seen = λ modems hold. (modems, rw c.in_ok-answers.ensures.items refl, hold);
  counted = rw c.in_ok-answers.ensures.items refl;
}

pub loop-event-preserved : goal.loop-event-preserved
loop-event-preserved g c =
    let ok : is_ok c.push.result ≡ true = search rules in
    record {
      room = search rules;
      count = rw ok at c.push.ensures.len ∙ ap (λ n. n + 1) c.loop-event.invariant.count;
      honesty = λ all. c.loop-event.invariant.honesty (c.happen-answer.ensures.honesty all);
      trust = trust_then _ _ _ c.loop-event.invariant.trust c.happen-answer.ensures.trust;
      members = c.happen-answer.ensures.members ∙ c.loop-event.invariant.members;
      run = λ all nodes modems history each hold.
          let before = c.loop-event.invariant.run (c.happen-answer.ensures.honesty all) nodes modems history each hold in
          let step = c.happen-answer.ensures.next all before.0 before.1 before.2 before.3 before.4 in
          let size : length before.0 ≡ length nodes = standings_length _ _ before.3 ∙ (c.loop-event.invariant.members ∙ sym (standings_length _ _ each)) in
          let items = rw ok at c.push.ensures.items in
          (step.0, step.1, step.2, step.3, step.4, rw items (along_on (Next (length nodes)) _ _ _ c.args.events.now c.loop-event.event-index c.event-item.result _ _ c.loop-event-test.true c.event-item.is before.5 (rw (← size) step.5)));
      seen = λ modems hold.
          let before = c.loop-event.invariant.seen modems hold in
          let step = c.happen-answer.ensures.seen before.0 before.2 in
          let items = rw ok at c.push.ensures.items in
          (step.0, rw items (along_on SeenNext _ _ _ c.args.events.now c.loop-event.event-index c.event-item.result _ _ c.loop-event-test.true c.event-item.is before.1 step.1), step.2);
      counted =
          let items = rw ok at c.push.ensures.items in
          rw items (along_on CountNext _ _ _ c.args.events.now c.loop-event.event-index c.event-item.result _ _ c.loop-event-test.true c.event-item.is c.loop-event.invariant.counted c.happen-answer.ensures.counted);
    }

pub returns-clause-run : goal.returns-clause-run
returns-clause-run g c = λ all w stands.
    let made = c.loop-event.invariant.run all w.nodes w.modems w.history stands.1 stands.2 in
    let whole : take c.loop-event.event-index c.args.events.now ≡ c.args.events.now = take_all _ _ c.loop-event-test.false in
    let w' = written c.loop-event.self made.0 made.1 made.2 in
    let goes : Goes (length w.nodes) (written c.args.self.now w.nodes w.modems w.history) c.args.events.now c.loop-event.answers.items w' = rw (← whole) made.5 in
    (w', rw c.new.ensures (subst (λ (v : Written). Goes (length w.nodes) v c.args.events.now c.loop-event.answers.items w') (sym stands.0) goes), (refl, made.3, made.4))

pub returns-clause-counted : goal.returns-clause-counted
returns-clause-counted g c =
    let whole : take c.loop-event.event-index c.args.events.now ≡ c.args.events.now = take_all _ _ c.loop-event-test.false in
    rw (c.new.ensures, ← whole) c.loop-event.invariant.counted

pub returns-clause-seen : goal.returns-clause-seen
returns-clause-seen g c =
    let whole : take c.loop-event.event-index c.args.events.now ≡ c.args.events.now = take_all _ _ c.loop-event-test.false in
    rw (c.new.ensures, ← whole) c.loop-event.invariant.seen

pub returns-clause-trust : goal.returns-clause-trust
returns-clause-trust g c = c.loop-event.invariant.trust

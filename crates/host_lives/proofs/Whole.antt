-- Hosts that have lived are one log.
use Rattle.std.proofs.Common.{◌≡◌, ℕ, ◌+◌, ◌<◌, ◌≤◌, List, [], length, replicate, refl, sym, ap, subst, ◌∙◌, arith}
use Rattle.std.proofs.Common.{Some, slice_get, Contains}
use Rattle.std.proofs.lemmas.List.{get_or-replicate, length-replicate}
use Rattle.std.proofs.lemmas.Option.{slice_get-get_or}
use Rattle.acceptor.specs.Content.{Content, no_content}
use Rattle.epochs.specs.Epochs.{outputs_over}
use Rattle.epoch_runs.specs.Runs.{EpochsFollowOneLog, FollowOneLog}
use Rattle.flow_state.proofs.Callers.{at_contains, contains_at}
use Rattle.grant_machine.specs.Laws.{InMap}
use Rattle.grant_machine.specs.declared.output.Output.{Output}
use Rattle.grant_machine.specs.declared.output.Output.TheVariants.{Map}
use Rattle.hosts.specs.Views.{HostView}
use Rattle.map_release.specs.declared.numbered.Numbered.{Numbered}
use Rattle.network_script.specs.World.{Written, opening as opening_world}
use Rattle.node.specs.View.{Standing, started}
use Rattle.node.specs.View.Standing.{Running}
use Rattle.host_lives.specs.Beginning.{new_host, nothing}
use Rattle.host_lives.specs.Turns.{HostTurn, outputs_printed, replied}
use Rattle.host_lives.specs.Lives.{HostsAreOneLog, IsOutputOf, IsRunOf}
use Rattle.host_lives.proofs.Knowing.{knows_none, knows_push, world_at, worlds_are, worlds_count, worlds_know}
use Rattle.host_lives.proofs.Knowing.{worlds_of}
use Rattle.host_lives.proofs.Led.{AreTurned, all_turned}
use Rattle.host_lives.proofs.Turned.{AreAt}

-- the worlds of epochs in which nothing was done
abbrev opening_worlds : ℕ → ℕ → Written
opening_worlds members = λ e. opening_world members []

abbrev new_hosts : ℕ → HostView
new_hosts = λ k. new_host

abbrev new_contents : ℕ → ℕ → Content
new_contents = λ k. nothing

-- a node of one of these has done nothing
new_at : (members k : ℕ) (s : Standing) → k < members → slice_get (replicate members s) k ≡ Some s
new_at members k s within = slice_get-get_or (replicate members s) k s (omega (arith, within, length-replicate members s)) ∙ ap (λ (x : Standing). Some x) (get_or-replicate members k s s within)

are_new : (members places : ℕ) → AreAt members places (opening_worlds members) new_contents new_hosts [] 1
are_new members places = record {
  came = λ e. record { script = []; report = []; run = refl };
  nodes = λ j within e. new_at members j (Running (started no_content)) within;
  knows = λ j within. knows_push members (opening_worlds members) [] [] (λ e c is. absurd (cc (is))) (knows_none members (opening_worlds members));
  above = λ j within e far. refl;
  full = λ j within. tt;
  low = λ j within. omega arith;
  told = λ bytes has. absurd (let at = contains_at [] bytes has in cc (at.1));
}

-- outputs of one log with one number are one
one_output : (places : ℕ) (cs : List (List (List ℕ))) (x y : Numbered) → IsOutputOf places cs x → IsOutputOf places cs y → x.place ≡ y.place → x.output ≡ y.output
one_output places cs x y (i, place, at) (j, place', at') same =
    let is : i ≡ j = omega (arith, place, place', same) in
    let one : Some x.output ≡ Some y.output = sym at ∙ ap (slice_get (outputs_over places cs)) is ∙ at' in
    cc (one)

-- and MAPs of it that share a minislot have one number
one_map : (members places : ℕ) (ws : List Written) (cs : List (List (List ℕ))) → FollowOneLog members places ws cs → (x y : Numbered) → IsOutputOf places cs x → IsOutputOf places cs y
    → (ch m start len start' len' : ℕ) (bytes bytes' : List ℕ) → x.output ≡ Map ch start len bytes → y.output ≡ Map ch start' len' bytes'
    → InMap start len m → InMap start' len' m → x.place ≡ y.place
one_map members places ws cs log x y (i, place, at) (j, place', at') ch m start len start' len' bytes bytes' is is' within within' =
    let some : (o p : Output) → o ≡ p → Some o ≡ Some p = λ o p same. ap (λ (z : Output). Some z) same in
    let same : i ≡ j = log.covers i j ch m start len start' len' bytes bytes' (at ∙ some x.output (Map ch start len bytes) is) (at' ∙ some y.output (Map ch start' len' bytes') is') within within' in
    omega (arith, place, place', same)

pub hosts_are_one : EpochsFollowOneLog → HostsAreOneLog
hosts_are_one follow members places happened lived =
    let turns : List HostTurn = replied happened in
    let done : AreTurned members places happened (opening_worlds members) 1 =
    all_turned members places happened (opening_worlds members) new_contents new_hosts [] 1 lived.named lived.lived lived.come lived.told lived.given (are_new members places) in
    let n : ℕ = 1 + length happened in
    let ws : List Written = worlds_of n 1 done.worlds in
    let log = follow members places ws (worlds_are members n 1 done.worlds (λ e. let ran = done.each e in record { script = ran.script; report = ran.report; run = ran.goes })) in
    let printed : (x : Numbered) → Contains (outputs_printed turns) x → IsOutputOf places log.0 x =
    λ x has.
    let is = done.printed x has in
    let out = is.output in
    (out.0, out.1, log.1.outputs is.values (worlds_know members n 1 done.worlds is.values is.few is.knows) out.0 x.output out.2) in (
      ws,
      log.0,
      record {
        runs = λ i w at.
            let ran = done.each (i + 1) in
            subst (λ (x : Written). IsRunOf members (i + 1) happened x) (sym (world_at n 1 done.worlds i w at))
            (record { script = ran.script; report = ran.report; events = ran.events; run = ran.goes; letters = ran.letters });
        whole = λ t e has is. let all = done.whole t e has is in (all.0, subst (λ (m : ℕ). e ≤ m) (sym (worlds_count n 1 done.worlds)) all.1);
        log = log.1;
        printed = printed;
        one = λ x y here there same. one_output places log.0 x y (printed x here) (printed y there) same;
        maps = λ x y here there ch m start len start' len' bytes bytes' is is' within within'.
            one_map members places ws log.0 log.1 x y (printed x here) (printed y there) ch m start len start' len' bytes bytes' is is' within within';
        states = λ bytes has.
            let is = done.states bytes has in
            let few = is.few in
            record { state = is.state; beginning = log.1.learned is.state.passed (worlds_know members n 1 done.worlds is.state.passed (omega (arith, few)) is.knows) };
        again = λ o has.
            let is = done.again o has in
            let has_it = worlds_know members n 1 done.worlds is.values is.few is.knows in
            let at = contains_at (outputs_over places is.values) o is.output in
            at_contains (outputs_over places log.0) at.0 o (log.1.outputs is.values has_it at.0 o at.1);
      },
    )

use Rattle.std.proofs.Common.{subst, sym}
use Rattle.hosts.specs.Opening.{KeepsBeginnings, OpensAll}
use Rattle.hosts.specs.Starting.{HasMade, opened_in, starts_before}
use Rattle.hosts.specs.States.{StatesView}
use Rattle.hosts.proofs.host.Host.started.Goals as goal

pub returns-in-Ok-clause-over : goal.returns-in-Ok-clause-over
returns-in-Ok-clause-over g c =
    let opens = g.O.Opens in
    let start = c.args.start in
    record {
      keeps = subst (λ o. KeepsBeginnings opens.member opens.begins c.args.opens o) (sym c.over.ensures.opens) c.open_start.ensures.keeps;
      opens = subst (λ o. OpensAll opens.opens_node c.args.opens (opened_in start.head.epoch (starts_before start)) o) (sym c.over.ensures.opens) c.in-Ok.ensures.opens;
      window = c.in-Ok.window;
      found = c.in-Ok.ensures.opened;
      at = c.over.ensures.at;
      places = c.over.ensures.places;
      states = subst (λ (s : StatesView). HasMade (opens.member c.args.opens).0 (opens.member c.args.opens).1 start s) (sym c.over.ensures.states) c.in-Ok.ensures.states;
    }

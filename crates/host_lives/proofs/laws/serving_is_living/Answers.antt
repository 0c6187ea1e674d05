use Rattle.host_lives.proofs.Serving.{life_lived, serving_lives, serving_new}
use Rattle.host_lives.proofs.laws.serving_is_living.Goals as goal

pub returns : goal.returns
returns c c' = record {
  from = serving_lives c.P.Opens.begins c.P.Opens.may_fail c.I.Lines c.O.Outbox;
  new = serving_new c.P.Opens.begins c.P.Opens.may_fail c.I.Lines c.O.Outbox;
  lived = life_lived;
}

use Rattle.modem.proofs.sight.let_go.Goals as goal

pub returns-then-had_grants-clause-known : goal.returns-then-had_grants-clause-known
returns-then-had_grants-clause-known c = record {
  grants = c.let_go_of_many-had_grants.ensures.kept;
  opens = c.let_go_of_many-had_open.ensures.kept;
  sights = c.forget.ensures c.args.channels c.let_go_of_many-had_grants.new.kept.items c.let_go_of_many-had_open.new.kept.items;
}

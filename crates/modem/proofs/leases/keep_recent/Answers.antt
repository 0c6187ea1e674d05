use Rattle.std.proofs.Common.{rules}
use Rattle.std.proofs.lemmas.Fn.{filter_same}
use Rattle.modem.specs.State.{is_recent}
use Rattle.modem.proofs.leases.keep_recent.Goals as goal

pub returns : goal.returns
returns c = filter_same _ (is_recent c.args.ch c.args.clock) _ (λ x b f k. search rules) _ _ c.retain.ensures.filtered

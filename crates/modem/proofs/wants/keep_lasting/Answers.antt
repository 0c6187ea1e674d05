use Rattle.std.proofs.Common.{rules}
use Rattle.std.proofs.lemmas.Fn.{filter_same}
use Rattle.modem.specs.Wants.{is_lasting}
use Rattle.modem.proofs.wants.keep_lasting.Goals as goal

pub returns : goal.returns
returns c = filter_same _ (is_lasting c.args.leases.now c.args.ch c.args.clock) _ (λ x b f k. search rules) _ _ c.retain.ensures.filtered

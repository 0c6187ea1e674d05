use Rattle.std.proofs.Common.{rules, slice_get}
use Rattle.std.proofs.lemmas.Fn.{filter_same}
use Rattle.script_steps.specs.Kept.{is_waiting}
use Rattle.script_steps.proofs.waiting.take_out.Goals as goal

pub returns : goal.returns
returns c = filter_same _ (λ i. is_waiting (slice_get c.args.sent.now i)) _ (λ x b f k. search rules) _ _ c.retain.ensures.filtered

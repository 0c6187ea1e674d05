use Rattle.std.proofs.Common.{arith, ◌∙◌}
use Rattle.std.proofs.lemmas.Result.{IfOk-weaker}
use Rattle.log_ties.proofs.ReadLemmas.{past_frame, sum_is}
use Rattle.log_ties.proofs.tail.sum_behind.Goals as goal

pub overflow_sub-place : goal.overflow_sub-place
overflow_sub-place g c = omega (arith, past_frame c.args.shape.now.page_size c.args.place.frames c.args.place.at c.if-place-eq0.false c.requires.place)

pub overflow_sub-place-2 : goal.overflow_sub-place-2
overflow_sub-place-2 g c = omega (arith, past_frame c.args.shape.now.page_size c.args.place.frames c.args.place.at c.if-place-eq0.false c.requires.place)

pub returns-clause-sum : goal.returns-clause-sum
returns-clause-sum g c =
    IfOk-weaker c.read_sum.result _ _ (λ sum is clean. is clean ∙ sum_is c.args.shape.now.page_size (g.D.Disk.seen c.args.log.now) c.args.place.frames c.args.place.at c.if-place-eq0.false c.requires.place) c.read_sum.ensures.sum

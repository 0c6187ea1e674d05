use Rattle.std.proofs.Common.{arith, subst}
use Rattle.std.proofs.lemmas.Iterator.Consumers.{YieldsList-at}
use Rattle.std.proofs.lemmas.Iterator.Splits.{YieldsList-from_str_split}
use Rattle.upsched_script.proofs.Spelled.{Parted, all_read, comes, ends, not_read, one_more, parted}
use Rattle.upsched_script.proofs.asked.numbers_in.Goals as goal

pub loop-part-init : goal.loop-part-init
loop-part-init c =
    let split = c.split-part-items.ensures in
    (_, YieldsList-at c.into_iter-part-iterator.ensures.into_iter_gives (YieldsList-from_str_split 44 c.args.word.now (omega arith) split.text split.has_more split.pattern), rw c.new-numbers.ensures.items (parted c.args.word.now))

pub returns-in_default : goal.returns-in_default
returns-in_default c =
    let left = c.loop-part.invariant in
    let next = comes {t = c.next.new.self} left.0 c.in-Some.part left.1 c.in-Some.ensures.steps in
    not_read c.args.word.now c.loop-part.numbers.items c.in-Some.part.now next.0 (subst (Parted c.args.word.now c.loop-part.numbers.items) next.1 left.2) c.in_default.field-0
    c.parse.result c.in_default.is c.parse.ensures.value.0

pub loop-part-preserved : goal.loop-part-preserved
loop-part-preserved c =
    let left = c.loop-part.invariant in
    let next = comes {t = c.next.new.self} left.0 c.in-Some.part left.1 c.in-Some.ensures.steps in (
      next.0,
      next.2,
      rw c.in_ok-push.ensures.items
          (one_more c.args.word.now c.loop-part.numbers.items c.in-Some.part.now next.0 (subst (Parted c.args.word.now c.loop-part.numbers.items) next.1 left.2) c.in-Ok.number c.parse.result
          c.in-Ok.is c.parse.ensures.value.0),
    )

pub returns : goal.returns
returns c =
    let left = c.loop-part.invariant in
    λ ids. all_read c.args.word.now c.loop-part.numbers.items ids (subst (Parted c.args.word.now c.loop-part.numbers.items) (ends {t = c.next.new.self} left.0 left.1 c.in-None.ensures.steps) left.2)

use Rattle.std.proofs.Common.{◌≡◌, ◌+◌, ◌<◌, ◌^◌, subst, arith, ◌∙◌}
use Rattle.std.proofs.lemmas.List.{get_or_default}
use Rattle.modem.specs.declared.kept.KeptInterval.{KeptInterval}
use Rattle.modem.proofs.Old.{few_before}
use Rattle.modem.proofs.kept.few_until.Goals as goal

pub returns-then-next-kept : goal.returns-then-next-kept
returns-then-next-kept c = λ m soon.
    let ks = c.args.kept.now in
    let one : KeptInterval = c.index-kept-next.result in
    few_before ks c.args.channels c.args.ch m c.count_before.result c.few_of.result (omega (arith, soon, c.old_behind.ensures.limit)) c.requires c.count_before.ensures c.few_of.ensures.share
    (λ d first.
    let here = get_or_default ks (c.count_before.result + c.few_of.result) one d first in
    subst (λ (k : KeptInterval). (k.start < 2 ^ 64) × (k.channel ≡ c.args.ch → m < k.start + 16383)) (c.index-kept-next.is ∙ here)
    (c.old_behind.ensures.range, λ same. let top = c.old_behind.ensures.channel same in omega (arith, top, soon)))

pub returns-else-next-kept : goal.returns-else-next-kept
returns-else-next-kept c = λ m soon.
    let all = c.if-next-kept.false in
    few_before c.args.kept.now c.args.channels c.args.ch m c.count_before.result c.few_of.result (omega (arith, soon)) c.requires c.count_before.ensures c.few_of.ensures.share
    (λ d first. absurd (omega (arith, all, first)))

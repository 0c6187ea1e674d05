use Rattle.std.proofs.Common.{◌∙◌}
use Rattle.grant_machine_parts.specs.Gaps.{IsInGap}
use Rattle.grant_machine_parts.proofs.Splits.{carved_split, in_gap_covered}
use Rattle.grant_machine_parts.proofs.gaps.hold.Goals as goal

pub returns-then-is_in_gap-clause-held : goal.returns-then-is_in_gap-clause-held
returns-then-is_in_gap-clause-held c = λ free len are.
    let i : IsInGap c.args.gaps.now.items c.count_before-number.result c.args.from c.args.to = rw (← c.deref-2.ensures.value) (c.is_in_gap.ensures c.if-is_in_gap.true) in
    c.in_ok-split.ensures.ok i.0 i.1 ∙ carved_split free 0 len c.args.from c.args.to c.args.gaps.now.items c.count_before-number.result i.0 are i.1 i.2 i.4

pub returns-then-is_in_gap-clause-covered : goal.returns-then-is_in_gap-clause-covered
returns-then-is_in_gap-clause-covered c = λ yes.
    let i : IsInGap c.args.gaps.now.items c.count_before-number.result c.args.from c.args.to = rw (← c.deref-2.ensures.value) (c.is_in_gap.ensures c.if-is_in_gap.true) in
    in_gap_covered c.args.from c.args.to c.args.gaps.now.items c.count_before-number.result i.0 i.1 i.2 i.4

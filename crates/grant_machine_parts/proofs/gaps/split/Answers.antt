use Rattle.std.proofs.Common.{◌≡◌, ◌++◌, ◌+◌, ◌<◌, ◌≤◌, suc, List, drop, slice_set, sym, ap, subst, ◌∙◌, add-one, take}
use Rattle.std.specs.List.{insert}
use Rattle.grant_machine_parts.specs.Gaps.{Gap}
use Rattle.grant_machine_parts.proofs.Splits.{same_gap, is_in, two_put, one_put, two_left, first_left, second_left}
use Rattle.grant_machine_parts.proofs.Splits.{none_left}
use Rattle.grant_machine_parts.proofs.gaps.split.Goals as goal

pub returns-in_ok-insert-clause-ok : goal.returns-in_ok-insert-clause-ok
returns-in_ok-insert-clause-ok c = λ g at.
    let same = same_gap c.args.gaps.now.items c.args.number c.index-gap.result.now g c.index-gap.ensures at in
    let p = is_in c.args.gaps.now.items c.args.number c.args.from c.args.to g c.requires at in
    let gs = c.args.gaps.now.items in
    let i = c.args.number in
    let lower = subst (λ (y : Gap). y.from < c.args.from) same c.if-gap-from.true in
    let upper = subst (λ (y : Gap). c.args.to < y.to) same c.if-to-gap.true in
    let put : c.insert.new.self.items ≡ insert gs i (record { from = c.index-gap.result.now.from; to = c.args.from }) = c.in_ok-insert.ensures.items in
    ap (λ (xs : List Gap). slice_set xs (i + 1) (record { from = c.args.to; to = c.index-gap.result.now.to })) put
    ∙ ap (λ (y : Gap). slice_set (insert gs i (record { from = y.from; to = c.args.from })) (i + 1) (record { from = c.args.to; to = y.to })) same
    ∙ ap (λ n. slice_set (insert gs i (record { from = g.from; to = c.args.from })) n (record { from = c.args.to; to = g.to })) (add-one i)
    ∙ two_put gs i g (record { from = g.from; to = c.args.from }) (record { from = c.args.to; to = g.to }) at
    ∙ ap (λ (xs : List Gap). take i gs ++ (xs ++ drop (suc i) gs)) (sym (two_left g c.args.from c.args.to p.1 lower upper))

pub returns-else-to-gap-clause-ok : goal.returns-else-to-gap-clause-ok
returns-else-to-gap-clause-ok c = λ g at.
    let same = same_gap c.args.gaps.now.items c.args.number c.index-gap.result.now g c.index-gap.ensures at in
    let p = is_in c.args.gaps.now.items c.args.number c.args.from c.args.to g c.requires at in
    let gs = c.args.gaps.now.items in
    let i = c.args.number in
    let lower = subst (λ (y : Gap). y.from < c.args.from) same c.if-gap-from.true in
    let upper = subst (λ (y : Gap). y.to ≤ c.args.to) same c.if-to-gap.false in
    ap (λ (y : Gap). slice_set gs i (record { from = y.from; to = c.args.from })) same
    ∙ one_put gs i g (record { from = g.from; to = c.args.from }) at
    ∙ ap (λ (xs : List Gap). take i gs ++ (xs ++ drop (suc i) gs)) (sym (first_left g c.args.from c.args.to p.1 lower upper p.2))

pub returns-then-to-gap-2-clause-ok : goal.returns-then-to-gap-2-clause-ok
returns-then-to-gap-2-clause-ok c = λ g at.
    let same = same_gap c.args.gaps.now.items c.args.number c.index-gap.result.now g c.index-gap.ensures at in
    let p = is_in c.args.gaps.now.items c.args.number c.args.from c.args.to g c.requires at in
    let gs = c.args.gaps.now.items in
    let i = c.args.number in
    let lower = subst (λ (y : Gap). c.args.from ≤ y.from) same c.if-gap-from.false in
    let upper = subst (λ (y : Gap). c.args.to < y.to) same c.if-to-gap-2.true in
    ap (λ (y : Gap). slice_set gs i (record { from = c.args.to; to = y.to })) same
    ∙ one_put gs i g (record { from = c.args.to; to = g.to }) at
    ∙ ap (λ (xs : List Gap). take i gs ++ (xs ++ drop (suc i) gs)) (sym (second_left g c.args.from c.args.to p.1 lower p.0 upper))

pub returns-else-to-gap-2-clause-ok : goal.returns-else-to-gap-2-clause-ok
returns-else-to-gap-2-clause-ok c = λ g at.
    let same = same_gap c.args.gaps.now.items c.args.number c.index-gap.result.now g c.index-gap.ensures at in
    let p = is_in c.args.gaps.now.items c.args.number c.args.from c.args.to g c.requires at in
    let gs = c.args.gaps.now.items in
    let i = c.args.number in
    let lower = subst (λ (y : Gap). c.args.from ≤ y.from) same c.if-gap-from.false in
    let upper = subst (λ (y : Gap). y.to ≤ c.args.to) same c.if-to-gap-2.false in
    c.remove.ensures.items
    ∙ ap (λ (xs : List Gap). take i gs ++ (xs ++ drop (suc i) gs)) (sym (none_left g c.args.from c.args.to p.1 lower p.0 upper p.2))

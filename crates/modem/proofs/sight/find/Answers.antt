use Rattle.std.proofs.Common.{◌≡◌, ◌≤◌, ◌==◌, ◌&&◌, nat_le, true, sym, subst, ◌∙◌, arith}
use Rattle.std.proofs.lemmas.Bool.{and_parts, eqb-true}
use Rattle.std.proofs.lemmas.Bool.Decides.{nat_tests}
use Rattle.modem.specs.declared.sight.Sight.{Sight}
use Rattle.modem.specs.Sights.{Holds}
use Rattle.modem.proofs.Sights.{Holds-nowhere}
use Rattle.modem.proofs.sight.find.Goals as goal

pub returns-then-began-clause-channel : goal.returns-then-began-clause-channel
returns-then-began-clause-channel c =
    let s : Sight = c.sight-item.result in
    eqb-true _ _ (and_parts (s.channel == c.args.ch) (nat_le s.from c.args.«at») (sym c.began.ensures ∙ c.if-began.true)).0

pub returns-then-began-clause-from : goal.returns-then-began-clause-from
returns-then-began-clause-from c =
    let s : Sight = c.sight-item.result in
    let by : ((s.channel == c.args.ch) && nat_le s.from c.args.«at») ≡ true = sym c.began.ensures ∙ c.if-began.true in
    let from : s.from ≤ c.args.«at» = grind (arith, nat_tests) in
    from

pub returns-then-began-clause-holds : goal.returns-then-began-clause-holds
returns-then-began-clause-holds c = λ n grants opens all.
    let s : Sight = c.sight-item.result in
    subst (Holds n grants opens) (sym c.sight-item.is) (all c.loop-sight.sight-index s c.loop-sight-test.true)

pub returns-clause-holds : goal.returns-clause-holds
returns-clause-holds c = λ n grants opens all. rw c.nowhere.ensures (Holds-nowhere n grants opens c.args.ch)

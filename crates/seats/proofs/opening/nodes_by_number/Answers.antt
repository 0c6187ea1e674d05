use Rattle.std.proofs.Common.{◌≡◌, ◌++◌, ◌∷◌, ◌∙◌, [], sym, arith, rules}
use Rattle.ballots.specs.Members.{member_count}
use Rattle.seats.specs.Fresh.{IsFreshAt}
use Rattle.seats.proofs.Fresh.{none_first, next_first, all_first}
use Rattle.seats.proofs.opening.nodes_by_number.Goals as goal

pub loop-number-init : goal.loop-number-init
loop-number-init g c = none_first _ _ _ _ _ c.new-nodes.ensures.items

pub loop-number-preserved : goal.loop-number-preserved
loop-number-preserved g c =
    let numbered : c.in-Some.id ≡ c.loop-number.number = search rules in
    let made : IsFreshAt g.N.Node.who g.N.Node.honest g.N.Node.stands (member_count c.args.members) c.in-Some.id c.in_ok-node.node = c.requires.fresh c.loop-number.make c.make.new.self c.in-Some.id c.in_ok-node.node (omega arith) (rw (sym c.in_ok-node.was) c.make.ensures) in
    let pushed : c.push.new.self.items ≡ c.loop-number.nodes.items ++ c.in_ok-node.node ∷ [] = search rules in
    next_first _ _ _ _ c.loop-number.number _ _ c.in_ok-node.node c.loop-number.invariant (made.id ∙ numbered) made.members made.up made.fresh pushed

pub returns-clause-fresh : goal.returns-clause-fresh
returns-clause-fresh g c = all_first _ _ _ _ _ _ c.loop-number.invariant (omega arith)

pub returns-clause-count : goal.returns-clause-count
returns-clause-count g c =
    let whole : c.loop-number.number ≡ member_count c.args.members = omega arith in
    c.loop-number.invariant.count ∙ whole

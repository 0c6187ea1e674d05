use Rattle.std.proofs.Common.{rules, ◌++◌, ◌∷◌, [], ℕ, OnOk, subst, sym}
use Rattle.std.specs.Prelude.{codes, decimal}
use Rattle.std.specs.Io.KnownBytes.{Appends}
use Rattle.acceptor_store.specs.declared.owned.OwnerFault.{OwnerFault}
use Rattle.ballots.specs.Members.{member_count}
use Rattle.stored_nodes.specs.declared.start.StartFault.TheVariants.{Unopened}
use Rattle.upsched_store.specs.Starts.{start_line}
use Rattle.upsched_store.proofs.start_lines.print_unopened.Goals as goal

pub returns-in-OtherNode : goal.returns-in-OtherNode
returns-in-OtherNode g c =
    let tells = λ (n m : ℕ). OnOk c.writeln-in-OtherNode.result (Appends (g.E.Write.contents c.args.errors.now) (g.E.Write.contents c.writeln-in-OtherNode.new.self)
    (codes "upsched: store of another node: " ++ (c.args.path.now ++ (codes ": " ++ (codes "node " ++ (decimal n ++ (codes " of " ++ (decimal m ++ 10 ∷ [])))))))) in
    subst (λ (f : OwnerFault). OnOk c.writeln-in-OtherNode.result (Appends (g.E.Write.contents c.args.errors.now) (g.E.Write.contents c.writeln-in-OtherNode.new.self) (start_line c.args.path.now (Unopened f))))
    (sym c.in-OtherNode.is)
    (subst (λ (n : ℕ). tells n (member_count c.in-OtherNode.owner.members)) c.number-node.ensures.same (subst (λ (m : ℕ). tells c.number-node.result m) c.count-count.ensures (search rules)))

pub returns-in-OtherMembers : goal.returns-in-OtherMembers
returns-in-OtherMembers g c =
    let tells = λ (n m : ℕ). OnOk c.writeln-in-OtherMembers.result (Appends (g.E.Write.contents c.args.errors.now) (g.E.Write.contents c.writeln-in-OtherMembers.new.self)
    (codes "upsched: store of other members: " ++ (c.args.path.now ++ (codes ": " ++ (decimal n ++ (codes " of " ++ (decimal m ++ 10 ∷ []))))))) in
    subst (λ (f : OwnerFault). OnOk c.writeln-in-OtherMembers.result (Appends (g.E.Write.contents c.args.errors.now) (g.E.Write.contents c.writeln-in-OtherMembers.new.self) (start_line c.args.path.now (Unopened f))))
    (sym c.in-OtherMembers.is)
    (subst (λ (n : ℕ). tells n (member_count c.in-OtherMembers.owner.members)) c.number-node-in-OtherMembers.ensures.same (subst (λ (m : ℕ). tells c.number-node-in-OtherMembers.result m) c.count-count-in-OtherMembers.ensures (search rules)))

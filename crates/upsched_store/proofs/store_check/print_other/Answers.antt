use Rattle.std.proofs.Common.{rules, ◌≡◌, ◌++◌, ◌∷◌, [], ℕ, List, OnOk, subst}
use Rattle.std.specs.Prelude.{codes, decimal}
use Rattle.std.specs.Io.KnownBytes.{Appends}
use Rattle.ballots.specs.Members.{member_count}
use Rattle.upsched_store.proofs.store_check.print_other.Goals as goal

pub returns : goal.returns
returns g c =
    let tells = λ (n m : ℕ). OnOk c.writeln.result (Appends (g.O.Write.contents c.args.output.now) (g.O.Write.contents c.writeln.new.self)
    (c.args.path.now ++ (codes ": " ++ (codes "of another node: " ++ (codes "node " ++ (decimal n ++ (codes " of " ++ (decimal m ++ 10 ∷ [])))))))) in
    subst (λ (n : ℕ). tells n (member_count c.args.owner.members)) c.number-node.ensures.same (subst (λ (m : ℕ). tells c.number-node.result m) c.count-count.ensures (search rules))

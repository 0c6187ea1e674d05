use Rattle.std.proofs.Common.{rules, ◌≡◌, ◌++◌, ◌∷◌, [], ℕ, List, OnOk, subst}
use Rattle.std.specs.Prelude.{codes}
use Rattle.std.specs.Io.KnownBytes.{Appends}
use Rattle.upsched_store.proofs.store_check.print_unusable.Goals as goal

pub returns : goal.returns
returns g c =
    subst (λ (why : List ℕ). OnOk c.writeln.result (Appends (g.O.Write.contents c.args.output.now) (g.O.Write.contents c.writeln.new.self)
    (c.args.path.now ++ (codes ": " ++ (codes "unusable: " ++ (why ++ 10 ∷ [])))))) c.look_text-why.ensures (search rules)

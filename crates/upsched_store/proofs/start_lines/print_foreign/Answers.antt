use Rattle.std.proofs.Common.{rules, ◌++◌, ◌∷◌, [], ℕ, List, OnOk, subst}
use Rattle.std.specs.Prelude.{codes}
use Rattle.std.specs.Io.KnownBytes.{Appends}
use Rattle.upsched_store.proofs.start_lines.print_foreign.Goals as goal

pub returns : goal.returns
returns g c =
    subst (λ (cause : List ℕ). OnOk c.writeln.result (Appends (g.E.Write.contents c.args.errors.now) (g.E.Write.contents c.writeln.new.self)
    (codes "upsched: store: " ++ (c.args.path.now ++ (codes ": " ++ (codes "no database of a node: " ++ (cause ++ 10 ∷ []))))))) c.foreign_text-cause.ensures (search rules)

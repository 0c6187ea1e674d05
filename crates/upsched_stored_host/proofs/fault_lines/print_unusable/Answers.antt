use Rattle.std.proofs.Common.{rules, ◌≡◌, ◌++◌, ◌∷◌, [], ℕ, List, OnOk, subst}
use Rattle.std.specs.Prelude.{codes}
use Rattle.std.specs.Io.KnownBytes.{Appends}
use Rattle.upsched_stored_host.proofs.fault_lines.print_unusable.Goals as goal

pub returns : goal.returns
returns g c =
    subst (λ (why : List ℕ). OnOk c.writeln.result (Appends (g.E.Write.contents c.args.errors.now) (g.E.Write.contents c.writeln.new.self)
    (codes "upsched: store: " ++ (c.args.path.now ++ (codes ": " ++ (why ++ 10 ∷ [])))))) c.why_text-why.ensures (search rules)

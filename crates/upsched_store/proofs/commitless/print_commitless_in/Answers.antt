use Rattle.std.proofs.Common.{◌≡◌, ◌∙◌, ℕ, List, subst}
use Rattle.std.specs.Io.KnownBytes.{Appends}
use Rattle.upsched_store.specs.Commitless.{commitless_line}
use Rattle.upsched_store.specs.Surveys.{path_in}
use Rattle.upsched_store.proofs.commitless.print_commitless_in.Goals as goal

pub returns : goal.returns
returns g c =
    let text : c.as_str.result.now ≡ path_in c.args.folder.now c.args.found.now.number = c.as_str.ensures.value ∙ c.in_ok-path.ensures.ok in
    rw c.if-not-found.false (subst (λ (path : List ℕ). Appends (g.E.Write.contents c.args.errors.now) (g.E.Write.contents c.print_line.new.errors) (commitless_line path)) text c.in_ok-print_line.ensures)

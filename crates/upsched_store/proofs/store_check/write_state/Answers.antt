use Rattle.std.proofs.Common.{rules, ◌++◌, OnOk, subst, sym}
use Rattle.std.specs.Prelude.{codes}
use Rattle.std.specs.Io.KnownBytes.{Appends}
use Rattle.upsched_store.specs.Surveys.{state_text}
use Rattle.stored_nodes.specs.declared.states.FilesState.{FilesState}
use Rattle.upsched_store.proofs.store_check.write_state.Goals as goal

pub returns-in-Locked : goal.returns-in-Locked
returns-in-Locked g c =
    subst (λ (s : FilesState). OnOk c.writeln-in-Locked.result (Appends (g.O.Write.contents c.args.output.now) (g.O.Write.contents c.writeln-in-Locked.new.self)
    (c.args.path.now ++ (codes ": " ++ state_text c.args.path.now s)))) (sym c.in-Locked.is) (search rules)

pub returns-in-OtherNode : goal.returns-in-OtherNode
returns-in-OtherNode g c =
    subst (λ (s : FilesState). OnOk c.print_other.result (Appends (g.O.Write.contents c.args.output.now) (g.O.Write.contents c.print_other.new.output)
    (c.args.path.now ++ (codes ": " ++ state_text c.args.path.now s)))) (sym c.in-OtherNode.is) (search rules)

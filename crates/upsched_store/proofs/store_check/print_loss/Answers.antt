use Rattle.std.proofs.Common.{rules, ◌++◌, OnOk, subst, sym}
use Rattle.std.specs.Prelude.{codes}
use Rattle.std.specs.Io.KnownBytes.{Appends}
use Rattle.upsched_store.specs.Surveys.{state_text}
use Rattle.log_ties.specs.declared.tie.Loss.{Loss}
use Rattle.stored_nodes.specs.declared.states.FilesState.TheVariants.{Lost}
use Rattle.upsched_store.proofs.store_check.print_loss.Goals as goal

pub returns-in-CutAt : goal.returns-in-CutAt
returns-in-CutAt g c =
    subst (λ (l : Loss). OnOk c.writeln-in-CutAt.result (Appends (g.O.Write.contents c.args.output.now) (g.O.Write.contents c.writeln-in-CutAt.new.self)
    (c.args.path.now ++ (codes ": " ++ state_text c.args.path.now (Lost l))))) (sym c.in-CutAt.is) (search rules)

pub returns-in-NoDatabase : goal.returns-in-NoDatabase
returns-in-NoDatabase g c =
    subst (λ (l : Loss). OnOk c.writeln-in-NoDatabase.result (Appends (g.O.Write.contents c.args.output.now) (g.O.Write.contents c.writeln-in-NoDatabase.new.self)
    (c.args.path.now ++ (codes ": " ++ state_text c.args.path.now (Lost l))))) (sym c.in-NoDatabase.is) (search rules)

pub returns-in-NoTables : goal.returns-in-NoTables
returns-in-NoTables g c =
    subst (λ (l : Loss). OnOk c.writeln-in-NoTables.result (Appends (g.O.Write.contents c.args.output.now) (g.O.Write.contents c.writeln-in-NoTables.new.self)
    (c.args.path.now ++ (codes ": " ++ state_text c.args.path.now (Lost l))))) (sym c.in-NoTables.is) (search rules)

use Rattle.std.proofs.Common.{◌∙◌}
use Rattle.folder_hosts.proofs.Made.{begins_folder}
use Rattle.folder_hosts.proofs.opens.FolderOpens.begin.Goals as goal

pub returns-clause-begins : goal.returns-clause-begins
returns-clause-begins g c =
    begins_folder g.F.Folder.lists g.F.Folder.does g.D.Databases.opens g.D.Databases.tells c.args.places g.D.Databases.member
    c.args.self.now.folder c.make-2.new.self.folder c.keep_first.new.self.folder c.args.self.now.databases c.make.new.self.databases c.make-2.new.self.databases c.keep_first.new.self.databases
    c.make.new.self.known c.in_ok-files.files.items c.keep_first.result c.in_ok-files.ensures.listed (rw c.as_slice.ensures.value at c.in_ok-refuse_states.ensures)
    (rw c.as_slice-2.ensures.value at c.in_ok-refuse_any_used.ensures.unused) (rw c.requires at c.in_ok-make.ensures.opens) c.in_ok-make-2.ensures.opens
    (c.in_ok-make.ensures.same.0.known ∙ c.requires) c.keep_first.ensures.same.1 (c.in_ok-make-2.ensures.same.1 ∙ c.in_ok-make.ensures.same.1)
    (c.in_ok-make-2.ensures.keeps.member ∙ c.in_ok-make.ensures.keeps.member) c.keep_first.ensures.done

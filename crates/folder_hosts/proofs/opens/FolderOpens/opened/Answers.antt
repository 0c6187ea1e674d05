use Rattle.folder_hosts.proofs.Begun.{held_beside, opened_at}
use Rattle.folder_hosts.proofs.opens.FolderOpens.opened.Goals as goal

pub of-requires-clause-holds : goal.of-requires-clause-holds
of-requires-clause-holds g c =
    let it = c.in_ok-node.ensures.started in
    held_beside g.D.Store.WriteStore g.D.Databases.begins c.args.self.now.databases c.args.epoch _ _ _ _ it.0 c.in_ok-node.node c.in_ok-node.store it.1

pub returns-clause-opened : goal.returns-clause-opened
returns-clause-opened g c =
    let it = c.in_ok-node.ensures.started in
    opened_at g.D.Store.WriteStore g.D.Databases.begins c.args.self.now.databases c.args.epoch _ _ (g.D.Databases.member c.args.self.now.databases) it.0 c.in_ok-node.node c.in_ok-node.store it.1
    (λ k. k.node) _ c.in_ok-of.field-0 c.in_ok-of.ensures.node

use Rattle.plan_account.proofs.Growing.{told_map}
use Rattle.plan_account.proofs.flows.Flows.add_told.Goals as goal

pub returns-in-Map : goal.returns-in-Map
returns-in-Map c =
    told_map c.add_map.result c.args.command c.args.deed.now c.args.self.now c.add_map.new.self _ _ _ _ _ c.in-Map.is (rw c.get.ensures.same at c.add_map.ensures)

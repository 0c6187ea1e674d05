use Rattle.std.proofs.Common.{ap, ◌∙◌}
use Rattle.epochs.specs.Scheduling.{SchedulerView}
use Rattle.hosts.proofs.Taken.{tells_again}
use Rattle.hosts.specs.Views.{values}
use Rattle.hosts.proofs.host.Host.again.Goals as goal

pub returns : goal.returns
returns g c v stands =
    let host = c.args.self.now in
    let tables = c.machine.ensures ∙ ap (λ (s : SchedulerView). s.rows) stands.scheduler in
    tells_again host.places v c.told_again.result c.machine.result.now tables c.told_again.ensures.outputs (c.told_again.ensures.told (values host.places v) tables)

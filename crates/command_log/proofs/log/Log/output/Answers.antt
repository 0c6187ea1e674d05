use Rattle.std.proofs.Common.{◌-◌, List, ap, ◌∙◌, slice_get}
use Rattle.grant_machine.specs.declared.output.Output.{Output}
use Rattle.command_log.specs.View.{LogView, output_at}
use Rattle.command_log.proofs.Applied.{found, output_is}
use Rattle.command_log.proofs.log.Log.output.Goals as goal

pub returns : goal.returns
returns c =
    let kept = c.self.invariant in
    found c.get.result c.deref.result.now (c.args.place - 1) c.get.ensures.lookup.0 c.get.ensures.lookup.1
    ∙ ap (λ (items : List Output). slice_get items (c.args.place - 1)) c.deref.ensures.value
    ∙ output_is c.self.inside.learned.entries c.self.inside.outputs.len c.args.place c.self.inside.outputs.items c.if-place-eq0.false kept.outputs
    ∙ ap (λ (v : LogView). output_at v c.args.place) c.self.view_is

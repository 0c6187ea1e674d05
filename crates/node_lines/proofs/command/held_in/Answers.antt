use Rattle.std.proofs.Common.{codes, option_map, ap, ◌∙◌}
use Rattle.toml.specs.View.{view}
use Rattle.toml.proofs.Views.{view_of_ref, view-lookup}
use Rattle.node_lines.proofs.command.held_in.Goals as goal

pub returns : goal.returns
returns c = view_of_ref c.get.result ∙ ap (option_map view) c.get.ensures.value ∙ view-lookup (codes "command") c.args.table.now.entries

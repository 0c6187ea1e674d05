use Rattle.ballots.specs.Members.{member_count}
use Rattle.stored_nodes.proofs.Started.{comes_of_start, started_anyhow}
use Rattle.stored_nodes.proofs.uses.use_started.Goals as goal

pub use_node-requires : goal.use_node-requires
use_node-requires g c = started_anyhow c.in-Ok.ensures

pub returns-in-Ok : goal.returns-in-Ok
returns-in-Ok g c =
    comes_of_start (g.U.NodeUse.comes c.args.user c.args.member.0 (member_count c.args.member.1) c.args.is_new) c.use_node.result c.in-Ok.ensures c.use_node.ensures.lies c.use_node.ensures.tells

use Rattle.grant_machine.specs.declared.command.Command.TheVariants as commands
use Rattle.grant_machine.proofs.Reaching.{reached_call, reached_ok}
use Rattle.grant_machine.proofs.machine.Machine.apply.Goals as goal

pub invariant_of-self-in-Channel : goal.invariant_of-self-in-Channel
invariant_of-self-in-Channel c = reached_call c.set_channel.result _ _ (commands.Channel c.in-Channel.channel) c.self.invariant c.set_channel.ensures.fits c.set_channel.ensures.rows c.set_channel.ensures.err

pub returns-in-Channel-clause-reached : goal.returns-in-Channel-clause-reached
returns-in-Channel-clause-reached c = reached_call c.set_channel.result _ _ (commands.Channel c.in-Channel.channel) c.self.invariant c.set_channel.ensures.fits c.set_channel.ensures.rows c.set_channel.ensures.err

pub invariant_of-self-in-Change : goal.invariant_of-self-in-Change
invariant_of-self-in-Change c = reached_ok c.change_channel.result _ _ (commands.Change c.in-Change.ch c.in-Change.settings) c.self.invariant c.change_channel.ensures.fits c.change_channel.ensures.rows c.change_channel.ensures.ok

pub returns-in-Change-clause-reached : goal.returns-in-Change-clause-reached
returns-in-Change-clause-reached c = reached_ok c.change_channel.result _ _ (commands.Change c.in-Change.ch c.in-Change.settings) c.self.invariant c.change_channel.ensures.fits c.change_channel.ensures.rows c.change_channel.ensures.ok

pub invariant_of-self-in-Flow : goal.invariant_of-self-in-Flow
invariant_of-self-in-Flow c = reached_call c.add_flow.result _ _ (commands.Flow c.in-Flow.ch c.in-Flow.modem c.in-Flow.tag c.in-Flow.last c.in-Flow.kind) c.self.invariant c.add_flow.ensures.fits c.add_flow.ensures.rows c.add_flow.ensures.err

pub returns-in-Flow-clause-reached : goal.returns-in-Flow-clause-reached
returns-in-Flow-clause-reached c = reached_call c.add_flow.result _ _ (commands.Flow c.in-Flow.ch c.in-Flow.modem c.in-Flow.tag c.in-Flow.last c.in-Flow.kind) c.self.invariant c.add_flow.ensures.fits c.add_flow.ensures.rows c.add_flow.ensures.err

pub invariant_of-self-in-Drop : goal.invariant_of-self-in-Drop
invariant_of-self-in-Drop c = reached_ok c.drop_flow.result _ _ (commands.Drop c.in-Drop.ch c.in-Drop.sid) c.self.invariant c.drop_flow.ensures.fits c.drop_flow.ensures.rows c.drop_flow.ensures.ok

pub returns-in-Drop-clause-reached : goal.returns-in-Drop-clause-reached
returns-in-Drop-clause-reached c = reached_ok c.drop_flow.result _ _ (commands.Drop c.in-Drop.ch c.in-Drop.sid) c.self.invariant c.drop_flow.ensures.fits c.drop_flow.ensures.rows c.drop_flow.ensures.ok

pub invariant_of-self-in-Request : goal.invariant_of-self-in-Request
invariant_of-self-in-Request c = reached_call c.request.result _ _ (commands.Request c.in-Request.ch c.in-Request.sid c.in-Request.n c.in-Request.sent) c.self.invariant c.request.ensures.fits c.request.ensures.rows c.request.ensures.err

pub returns-in-Request-clause-reached : goal.returns-in-Request-clause-reached
returns-in-Request-clause-reached c = reached_call c.request.result _ _ (commands.Request c.in-Request.ch c.in-Request.sid c.in-Request.n c.in-Request.sent) c.self.invariant c.request.ensures.fits c.request.ensures.rows c.request.ensures.err

pub invariant_of-self-in-Cut : goal.invariant_of-self-in-Cut
invariant_of-self-in-Cut c = reached_call c.cut.result _ _ (commands.Cut c.in-Cut.ch c.in-Cut.len c.in-Cut.not_before c.in-Cut.ack c.in-Cut.keep c.in-Cut.ranging c.in-Cut.data) c.self.invariant c.cut.ensures.fits c.cut.ensures.rows c.cut.ensures.err

pub returns-in-Cut-clause-reached : goal.returns-in-Cut-clause-reached
returns-in-Cut-clause-reached c = reached_call c.cut.result _ _ (commands.Cut c.in-Cut.ch c.in-Cut.len c.in-Cut.not_before c.in-Cut.ack c.in-Cut.keep c.in-Cut.ranging c.in-Cut.data) c.self.invariant c.cut.ensures.fits c.cut.ensures.rows c.cut.ensures.err

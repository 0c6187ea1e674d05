use Rattle.std.proofs.Common.{is_ok}
use Rattle.network_script.proofs.Asking.{kept_more, none_kept, none_released, released_more}
use Rattle.network_script.proofs.world.keep.Goals as goal

pub returns-in-Sent-clause-sent : goal.returns-in-Sent-clause-sent
returns-in-Sent-clause-sent c = rw c.in-Sent.is (kept_more c.args.letters.now.items c.append.new.self.items c.in-Sent.sent.items (is_ok c.append.result) c.append.ensures.items)

pub returns-in-Sent-clause-released : goal.returns-in-Sent-clause-released
returns-in-Sent-clause-released c = rw c.in-Sent.is (none_released c.args.outputs.now.items c.args.k (is_ok c.append.result))

pub returns-in-Released-clause-sent : goal.returns-in-Released-clause-sent
returns-in-Released-clause-sent c = rw c.in-Released.is (none_kept c.args.letters.now.items (is_ok c.add_outputs.result))

pub returns-in-Released-clause-released : goal.returns-in-Released-clause-released
returns-in-Released-clause-released c = rw c.in-Released.is (released_more c.args.outputs.now.items c.add_outputs.new.outputs.items c.args.k c.in-Released.released.items c.add_outputs.result c.add_outputs.ensures.ok c.add_outputs.ensures.err)

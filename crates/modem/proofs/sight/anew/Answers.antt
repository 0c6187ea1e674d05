use Rattle.std.proofs.Common.{map, ◌<◌, min, arith}
use Rattle.modem.specs.KeptIntervals.{kept_interval}
use Rattle.modem.proofs.Sights.{IsSeen-same}
use Rattle.modem.proofs.sight.anew.Goals as goal

pub returns-clause-seen : goal.returns-clause-seen
returns-clause-seen c = λ n few. record {
  counts = c.counted_in.ensures;
  shared = c.is_open_in.ensures;
  few = few;
}

pub returns-clause-holds : goal.returns-clause-holds
returns-clause-holds c = λ n few. record {
  seen = λ m from before.
      let both : m < min c.end_before.result c.args.last.now.few_until = rw c.min.ensures at before in
      let limit = c.end_before.ensures.before m (omega (arith, both)) in
      let next = c.sooner-edge.ensures.before m limit.0 in
      IsSeen-same n c.args.last.now.channel c.args.«at» m (map kept_interval c.args.grants.now) (map kept_interval c.args.shared.now) c.counted_in.result c.is_open_in.result c.counted_in.ensures c.is_open_in.ensures (c.next_edge_in.ensures.same m from limit.1 next.0) (c.next_edge_in-2.ensures.same m from limit.1 next.1) (few m (omega (arith, both)));
  few = few;
  past_grants = c.window_at-own.ensures.past;
  past_open = c.window_at-open.ensures.past;
}

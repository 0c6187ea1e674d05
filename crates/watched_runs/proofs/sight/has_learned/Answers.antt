use Rattle.std.proofs.Common.{refl, false}
use Rattle.watched_runs.specs.Sights.{has_learned}
use Rattle.watched_runs.proofs.Seeing.{none_at, said_at}
use Rattle.watched_runs.proofs.sight.has_learned.Goals as goal

pub returns-then-k-seats : goal.returns-then-k-seats
returns-then-k-seats g c = λ w stands.
    none_at c.seats-seats.result.now w.nodes c.args.k false (λ s. has_learned s c.args.place) (c.seats-seats.ensures.written w stands) c.if-k-seats.true refl

pub returns : goal.returns
returns g c = λ w stands.
    said_at c.seats-seats.result.now w.nodes c.args.k c.index-seats-k.result c.seat_has_learned.result (λ s. has_learned s c.args.place)
    (c.seats-seats.ensures.written w stands) c.if-k-seats.false c.index-seats-k.is c.seat_has_learned.ensures

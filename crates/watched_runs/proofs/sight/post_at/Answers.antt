use Rattle.std.proofs.Common.{refl}
use Rattle.watched_runs.specs.Posts.{post_at}
use Rattle.watched_runs.specs.declared.post.Post.TheVariants.{Idle}
use Rattle.watched_runs.proofs.Seeing.{none_at, said_at}
use Rattle.watched_runs.proofs.sight.post_at.Goals as goal

pub returns-then-k-seats : goal.returns-then-k-seats
returns-then-k-seats g c = λ w stands. none_at c.seats-seats.result.now w.nodes c.args.k Idle post_at (c.seats-seats.ensures.written w stands) c.if-k-seats.true refl

pub returns : goal.returns
returns g c = λ w stands.
    said_at c.seats-seats.result.now w.nodes c.args.k c.index-seats-k.result c.post_of_seat.result post_at (c.seats-seats.ensures.written w stands)
    c.if-k-seats.false c.index-seats-k.is c.post_of_seat.ensures

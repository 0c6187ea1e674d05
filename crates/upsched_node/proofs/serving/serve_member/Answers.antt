use Rattle.std.proofs.Common.{refl}
use Rattle.upsched_node.proofs.Ends.{seat_actor, serves_as}
use Rattle.upsched_node.proofs.serving.serve_member.Goals as goal

pub returns : goal.returns
returns g c =
    serves_as seat_actor (λ a asked acted b does. does) (λ a. refl) g.I.Input g.O.Output c.serve.result c.args.seat.now c.args.input.now c.args.output.now
    c.serve.new.actor c.serve.new.input c.serve.new.output c.serve.ensures

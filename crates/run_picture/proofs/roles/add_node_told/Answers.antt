use Rattle.std.proofs.Common.{string_bytes}
use Rattle.run_picture.specs.Roles.{learned_told, post_told}
use Rattle.run_picture.proofs.Bands.{two_drawn}
use Rattle.run_picture.proofs.roles.add_node_told.Goals as goal

pub returns : goal.returns
returns c =
    two_drawn c.add_learned_told.result (string_bytes c.args.out.now) (string_bytes c.add_post_told.new.out) (string_bytes c.add_learned_told.new.out)
    (post_told c.args.left c.args.at.0 c.args.at.1 c.args.sight.post) (learned_told c.args.left c.args.at.0 c.args.at.1 c.args.sight.learned)
    c.in_ok-add_post_told.ensures c.add_learned_told.ensures

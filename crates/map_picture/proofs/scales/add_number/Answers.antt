use Rattle.map_picture.specs.Scales.{number_tick, number_words}
use Rattle.map_picture.proofs.Rendered.{behind}
use Rattle.map_picture.proofs.scales.add_number.Goals as goal

pub returns : goal.returns
returns c =
    behind _ _ _ (number_words c.args.axis c.args.y c.args.t) (number_tick c.args.axis c.args.y c.args.t) c.in_ok-add_number_words.ensures
    c.in_ok-add_number_tick.ensures

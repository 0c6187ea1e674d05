use Rattle.map_picture.proofs.drawn.layers_of.Goals as goal

pub returns : goal.returns
returns c = (
  c.in_ok-labels.ensures.0,
  record {
    rules = c.new.ensures.bytes;
    bands = c.in_ok-bands.ensures;
    arrows = c.new-2.ensures.bytes;
    marks = c.new-3.ensures.bytes;
    labels = c.in_ok-labels.ensures.1;
  },
)

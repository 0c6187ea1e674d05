use Rattle.run_picture.proofs.drawn.layers_of.Goals as goal

pub returns : goal.returns
returns c = (
  c.in_ok-labels.ensures.0,
  record {
    rules = c.in_ok-rules.ensures;
    bands = c.in_ok-bands.ensures;
    arrows = c.in_ok-arrows.ensures;
    marks = c.in_ok-marks.ensures;
    labels = c.in_ok-add_labels.ensures c.in_ok-labels.ensures.0 c.in_ok-labels.ensures.1;
  },
)

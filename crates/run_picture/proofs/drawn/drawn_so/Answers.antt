use Rattle.std.proofs.Common.{◌∙◌}
use Rattle.run_picture.specs.Pictures.{layers}
use Rattle.run_picture.proofs.drawn.drawn_so.Goals as goal

pub returns : goal.returns
returns c = record {
  width = c.args.size.0;
  height = c.args.size.1;
  title = c.args.words.0.now;
  style = c.args.words.1.now;
  definitions = c.in_ok-heads.ensures.0;
  bottom = c.args.bottom;
  legend = c.in_ok-all.ensures.0;
  rendered =
      c.in_ok-text.ensures c.in_ok-heads.ensures.0 (layers c.args.scene.now c.args.bottom c.in_ok-all.ensures.0) (c.as_str.ensures.value ∙ c.in_ok-heads.ensures.1) c.in_ok-all.ensures.1;
}

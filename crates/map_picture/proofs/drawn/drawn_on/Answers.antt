use Rattle.map_picture.specs.Pictures.{layers}
use Rattle.map_picture.proofs.drawn.drawn_on.Goals as goal

pub returns : goal.returns
returns c = record {
  drawn = c.args.all.now.sent;
  same = c.requires.same;
  width = c.args.sheet.now.size.0;
  height = c.args.sheet.now.size.1;
  title = c.args.sheet.now.title.now;
  style = c.args.sheet.now.style.now;
  definitions = c.requires.definitions.0;
  legend = c.requires.drawn.0;
  rendered =
      c.in_ok-text.ensures c.requires.definitions.0 (layers c.args.all.now.account c.args.all.now.sent c.requires.drawn.0) c.requires.definitions.1 c.requires.drawn.1;
}

use Rattle.xml_text.proofs.Callers.{each_more}
use Rattle.run_picture.specs.Parts.{stub_at}
use Rattle.run_picture.proofs.parts.add_stubs.Goals as goal

pub loop-l-preserved : goal.loop-l-preserved
loop-l-preserved c = each_more c.loop-l.l (stub_at c.args.scene.now) _ _ _ c.loop-l.invariant c.in_ok-add_stub_at.ensures

use Rattle.xml_text.proofs.Sound.{sound, sound_drawing}
use Rattle.xml_text.proofs.layers.well_formed.Goals as goal

pub returns-clause-content : goal.returns-clause-content
returns-clause-content c = sound

pub returns-clause-document : goal.returns-clause-document
returns-clause-document c = sound_drawing

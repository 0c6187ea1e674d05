use Rattle.node_worker.proofs.Played.{sound_alone}
use Rattle.node_lives.proofs.Lived.{lived_sound}
use Rattle.node_lives.proofs.laws.lives_are_sound.Goals as goal

pub returns : goal.returns
returns c = record {
  sound = lived_sound c.one_meaning.ensures;
  legal = λ members records lived. sound_alone members records (lived_sound c.one_meaning.ensures members records lived);
}

use Rattle.upsched_draw.proofs.Chosen.{are_chosen, are_one}
use Rattle.upsched_draw.proofs.laws.most_learned_is_one.Goals as goal

pub returns : goal.returns
returns c = record {
  chosen = are_chosen c.votes_legal.ensures.learned;
  one = are_one c.votes_legal.ensures.learned (λ members ids script report w run. let (list, all) = c.headline.ensures members ids script report w run in all.chosen);
}

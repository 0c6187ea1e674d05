use Rattle.json_answers.proofs.Told.{release_said}
use Rattle.json_answers.proofs.events.release_value.Goals as goal

pub returns : goal.returns
returns c =
    release_said c.args.released.now c.put_output.new.map _ _ (rw c.new-map.ensures.empty at c.in_ok-put_number.ensures)
    c.in_ok-put_number-2.ensures c.in_ok-put_output.ensures

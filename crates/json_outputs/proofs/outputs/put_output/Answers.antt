use Rattle.json_outputs.proofs.outputs.put_output.Goals as goal

pub returns-in_ok-put_span-in-Map : goal.returns-in_ok-put_span-in-Map
returns-in_ok-put_span-in-Map c = rw c.in-Map.is (rw (c.as_slice.ensures, c.in_ok-put_span-in-Map.ensures) at c.put_body.ensures)

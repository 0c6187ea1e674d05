use Rattle.map_body.proofs.body.MapBody.of_sound.Goals as goal

pub of_parts-requires-clause-null : goal.of_parts-requires-clause-null
of_parts-requires-clause-null c = rw (← c.deref.ensures.value) c.null_place-null.ensures

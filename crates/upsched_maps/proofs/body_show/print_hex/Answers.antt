use Rattle.upsched_maps.proofs.body_show.print_hex.Goals as goal

pub returns-clause-no_body : goal.returns-clause-no_body
returns-clause-no_body g c = λ none. absurd (none _ c.in_ok-map.ensures.body)

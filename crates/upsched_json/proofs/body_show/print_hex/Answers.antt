use Rattle.upsched_json.proofs.Printed.{hex_printed}
use Rattle.upsched_json.proofs.body_show.print_hex.Goals as goal

pub returns-clause-printed : goal.returns-clause-printed
returns-clause-printed g c =
    hex_printed c.print_body.result c.args.hex.now c.in_ok-map.map (g.O.Write.contents c.args.output.now) (g.O.Write.contents c.print_body.new.output)
    c.in_ok-map.ensures.body c.print_body.ensures

pub returns-clause-no_body : goal.returns-clause-no_body
returns-clause-no_body g c = λ none. absurd (none _ c.in_ok-map.ensures.body)

use Rattle.upsched_draw.proofs.Drawn.{learned_drawn, none_learned}
use Rattle.upsched_draw.proofs.maps.draw_learned.Goals as goal

pub returns-clause-printed : goal.returns-clause-printed
returns-clause-printed g c =
    learned_drawn c.draw_commands.result (g.F.Read.remaining c.args.script.now) _ _ c.in_ok-learned.learned.commands.items c.in_ok-learned.learned.sent.items c.in_ok-learned.ensures
    (rw (c.as_slice-commands.ensures.value, c.as_slice-sent.ensures.value) at c.draw_commands.ensures.drawn)

pub returns-clause-no_script : goal.returns-clause-no_script
returns-clause-no_script g c = λ none.
    absurd (none_learned (g.F.Read.remaining c.args.script.now) c.in_ok-learned.learned.commands.items c.in_ok-learned.learned.sent.items none c.in_ok-learned.ensures)

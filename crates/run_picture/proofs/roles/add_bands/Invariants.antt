use Rattle.std.proofs.Common.{◌≡◌, ◌++◌, drop, string_bytes}
use Rattle.xml_text.specs.Xml.{render}
use Rattle.watched_runs.specs.declared.post.Post.TheVariants.{Idle}
use Rattle.run_picture.specs.Rows.{first_row}
use Rattle.run_picture.specs.Roles.{bands_from}
use Rattle.run_picture.proofs.roles.add_bands.Given as goal

-- what is drawn so far and the bands from here on are all
abbrev pub invariant-loop-i : goal.invariant-loop-i
invariant-loop-i l =
    string_bytes l.out ++ render (bands_from l.lanes l.bottom l.k l.scene.run.now.rows l.post l.start l.i (drop l.i l.scene.rows.now))
    ≡ string_bytes l.initial.out ++ render (bands_from l.lanes l.bottom l.k l.scene.run.now.rows Idle first_row 0 l.scene.rows.now)

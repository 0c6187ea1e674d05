use Rattle.std.proofs.Common.{◌∙◌, inr, get_or}
use Rattle.grant_machine_parts.specs.Placing.{is_free}
use Rattle.grant_machine_parts.specs.Gaps.{Gap}
use Rattle.grant_machine_parts.specs.Drawing.{begins_at}
use Rattle.grant_machine_parts.proofs.Drawn.{first_gap, gap_begins_early, behind_gaps, gap_more, placements_more}
use Rattle.grant_machine_parts.proofs.drawing.put_intervals.Goals as goal

abbrev blank : Gap
blank = record { from = 0; to = 0 }

pub put_placements-requires : goal.put_placements-requires
put_placements-requires c =
    let gap = first_gap (is_free c.args.placements.now) c.loop-gap.x c.args.len c.args.gaps.now c.loop-gap.gap-index blank c.loop-gap-test.true c.loop-gap.invariant.free in
    record { order = gap.0.from; held = gap.0.before; alone = c.requires.alone }

pub put_gap-requires : goal.put_gap-requires
put_gap-requires c =
    let gap = first_gap (is_free c.args.placements.now) c.loop-gap.x c.args.len c.args.gaps.now c.loop-gap.gap-index blank c.loop-gap-test.true c.loop-gap.invariant.free in
    gap_begins_early gap.0 c.requires.short

pub loop-gap-preserved : goal.loop-gap-preserved
loop-gap-preserved c =
    let gap = first_gap (is_free c.args.placements.now) c.loop-gap.x c.args.len c.args.gaps.now c.loop-gap.gap-index blank c.loop-gap-test.true c.loop-gap.invariant.free in
    record {
      free = gap.1;
      anew = inr gap.0.behind;
      within = gap.0.within;
      put = gap_more c.args.placements.now c.args.len c.loop-gap.x (get_or c.args.gaps.now c.loop-gap.gap-index blank) c.args.elements.now.items c.loop-gap.elements.items c.put_placements.new.elements.items c.put_gap.new.elements.items gap.0 c.loop-gap.invariant.anew
          c.loop-gap.invariant.put c.in_ok-drawn.ensures c.in_ok-put_gap.ensures;
    }

pub put_placements-requires-2 : goal.put_placements-requires-2
put_placements-requires-2 c = record {
  order = c.loop-gap.invariant.within;
  held = behind_gaps (is_free c.args.placements.now) c.loop-gap.x c.args.len c.args.gaps.now c.loop-gap.gap-index c.loop-gap-test.false c.loop-gap.invariant.free;
  alone = c.requires.alone;
}

pub returns : goal.returns
returns c = c.in_ok-put_placements.ensures ∙ placements_more (begins_at c.args.placements.now) c.loop-gap.x c.args.len c.args.elements.now.items c.loop-gap.elements.items c.loop-gap.invariant.within c.loop-gap.invariant.put

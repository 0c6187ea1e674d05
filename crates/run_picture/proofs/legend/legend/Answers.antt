use Rattle.run_picture.specs.Heads.{counts_words}
use Rattle.run_picture.proofs.Rendered.{grown}
use Rattle.run_picture.proofs.legend.legend.Goals as goal

pub add_items-requires : goal.add_items-requires
add_items-requires c =
    grown _ _ (counts_words c.args.counts.members c.args.counts.modems c.args.counts.span c.args.counts.events c.args.counts.letters) c.in_ok-out.ensures c.in_ok-add_counts.ensures

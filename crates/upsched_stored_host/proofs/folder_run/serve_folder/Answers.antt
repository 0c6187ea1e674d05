use Rattle.upsched_host.specs.declared.folder_words.HostStart.TheVariants.{Left, New}
use Rattle.upsched_stored_host.proofs.Started.{starts_as}
use Rattle.upsched_stored_host.proofs.folder_run.serve_folder.Goals as goal

pub returns-in-New : goal.returns-in-New
returns-in-New g c = starts_as New c.args.start c.in-New.is c.serve_new.ensures

pub returns-in-Left : goal.returns-in-Left
returns-in-Left g c = starts_as Left c.args.start c.in-Left.is c.serve_again.ensures

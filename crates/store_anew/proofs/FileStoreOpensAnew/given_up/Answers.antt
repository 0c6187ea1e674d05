use Rattle.store_anew.proofs.Given.{was_clean, finds_left}
use Rattle.store_anew.proofs.FileStoreOpensAnew.given_up.Goals as goal

pub returns-clause-clean : goal.returns-clause-clean
returns-clause-clean g c conn found = was_clean conn c.args.self c.close.result c.close.ensures found

pub returns-clause-left : goal.returns-clause-left
returns-clause-left g c conn found = finds_left conn c.args.self c.close.result c.close.ensures found g.met.D.Disk.seen_may_stay

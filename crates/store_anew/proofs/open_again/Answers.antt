use Rattle.std.proofs.Common.{sym}
use Rattle.std.proofs.lemmas.Bool.{and_parts}
use Rattle.store_anew.proofs.open_again.Goals as goal

pub open_files-requires-clause-log : goal.open_files-requires-clause-log
open_files-requires-clause-log g c = (and_parts _ _ (sym c.if-not-may_be_used.ensures)).0

pub open_files-requires-clause-db : goal.open_files-requires-clause-db
open_files-requires-clause-db g c = (and_parts _ _ (sym c.if-not-may_be_used.ensures)).1

use Rattle.std.proofs.Common.{subst}
use Rattle.acceptor_store_parts.specs.Wrong.{IsNoVersions, IsWrong}
use Rattle.sqlite.specs.Schema.{Schema}
use Rattle.stored_nodes.proofs.foreign.cause_of.Goals as goal

pub returns-in-Some : goal.returns-in-Some
returns-in-Some g c always sound =
    subst (λ (s : Schema). IsNoVersions s × IsWrong s c.in-Some.part) c.schema.ensures.value (rw c.in-Some.is at c.in_ok-part.ensures)

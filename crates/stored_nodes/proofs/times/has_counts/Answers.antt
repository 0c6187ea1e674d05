use Rattle.std.proofs.Common.{◌≡◌, Option, IfNone, subst}
use Rattle.acceptor_store_parts.specs.Tables.{schema_of}
use Rattle.acceptor_store_parts.specs.declared.Version.{Version}
use Rattle.acceptor_store_parts.specs.declared.Version.TheVariants.{Fourth}
use Rattle.stored_nodes.proofs.times.has_counts.Goals as goal

pub returns-in-None-clause-no : goal.returns-in-None-clause-no
returns-in-None-clause-no c no' is = subst (λ (o : Option Version). IfNone o ((version : Version) → c.args.schema.now ≡ schema_of version → ⊥)) c.in-None.is c.in_ok-version_of.ensures.none Fourth is

-- What is wrong of files that hold no database of a node.
use Rattle.std.specs.Prelude.{◌≡◌, ◌⊎◌, Option, Some, None}
use Rattle.acceptor_store_parts.specs.Wrong.{HasRightLearned, HasRightVotes, HasWrongLearned, HasWrongVotes}
use Rattle.acceptor_store_parts.specs.Wrong.{IsNoVersions, IsVersions, IsWrong}
use Rattle.acceptor_store_parts.specs.declared.wrong.NodeTable.{NodeTable}
use Rattle.acceptor_store_parts.specs.declared.wrong.NodeTable.TheVariants.{Ballot, Vote, Learned, Fact}
use Rattle.sqlite.specs.Effect.{Database}
use Rattle.sqlite_wal.specs.Recovery.{Image}
use Rattle.stored_nodes.specs.Looks.{IsNoDatabase, IsRead}
use Rattle.stored_nodes.specs.declared.foreign.ForeignCause.{ForeignCause}
use Rattle.stored_nodes.specs.declared.foreign.ForeignCause.TheVariants.{NoDatabase, Part, Rows}

-- of the tables of votes and of learned values this is the first whose rows no node writes; none is where both are right
abbrev pub HasWrongRows : Database → Option NodeTable → Type 0
HasWrongRows d (Some Vote) = HasWrongVotes d
HasWrongRows d (Some Learned) = HasRightVotes d × HasWrongLearned d
HasWrongRows d (Some Ballot) = ⊥
HasWrongRows d (Some Fact) = ⊥
HasWrongRows d None = HasRightVotes d × HasRightLearned d

-- what is wrong of a database: a part of its tables, or rows in tables that a node makes
abbrev pub IsCauseOf : Database → ForeignCause → Type 0
IsCauseOf d NoDatabase = ⊥
IsCauseOf d (Part part) = IsNoVersions d.schema × IsWrong d.schema part
IsCauseOf d (Rows which) = IsVersions d.schema × HasWrongRows d which

-- so of one that an open of these bytes reads, or they are no database's
abbrev pub IsCauseIn : Image → ForeignCause → Type 0
IsCauseIn image cause = (IsNoDatabase image × (cause ≡ NoDatabase)) ⊎ ((d : Database) × IsRead image d × IsCauseOf d cause)

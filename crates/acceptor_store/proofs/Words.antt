-- Words of other libraries and of the specs that proofs use.
pub use Rattle.acceptor.proofs.Callers.{greatest_apart, greatest_max, replaced}
pub use Rattle.acceptor.specs.Calls.{KeepsTrust, Writes}
pub use Rattle.acceptor.specs.Content.{AreRowsFrom, AreValues, Content, IsSound, Write, after_write, greatest}
pub use Rattle.acceptor.specs.Content.{no_content, promised}
pub use Rattle.acceptor.specs.Content.Write.{Promises, Votes}
pub use Rattle.acceptor.specs.Faults.{IsHarmless}
pub use Rattle.acceptor.specs.Found.{AddsNothing, AddsOnly, Findable, FindsSame, HasMade, Holds, HoldsEither, Keeps}
pub use Rattle.acceptor.specs.Found.{MayHaveMade}
pub use Rattle.acceptor.specs.declared.records.RecordsFault.{RecordsFault}
pub use Rattle.acceptor_store.specs.Counting.{AreTablesNext, Follows, HasCounted, HasCountedAll, MayHaveCounted}
pub use Rattle.acceptor_store.specs.Counting.{MayHaveCountedAll}
pub use Rattle.acceptor_store.specs.Linked.{IsKnownCount, IsUnownedVersion, ServesKnown, StaysKnown}
pub use Rattle.acceptor_store.specs.Owning.{AreReadAs, CountsFor, HadFor, HadRead, IsCountRead, IsToCount}
pub use Rattle.acceptor_store.specs.Owning.{IsToMakeFor, NamesAt, NamesNone, ServesRead, ShowsAt, version_read}
pub use Rattle.acceptor_store.specs.Linked.{AreNumbersOf, CannotBeRead, Examines, FailsAnew, FindsContent, Had, HadIn}
pub use Rattle.acceptor_store.specs.Linked.{HasFurther, HasNumbers, HasStopped, IsHonest, IsLeftWhole}
pub use Rattle.acceptor_store.specs.Linked.{IsLinked, IsRefused, IsServing, IsTested, IsToMake, Knows, Leaves, Linked}
pub use Rattle.acceptor_store.specs.Linked.{MakesReady, MayFind, MayFindIn, Reopens, SeesForeign, ServesNone, Stands}
pub use Rattle.acceptor_store.specs.Linked.{StaysAs, Tells, greatest_beside, held_of, is_clean_in, is_honest}
pub use Rattle.acceptor_store.specs.Owning.{AdoptsFor, ExaminesFor, FindsFor, HadAs, HadBefore, HasFurtherAs, IsDue}
pub use Rattle.acceptor_store.specs.Owning.{IsDueBefore, IsLeftAs, IsLeftBefore, IsRefusedFor, Names, PreparesFor}
pub use Rattle.acceptor_store.specs.Stopped.{fault_of}
pub use Rattle.acceptor_store.specs.declared.OpenFault.{OpenFault}
pub use Rattle.acceptor_store.specs.declared.OpenFault.TheVariants.{Foreign}
pub use Rattle.acceptor_store.specs.declared.known.Numbers.{Numbers}
pub use Rattle.acceptor_store.specs.declared.owned.OwnerFault.{OwnerFault}
pub use Rattle.acceptor_store.specs.declared.owned.OwnerFault.TheVariants.{Blank, Open, OtherMembers, OtherNode}
pub use Rattle.acceptor_store.specs.declared.owned.OwnerFault.TheVariants.{Unowned}
pub use Rattle.acceptor_store_parts.proofs.Callers.{all_learned_shown, all_rows, all_shown, as_version, content_once}
pub use Rattle.acceptor_store_parts.proofs.Callers.{one_content, serves_as, serves_for, tables_as, tables_for}
pub use Rattle.acceptor_store_parts.specs.Foreign.{HasFacts, HoldsNone, HoldsNoneOwned, IsBroken, IsForeignSchema}
pub use Rattle.acceptor_store_parts.specs.Foreign.{IsUnowned}
pub use Rattle.acceptor_store_parts.specs.Making.{IsMade, MayBeMade, first_count}
pub use Rattle.acceptor_store_parts.specs.Counts.{ShowsCount}
pub use Rattle.acceptor_store_parts.specs.Owned.{AreOwnedBy, AreTablesAt, AreTablesFor, AreUncounted, IsCount, IsNext}
pub use Rattle.acceptor_store_parts.specs.Owned.{IsOwnedAt, IsOwner, NamesOwner, OwnedAt, OwnedBefore, OwnedBy}
pub use Rattle.acceptor_store_parts.specs.Owned.{count_bytes, facts_of, owner_bytes, schema_for, version_for}
pub use Rattle.acceptor_store_parts.specs.Rowids.{AreByRowid, AreShaped, IsReread, Rereads}
pub use Rattle.acceptor_store_parts.specs.Serves.{DoesNotServe, HasWritten, IsOther, MayHaveWritten, Serves, ServesAs}
pub use Rattle.acceptor_store_parts.specs.Serves.{ServesAt, ServesFor, StillServes}
pub use Rattle.acceptor_store_parts.specs.Stops.{LeavesOpen, leaves_open}
pub use Rattle.acceptor_store_parts.specs.Stored.{AreTablesOf, HasLearned, IsCast, IsLearned, IsNumber, KeepsLearned}
pub use Rattle.acceptor_store_parts.specs.Stored.{fact_row, fact_shown, learned_row, numbers_of, vote_row}
pub use Rattle.acceptor_store_parts.specs.Tables.{blank_schema, schema_of}
pub use Rattle.acceptor_store_parts.specs.Tests.{IsFault, IsTold, told_as}
pub use Rattle.acceptor_store_parts.specs.declared.Stop.{Stop}
pub use Rattle.acceptor_store_parts.specs.declared.Stop.TheVariants.{Down, Memory}
pub use Rattle.acceptor_store_parts.specs.declared.Version.{Version}
pub use Rattle.acceptor_store_parts.specs.declared.Version.TheVariants.{First, Second, Third, Fourth}
pub use Rattle.acceptor_store_parts.specs.declared.making.Making.TheVariants.{Counted, Owned, OwnedTables, Raised, Tables}
pub use Rattle.acceptor_store_parts.specs.declared.owner.Owner.{Owner}
pub use Rattle.ballots.proofs.Callers.{in_order, put_after, put_before, put_here}
pub use Rattle.ballots.specs.Ballots.{number_of}
pub use Rattle.ballots.specs.Rows.{at, put, rows_from}
pub use Rattle.ballots.specs.declared.letters.Cast.{Cast}
pub use Rattle.sqlite.proofs.StateLemmas.{survives_then, survives_weaker}
pub use Rattle.sqlite.specs.Effect.{Database, IsDatabase}
pub use Rattle.sqlite.specs.Held.{Held, state}
pub use Rattle.sqlite.specs.State.{HasCleanDisk, IsUnchanged, Opens, State, Survives}
pub use Rattle.sqlite.specs.Store.{Ghosts}
pub use Rattle.sqlite.specs.Tree.{Trees}
pub use Rattle.sqlite.specs.declared.error.Error.{Error}
pub use Rattle.sqlite.specs.declared.error.Error.TheVariants.{SqliteFailure}
pub use Rattle.sqlite_trees.proofs.Doubt.{clean_of, no_doubt}
pub use Rattle.sqlite_trees.specs.View.{IsClean}
pub use Rattle.std.proofs.Math.Logic.{∥∥₁_elim, ∥∥₁_map, ∥∥₁_prop}
pub use Rattle.std.proofs.lemmas.Bool.{and_from, and_parts, cases_Bool, eq-eqb, eqb-true}
pub use Rattle.std.proofs.lemmas.Bool.Decides.{nat_tests}
pub use Rattle.std.proofs.lemmas.List.{at_drop_more}
pub use Rattle.std.proofs.lemmas.Option.{IfSome_then}
pub use Rattle.std.proofs.lemmas.Result.{IfErr-weaker, IfOk-weaker, err_from_is_err_and}
pub use Rattle.std.specs.Coded.{Coded, code_by, coded_list, coded_ℕ, coded×}
pub use Rattle.std.specs.List.{AllByRecursion}

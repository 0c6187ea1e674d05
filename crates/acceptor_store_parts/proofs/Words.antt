-- Words of other libraries and of the specs that proofs use.
pub use Rattle.acceptor.proofs.Callers.{rows_put, values_put}
pub use Rattle.acceptor.specs.Content.{AreRowsFrom, AreValues, Content, IsSound, Write, after_write, no_content}
pub use Rattle.acceptor.specs.Content.Write.{Learns, Promises, Votes}
pub use Rattle.acceptor_store_parts.specs.Asked.{shown_of}
pub use Rattle.acceptor_store_parts.specs.Batch.{CountsInside, HasWrittenAll, LeadsInside, MayHaveWrittenAll, PutsAllInside}
pub use Rattle.acceptor_store_parts.specs.Batch.{PutsInside, Wrote}
pub use Rattle.acceptor_store_parts.specs.Counts.{HasCount, IsCountOf, ShowsCount}
pub use Rattle.acceptor_store_parts.specs.Making.{HoldsAt, HoldsFirst, HoldsFor, HoldsUncounted, IsBlank, IsMade}
pub use Rattle.acceptor_store_parts.specs.Making.{Makes, MayBeMade, PutsCount, Was, first_count, owner_then}
pub use Rattle.acceptor_store_parts.specs.Owned.{AreOwnedBy, AreTablesAt, AreTablesFor, AreUncounted, IsCount}
pub use Rattle.acceptor_store_parts.specs.Owned.{IsNext, IsOwnedAt, IsOwnedBy, IsOwner, NamesOwner, OwnedAt}
pub use Rattle.acceptor_store_parts.specs.Owned.{OwnedBefore, OwnedBy, count_bytes, facts_of, number_for, owner_bytes}
pub use Rattle.acceptor_store_parts.specs.Owned.{schema_for, version_for}
pub use Rattle.acceptor_store_parts.specs.Rowids.{AreByRowid, AreShaped, HasFactTable, ShowsFacts, ShowsLearned}
pub use Rattle.acceptor_store_parts.specs.Rowids.{ShowsNumbers, ShowsVotes}
pub use Rattle.acceptor_store_parts.specs.Serves.{DoesNotServe, HasWritten, MayHaveWritten, Serves, ServesAs, ServesAt}
pub use Rattle.acceptor_store_parts.specs.Serves.{ServesFor, Stays, StillServes}
pub use Rattle.acceptor_store_parts.specs.Stored.{AreTablesOf, HasLearned, IsCast, IsLearned, KeepsLearned, fact_row}
pub use Rattle.acceptor_store_parts.specs.Stored.{fact_shown, first_of, learned_row, learned_shown, number_row}
pub use Rattle.acceptor_store_parts.specs.Stored.{number_shown, numbers_of, numbers_shown, three, vote_row, vote_shown}
pub use Rattle.acceptor_store_parts.specs.Tables.{all_learned_query, all_votes_query, ballot_table, ballot_text}
pub use Rattle.acceptor_store_parts.specs.Tables.{blank_schema, fact_put, fact_table, fact_text, facts_query}
pub use Rattle.acceptor_store_parts.specs.Tables.{learned_put, learned_table, learned_text, numbers_query, promised_put}
pub use Rattle.acceptor_store_parts.specs.Tables.{schema_of, strict_table, tried_put, version_put, vote_put, vote_table}
pub use Rattle.acceptor_store_parts.specs.Tables.{vote_text}
pub use Rattle.acceptor_store_parts.specs.Tests.{IsFault, IsShutBy, tells_open}
pub use Rattle.acceptor_store_parts.specs.declared.Version.{Version}
pub use Rattle.acceptor_store_parts.specs.declared.Version.TheVariants.{First, Second, Third, Fourth}
pub use Rattle.acceptor_store_parts.specs.declared.owner.Owner.{Owner}
pub use Rattle.acceptor_store_parts.specs.declared.reads.Asked.{Asked}
pub use Rattle.acceptor_store_parts.specs.declared.reads.Asked.TheVariants.{LearnedAt, LearnedFrom, VoteAt, VotesFrom}
pub use Rattle.ballots.proofs.Callers.{at_after, at_before, at_here, put_after, put_before, put_here}
pub use Rattle.ballots.specs.Limits.{IsPlace, IsValue}
pub use Rattle.ballots.specs.Rows.{at, put, rows_from}
pub use Rattle.ballots.specs.declared.letters.Cast.{Cast}
pub use Rattle.sqlite.proofs.Callers.{IsPlain, command_of, never_commits, one_step, reads_as, runs_as, statement_of}
pub use Rattle.sqlite.proofs.Callers.{survives_begin}
pub use Rattle.sqlite.proofs.StateLemmas.{survives_then, survives_weaker}
pub use Rattle.sqlite.proofs.StreamLemmas.{is_open_now}
pub use Rattle.sqlite.specs.Change.{KeepsRows, created, next_tree}
pub use Rattle.sqlite.specs.Clock.{timed}
pub use Rattle.sqlite.specs.Collation.TheVariants.{Binary}
pub use Rattle.sqlite.specs.Command.{Command}
pub use Rattle.sqlite.specs.Command.TheVariants.{CreateTable, Insert, InsertOr, Select}
pub use Rattle.sqlite.specs.Compile.{table_defined_by}
pub use Rattle.sqlite.specs.Does.{Does, OnRows, Tally, lacks_sequence}
pub use Rattle.sqlite.specs.Edit.{edited}
pub use Rattle.sqlite.specs.Effect.{Database, IsDatabase, Reads, value_rows}
pub use Rattle.sqlite.specs.Held.{Held, state}
pub use Rattle.sqlite.specs.Listing.{IsSourceOf, misses_table, reads_listing}
pub use Rattle.sqlite.specs.Ops.{is_true}
pub use Rattle.sqlite.specs.Order.{Row, column, value_cmp}
pub use Rattle.sqlite.specs.Program.{ProgramOverflows, overlay}
pub use Rattle.sqlite.specs.Query.{IsAnswer, Output, Query, end, inner, matches, output, output_cmp}
pub use Rattle.sqlite.specs.Rows.{Clears, Counts, Judged, Task, TriesEach, Upserts, Written, count_of, mended, nothing}
pub use Rattle.sqlite.specs.Rows.{rowids_for, stamped}
pub use Rattle.sqlite.specs.Schema.{Schema}
pub use Rattle.sqlite.specs.Source.TheVariants.{Values}
pub use Rattle.sqlite.specs.State.{Executes, FailsToShow, HasCause, HasCleanDisk, IsNoStatement, IsRolledBack}
pub use Rattle.sqlite.specs.State.{IsUnchanged, MayWrite, Runs, RunsCommand, Shows, ShowsRows, State, Survives, Writes}
pub use Rattle.sqlite.specs.State.{mode_of, shows_rows, store_error}
pub use Rattle.sqlite.specs.Store.{Ghosts}
pub use Rattle.sqlite.specs.Term.{Term, col, lit, op2}
pub use Rattle.sqlite.specs.Tree.{has_rowid, put_row, without_rowid}
pub use Rattle.sqlite.specs.declared.error.Error.{Error}
pub use Rattle.sqlite.specs.declared.run.Mode.{Mode}
pub use Rattle.sqlite.specs.declared.types.Value.{Value}
pub use Rattle.sqlite.specs.declared.types.Value.TheVariants.{Blob, Int, Null, Real, Text}
pub use Rattle.sqlite_resolve.specs.Compile.{compiled}
pub use Rattle.sqlite_resolve.specs.declared.compiled.Compiled.{Compiled}
pub use Rattle.sqlite_rules.specs.Action.{works}
pub use Rattle.sqlite_rules.specs.Calls.{ids_of}
pub use Rattle.sqlite_rules.specs.Cast.{cast, cast_row}
pub use Rattle.sqlite_rules.specs.Edit.{Edit, id_in, taken_by, with_rowid, without_all}
pub use Rattle.sqlite_rules.specs.Keys.{AreConflicts, conflicts}
pub use Rattle.sqlite_rules.specs.Lists.{Has}
pub use Rattle.sqlite_rules.specs.declared.error.Refusal.{Refusal}
pub use Rattle.sqlite_rules.specs.declared.error.Rowids.TheVariants.{Given}
pub use Rattle.sqlite_schema.specs.Rules.{passes, suits}
pub use Rattle.sqlite_schema.specs.declared.command.Conflict.TheVariants.{Replace}
pub use Rattle.sqlite_schema.specs.declared.command.Returning.{Returning}
pub use Rattle.sqlite_schema.specs.declared.schema.Constraint.TheVariants.{Datatype}
pub use Rattle.sqlite_schema.specs.declared.schema.Keys.{Keys}
pub use Rattle.sqlite_schema.specs.declared.schema.Kind.{Kind}
pub use Rattle.sqlite_schema.specs.declared.schema.Kind.TheVariants.{Integer}
pub use Rattle.sqlite_sql.specs.Ops.{is_null}
pub use Rattle.sqlite_sql.specs.declared.ops.CompareOp.TheVariants.{Eq, Ge}
pub use Rattle.sqlite_trees.specs.Props.{rows_set}
pub use Rattle.sqlite_trees.specs.Tree.{IsTable}
pub use Rattle.sqlite_trees.specs.View.{IsClean, IsShaped}
pub use Rattle.sqlite_trees.specs.declared.error.StoreError.{StoreError}
pub use Rattle.sqlite_trees.specs.declared.error.StoreError.TheVariants.{Broken, Corrupt, Full, Io, OutOfMemory}
pub use Rattle.sqlite_trees.specs.declared.error.StoreError.TheVariants.{Unstorable}
pub use Rattle.sqlite_typing.specs.Types.{accepts_program}
pub use Rattle.sqlite_value.proofs.OrderLemmas.{value_cmp-Int}
pub use Rattle.std.proofs.Math.Bridge.{le_prop}
pub use Rattle.std.proofs.lemmas.Bool.{and_parts, cases_Bool, cases_eq, cases_lt, eq-eqb, eqb-true}
pub use Rattle.std.proofs.lemmas.Bool.Decides.{nat_tests}
pub use Rattle.std.proofs.lemmas.Int.{ints, to_z-of_z}
pub use Rattle.std.proofs.lemmas.List.{at_drop_all, at_drop_more, take_more}
pub use Rattle.std.proofs.lemmas.List.Elements.{All-from_recursion, recursion_from_All}
pub use Rattle.std.proofs.lemmas.List.Sorted.{All-permutation, IsPermutation-sym, sum_by-IsPermutation}
pub use Rattle.std.proofs.lemmas.List.Sums.{sum_by-cons}
pub use Rattle.std.proofs.lemmas.Option.{IfSome_then}
pub use Rattle.std.proofs.lemmas.Result.{IfOk-weaker}
pub use Rattle.std.specs.List.{AllByRecursion, sum_by}
pub use Rattle.std.specs.List.Sorted.{IsPermutation, IsSorted}
pub use Rattle.std.specs.Ordering.{int_cmp, is_lt}
pub use Rattle.std.specs.declared.cmp.Ordering.{Ordering}
pub use Rattle.std.specs.declared.cmp.Ordering.TheVariants.{Equal, Greater, Less}
pub use mathlib.Core.HLevel.{Σ_prop_path}

-- Names of specs that the proofs cite.
pub use Rattle.pid_file.specs.Labels.{label}
pub use Rattle.pid_file.specs.PathTexts.{parent_of}
pub use Rattle.pid_file.specs.Printing.{block_line, ended, header, item_line, label_of, lines_after, opens_block, print}
pub use Rattle.pid_file.specs.Steps.Paths.{path_cmp}
pub use Rattle.pid_file.specs.Steps.Printing.{text_or_none}
pub use Rattle.pid_file.specs.WholeInputs.{SkipsInput}
pub use Rattle.pid_file.specs.declared.io.WriteFault.{WriteFault}
pub use Rattle.pid_file.specs.declared.path.Path.{Path}
pub use Rattle.pid_file.specs.declared.path.Path.TheVariants.{Class, Device, Generic, ProgIf, Subclass, Subsystem, Vendor}
pub use Rattle.pid_file.specs.declared.whole_input.SkipEnd.{SkipEnd}
pub use Rattle.pid_ident.specs.Sending.{SendsFront}
pub use Rattle.pid_ident.specs.Trees.{TreeMap}
pub use Rattle.pid_ident.specs.Words.{is_name}
pub use Rattle.pid_lookup.specs.Answers.{answer_of}
pub use Rattle.pid_lookup.specs.CacheAgreement.{Agrees}
pub use Rattle.pid_lookup.specs.CacheEntries.{Entries}
pub use Rattle.pid_lookup.specs.Flags.{is_bad}
pub use Rattle.pid_lookup.specs.declared.answer.Answer.{Answer}
pub use Rattle.pid_lookup.specs.declared.answering.LookupRefusal.{LookupRefusal}
pub use Rattle.pid_lookup.specs.declared.answering.LookupRefusal.TheVariants.{BadFlags, Names}
pub use Rattle.pid_lookup.specs.declared.args.Args.{Args}
pub use Rattle.pid_moderation.specs.BeforeFile.{import_of, SettlesImport, WaitsForFile}
pub use Rattle.pid_moderation.specs.ChangePages.{changed_after, changed_of, ChangePage, is_later, numbered_in, start_text}
pub use Rattle.pid_moderation.specs.Changes.{affected, changed, edited, FitsEdit, FitsEffect, FitsViews, keeping, renumbered, with_items, with_pairs}
pub use Rattle.pid_moderation.specs.CheckTables.{checks, first_failing, is_broken, is_ill_formed, is_pending, most_file_bytes, most_revision, reply_by_facts, TellsLength}
pub use Rattle.pid_moderation.specs.Children.{children_of, stands_below}
pub use Rattle.pid_moderation.specs.Effects.{FitsHistory, LeadsOn, new_pairs}
pub use Rattle.pid_moderation.specs.FactsOfViews.{facts_of}
pub use Rattle.pid_moderation.specs.Files.{asks, file_of, file_reading, read_as, reading_of}
pub use Rattle.pid_moderation.specs.History.{accepted_count, Asked, asked, Begins, Deed, deed_of, Good, History, Imports, is_import, new_history, Reading, TooLong}
pub use Rattle.pid_moderation.specs.ItemPairs.{pair_of}
pub use Rattle.pid_moderation.specs.Items.{has_name, is_parent, Items, name_at}
pub use Rattle.pid_moderation.specs.Judgement.{Accepts, added, after, after_all, answer, answers, judge, Outcome, Repeated, unless, unless_kept}
pub use Rattle.pid_moderation.specs.PendingPages.{pending_above, pending_in, standings_from, told_of, waits_above}
pub use Rattle.pid_moderation.specs.QueuePages.{entry_in}
pub use Rattle.pid_moderation.specs.RegistryStatus.{registry_status_of, RegistryStatus}
pub use Rattle.pid_moderation.specs.Revisions.{IsMarked, taken_over}
pub use Rattle.pid_moderation.specs.Sound.{IsSound}
pub use Rattle.pid_moderation.specs.Submissions.{Standing}
pub use Rattle.pid_moderation.specs.Views.{decided, is_named_anew, items_of, rank_of, ranked, revision_of, since_of, state_of, submission_at, submits_of, submitted, Views, views_of, without_numbers}
pub use Rattle.pid_moderation.specs.WellMade.{AllItems, AreWellMade, HasGoodFile, IsItem, IsWellMade}
pub use Rattle.pid_moderation.specs.Writes.{tree_of}
pub use Rattle.pid_moderation.specs.declared.change.Change.{Change}
pub use Rattle.pid_moderation.specs.declared.change.Edit.{Edit}
pub use Rattle.pid_moderation.specs.declared.change.Edit.TheVariants.{Add, Remove, Rename}
pub use Rattle.pid_moderation.specs.declared.change.Effect.{Effect}
pub use Rattle.pid_moderation.specs.declared.change.Effect.TheVariants.{Decided, Ranked}
pub use Rattle.pid_moderation.specs.declared.change.Receipt.{Receipt}
pub use Rattle.pid_moderation.specs.declared.command.Act.{Act}
pub use Rattle.pid_moderation.specs.declared.command.Act.TheVariants.{Account, Approve, Comment, Import, Reject, Submit, Withdraw}
pub use Rattle.pid_moderation.specs.declared.command.Command.{Command}
pub use Rattle.pid_moderation.specs.declared.command.Proposal.{Proposal}
pub use Rattle.pid_moderation.specs.declared.command.Reply.{Reply}
pub use Rattle.pid_moderation.specs.declared.facts.Facts.{Facts}
pub use Rattle.pid_moderation.specs.declared.lists.ChangedItem.{ChangedItem}
pub use Rattle.pid_moderation.specs.declared.lists.Item.{Item}
pub use Rattle.pid_moderation.specs.declared.lists.Pending.{Pending}
pub use Rattle.pid_moderation.specs.declared.lists.TheConstants.{PAGE}
pub use Rattle.pid_moderation.specs.declared.rank.Rank.{Rank}
pub use Rattle.pid_moderation.specs.declared.refusal.Refusal.{Refusal}
pub use Rattle.pid_moderation.specs.declared.refusal.Refusal.TheVariants.{BadName, BadPath, BadText, Failed, FileFault, Full, HasChildren, NoAccount, NoSubmission, NotAuthor, NothingToDo, NotPending, OwnDecision, ParentMissing, RankTooLow}
pub use Rattle.pid_reader.specs.Lines.{lines_of}
pub use Rattle.pid_reader.specs.Numbered.{item_in, Numbered}
pub use Rattle.pid_reader.specs.Reading.{entries_of}
pub use Rattle.pid_reader.specs.Sinks.{Took}
pub use Rattle.pid_reader.specs.WholeLines.{open_part}
pub use Rattle.pid_service.specs.Asking.{Answers, AnswersIfThere, IsCausedAs, MayGive}
pub use Rattle.pid_service.specs.Exporting.{IsExported}
pub use Rattle.pid_service.specs.Histories.{FailsBetween, IsReached, OverHistory, Shows}
pub use Rattle.pid_service.specs.Importing.{EndIsNotFailed, EndLasts, IsEndFault, leaves_live, ObeysImport, OfRefusal}
pub use Rattle.pid_service.specs.ItemTexts.{extents_after, text_behind, text_of_items}
pub use Rattle.pid_service.specs.KeptViews.{AreChanged, extent_in, HoldsAccounts, HoldsChanges, HoldsPending, HoldsText, HoldsTop, IsKeptText, IsRightFor, KeepsNothing, KeepsRight, kept_by, kept_views, nothing, numbers_pending}
pub use Rattle.pid_service.specs.Obeying.{DependsOnFile, ImportFaults, IsAccepted, IsObeyed, IsRefusedFor, Lasts, Obeys}
pub use Rattle.pid_service.specs.Opening.{ExplainsNow, ExplainsOpening, HasWritten, IsFound, KeepsTables, KeepsViews, MayHaveMade, moved_to, MovesAtOnce, MovesJudged, MovesShown, MovesTo, OpensAtOnce, OpensTo}
pub use Rattle.pid_service.specs.Registries.{connection, is_live, KeepsLimit}
pub use Rattle.pid_service.specs.Running.{EndsRun, EndsTurn, ObeysInTurn, ReplyIsNotFailed, Runs, RunsInTurn}
pub use Rattle.pid_service.specs.SessionLaws.{KeepsBetween}
pub use Rattle.pid_service.specs.Sessions.{FailedOpening, IsAfterSession, IsAfterStop, KeepsHistory, LeavesTablesTo, Migration, NextStop}
pub use Rattle.pid_service.specs.Steps.Asking.{answered_as, Finds, FindsIfThere, OnlyAsked}
pub use Rattle.pid_service.specs.Steps.ExportSinks.{lines_of_entry, PrintsItem, StopsWithin}
pub use Rattle.pid_service.specs.Steps.Exporting.{IsToldAs}
pub use Rattle.pid_service.specs.Steps.Exports.{ExportsTree, WritesItems}
pub use Rattle.pid_service.specs.Steps.Importing.{AnswersPast, EndStaysLive, FaultStays, IsPlain, long_refusal}
pub use Rattle.pid_service.specs.Steps.ItemTexts.{Extents}
pub use Rattle.pid_service.specs.Steps.Judging.{IsJudgedFor, JudgesCommand}
pub use Rattle.pid_service.specs.Steps.KeptChanges.{changed_item, comes_after, is_on, on_side, with_edit}
pub use Rattle.pid_service.specs.Steps.KeptChildren.{before_name}
pub use Rattle.pid_service.specs.Steps.KeptItems.{LeavesTheRest}
pub use Rattle.pid_service.specs.Steps.Obeying.{StaysLive}
pub use Rattle.pid_service.specs.Steps.PendingNumbers.{its_number}
pub use Rattle.pid_service.specs.Steps.Renewing.{BeginsAt, bytes_in, edited_item, has_lines, IsPlace, last_extent, new_items, OpensTheSame, path_before, PutsLines}
pub use Rattle.pid_service.specs.Steps.Running.{fault_in}
pub use Rattle.pid_service.specs.Steps.TextSinks.{block_after, HasLines, Lengthens, TakesItem}
pub use Rattle.pid_service.specs.declared.changes.KeptChanges.{KeptChanges}
pub use Rattle.pid_service.specs.declared.export_sink.ExportSink.{ExportSink}
pub use Rattle.pid_service.specs.declared.items_text.GrowingText.{GrowingText}
pub use Rattle.pid_service.specs.declared.items_text.TextSink.{TextSink}
pub use Rattle.pid_service.specs.declared.judging.Judged.{Judged}
pub use Rattle.pid_service.specs.declared.judging.Judged.TheVariants.{Accepted}
pub use Rattle.pid_service.specs.declared.kept_text.Extent.{Extent}
pub use Rattle.pid_service.specs.declared.kept_text.KeptText.{KeptText}
pub use Rattle.pid_service.specs.declared.kept_views.KeptItems.{KeptItems}
pub use Rattle.pid_service.specs.declared.kept_views.KeptViews.{KeptViews}
pub use Rattle.pid_service.specs.declared.registry.Registry.{Registry}
pub use Rattle.pid_service.specs.declared.renewing.TextPlace.{TextPlace}
pub use Rattle.pid_service.specs.declared.running.RunReport.{RunReport}
pub use Rattle.pid_service_laws.specs.Calls.{nothing_sent, obeyed}
pub use Rattle.pid_service_laws.specs.CrashPrefix.{IsAfterPrefixes}
pub use Rattle.pid_service_laws.specs.Imports.{import_sent, ReadsImport}
pub use Rattle.pid_service_laws.specs.Moderating.{ExportsText, LooksUp}
pub use Rattle.pid_service_laws.specs.Outcomes.{is_outcome}
pub use Rattle.pid_service_laws.specs.Registries.{Does, ShowsAgain}
pub use Rattle.pid_service_laws.specs.WholeFronts.{IsWholeFront}
pub use Rattle.pid_service_laws.specs.declared.faults.ExportFault.{ExportFault}
pub use Rattle.pid_service_laws.specs.declared.faults.ImportEnd.{ImportEnd}
pub use Rattle.pid_service_laws.specs.declared.faults.ImportEnd.TheVariants.{Body}
pub use Rattle.pid_tables.specs.AtOnce.{IsCommitted, IsOneStep, IsTakenBack}
pub use Rattle.pid_tables.specs.Bringing.{Brings, Fails, Left, Raised, Refuses, Stays}
pub use Rattle.pid_tables.specs.Check.Checking.{Explains, FindsVersion}
pub use Rattle.pid_tables.specs.Check.Shapes.{HasSomeTable}
pub use Rattle.pid_tables.specs.Clauses.{EarlyIsCaused, IsOpened}
pub use Rattle.pid_tables.specs.Creation.{ListsNoTable, RestsBare}
pub use Rattle.pid_tables.specs.Faults.{IsCausedRefusal, refusal_for}
pub use Rattle.pid_tables.specs.ImportClauses.{EndsImport}
pub use Rattle.pid_tables.specs.Importing.{ReadsFile, RefusesImport, StopIsNotFailed}
pub use Rattle.pid_tables.specs.Judging.{HasOneOutcome, IsOpen}
pub use Rattle.pid_tables.specs.Lists.ByNumber.{standings_at}
pub use Rattle.pid_tables.specs.Lists.Clauses.{IsCausedEnd}
pub use Rattle.pid_tables.specs.Lists.EachItem.{placed_from, Walks, WalksSome}
pub use Rattle.pid_tables.specs.Lists.Laws.{pending_number, PendingGoOn}
pub use Rattle.pid_tables.specs.Lists.Pages.{last_of}
pub use Rattle.pid_tables.specs.Lists.Steps.PendingRows.{AreStandingIn}
pub use Rattle.pid_tables.specs.Rows.Accounts.{HasAccounts}
pub use Rattle.pid_tables.specs.Rows.Causes.{IsCaused, IsReadable}
pub use Rattle.pid_tables.specs.Rows.Clauses.{LeavesEither, seen}
pub use Rattle.pid_tables.specs.Rows.Faults.{IsNotNewerSchema}
pub use Rattle.pid_tables.specs.Rows.Leaves.{found_in, IsShown, RestsIn}
pub use Rattle.pid_tables.specs.Rows.Schema.{schema_of}
pub use Rattle.pid_tables.specs.Rows.Shows.{AreViews, ShowsIn}
pub use Rattle.pid_tables.specs.Searches.Filings.{filed_as}
pub use Rattle.pid_tables.specs.Searches.KeptNumbers.{AreKeptFor, HoldsNumbers}
pub use Rattle.pid_tables.specs.declared.database.Database.{Ghosts}
pub use Rattle.pid_tables.specs.declared.judging.Early.TheVariants.{Answered}
pub use Rattle.pid_tables.specs.declared.lists.walk.EachEnd.{EachEnd}
pub use Rattle.pid_tables.specs.declared.lists.walk.EachEnd.TheVariants.{Fault, Tables}
pub use Rattle.pid_tables.specs.declared.migration.Step.{Step}
pub use Rattle.pid_tables.specs.declared.migration.Step.TheVariants.{Already, Created, Moved}
pub use Rattle.pid_tables.specs.declared.rows.fault.TableFault.{TableFault}
pub use Rattle.pid_tables.specs.declared.rows.fault.TableFault.TheVariants.{Damaged, NewerSchema}
pub use Rattle.pid_tables.specs.declared.rows.schema_version.Version.{Version}
pub use Rattle.pid_tables.specs.declared.rows.schema_version.Version.TheVariants.{One, Two}
pub use Rattle.pid_tables.specs.declared.searches.numbers.Searches.{Searches}
pub use Rattle.pid_tables.specs.declared.searches.numbers.Searches.TheVariants.{Lacking, Unread}
pub use Rattle.sqlite.specs.Effect.{Database}
pub use Rattle.sqlite.specs.State.{Survives}
pub use Rattle.sqlite.specs.Tree.{Trees}

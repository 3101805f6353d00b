-- Why a commit fails.
use Rattle.std.proofs.Common.{inl, inr, IsTrue, sym, ◌∙◌}
use Rattle.std.proofs.lemmas.Bool.{true≢false}
use Rattle.sqlite.specs.State.{State}
use Rattle.sqlite.specs.Steps.{FailsToCommit}
use Rattle.sqlite.specs.declared.error.Error.{Error}
use Rattle.pid_tables.specs.Rows.Causes.{IsCaused}
use Rattle.pid_tables.specs.Rows.Steps.Faults.{fault_of_sql}
use Rattle.pid_tables.proofs.OfRows.CauseLemmas.{moved, of_store}

pub commit_caused : (old new : State) (e : Error) → IsTrue old.in_transaction → FailsToCommit old new e → IsCaused old new (fault_of_sql e)
commit_caused old new e inside (inl h) = moved old new e _ h.1 (of_store old new h.0 h.2)
commit_caused old new e inside (inr h) = absurd (true≢false (sym inside ∙ h.1))

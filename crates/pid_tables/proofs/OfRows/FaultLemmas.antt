-- Which faults a query of a fixed text may give on tables of the schema.
use Rattle.std.proofs.Common.{◌≡◌, ◌⊎◌, inl, inr, ℕ, List, Option, Ok, Err, Result, IsTrue, sym, subst}
use Rattle.sqlite.specs.Order.{Row}
use Rattle.sqlite.specs.Listing.{understood}
use Rattle.sqlite.specs.Command.{Command}
use Rattle.sqlite.specs.Command.TheVariants.{Select, Rows}
use Rattle.sqlite_resolve.specs.declared.compiled.Compiled.{Compiled}
use Rattle.sqlite_resolve.specs.declared.error.CompileError.{CompileError}
use Rattle.sqlite_trees.specs.declared.error.StoreError.{StoreError}
use Rattle.sqlite_trees.specs.declared.error.StoreError.TheVariants as store
use Rattle.sqlite.specs.declared.error.Error.{Error}
use Rattle.sqlite.specs.declared.error.Error.TheVariants.{SqliteFailure, SqlInputError}
use Rattle.sqlite_resolve.specs.declared.error.CompileError.TheVariants as compile
use Rattle.sqlite.specs.Schema.{Schema}
use Rattle.sqlite.specs.declared.error.ErrorCode.{ErrorCode}
use Rattle.sqlite.specs.declared.error.ErrorCode.TheVariants as code
use Rattle.sqlite.specs.Effect.{Database, RefusesToRead}
use Rattle.sqlite.specs.State.{State, IsNotRun, FailsToShow, FailsToQuery, IsTooLate, store_error}
use Rattle.sqlite.specs.Clock.{timed}
use Rattle.sqlite.proofs.Callers.{IsPlain}
use Rattle.pid_tables.specs.Rows.Faults.{IsMemoryOrStore, IsNotNewerSchema}
use Rattle.pid_tables.specs.Rows.Steps.Faults.{fault_of_sql}

pub failed : (c : ErrorCode) → IsMemoryOrStore (fault_of_sql (SqliteFailure c))
failed code.OutOfMemory = tt
failed _ = tt

pub of_store : (cause : StoreError) → IsMemoryOrStore (fault_of_sql (store_error cause))
of_store store.OutOfMemory = tt
of_store store.Io = tt
of_store store.Corrupt = tt
of_store store.Full = tt
of_store store.Broken = tt
of_store store.Unstorable = tt

pub moved : (e f : Error) → e ≡ f → IsMemoryOrStore (fault_of_sql f) → IsMemoryOrStore (fault_of_sql e)
moved e f same h = subst (λ x. IsMemoryOrStore (fault_of_sql x)) (sym same) h

-- a call that was refused so
pub refused_so : {A : Type 0} (e f : Error) → ◌≡◌ {A = Result A Error} (Err e) (Err f) → IsMemoryOrStore (fault_of_sql f) → IsMemoryOrStore (fault_of_sql e)
refused_so e f refused h = moved e f (let same : e ≡ f = cc in same) h

never_bad : (r : Result Compiled CompileError) (fault : CompileError) → IsPlain r → r ≡ Err fault → ⊥
never_bad (Ok c) fault plain e = cc
never_bad (Err x) fault plain e = plain

read_refused : (limit : Option ℕ) (command : Command) (db : Database) (params : Row) (e : Error) → RefusesToRead limit command db params e → IsMemoryOrStore (fault_of_sql e)
read_refused limit (Select q names) db params e (inl h) = moved e _ h.0 (failed code.TypeMismatch)
read_refused limit (Select q names) db params e (inr (inl h)) = moved e _ h.0 (failed code.IntegerOverflow)
read_refused limit (Select q names) db params e (inr (inr h)) = moved e _ h.0 (failed code.OperationInterrupted)
read_refused limit (Rows values width names) db params e h = moved e _ h.0 (failed code.OperationInterrupted)
read_refused limit _ db params e h = moved e _ h tt

pub not_run : (sql : List ℕ) (params : Row) (old new : State) (e : Error) → (IsTrue old.is_open → (fault : CompileError) → understood old.now.schema sql ≡ Err fault → ⊥) → IsNotRun old new sql params e → IsMemoryOrStore (fault_of_sql e)
unfolding IsNotRun
not_run sql params old new e never (inl (inl h, same)) = absurd (never same.0.was_open h.0 h.1)
not_run sql params old new e never (inl (inr h, same)) = elim h.2 [
  | inl many ↦ moved e _ many.1 tt
  | inr other ↦ elim other [ inl count ↦ moved e _ count.1 tt | inr clock ↦ moved e _ clock.1 (failed code.NoClock) ]
]
not_run sql params old new e never (inr h) = moved e _ h.1 (of_store h.0)

-- no fault of the database is told as a later schema
pub not_later : (e : Error) → IsNotNewerSchema (fault_of_sql e)
not_later (SqliteFailure code.OutOfMemory) = tt
not_later (SqliteFailure _) = tt
not_later (SqlInputError compile.OutOfMemory) = tt
not_later (SqlInputError _) = tt
not_later _ = tt

module _ {schema : Schema} (sql : List ℕ) (params : Row) (old new : State) (has : old.now.schema ≡ schema) (plain : IsPlain (understood schema sql)) (e : Error) where
  known : IsPlain (understood old.now.schema sql)
  known = subst (λ x. IsPlain (understood x sql)) (sym has) plain

  pub only_store : FailsToQuery sql params old new e ⊎ IsTooLate sql params old new e → IsMemoryOrStore (fault_of_sql e)
  unfolding FailsToQuery
  only_store (inl (inl h)) = not_run sql params old new e (λ opened fault is. never_bad _ fault known is) h
  only_store (inl (inr h)) =
      let none = (subst IsPlain h.1.is known).0 in
      let it = subst (FailsToShow old new sql h.0 (timed params h.0.formats h.1.now) e) none h.2 in
      read_refused old.step_limit h.0.command it.0 (timed params h.0.formats h.1.now) e it.2
  only_store (inr late) = moved e _ late.4 (failed code.TransactionState)

-- Why a query on tables of a schema faults.
use Rattle.std.proofs.Common.{◌≡◌, ◌⊎◌, inl, inr, ℕ, ◌≤◌, List, append-nil, Ok, Err, Result, IsErrAnd, IfOk, IfErr, MatchResult, IsTrue, false, None, Some, Option, arith, sym, ap, subst, ◌∙◌}
use Rattle.std.specs.Prelude.{IsSome}
use Rattle.sqlite.specs.Order.{Row}
use Rattle.sqlite.specs.Tree.{Trees}
use Rattle.sqlite.specs.Listing.{understood, reads_listing, IsSourceOf}
use Rattle.sqlite.specs.Command.{Command}
use Rattle.sqlite.specs.Command.TheVariants.{Select}
use Rattle.sqlite_resolve.specs.declared.compiled.Compiled.{Compiled}
use Rattle.sqlite_resolve.specs.declared.error.CompileError.{CompileError}
use Rattle.sqlite_trees.specs.declared.error.StoreError.{StoreError}
use Rattle.sqlite_trees.specs.declared.error.StoreError.TheVariants as store
use Rattle.sqlite.specs.declared.error.Error.{Error}
use Rattle.sqlite.specs.Effect.{Database, RefusesToRead}
use Rattle.sqlite.specs.State.{State, HasCleanDisk, Survives, IsStatement, IsNoStatement, IsNotRun, FailsToShow, FailsToQuery, IsTooLate, HasCause, store_error}
use Rattle.sqlite_schema.specs.declared.command.Returning.{Returning}
use Rattle.std.proofs.lemmas.Bool.{cases_Bool}
use Rattle.sqlite.specs.Clock.{timed}
use Rattle.sqlite_schema.specs.Program.{lets_of}
use Rattle.sqlite_typing.specs.Types.{accepts_program}
use Rattle.pid_tables.specs.declared.rows.fault.TableFault.{TableFault}
use Rattle.pid_tables.specs.declared.rows.fault.TableFault.TheVariants.{Memory, Store, NewerSchema, Damaged}
use Rattle.pid_tables.specs.Rows.Causes.{IsCaused}
use Rattle.pid_tables.specs.Rows.Steps.Faults.{fault_of_sql}
use Rattle.pid_tables.specs.Rows.Steps.Queries.{IsSafeSelect, IsOneStatement, IsQueryAs, IsQuery}
use Rattle.sqlite.specs.Schema.{Schema}

pub moved : (old new : State) (e f : Error) → e ≡ f → IsCaused old new (fault_of_sql f) → IsCaused old new (fault_of_sql e)
moved old new e f same h = subst (λ x. IsCaused old new (fault_of_sql x)) (sym same) h

pub of_store : (old new : State) (cause : StoreError) → HasCause old new ⊥ cause → IsCaused old new (fault_of_sql (store_error cause))
of_store old new store.OutOfMemory h = tt
of_store old new store.Io h = inl h
of_store old new store.Corrupt h = inl h
of_store old new store.Full h = inl h
of_store old new store.Broken h = inr (inl h)
of_store old new store.Unstorable h = absurd h

-- ---- a fixed text is refused in none of the other ways

module _ (schema : Schema) (sql : List ℕ) (params : Row) where
  statement : (r : Result Compiled CompileError) (c : Compiled) → r ≡ Ok c → IsQueryAs schema sql params r → IsOneStatement sql params c × IsSafeSelect schema params c.command
  statement (Ok d) c is h = let same : d ≡ c = cc in subst (λ x. IsOneStatement sql params x × IsSafeSelect schema params x.command) same h
  statement (Err e) c is h = absurd h

  is_one : (r : Result Compiled CompileError) (fault : CompileError) → r ≡ Err fault → IsQueryAs schema sql params r → ⊥
  is_one (Ok d) fault is h = cc
  is_one (Err e) fault is h = h

  read_refused : (old new : State) (command : Command) (db : Database) (e : Error) → db.schema ≡ schema → IsSafeSelect schema params command → RefusesToRead old.step_limit command db params e → IsCaused old new (fault_of_sql e)
  read_refused old new (Select q names) db e has asks (inl typed) = absurd (let refused = subst (λ s. accepts_program s (lets_of q) q.body params ≡ false) has typed.1 in let bad = sym refused ∙ asks.0 in let no : ⊥ = cc in no)
  read_refused old new (Select q names) db e has asks (inr (inl overflows)) = absurd (asks.1 db.trees overflows.1)
  read_refused old new (Select q names) db e has asks (inr (inr stopped)) = moved old new e _ stopped.0 (inr (inr stopped.1))
  read_refused old new _ db e has asks h = absurd asks

module _ {schema : Schema} (sql : List ℕ) (params : Row) where
  module _ (old new : State) (has : IsTrue old.is_open → old.now.schema ≡ schema) (query : IsQuery schema sql params) (e : Error) where
    known : IsTrue old.is_open → IsQueryAs schema sql params (understood old.now.schema sql)
    known opened = subst (λ s. IsQueryAs schema sql params (understood s sql)) (sym (has opened)) query.known

    no_statement : IsTrue old.is_open → IsNoStatement old sql params e → ⊥
    no_statement opened (inl h) = is_one schema sql params _ h.0 h.1 (known opened)
    no_statement opened (inr h) =
        let it = statement schema sql params _ h.0 h.1 (known opened) in
        elim h.2 [
          | inl many ↦ many.0 it.0.whole
          | inr other ↦ elim other [ inl count ↦ count.0 it.0.given | inr clock ↦ clock.0 it.0.timeless ]
        ]

    pub not_run_caused : IsNotRun old new sql params e → IsCaused old new (fault_of_sql e)
    unfolding IsNotRun
    not_run_caused (inl h) = absurd (no_statement h.1.0.was_open h.0)
    not_run_caused (inr h) = moved old new e _ h.1 (of_store old new h.0 h.2)

    shut : old.is_open ≡ false → IsTrue old.is_open → ⊥
    shut closed opened = let bad = sym opened ∙ closed in let no : ⊥ = cc in no

    -- on a connection that is shut nothing is refused
    closed_store : (too_big : Type 0) (cause : StoreError) → old.is_open ≡ false → HasCause old new too_big cause → IsCaused old new (fault_of_sql (store_error cause))
    closed_store too_big store.OutOfMemory closed h = tt
    closed_store too_big store.Io closed h = inl h
    closed_store too_big store.Corrupt closed h = inl h
    closed_store too_big store.Full closed h = inl h
    closed_store too_big store.Broken closed h = inr (inl h)
    closed_store too_big store.Unstorable closed h = inr (inl closed)

    show_closed : (c : Compiled) (given : Row) (o : Option Returning) → old.is_open ≡ false → FailsToShow old new sql c given e o → IsCaused old new (fault_of_sql e)
    show_closed c given None closed h = absurd (shut closed h.3.0.was_open)
    show_closed c given (Some what) closed (inl refused) = absurd (shut closed refused.1.0.was_open)
    show_closed c given (Some what) closed (inr fails) = moved old new e _ fails.1 (closed_store _ fails.0 closed fails.2)

    show_opened : (c : Compiled) (it : IsStatement old sql params c) → IsTrue old.is_open → FailsToShow old new sql c (timed params c.formats it.now) e c.returning → IsCaused old new (fault_of_sql e)
    show_opened c it opened h =
        let one = statement schema sql params _ c it.is (known opened) in
        let shown = subst (FailsToShow old new sql c (timed params c.formats it.now) e) one.0.bare h in
        let unlisted : reads_listing old.now.schema sql ≡ false = ap (λ s. reads_listing s sql) (has opened) ∙ query.unlisted in
        let from : shown.0 ≡ old.now = subst (λ b. IsSourceOf b old.now shown.0) unlisted shown.1 in
        let given : timed params c.formats it.now ≡ params = ap (λ f. timed params f it.now) one.0.timeless ∙ append-nil params in
        read_refused schema sql params old new c.command shown.0 e (ap (λ (d : Database). d.schema) from ∙ has opened) one.1 (subst (λ p. RefusesToRead old.step_limit c.command shown.0 p e) given shown.2)

    too_late : IsTooLate sql params old new e → ⊥
    too_late late =
        let one = statement schema sql params _ late.0 late.1.is (known late.5.0.was_open) in
        let bad = subst IsSome one.0.bare late.2 in
        let no : ⊥ = cc in
        no

    pub caused : FailsToQuery sql params old new e ⊎ IsTooLate sql params old new e → IsCaused old new (fault_of_sql e)
    unfolding FailsToQuery
    caused (inl (inl h)) = not_run_caused h
    caused (inl (inr h)) = elim (cases_Bool old.is_open) [ inl opened ↦ show_opened h.0 h.1 opened h.2 | inr closed ↦ show_closed h.0 (timed params h.0.formats h.1.now) h.0.returning closed h.2 ]
    caused (inr late) = absurd (too_late late)

-- ---- causes of parts of a call

pub caused_first : (old mid new : State) (e : TableFault) → mid.faults ≤ new.faults → IsCaused old mid e → IsCaused old new e
caused_first old mid new Memory more h = tt
caused_first old mid new Store more (inl faults) = inl (omega (arith, faults, more))
caused_first old mid new Store more (inr other) = inr other
caused_first old mid new (NewerSchema n) more h = h
caused_first old mid new Damaged more h = h

pub caused_later : (old mid new : State) (P : Trees → Type 0) (e : TableFault) → Survives old mid P → mid.faults ≤ new.faults → HasCleanDisk mid → IsCaused mid new e → IsCaused old new e
caused_later old mid new P Memory s more clean h = tt
caused_later old mid new P Store s more clean (inl faults) = inl (omega (arith, faults, s.counts))
caused_later old mid new P Store s more clean (inr (inl closed)) = elim (cases_Bool old.is_open) [
  | inl opened ↦ elim (s.closes clean opened) [ inl still ↦ absurd (let bad = sym still ∙ closed in let no : ⊥ = cc in no) | inr fault ↦ inl (omega (arith, fault, more)) ]
  | inr shut ↦ inr (inl shut)
]
caused_later old mid new P Store s more clean (inr (inr limit)) = inr (inr (subst IsSome s.limit limit))
caused_later old mid new P (NewerSchema n) s more clean h = h
caused_later old mid new P Damaged s more clean h = h

-- a fault that is passed on
pub passed_on : {X : Type 0} (r : Result X TableFault) (e : TableFault) (P : X → Type 0) (Q : TableFault → Type 0) → IsErrAnd r (λ y. y ≡ e) → Q e → MatchResult r P Q
passed_on (Ok x) e P Q h q = absurd h
passed_on (Err y) e P Q h q = subst Q (sym h) q

pub passed_from : {X : Type 0} (r : Result X TableFault) (e : TableFault) (Q : TableFault → Type 0) → IsErrAnd r (λ y. y ≡ e) → Q e → IfErr r Q
passed_from (Ok x) e Q h q = absurd h
passed_from (Err y) e Q h q = subst Q (sym h) q

-- a call whose answer is the answer
pub both : {X E : Type 0} (r : Result X E) (P : X → Type 0) (Q : E → Type 0) → IfOk r P → IfErr r Q → MatchResult r P Q
both (Ok x) P Q p q = p
both (Err e) P Q p q = q

pub no_value : {X : Type 0} (r : Result X TableFault) (e : TableFault) (P : X → Type 0) → IsErrAnd r (λ y. y ≡ e) → IfOk r P
no_value (Ok x) e P h = absurd h
no_value (Err y) e P h = tt

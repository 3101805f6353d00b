-- What is brought to schema 2, by what stood there.
use Rattle.std.proofs.Common.{◌≡◌, inl, inr, ℕ, List, true, false, None, Some, Option, Ok, Err, Result, IfErr, IfOk, OnOk, MatchResult, IsTrue, codes, arith, refl, sym, ap, subst, ◌∙◌}
use Rattle.std.proofs.lemmas.Bool.{cases_Bool}
use Rattle.sqlite.specs.Change.{is_used}
use Rattle.sqlite.specs.Effect.{Database}
use Rattle.sqlite.specs.State.{State, HasCleanDisk, Survives}
use Rattle.sqlite.specs.Tree.{Trees}
use Rattle.sqlite_rules.specs.Lists.{Has}
use Rattle.pid_moderation.specs.History.{new_history}
use Rattle.pid_moderation.specs.Views.{Views, views_of}
use Rattle.pid_tables.specs.declared.rows.fault.TableFault.{TableFault}
use Rattle.pid_tables.specs.declared.rows.fault.TableFault.TheVariants.{Memory, Store, NewerSchema, Damaged}
use Rattle.pid_tables.specs.declared.rows.schema_version.Version.{Version}
use Rattle.pid_tables.specs.declared.rows.schema_version.Version.TheVariants.{One, Two}
use Rattle.pid_tables.specs.Rows.Faults.{IsMemoryOrStore, IsNotNewerSchema}
use Rattle.pid_tables.specs.Rows.LabelRows.{HasLabel}
use Rattle.pid_tables.specs.Rows.Leaves.{AtRest, OnlyReads, RestsIn}
use Rattle.pid_tables.specs.Rows.Schema.{no_schema, schema_of}
use Rattle.pid_tables.specs.Rows.Shows.{ShowsIn}
use Rattle.pid_tables.specs.Rows.TableRows.{meta_row}
use Rattle.pid_tables.proofs.OfRows.GoingLemmas.{earlier}
use Rattle.pid_tables.proofs.OfRows.LeaveLemmas.{rests_in_two}
use Rattle.pid_tables.proofs.OfRows.OnlyReading.{reads_then, rests_in_still}
use Rattle.pid_tables.specs.Check.Shapes.{HasNoTable, HasSomeTable, IsMadeFirst}
use Rattle.pid_tables.proofs.OfCheck.Asking.{nothing_read}
use Rattle.pid_tables.proofs.OfCheck.Complete.{made_first}
use Rattle.pid_tables.specs.AtOnce.{IsCommitted, IsOneStep}
use Rattle.pid_tables.specs.Creation.{table_names, IsNameTaken, RestsBare}
use Rattle.pid_tables.specs.Statements.{Statement, IsMadeBy}
use Rattle.pid_tables.specs.Bringing.{Brings, Left, Raised, HandsLatest, NamesLatest, Refuses, Stays}
use Rattle.pid_tables.specs.Steps.Bringing.{IsStanding, Named, Found, step_for}
use Rattle.pid_tables.specs.Steps.Found.{BringsFound, BringsNone, BringsOne}
use Rattle.pid_tables.specs.declared.migration.Step.{Step}
use Rattle.pid_tables.specs.declared.migration.Step.TheVariants.{Created, Moved, Already}
use Rattle.pid_tables.proofs.AtOnceLemmas.{reads_never, reads_then_once}
use Rattle.pid_tables.proofs.SchemaNumbers.{schema_told}
use Rattle.pid_tables.proofs.StandLemmas.{standing_latest}

-- ---- what was found

module _ {S : Type 0} (state : S → State) (old new : S) (found : Option Version) (r : Result Step TableFault) where
  pub as_none : found ≡ None → BringsNone state old new r → BringsFound state found old new r
  as_none is brings = subst (λ f. BringsFound state f old new r) (sym is) brings

  pub as_one : found ≡ Some One → BringsOne state old new r → BringsFound state found old new r
  as_one is brings = subst (λ f. BringsFound state f old new r) (sym is) brings

  pub as_two : found ≡ Some Two → MatchResult r (λ _. new ≡ old) (λ _. ⊥) → BringsFound state found old new r
  as_two is brings = subst (λ f. BringsFound state f old new r) (sym is) brings

  module _ (brings : BringsFound state found old new r) where
    pub of_none : found ≡ None → BringsNone state old new r
    of_none is = subst (λ f. BringsFound state f old new r) is brings

    pub of_one : found ≡ Some One → BringsOne state old new r
    of_one is = subst (λ f. BringsFound state f old new r) is brings

    pub of_two : found ≡ Some Two → MatchResult r (λ _. new ≡ old) (λ _. ⊥)
    of_two is = subst (λ f. BringsFound state f old new r) is brings

-- ---- no table

pub none_there : {P : Type 0} (s : State) → HasNoTable no_schema → RestsBare s → (s.is_open ≡ false → P) → (HasNoTable s.now.schema → P) → P
none_there s none bare shut there = elim (cases_Bool s.is_open) [ inl opened ↦ there (subst HasNoTable (sym (bare.empty opened).schema) none) | inr closed ↦ shut closed ]

pub only_store_making : (e : TableFault) → IsMemoryOrStore e → IsNotNewerSchema e
only_store_making Memory h = tt
only_store_making Store h = tt
only_store_making (NewerSchema n) h = absurd h
only_store_making Damaged h = absurd h

-- where there is none, the step is that they are made
pub made_alone : (found : Option Version) (r : Result Step TableFault) → found ≡ None → IfOk r (λ step. step ≡ step_for found) → IfErr r IsNotNewerSchema → MatchResult r (λ step. step ≡ Created) IsNotNewerSchema
made_alone found (Ok x) is step never = step ∙ ap step_for is
made_alone found (Err e) is step never = never

-- what a step leaves, with the step
pub with_step : (P : Type 0) (Q : TableFault → Type 0) (what found : Option Version) (r : Result Step TableFault) → found ≡ what → IfOk r (λ step. step ≡ step_for found) → MatchResult r (λ _. P) Q
    → MatchResult r (λ step. (step ≡ step_for what) × P) Q
with_step P Q what found (Ok x) is step h = (step ∙ ap step_for is, h)
with_step P Q what found (Err e) is step h = h

-- what is made of the database that was read before
made_before : {S : Type 0} (state : S → State) (statements : List Statement) (old mid : S) → OnlyReads (state old) (state mid) → (IsTrue (state mid).is_open → (state mid).now ≡ (state old).now) → (db : Trees) → IsMadeBy state statements mid db → IsMadeBy state statements old db
made_before state statements old mid reads same db is = record { was_open = reads.was_open is.was_open; first = is.first; same = is.same ∙ same is.was_open; last = is.last; carried = is.carried; made = is.made }

pub reads_then_kept : {S X E : Type 0} (state : S → State) (statements : List Statement) (old mid new : S) (r : Result X E) → OnlyReads (state old) (state mid) → (IsTrue (state mid).is_open → (state mid).now ≡ (state old).now)
    → OnOk r (IsCommitted (IsMadeBy state statements mid) (state new)) → OnOk r (IsCommitted (IsMadeBy state statements old) (state new))
reads_then_kept state statements old mid new (Ok x) reads same kept = record { is_open = kept.is_open; sees = made_before state statements old mid reads same (state new).now.trees kept.sees; leaves = kept.leaves }
reads_then_kept state statements old mid new (Err e) reads same kept = tt

pub reads_then_made : {S : Type 0} (state : S → State) (statements : List Statement) (old mid new : S) → OnlyReads (state old) (state mid) → (IsTrue (state mid).is_open → (state mid).now ≡ (state old).now) → IsOneStep (state mid) (state new)
    → (HasCleanDisk (state new) → Survives (state mid) (state new) (IsMadeBy state statements mid)) → Survives (state old) (state new) (IsMadeBy state statements old)
reads_then_made state statements old mid new reads same once made =
    let whole = (reads_then_once (state old) (state mid) (state new) reads once).survives in
    record {
      clean = whole.clean;
      shield = whole.shield;
      counts = whole.counts;
      limit = whole.limit;
      closes = whole.closes;
      crash = λ clean db may. elim ((made clean).crash clean db may) [
        | inl before ↦ elim (reads.survives.crash (earlier (state mid) (state new) once.survives clean) db before) [ inl first ↦ inl first | inr none ↦ absurd none ]
        | inr is ↦ inr (made_before state statements old mid reads same db is)
      ];
    }

-- something has a name of the tables
abbrev MetIn : Database → Type 0
MetIn db = (name : List ℕ) × Has table_names name × (is_used db.schema name ≡ true)

pub still_met : (old new : State) → OnlyReads old new → (IsTrue new.is_open → new.now ≡ old.now) → (IsTrue old.is_open → IsNameTaken old) → IsTrue new.is_open → IsNameTaken new
still_met old new reads same met opened = subst MetIn (sym (same opened)) (met (reads.was_open opened))

-- none was made
pub met_reads : (old mid new : State) (r : Result Step TableFault) → OnlyReads old mid → MatchResult r (λ _. ⊥) (λ e. IsNotNewerSchema e × OnlyReads mid new) → MatchResult r (λ _. ⊥) (λ e. IsNotNewerSchema e × OnlyReads old new)
met_reads old mid new (Ok x) reads h = h
met_reads old mid new (Err e) reads h = (h.0, reads_then old mid new reads h.1)

-- ---- tables of schema 2

-- they are left alone only where schema 2 stands
left_two : (found : Option Version) → step_for found ≡ Already → found ≡ Some Two
left_two None is = absurd (let made : Created ≡ Already = is in let no : ⊥ = cc in no)
left_two (Some One) is = absurd (let moved : Moved ≡ Already = is in let no : ⊥ = cc in no)
left_two (Some Two) is = refl

pub left_alone : {S : Type 0} (state : S → State) (old : State) (mid end : S) (found : Option Version) (r : Result Step TableFault) → OnlyReads old (state mid) → found ≡ Some Two → IfOk r (λ step. step ≡ step_for found)
    → MatchResult r (λ _. end ≡ mid) (λ _. ⊥) → MatchResult r (λ step. (step ≡ Already) × OnlyReads old (state end)) (λ _. ⊥)
left_alone state old mid end found (Ok x) reads two step h = (step ∙ ap step_for two, subst (λ c. OnlyReads old (state c)) (sym h) reads)
left_alone state old mid end found (Err e) reads two step h = h

pub or_only_store : (P : Step → Type 0) (Q : TableFault → Type 0) (r : Result Step TableFault) → MatchResult r P (λ _. ⊥) → MatchResult r P Q
or_only_store P Q (Ok x) h = h
or_only_store P Q (Err e) h = absurd h

-- ---- tables of schema 1

-- they are moved only where schema 1 stands
moved_one : (found : Option Version) → step_for found ≡ Moved → found ≡ Some One
moved_one None is = absurd (let made : Created ≡ Moved = is in let no : ⊥ = cc in no)
moved_one (Some One) is = refl
moved_one (Some Two) is = absurd (let left : Already ≡ Moved = is in let no : ⊥ = cc in no)

pub moved_brought : (P : Type 0) (found : Option Version) (r : Result Step TableFault) → IfOk r (λ step. step ≡ step_for found) → (found ≡ Some One → OnOk r P) → IfOk r (λ step. step ≡ Moved → P)
moved_brought P found (Ok x) step moved = λ is. moved (moved_one found (sym step ∙ is))
moved_brought P found (Err e) step moved = tt

-- where some table stands, it is left alone or moved
pub some_moved : {S : Type 0} (state : S → State) (IsMoved : Trees → Type 0) (db : Database) (mid end : S) (found : Option Version) (r : Result Step TableFault) → IsStanding db found → HasSomeTable db.schema → (state mid).in_transaction ≡ false
    → (found ≡ Some One → Survives (state mid) (state end) IsMoved) → (found ≡ Some Two → MatchResult r (λ _. end ≡ mid) (λ _. ⊥)) → Survives (state mid) (state end) IsMoved
some_moved state IsMoved db mid end None r (Named is names) some off moved already = absurd (let no : ⊥ = cc in no)
some_moved state IsMoved db mid end None r (Found none) some off moved already = absurd (none some)
some_moved state IsMoved db mid end (Some One) r stands some off moved already = moved refl
some_moved state IsMoved db mid end (Some Two) (Ok x) stands some off moved already =
    let here = state mid in
    subst (λ c. Survives here (state c) IsMoved) (sym (already refl)) (reads_never IsMoved here here (nothing_read here off))
some_moved state IsMoved db mid end (Some Two) (Err e) stands some off moved already = absurd (already refl)

-- ---- any tables

pub brought : (old new : State) (found : Option Version) (r : Result Step TableFault) → IsStanding old.now found → HasSomeTable old.now.schema → IfOk r (λ step. step ≡ step_for found)
    → (found ≡ Some Two → MatchResult r (λ step. (step ≡ Already) × OnlyReads old new) (λ _. ⊥)) → IfErr r IsNotNewerSchema → MatchResult r (λ step. Brings old step new) (λ e. Refuses old e new)
brought old new None r (Named is names) some step already never = absurd (let no : ⊥ = cc in no)
brought old new None r (Found none) some step already never = absurd (none some)
brought old new (Some One) r (Named is names) some step already never = absurd (let no : ⊥ = cc in no)
brought old new (Some One) (Ok x) (Found finds) some step already never = Raised step finds
brought old new (Some One) (Err e) (Found finds) some step already never = Stays finds never
brought old new (Some Two) (Ok x) stands some step already never = let left = already refl in Left left.0 left.1
brought old new (Some Two) (Err e) stands some step already never = absurd (already refl)

pub named_brought : {P : Type 0} (found : Option Version) (r : Result Step TableFault) → IfOk r (λ step. step ≡ step_for found) → (found ≡ Some Two → P) → IfOk r (λ step. step ≡ Already → P)
named_brought found (Ok x) step named = λ is. named (left_two found (sym step ∙ is))
named_brought found (Err e) step named = tt

-- ---- what stays

pub read_alone : {S : Type 0} (state : S → State) (old : State) (mid end : S) (found : Option Version) (r : Result Step TableFault) → OnlyReads old (state mid) → IfOk r (λ step. step ≡ step_for found)
    → (found ≡ Some Two → MatchResult r (λ _. end ≡ mid) (λ _. ⊥)) → IfOk r (λ step. step ≡ Already → OnlyReads old (state end))
read_alone state old mid end found (Ok x) reads step already = λ is. subst (λ c. OnlyReads old (state c)) (sym (already (left_two found (sym step ∙ is)))) reads
read_alone state old mid end found (Err e) reads step already = tt

-- tables that show views in schema 1 are found as such
one_shown : (db : Database) (found : Option Version) (v : Views) → HasSomeTable (schema_of One) → ShowsIn One db v → IsStanding db found → found ≡ Some One
one_shown db None v some shows (Named is names) = absurd (let no : ⊥ = cc in no)
one_shown db None v some shows (Found none) = absurd (none (subst HasSomeTable (sym shows.schema) some))
one_shown db (Some One) v some shows stands = refl
one_shown db (Some Two) v some shows stands =
    let label = (standing_latest db (Some Two) stands refl).stored One (subst (IsMadeFirst One) (sym shows.schema) (made_first One)) in
    let same : 2 ≡ 1 = schema_told db v shows 2 label in
    absurd (omega (arith, same))

pub one_found : (s : State) (found : Option Version) (v : Views) → HasSomeTable (schema_of One) → RestsIn One s v → (s.is_open ≡ false → ⊥) → IsStanding s.now found → found ≡ Some One
one_found s found v some rest shut stands = elim (cases_Bool s.is_open) [ inl opened ↦ one_shown s.now found v some (rest.shows opened) stands | inr closed ↦ absurd (shut closed) ]

pub ok_rests : (new : State) (v : Views) (Q : TableFault → Type 0) (r : Result Step TableFault) → MatchResult r (λ _. AtRest new v) Q → OnOk r (AtRest new v)
ok_rests new v Q (Ok x) h = h
ok_rests new v Q (Err e) h = tt

pub moved_rests : (new : State) (v : Views) (r : Result Step TableFault) → OnOk r (AtRest new v) → OnOk r (RestsIn Two new v)
moved_rests new v (Ok x) h = rests_in_two new v h
moved_rests new v (Err e) h = tt

pub left_rests : (old new : State) (v : Views) (r : Result Step TableFault) → RestsIn Two old v → MatchResult r (λ step. (step ≡ Already) × OnlyReads old new) (λ _. ⊥) → OnOk r (RestsIn Two new v)
left_rests old new v (Ok x) rest h = rests_in_still old new v h.1 rest
left_rests old new v (Err e) rest h = tt

pub kept_rests : (old new : State) (r : Result Step TableFault) → ((v : Views) → RestsIn One old v → OnOk r (AtRest new v)) → ((v : Views) → RestsIn Two old v → OnOk r (RestsIn Two new v))
    → (version : Version) (v : Views) → RestsIn version old v → OnOk r (RestsIn Two new v)
kept_rests old new r moved left One v rest = moved_rests new v r (moved v rest)
kept_rests old new r moved left Two v rest = left v rest

-- ---- what is handed on

latest_there : (db : Database) (v : Views) → ShowsIn Two db v → HasLabel db.trees (codes "schema") 2
latest_there db v shows = let row = shows.meta.complete (codes "schema") 2 refl in (meta_row row.0 (codes "schema") 2, row.1, refl, refl)

pub hands_latest : {S : Type 0} (state : S → State) (old : State) (mid end : S) (found : Option Version) (r : Result Step TableFault) → (IsTrue (state mid).is_open → (state mid).now ≡ old.now)
    → (found ≡ Some Two → NamesLatest old.now) → IfOk r (λ step. step ≡ step_for found) → (found ≡ Some Two → MatchResult r (λ _. end ≡ mid) (λ _. ⊥))
    → ((v : Views) → RestsIn One old v → OnOk r (AtRest (state end) v)) → (RestsBare old → OnOk r (AtRest (state end) (views_of new_history)))
    → IfOk r (λ step. IsTrue (state end).is_open → HandsLatest old step (state end))
hands_latest state old mid end found (Ok Created) same latest step already moved made = λ opened bare. latest_there (state end).now (views_of new_history) ((made bare).shows opened)
hands_latest state old mid end found (Ok Moved) same latest step already moved made = λ opened v rest. latest_there (state end).now v ((moved v rest).shows opened)
hands_latest state old mid end found (Ok Already) same latest step already moved made =
    let two = left_two found (sym step) in
    subst (λ c. IsTrue (state c).is_open → NamesLatest (state c).now) (sym (already two)) (λ opened. subst NamesLatest (sym (same opened)) (latest two))
hands_latest state old mid end found (Err e) same latest step already moved made = tt

-- What the query of one label answers, whatever meta holds.
use Rattle.std.proofs.Common.{◌≡◌, inl, inr, ℕ, List, [], ◌∷◌, true, Some, None, Ok, Err, Result, IfOk, IfErr, Vec, map, slice_get, codes, refl, ap, sym, subst, subst₂, ◌∙◌}
use Rattle.std.specs.declared.alloc.Global.{Global}
use Rattle.std.specs.List.Sorted.{IsPermutation}
use Rattle.std.proofs.lemmas.Bool.{and_parts, and_from}
use Rattle.std.proofs.lemmas.List.Sorted.{IsPermutation-sym}
use Rattle.sqlite.specs.Clock.{timed}
use Rattle.sqlite.specs.Collation.TheVariants.{Binary}
use Rattle.sqlite.specs.Command.TheVariants.{Select}
use Rattle.sqlite.specs.Effect.{Database, Reads}
use Rattle.sqlite.specs.Listing.{understood, IsSourceOf}
use Rattle.sqlite.specs.Ops.{binary}
use Rattle.sqlite.specs.Order.{Row, column, value_cmp}
use Rattle.sqlite.specs.Program.{overlay}
use Rattle.sqlite.specs.State.{State, Shown, ShowsRows}
use Rattle.sqlite.specs.Term.{col}
use Rattle.sqlite.specs.Tree.{Trees}
use Rattle.sqlite.specs.declared.types.Value.{Value}
use Rattle.sqlite.specs.declared.types.Value.TheVariants.{Null, Int, Real, Text, Blob}
use Rattle.sqlite.proofs.Callers.{command_of, IsPlain}
use Rattle.sqlite_resolve.specs.declared.compiled.Compiled.{Compiled}
use Rattle.sqlite_resolve.specs.declared.error.CompileError.{CompileError}
use Rattle.sqlite_rules.specs.Lists.{Has}
use Rattle.sqlite_rules.proofs.ListLemmas.{has_filtered, has_kept}
use Rattle.sqlite_rules.proofs.ProbeLemmas.{mapped_has}
use Rattle.sqlite_schema.specs.Rules.{equal}
use Rattle.pid_tables.specs.declared.rows.fault.TableFault.{TableFault}
use Rattle.pid_tables.specs.declared.rows.fault.TableFault.TheVariants.{Memory, Store, NewerSchema, Damaged}
use Rattle.pid_tables.specs.Rows.Faults.{IsMemoryOrStore, IsNotNewerSchema}
use Rattle.pid_tables.specs.Rows.LabelRows.{ExplainsNumber, HasLabel, IsDamageOf, LacksNumber, ShowsNoNumber, ShowsNumber, ShowsValues, value_text}
use Rattle.pid_tables.specs.Rows.Steps.LabelRows.{IsMetaFirst}
use Rattle.pid_tables.specs.Rows.Steps.Unread.{IsDamagedRow}
use Rattle.pid_tables.specs.Rows.LabelRows.{IsNumber}
use Rattle.pid_tables.specs.Rows.TableRows.{number}
use Rattle.pid_tables.proofs.OfRows.KeyTexts.{by_first}
use Rattle.pid_tables.proofs.OfRows.LabelTexts.{IsPlainIfAsked, plain_if_asked, value_is}
use Rattle.pid_tables.proofs.OfRows.MapLemmas.{none_over}
use Rattle.pid_tables.proofs.OfRows.Select.{passing, shown, simple_rows, texts_equal, text_equal}
use Rattle.pid_tables.proofs.OfRows.Statements.{IsSelect, program, simple}
use Rattle.pid_tables.proofs.OfRows.TurnLemmas.{hits, has_mapped, permuted}

-- ---- under any schema

shown_values : (label : List ℕ) (old new : State) (rows : List Row) → Shown value_text (Text label ∷ []) old new rows → ShowsValues old.now label rows
unfolding Shown
shown_values label old new rows h =
    let plain = subst IsPlainIfAsked h.1.is (plain_if_asked old.now.schema) in
    let it = subst (ShowsRows old new value_text h.0 (timed (Text label ∷ []) h.0.formats h.1.now) rows) plain.0 h.2 in
    record { query = h.0; is = h.1.is; source = it.0; from = it.1; answer = subst (λ formats. Reads h.0.command it.0 (timed (Text label ∷ []) formats h.1.now) rows) plain.1 it.2 }

pub values_shown : {S : Type 0} (state : S → State) (label : List ℕ) (old : State) (r : Result (Vec Row Global) TableFault) → IfOk r (λ rows. (mid : S) × Shown value_text (Text label ∷ []) old (state mid) rows.items)
    → IfOk r (λ rows. ShowsValues old.now label rows.items)
values_shown state label old (Ok rows) h = shown_values label old (state h.0) rows.items h.1
values_shown state label old (Err e) h = tt

-- the first row's number is shown
pub number_shown : (db : Database) (label : List ℕ) (rows : List Row) (x : Row) → ShowsValues db label rows → Some x ≡ slice_get rows 0 → (r : Result ℕ TableFault) → IfOk r (λ n. column x 0 ≡ number n) → IfOk r (ShowsNumber db label)
number_shown db label rows x shows is (Ok n) read = (rows, shows, x, sym is, read)
number_shown db label rows x shows is (Err e) read = tt

-- the first row's value is no number
pub number_refused : (db : Database) (label : List ℕ) (rows : List Row) (x : Row) → ShowsValues db label rows → Some x ≡ slice_get rows 0 → (r : Result ℕ TableFault) → IfErr r (IsDamagedRow (IsNumber (column x 0)))
    → IfErr r (IsDamageOf (ShowsNoNumber db label))
number_refused db label rows x shows is (Ok n) h = tt
number_refused db label rows x shows is (Err e) h = go e h
  where
    go : (e : TableFault) → IsDamagedRow (IsNumber (column x 0)) e → IsDamageOf (ShowsNoNumber db label) e
    go Memory h = tt
    go Store h = tt
    go (NewerSchema n) h = h
    go Damaged h = inr (rows, shows, λ y there. let both : Some x ≡ Some y = is ∙ there in let same : x ≡ y = cc in λ good. h (subst (λ (z : Row). IsNumber (column z 0)) (sym same) good))

-- no row is answered
pub none_shown : (db : Database) (label : List ℕ) (rows : List Row) → ShowsValues db label rows → None ≡ slice_get rows 0 → ShowsNoNumber db label
none_shown db label rows shows none = inr (rows, shows, λ y there. absurd (let both : None ≡ Some y = none ∙ there in let bad : ⊥ = cc in bad))

-- the query was refused
pub query_refused : (db : Database) (label : List ℕ) (e : TableFault) → ((query : Compiled) → understood db.schema value_text ≡ Ok query → IsMemoryOrStore e) → IsNotNewerSchema e → IsDamageOf (ShowsNoNumber db label) e
query_refused db label Memory only_store never = tt
query_refused db label Store only_store never = tt
query_refused db label (NewerSchema n) only_store never = never
query_refused db label Damaged only_store never = inl only_store

pub unread_never : (Written : Type 0) (r : Result ℕ TableFault) → IfErr r (IsDamagedRow Written) → IfErr r IsNotNewerSchema
unread_never Written (Ok n) h = tt
unread_never Written (Err Memory) h = tt
unread_never Written (Err Store) h = tt
unread_never Written (Err (NewerSchema n)) h = h
unread_never Written (Err Damaged) h = tt

-- ---- where meta was made first

equal_text : (v : Value) (p : List ℕ) → equal Binary v (Text p) ≡ true → v ≡ Text p
unfolding binary value_cmp
equal_text Null p h = absurd (let bad : ⊥ = cc in bad)
equal_text (Int n) p h = absurd (let bad : ⊥ = cc in bad)
equal_text (Real x) p h = absurd (let bad : ⊥ = cc in bad)
equal_text (Text q) p h = ap Text (texts_equal q p h)
equal_text (Blob b) p h = absurd (let bad : ⊥ = cc in bad)

-- the row answers the value of some row of meta with the label
abbrev IsValueOf : Trees → List ℕ → Row → Type 0
IsValueOf db label x = (r : Row) × Has (db 0) r × (column r 1 ≡ Text label) × (x ≡ column r 2 ∷ [])

module _ (db : Database) (made : IsMetaFirst db.schema) where
  is_select : IsSelect db.schema 0 by_first (col 1 2 ∷ []) value_text (codes "value" ∷ [])
  is_select = subst (λ s. IsSelect s 0 by_first (col 1 2 ∷ []) value_text (codes "value" ∷ [])) (λ i. record { tables = sym made.1 i; indexes = db.schema.indexes; views = db.schema.views }) (value_is made.0 db.schema.indexes db.schema.views)

  asked : (query : Compiled) × (understood db.schema value_text ≡ Ok query)
  asked = go (understood db.schema value_text) is_select.plain
    where
      go : (r : Result Compiled CompileError) → IsPlain r → (query : Compiled) × (r ≡ Ok query)
      go (Ok c) plain = (c, refl)
      go (Err e) plain = absurd plain

  module _ (label : List ℕ) (rows : List Row) (shows : ShowsValues db label rows) where
    abbrev params : Row
    params = Text label ∷ []

    read : Reads (Select (program (simple 0 by_first (col 1 2 ∷ []))) (codes "value" ∷ [])) db params rows
    read =
        let known = sym shows.is in
        let from : shows.source ≡ db = subst (λ b. IsSourceOf b db shows.source) is_select.unlisted shows.from in
        subst₂ (λ k d. Reads k d params rows) (ap command_of known ∙ is_select.is) from shows.answer

    stored : IsPermutation (map (shown (col 1 2 ∷ []) params) (passing by_first params (overlay db.trees [] 0))) rows
    stored = simple_rows 0 by_first (col 1 2 ∷ []) (overlay db.trees []) params rows (read.answer Null)

    value_of : (x : Row) → Has rows x → IsValueOf db.trees label x
    value_of x there =
        let all = overlay db.trees [] 0 in
        let back = has_mapped (shown (col 1 2 ∷ []) params) (passing by_first params all) x (permuted rows _ x (IsPermutation-sym _ _ stored) there) in
        let kept = has_filtered (hits by_first params) all back.0 back.1 in
        (back.0, subst (λ xs. Has xs back.0) (none_over db.trees 0) kept.0, equal_text (column back.0 1) label (and_parts _ _ kept.1).0, back.2)

    answered : (r : Row) → Has (db.trees 0) r → column r 1 ≡ Text label → Has rows (column r 2 ∷ [])
    answered r there is =
        let all = overlay db.trees [] 0 in
        let hit : hits by_first params r ≡ true = and_from _ _ (subst (λ v. equal Binary v (Text label) ≡ true) (sym is) (text_equal label)) refl in
        let kept = has_kept (hits by_first params) all r (subst (λ xs. Has xs r) (sym (none_over db.trees 0)) there) hit in
        permuted _ rows (column r 2 ∷ []) stored (mapped_has (shown (col 1 2 ∷ []) params) (passing by_first params all) r kept)

  pub label_stored : (label : List ℕ) (n : ℕ) → ShowsNumber db label n → HasLabel db.trees label n
  label_stored label n (rows, shows, x, is, read) =
      let it = value_of label rows shows x (first_has rows x is) in
      (it.0, it.1, it.2, ap (λ (y : Row). column y 0) (sym it.3) ∙ read)
    where
      first_has : (xs : List Row) (x : Row) → slice_get xs 0 ≡ Some x → Has xs x
      first_has [] x h = absurd (let bad : ⊥ = cc in bad)
      first_has (y ∷ xs) x h = let same : x ≡ y = cc in inl same

  pub label_lacks : (label : List ℕ) → ShowsNoNumber db label → LacksNumber db.trees label
  label_lacks label (inl unasked) = absurd (unasked asked.0 asked.1)
  label_lacks label (inr ([], shows, bad)) = inl (λ r there is. answered label [] shows r there is)
  label_lacks label (inr (x ∷ rows, shows, bad)) =
      let it = value_of label (x ∷ rows) shows x (inl refl) in
      inr (it.0, it.1, it.2, λ good. bad x refl (subst IsNumber (ap (λ (y : Row). column y 0) (sym it.3)) good))

  pub told_stored : (label : List ℕ) (r : Result ℕ TableFault) → IfOk r (ShowsNumber db label) → IfOk r (HasLabel db.trees label)
  told_stored label (Ok n) h = label_stored label n h
  told_stored label (Err e) h = tt

  pub refused_stored : (label : List ℕ) (r : Result ℕ TableFault) → IfErr r (IsDamageOf (ShowsNoNumber db label)) → IfErr r (ExplainsNumber db.trees label)
  refused_stored label (Ok n) h = tt
  refused_stored label (Err e) h = go e h
    where
      go : (e : TableFault) → IsDamageOf (ShowsNoNumber db label) e → ExplainsNumber db.trees label e
      go Memory h = tt
      go Store h = tt
      go (NewerSchema n) h = h
      go Damaged h = label_lacks label h

-- How many accounts there are: one for each row of their table.
use Rattle.std.proofs.Common.{◌≡◌, ◌≢◌, inl, inr, ℕ, List, [], ◌∷◌, length, map, codes, Bool, true, false, not, refl, sym, ap, subst, ◌∙◌, Less}
use Rattle.std.specs.Prelude.{◌||◌, is_some}
use Rattle.std.specs.Cmp.{both_ways}
use Rattle.std.specs.List.{AllByRecursion, IsDistinct, list_any}
use Rattle.std.specs.Str.{bytes_eq}
use Rattle.std.specs.List.Sorted.{IsPermutation}
use Rattle.std.proofs.lemmas.Bool.{and_parts, and_from, both_ways as no_way, false_from_ne_true, not-true}
use Rattle.std.proofs.lemmas.List.{length-map}
use Rattle.std.proofs.lemmas.List.Sorted.{length_permutation}
use Rattle.std.proofs.lemmas.Slice.Eq.{bytes_eq-Decides}
use Rattle.sqlite.specs.declared.types.Value.{Value}
use Rattle.sqlite.specs.declared.types.Value.TheVariants.{Null, Int, Real, Text, Blob}
use Rattle.sqlite.specs.Effect.{Database, IsDatabase}
use Rattle.sqlite.specs.Listing.{understood, reads_listing}
use Rattle.sqlite.specs.Order.{Row, column, value_cmp}
use Rattle.sqlite.specs.Program.{overlay}
use Rattle.sqlite.specs.State.{State, Shown}
use Rattle.sqlite.specs.Term.{col}
use Rattle.sqlite.specs.Tree.{IsTable, rowid}
use Rattle.sqlite.proofs.Callers.{reads_as}
use Rattle.sqlite_rules.specs.Lists.{Has}
use Rattle.sqlite_rules.proofs.ListLemmas.{all_has}
use Rattle.sqlite_schema.specs.Rules.{clashes, passes, Obeys}
use Rattle.sqlite_schema.specs.declared.schema.Constraint.TheVariants.{Unique}
use Rattle.sqlite_tied.specs.Compute.{everything}
use Rattle.sqlite_value.specs.Keys.{plain}
use Rattle.pid_moderation.specs.RegistryStatus.{AreRanked}
use Rattle.pid_moderation.specs.Views.{Views}
use Rattle.pid_tables.specs.Rows.Accounts.{HasAccounts}
use Rattle.pid_tables.specs.Rows.PairRows.{IsPairRow}
use Rattle.pid_tables.specs.Rows.Steps.Queries.{IsQuery}
use Rattle.pid_tables.specs.Rows.Schema.{schema_of, account}
use Rattle.pid_tables.specs.Rows.Shows.{Counts, Numbers, ShowsKeeping}
use Rattle.pid_tables.specs.Rows.TableRows.{account_row}
use Rattle.pid_tables.specs.declared.rows.schema_version.Version.{Version}
use Rattle.pid_tables.proofs.OfRows.Lengths.{some_there}
use Rattle.pid_tables.proofs.OfRows.Lengths as lengths
use Rattle.pid_tables.proofs.OfRows.MapLemmas.{none_over}
use Rattle.pid_tables.proofs.OfRows.OneRowEach.{agrees, below_differs, none_among, rising_apart}
use Rattle.pid_tables.proofs.OfRows.QueryTexts.{by_key}
use Rattle.pid_tables.proofs.OfRows.Select.{passing, shown, simple_rows}
use Rattle.pid_tables.proofs.OfRows.Statements.{IsSelect, SelectsAlone, select_alone}

abbrev pub select_accounts : List ℕ
select_accounts = codes "SELECT rank FROM account"

select_accounts_alone : (version : Version) → SelectsAlone (schema_of version) 2 [] (col 1 2 ∷ []) select_accounts (codes "rank" ∷ []) 0
unfolding understood everything
select_accounts_alone version = refl

select_accounts_unlisted : (version : Version) → reads_listing (schema_of version) select_accounts ≡ false
unfolding understood everything
select_accounts_unlisted version = refl

select_accounts_is : (version : Version) → IsSelect (schema_of version) 2 [] (col 1 2 ∷ []) select_accounts (codes "rank" ∷ [])
select_accounts_is version = select_alone (schema_of version) 2 [] (col 1 2 ∷ []) select_accounts (codes "rank" ∷ []) 0 (select_accounts_alone version) (select_accounts_unlisted version)

pub accounts_query : (version : Version) → IsQuery (schema_of version) select_accounts []
accounts_query version = by_key (schema_of version) select_accounts [] 2 [] (col 1 2 ∷ []) (codes "rank" ∷ []) (select_accounts_alone version) (select_accounts_is version) refl

-- a query without tests passes each row
all_pass : (params : Row) (rows : List Row) → passing [] params rows ≡ rows
all_pass params [] = refl
all_pass params (r ∷ rows) = ap (λ l. r ∷ l) (all_pass params rows)

-- the name of a row
abbrev text_of : Value → List ℕ
text_of (Text t) = t
text_of Null = []
text_of (Int n) = []
text_of (Real x) = []
text_of (Blob b) = []

abbrev name_in : Row → List ℕ
name_in r = text_of (column r 1)

account_keys_apart : (version : Version) (db : Database) → IsDatabase db → db.schema ≡ schema_of version → IsTable (db.trees 2) → (v : Views) → ((r : Row) → Has (db.trees 2) r → IsPairRow account_row v.rank r)
    → lengths.IsDistinct (map (λ r. column r 1) (db.trees 2))
account_keys_apart version db sound has up v keyed =
    let obeys : Obeys (schema_of version) db.trees = subst (λ s. Obeys s db.trees) has sound.obeys in
    let passed : AllByRecursion (λ row. passes Unique (schema_of version) db.trees account row ≡ true) (db.trees 2) = (obeys.rules Unique).1.0 in
    rising_apart (λ a b. value_cmp (rowid a) (rowid b) ≡ Less) (λ r. column r 1) (db.trees 2) up (λ a b p q less same.
    let ka = keyed a p in
    let kb = keyed b q in
    let clean : not (clashes plain (1 ∷ []) (db.trees 2) b) ≡ true = (and_parts _ _ (all_has _ (db.trees 2) b passed q)).0 in
    let none = none_among _ (db.trees 2) a (not-true _ clean) p in
    let key_a : column a 1 ≡ Text ka.key = ap (λ r. column r 1) ka.is in
    let key_b : column b 1 ≡ Text kb.key = ap (λ r. column r 1) kb.is in
    no_way _ none (and_from _ _ (agrees a b kb.key (same ∙ key_b) key_b) (below_differs (rowid a) (rowid b) ka.id kb.id (ap rowid ka.is) (ap rowid kb.is) less)))

-- different names
names_apart : (v : Views) (rows : List Row) → ((r : Row) → Has rows r → IsPairRow account_row v.rank r) → lengths.IsDistinct (map (λ r. column r 1) rows) → IsDistinct bytes_eq (map name_in rows)
unfolding IsDistinct
names_apart v [] each once = tt
names_apart v (r ∷ rows) each once = (apart rows (λ s h. each s (inr h)) once.0, names_apart v rows (λ s h. each s (inr h)) once.1)
  where
    column_is : (s : Row) → IsPairRow account_row v.rank s → column s 1 ≡ Text (name_in s)
    column_is s pair = subst (λ (t : Row). column t 1 ≡ Text (name_in t)) (sym pair.is) refl

    apart : (rest : List Row) → ((s : Row) → Has rest s → IsPairRow account_row v.rank s) → AllByRecursion (λ c. column r 1 ≢ c) (map (λ s. column s 1) rest) → AllByRecursion (λ name. bytes_eq (name_in r) name ≡ false) (map name_in rest)
    apart [] more differ = tt
    apart (s ∷ rest) more differ = (
      false_from_ne_true _ (λ same. differ.0 (column_is r (each r (inl refl)) ∙ ap Text ((bytes_eq-Decides (name_in r) (name_in s)).0 same) ∙ sym (column_is s (more s (inl refl))))),
      apart rest (λ t h. more t (inr h)) differ.1,
    )

any_named : (a : List ℕ) (rows : List Row) (r : Row) → Has rows r → bytes_eq a (name_in r) ≡ true → list_any (bytes_eq a) (map name_in rows) ≡ true
any_named a [] r there is = absurd there
any_named a (x ∷ rows) r (inl same) is = ap (λ b. b || list_any (bytes_eq a) (map name_in rows)) (sym (ap (λ t. bytes_eq a (name_in t)) same) ∙ is)
any_named a (x ∷ rows) r (inr later) is = elim (bytes_eq a (name_in x)) as (λ b. (b || list_any (bytes_eq a) (map name_in rows)) ≡ true) [ true ↦ refl | false ↦ any_named a rows r later is ]

named_here : (a : List ℕ) (x : Row) (rows : List Row) (b : Bool) → bytes_eq a (name_in x) ≡ b → (b || list_any (bytes_eq a) (map name_in rows)) ≡ true
    → (list_any (bytes_eq a) (map name_in rows) ≡ true → (r : Row) × Has rows r × (a ≡ name_in r)) → (r : Row) × Has (x ∷ rows) r × (a ≡ name_in r)
named_here a x rows true is more rest = (x, inl refl, (bytes_eq-Decides a (name_in x)).0 is)
named_here a x rows false is more rest = let it = rest more in (it.0, inr it.1, it.2)

named_row : (a : List ℕ) (rows : List Row) → list_any (bytes_eq a) (map name_in rows) ≡ true → (r : Row) × Has rows r × (a ≡ name_in r)
named_row a [] some = absurd (let bad : ⊥ = cc in bad)
named_row a (x ∷ rows) some = named_here a x rows (bytes_eq a (name_in x)) refl some (λ more. named_row a rows more)

module _ (version : Version) (numbers : Numbers) (c : Counts) (v : Views) (db : Database) (shows : ShowsKeeping version c numbers db v) where
  abbrev rows : List Row
  rows = db.trees 2

  are_ranked : AreRanked v (map name_in rows)
  are_ranked = record {
    once = names_apart v rows shows.accounts.sound (account_keys_apart version db shows.sound shows.schema shows.accounts.ordered v shows.accounts.sound);
    ranked = λ a. both_ways (is_some (v.rank a)) (list_any (bytes_eq a) (map name_in rows))
        (λ known.
        let rank = some_there (v.rank a) known in
        let row = shows.accounts.complete a rank.0 rank.1 in
        any_named a rows (account_row row.0 a rank.0) row.1 ((bytes_eq-Decides a a).1 refl))
        (λ some.
        let it = named_row a rows some in
        let pair = shows.accounts.sound it.0 it.1 in
        let same : a ≡ pair.key = it.2 ∙ ap name_in pair.is in
        ap (λ n. is_some (v.rank n)) same ∙ ap is_some pair.maps);
  }

  accounts_counted : (answer : List Row) → IsPermutation (map (shown (col 1 2 ∷ []) []) rows) answer → HasAccounts v (length answer)
  accounts_counted answer same = (map name_in rows, are_ranked, length_permutation _ answer same ∙ length-map rows (shown (col 1 2 ∷ []) []) ∙ sym (length-map rows name_in))

pub accounts_found : {version : Version} {numbers : Numbers} (old new : State) (c : Counts) (v : Views) → ShowsKeeping version c numbers old.now v → (answer : List Row) → Shown select_accounts [] old new answer → HasAccounts v (length answer)
accounts_found {version} {numbers} old new c v shows answer h =
    let s = select_accounts_is version in
    let got = reads_as select_accounts [] old new (schema_of version) shows.schema _ s.is s.plain s.unlisted answer h in
    let told = simple_rows 2 [] (col 1 2 ∷ []) (overlay old.now.trees []) [] answer (got.answer Null) in
    accounts_counted version numbers c v old.now shows answer
    (subst (λ (rs : List Row). IsPermutation (map (shown (col 1 2 ∷ []) []) rs) answer) (all_pass [] (overlay old.now.trees [] 2) ∙ none_over old.now.trees 2) told)

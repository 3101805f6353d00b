-- Worked rows, by computation.
use Rattle.std.proofs.Common.{◌≡◌, ℕ, pos, List, [], ◌∷◌, Ok, Option, Some, None, refl}
use Rattle.std.specs.Prelude.{codes, map, option_map}
use Rattle.sqlite.specs.Compile.{table_defined_by}
use Rattle.sqlite.specs.Change.{created}
use Rattle.sqlite.specs.Tree.{Trees}
use Rattle.sqlite.specs.declared.types.Value.TheVariants.{Int, Text}
use Rattle.sqlite_tied.specs.Compute.{everything}
use Rattle.sqlite_schema.specs.declared.schema.Action.TheVariants.{Cascade}
use Rattle.pid_moderation.specs.declared.facts.State.TheVariants.{Pending}
use Rattle.pid_moderation.specs.Items.{name_at}
use Rattle.pid_moderation.specs.Views.{Views}
use Rattle.pid_tables.specs.declared.rows.schema_version.Version.TheVariants.{One, Two}
use Rattle.pid_tables.specs.Rows.Schema.{schema_of, item_since, to_item}
use Rattle.pid_tables.specs.Rows.Shows.{ShowsNumbers, labels_of, counts_of, numbers_in, since_in}
use Rattle.pid_tables.specs.Rows.Steps.Shows.{meta_of}
use Rattle.pid_tables.specs.Rows.TableRows.{since_row}
use Rattle.pid_tables.specs.Rows.Steps.Writes.{with_name}
use Rattle.pid_tables.specs.Rows.Steps.Writes.{with_revision, without_item}
use Rattle.pid_tables.proofs.OfRows.StatementTexts.{create_since}

-- ---- the seventh table

-- the text, as SQLite reads it
text_defines : table_defined_by create_since ≡ Ok (record item_since { tree = 0 })
unfolding everything
text_defines = refl

-- made in schema 1 it makes schema 2
one_becomes_two : created (schema_of One) (record item_since { tree = 0 }) ≡ schema_of Two
one_becomes_two = refl

its_rows_go_with_items : to_item.on_delete ≡ Cascade
its_rows_go_with_items = refl

-- ---- two items, the third and the seventh of seven commands

abbrev intel : List ℕ
intel = codes "PC/8086"

abbrev bridge : List ℕ
bridge = codes "PC/8086/1237"

abbrev views : Views
views = record {
  rank = λ account. None;
  submits = [];
  state = λ number. Pending;
  remarks = λ number. [];
  items = (intel, codes "Intel Corporation") ∷ (bridge, codes "440FX") ∷ [];
  kept = λ account key. None;
  revision = 7;
  since = λ path. 3;
}

abbrev renamed : Views
renamed = with_revision 8 (with_name 8 bridge (codes "440FX - 82441FX PMC [Natoma]") views)

abbrev labels : List (List ℕ)
labels = codes "schema" ∷ codes "items" ∷ codes "submissions" ∷ codes "revision" ∷ codes "since" ∷ []

-- the labels, by schema
labels_of_two : map (meta_of (counts_of views) views.revision) labels ≡ Some 2 ∷ Some 2 ∷ Some 0 ∷ Some 7 ∷ None ∷ []
labels_of_two = refl

labels_of_one : map (labels_of One (counts_of views) 0) labels ≡ Some 1 ∷ Some 2 ∷ Some 0 ∷ None ∷ None ∷ []
labels_of_one = refl

-- the numbers, where there are items
numbers_of_items : map (since_in views) (intel ∷ bridge ∷ codes "PC/10de" ∷ []) ≡ Some 3 ∷ Some 3 ∷ None ∷ []
numbers_of_items = refl

-- the row of a number
row_of_number : since_row (pos 2) bridge 8 ≡ Int (pos 2) ∷ Text (codes "PC/8086/1237") ∷ Int (pos 8) ∷ []
row_of_number = refl

-- another name has the number of its command, the others keep theirs
numbers_of_renamed : map (since_in renamed) (intel ∷ bridge ∷ []) ≡ Some 3 ∷ Some 8 ∷ []
numbers_of_renamed = refl

-- the same name leaves the number
numbers_of_same : map (since_in (with_name 8 bridge (codes "440FX") views)) (intel ∷ bridge ∷ []) ≡ Some 3 ∷ Some 3 ∷ []
numbers_of_same = refl

-- an item that is new
numbers_of_new : map (since_in (with_name 8 (codes "PC/10de") (codes "NVIDIA") views)) (intel ∷ codes "PC/10de" ∷ []) ≡ Some 3 ∷ Some 8 ∷ []
numbers_of_new = refl

-- one that is removed has no number
numbers_of_removed : map (since_in (without_item bridge views)) (intel ∷ bridge ∷ []) ≡ Some 3 ∷ None ∷ []
numbers_of_removed = refl

-- schema 1 does not show what was counted
one_counts_nothing : (db : Trees) → ShowsNumbers One (numbers_in views) db → ⊥
one_counts_nothing db shows = let bad = shows.0 in cc

-- nor a change of an item, even where nothing else was counted
one_numbers_nothing : (db : Trees) → ShowsNumbers One (numbers_in (with_revision 0 views)) db → ⊥
one_numbers_nothing db shows = let bad = shows.1 intel 3 refl in cc

-- what stands before the mark has the number 0, and that it shows
one_shows_old : (db : Trees) → ShowsNumbers One (numbers_in (record views { revision = 0; since = λ path. 0 })) db
one_shows_old db = (refl, λ path since is. old (name_at path views.items) since is)
  where
    old : (o : Option (List ℕ)) (since : ℕ) → option_map (λ (name : List ℕ). 0) o ≡ Some since → since ≡ 0
    old None since is = absurd (let bad : ⊥ = cc in bad)
    old (Some name) since is = cc

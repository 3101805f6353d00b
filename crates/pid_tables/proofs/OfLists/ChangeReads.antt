-- Rows of changes that can be read.
use Rattle.std.proofs.Common.{◌≡◌, ℕ, List, None, Some, ap, sym, ◌∙◌}
use Rattle.std.specs.Str.{is_utf8}
use Rattle.sqlite.specs.declared.types.Value.{Value}
use Rattle.sqlite.specs.declared.types.Value.TheVariants.{Text}
use Rattle.sqlite.specs.Order.{Row, column}
use Rattle.pid_ident.specs.PathTexts.{path_text}
use Rattle.pid_moderation.specs.Items.{name_at}
use Rattle.pid_moderation.specs.Views.{Views}
use Rattle.pid_tables.specs.Rows.Causes.{IsReadable}
use Rattle.pid_tables.specs.Rows.Steps.Unread.{IsWholeNumber}
use Rattle.pid_tables.specs.Rows.Steps.Unread.{IsPathText, IsWord}
use Rattle.pid_tables.proofs.OfRows.RangeLemmas.{found_in}
use Rattle.pid_tables.proofs.OfRows.ReadBack.{among}
use Rattle.pid_tables.proofs.OfRows.UnreadLemmas.{path_utf8}
use Rattle.pid_tables.proofs.OfRows.DecodeLemmas.{number_same}
use Rattle.pid_tables.specs.Rows.TableRows.{number}
use Rattle.pid_moderation.specs.ChangePages.{Changed}
use Rattle.pid_tables.specs.Lists.Steps.ChangeRows.{since_shown}

-- the text of a path is text
pub path_is_word : (value : Value) → IsPathText value → IsWord is_utf8 value
path_is_word value good = (path_text good.0, path_utf8 good.0, good.2)

module _ (v : Views) (item : Changed) (row : Row) (named : name_at item.path v.items ≡ Some item.name) (is : row ≡ since_shown item) where
  pub path_written : IsReadable v → IsPathText (column row 0)
  path_written readable =
      let it = (among v.items (item.path, item.name) readable.items (found_in item.path item.name v.items named)).0 in
      (it.0, it.1.in_range, ap (λ r. column r 0) is ∙ ap Text it.1.same)

  pub since_written : IsWholeNumber (column row 1)
  since_written = (item.since, ap (λ r. column r 1) is)

  path_is : (path : List ℕ) → column row 0 ≡ Text path → path ≡ item.path
  path_is path at = let same : Text path ≡ Text item.path = sym at ∙ ap (λ r. column r 0) is in cc

  since_is : (since : ℕ) → column row 1 ≡ number since → since ≡ item.since
  since_is since at = number_same since item.since (sym at ∙ ap (λ r. column r 1) is)

  -- what is read of the row, with the name at its path, is the change
  pub change_read : (path : List ℕ) (since : ℕ) (name : List ℕ) → column row 0 ≡ Text path → column row 1 ≡ number since → Some name ≡ name_at path v.items → record { path = path; name = name; since = since } ≡ item
  change_read path since name at_path at_since found =
      let same_path = path_is path at_path in
      let both : Some name ≡ Some item.name = found ∙ ap (λ p. name_at p v.items) same_path ∙ named in
      let same_name : name ≡ item.name = cc in
      let same_since = since_is since at_since in
      λ i. record { path = same_path i; name = same_name i; since = same_since i }

  -- there is an item at its path
  pub change_there : (path : List ℕ) → column row 0 ≡ Text path → None ≡ name_at path v.items → ⊥
  change_there path at_path found = let both : None ≡ Some item.name = found ∙ ap (λ p. name_at p v.items) (path_is path at_path) ∙ named in cc

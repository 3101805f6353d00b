-- What makes rows of item_since go with the items and the revision.
use Rattle.std.proofs.Common.{◌≡◌, ◌↔◌, ◌&&◌, Bool, IsTrue, ℕ, ◌≤◌, List, [], ◌∷◌, length, ap, subst, ◌∙◌}
use Rattle.std.specs.BTreeSet.{BTreeSet, IsSubset}
use Rattle.sqlite.specs.Order.{Row, column}
use Rattle.pid_file.specs.declared.path.Path.{Path}
use Rattle.pid_file.specs.Steps.Paths.{path_cmp}
use Rattle.pid_tables.specs.Rows.TableRows.{number}
use Rattle.pid_tables.specs.Check.Conditions.{IsSinceRow, AreSinces}
use Rattle.pid_tables.specs.Check.Steps.PathSets.{ArePathsOf, HasPath}
use Rattle.pid_tables.specs.Check.Steps.Keeping.{AreEach, GoWith, TakesSinces}
use Rattle.pid_tables.specs.declared.check.since.SinceFold.{SinceFold}
use Rattle.pid_tables.proofs.OfCheck.ItemFacts.{both, two, path_known, path_listed}

module _ (revision : ℕ) (r : Row) where
  pub since_made : length r ≡ 2 → HasPath r → ((since : ℕ) × (column r 1 ≡ number since) × (since ≤ revision)) → IsSinceRow revision r
  since_made len path since = record { path = path.0; since = since.0; is = two r len ∙ (λ i. path.2 i ∷ since.1 i ∷ []); in_range = path.1; within = since.2 }

  pub since_length : IsSinceRow revision r → length r ≡ 2
  since_length it = ap length it.is

  pub since_path : IsSinceRow revision r → HasPath r
  since_path it = (it.path, it.in_range, ap (λ (x : Row). column x 0) it.is)

  pub since_number : IsSinceRow revision r → (since : ℕ) × (column r 1 ≡ number since) × (since ≤ revision)
  since_number it = (it.since, ap (λ (x : Row). column x 1) it.is, it.within)

module _ (revision : ℕ) (items sinces : List Row) (all paths : BTreeSet Path) (have : ArePathsOf all items) (are : ArePathsOf paths sinces) where
  pub sinces_made : AreEach (IsSinceRow revision) sinces → IsSubset path_cmp all paths → AreSinces revision items sinces
  sinces_made each among = record {
    each = each;
    there = λ path range has. path_known paths sinces are path (among path (path_listed all items have path range has));
  }

  pub subset_of : AreSinces revision items sinces → IsSubset path_cmp all paths
  subset_of good path there =
      let it = (have path).0 there in
      (are path).1 (it.0, it.1, it.2, good.there it.0 it.1 it.3)

pub sinces_judged : (first : SinceFold) (rows : List Row) (it : SinceFold) (all : BTreeSet Path) (among : Bool) → TakesSinces first rows it → (IsTrue among ↔ IsSubset path_cmp all it.paths) → GoWith all first.revision rows (it.good && among)
sinces_judged first rows it all among taken subset = subst (λ revision. GoWith all revision rows (it.good && among)) taken.revision (λ items have. (
  λ yes. let of = (both it.good among).0 yes in sinces_made it.revision items rows all it.paths have taken.paths (taken.good.0 of.0) (subset.0 of.1),
  λ good. (both it.good among).1 (taken.good.1 good.each, subset.1 (subset_of it.revision items rows all it.paths have taken.paths good)),
))

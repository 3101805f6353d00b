-- What makes rows of accounts those of a registry.
use Rattle.std.proofs.Common.{◌≡◌, ◌≤◌, inl, inr, ℕ, Bool, true, List, [], ◌∷◌, ◌++◌, length, IsTrue, refl, sym, ap, ◌∙◌, codes}
use Rattle.std.specs.Prelude.{◌↔◌, ◌&&◌, ◌||◌, IsUtf8}
use Rattle.std.proofs.lemmas.Bool.{or_cases, or_left, or_right}
use Rattle.sqlite.specs.declared.types.Value.{Value}
use Rattle.sqlite.specs.declared.types.Value.TheVariants.{Text}
use Rattle.sqlite.specs.Order.{Row, column}
use Rattle.pid_ident.specs.Words.{is_account}
use Rattle.pid_tables.specs.Rows.TableRows.{number}
use Rattle.pid_tables.specs.Check.Conditions.{HasAccount, HasValue, IsAccountRow, AreAccounts}
use Rattle.pid_tables.specs.Check.Steps.Keeping.{IsPartJudged, TakesAccounts}
use Rattle.pid_tables.specs.declared.check.account.Accounts.{Accounts}
use Rattle.pid_tables.proofs.OfCheck.ItemFacts.{split, last, two, value_before, all_three}
use Rattle.pid_tables.proofs.OfCheck.WordTexts.{account_utf8}

pub account_named : (r : Row) → IsAccountRow r → (name : List ℕ) × (column r 0 ≡ Text name) × IsUtf8 name
account_named r row = (row.name, ap (λ (x : Row). column x 0) row.is, account_utf8 row.name row.good)

module _ (r : Row) where
  pub account_made : (name : List ℕ) → length r ≡ 2 → column r 0 ≡ Text name → is_account name ≡ true → ((rank : ℕ) × (column r 1 ≡ number rank) × (rank ≤ 3)) → IsAccountRow r
  account_made name len first good rank = record { name = name; rank = rank.0; is = two r len ∙ (λ i. first i ∷ rank.1 i ∷ []); good = good; ranked = rank.2 }

  pub account_length : IsAccountRow r → length r ≡ 2
  account_length it = ap length it.is

  pub account_rank : IsAccountRow r → (rank : ℕ) × (column r 1 ≡ number rank) × (rank ≤ 3)
  account_rank it = (it.rank, ap (λ (x : Row). column x 1) it.is, it.ranked)

-- one row more, and some row has the value
pub value_or : (rows : List Row) (r : Row) (at : ℕ) (v : Value) (was row : Bool) → (IsTrue was ↔ HasValue rows at v) → (IsTrue row ↔ (column r at ≡ v)) → IsTrue (was || row) ↔ HasValue (rows ++ r ∷ []) at v
value_or rows r at v was row so_far here = (
  λ yes. elim (or_cases was row yes) [ inl early ↦ value_before rows r at v (so_far.0 early) | inr new ↦ (r, last rows r, here.0 new) ],
  λ it. elim (split rows r it.0 it.1) [
    | inl early ↦ or_left was row (so_far.1 (it.0, early, it.2))
    | inr same ↦ or_right was row (here.1 (ap (λ (x : Row). column x at) (sym same) ∙ it.2))
  ],
)

pub root_utf8 : IsUtf8 (codes "root")
root_utf8 = account_utf8 (codes "root") refl

pub accounts_judged : (rows : List Row) (it : Accounts) (root : Bool) → TakesAccounts rows it → (IsTrue root ↔ HasAccount rows (codes "root")) → IsPartJudged AreAccounts rows (it.good && (root && it.administrator))
accounts_judged rows it root taken named =
    let parts = all_three it.good root it.administrator in (
      λ yes. let of = parts.0 yes in record { each = taken.good.0 of.0; root = named.0 of.1; administrator = taken.administrator.0 of.2 },
      λ all. parts.1 (taken.good.1 all.each, named.1 all.root, taken.administrator.1 all.administrator),
    )

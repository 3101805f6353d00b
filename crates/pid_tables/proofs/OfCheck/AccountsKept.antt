-- Tables that show a sound history have good accounts.
use Rattle.std.proofs.Common.{◌≡◌, ℕ, ◌≤◌, List, [], ◌∷◌, true, Option, Some, None, refl, ap, ◌∙◌, codes, arith}
use Rattle.std.specs.Prelude.{is_some}
use Rattle.sqlite.specs.Order.{Row}
use Rattle.sqlite.specs.Effect.{Database}
use Rattle.sqlite_rules.specs.Lists.{Has}
use Rattle.pid_moderation.specs.declared.rank.Rank.{Rank}
use Rattle.pid_moderation.specs.declared.rank.Rank.TheVariants.{Contributor, Moderator, Senior, Administrator}
use Rattle.pid_moderation.specs.History.{History}
use Rattle.pid_moderation.specs.Ranks.{has_rank, rank_number}
use Rattle.pid_moderation.specs.Sound.{IsSound}
use Rattle.pid_moderation.specs.Views.{rank_of, views_of}
use Rattle.pid_tables.specs.Rows.Shows.{ShowsIn}
use Rattle.pid_tables.specs.declared.rows.schema_version.Version.{Version}
use Rattle.pid_tables.specs.Rows.TableRows.{account_row}
use Rattle.pid_tables.specs.Check.Conditions.{columns, rows_in, HasAccount, IsAccountRow, AreAccounts}
use Rattle.pid_tables.proofs.OfRows.Lengths.{some_there, mapped, unmapped}

highest : (o : Option Rank) → has_rank Administrator o ≡ true → o ≡ Some Administrator
highest None h = absurd cc
highest (Some Contributor) h = absurd cc
highest (Some Moderator) h = absurd cc
highest (Some Senior) h = absurd cc
highest (Some Administrator) h = refl

at_most : (rank : Rank) → rank_number rank ≤ 3
at_most Contributor = omega arith
at_most Moderator = omega arith
at_most Senior = omega arith
at_most Administrator = omega arith

module _ (h : History) (sound : IsSound h) (version : Version) (db : Database) (shows : ShowsIn version db (views_of h)) where
  pub account_known : (name : List ℕ) → is_some (rank_of name h) ≡ true → HasAccount (rows_in db.trees).accounts name
  account_known name known =
      let rank = some_there (rank_of name h) known in
      let row = shows.accounts.complete name rank.0 rank.1 in
      (columns (1 ∷ 2 ∷ []) (account_row row.0 name rank.0), mapped (columns (1 ∷ 2 ∷ [])) (db.trees 2) (account_row row.0 name rank.0) row.1, refl)

  account_good : (r : Row) → Has (rows_in db.trees).accounts r → IsAccountRow r
  account_good r has =
      let from = unmapped (columns (1 ∷ 2 ∷ [])) (db.trees 2) r has in
      let pair = shows.accounts.sound from.0 from.1 in
      record { name = pair.key; rank = rank_number pair.value; is = from.2 ∙ ap (columns (1 ∷ 2 ∷ [])) pair.is; good = sound.accounts pair.key (ap is_some pair.maps); ranked = at_most pair.value }

  pub accounts_kept : AreAccounts (rows_in db.trees).accounts
  accounts_kept =
      let first = sound.administrator in
      let row = shows.accounts.complete first.0 Administrator (highest (rank_of first.0 h) first.1) in
      record {
        each = account_good;
        root = account_known (codes "root") sound.root;
        administrator = (columns (1 ∷ 2 ∷ []) (account_row row.0 first.0 Administrator), mapped (columns (1 ∷ 2 ∷ [])) (db.trees 2) (account_row row.0 first.0 Administrator) row.1, refl);
      }

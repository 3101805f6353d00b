-- Tables that show a sound history have good receipts.
use Rattle.std.proofs.Common.{◌≡◌, ℕ, List, [], ◌∷◌, Option, Some, None, refl, ◌∙◌, ap}
use Rattle.std.specs.Prelude.{option_map}
use Rattle.sqlite.specs.declared.types.Value.TheVariants.{Text}
use Rattle.sqlite.specs.Order.{Row}
use Rattle.sqlite.specs.Effect.{Database}
use Rattle.sqlite_rules.specs.Lists.{Has}
use Rattle.pid_moderation.specs.declared.command.Reply.{Reply}
use Rattle.pid_moderation.specs.declared.command.Reply.TheVariants.{Done, Numbered, Counts}
use Rattle.pid_moderation.specs.History.{History}
use Rattle.pid_moderation.specs.Sound.{IsSound, IsSubmissionBy, IsOwnReply}
use Rattle.pid_moderation.specs.Views.{Submitted, submits_of, submission_at, state_of, views_of}
use Rattle.pid_tables.specs.Rows.Shows.{ShowsIn}
use Rattle.pid_tables.specs.declared.rows.schema_version.Version.{Version}
use Rattle.pid_tables.specs.Rows.TableRows.{submission_row}
use Rattle.pid_moderation.specs.Submissions.{Standing}
use Rattle.pid_tables.proofs.OfRows.Lengths.{mapped, unmapped}
use Rattle.pid_tables.specs.Check.Conditions.{columns, rows_in, IsOwn, IsReceiptRow, AreReceipts}

by : (account : List ℕ) (o : Option Submitted) → IsSubmissionBy account o → (s : Submitted) × (o ≡ Some s) × (s.author ≡ account)
by account None h = absurd h
by account (Some s) h = (s, refl, h)

module _ (h : History) (sound : IsSound h) (version : Version) (db : Database) (shows : ShowsIn version db (views_of h)) where
  own : (account : List ℕ) (reply : Reply) → IsOwnReply h account reply → IsOwn (rows_in db.trees).submissions account reply
  own account Done mine = tt
  own account (Numbered n) mine =
      let s = by account (submission_at n (submits_of h)) mine in
      let standing : Standing = record { submitted = s.0; state = state_of n h } in
      let row = shows.submissions.complete n standing (ap (option_map (λ (s : Submitted). record { submitted = s; state = state_of n h })) s.1) in
      (columns (0 ∷ 2 ∷ 3 ∷ 4 ∷ 5 ∷ 6 ∷ 7 ∷ 8 ∷ 9 ∷ []) (submission_row row.0 n standing), mapped (columns (0 ∷ 2 ∷ 3 ∷ 4 ∷ 5 ∷ 6 ∷ 7 ∷ 8 ∷ 9 ∷ [])) (db.trees 6) (submission_row row.0 n standing) row.1, refl, ap Text s.2)
  own account (Counts added renamed same) mine = mine

  receipt_good : (r : Row) → Has (rows_in db.trees).receipts r → IsReceiptRow (rows_in db.trees).submissions r
  receipt_good r has =
      let from = unmapped (columns (1 ∷ 2 ∷ 3 ∷ 4 ∷ 5 ∷ 6 ∷ [])) (db.trees 9) r has in
      let pair = shows.receipts.sound from.0 from.1 in
      let good = sound.kept pair.key.0 pair.key.1 pair.value pair.maps in
      record {
        account = pair.key.0;
        token = pair.key.1;
        reply = pair.value;
        is = from.2 ∙ ap (columns (1 ∷ 2 ∷ 3 ∷ 4 ∷ 5 ∷ 6 ∷ [])) pair.is;
        good = sound.accounts pair.key.0 good.account;
        key = good.key;
        own = own pair.key.0 pair.value good.reply;
      }

  pub receipts_kept : AreReceipts (rows_in db.trees).submissions (rows_in db.trees).receipts
  receipts_kept = receipt_good

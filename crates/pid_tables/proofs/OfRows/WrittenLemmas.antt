-- The columns of a row that is written as it should be.
use Rattle.std.proofs.Common.{◌≡◌, ℕ, ◌<◌, ◌^◌, List, ◌++◌, sym, ap, subst, ◌∙◌, arith}
use Rattle.sqlite.specs.declared.types.Value.TheVariants.{Text}
use Rattle.sqlite.specs.Order.{Row, column}
use Rattle.pid_ident.specs.Words.{is_account, is_text}
use Rattle.pid_moderation.specs.Submissions.{decider_of}
use Rattle.pid_tables.specs.Rows.Answers.{standing_row}
use Rattle.pid_moderation.specs.declared.command.Reply.{Reply}
use Rattle.pid_moderation.specs.declared.command.Reply.TheVariants.{Done, Numbered, Counts}
use Rattle.pid_tables.specs.Rows.Causes.{IsReadableReply}
use Rattle.pid_tables.specs.Rows.TableRows.{reply_kind, first_number, second_number, third_number}
use Rattle.pid_tables.specs.Rows.Steps.Unread.{ReadsAsStanding}
use Rattle.pid_tables.specs.Rows.LabelRows.{IsNumber}
use Rattle.pid_tables.specs.Rows.Steps.Unread.{IsWord, IsPathText, IsProposal, IsState, IsReplyRow}
use Rattle.pid_tables.proofs.OfRows.DecodeLemmas.{text_same}

-- ---- a submission

module _ (row : Row) (it : ReadsAsStanding row) where
  at : (i : ℕ) → column row i ≡ column (standing_row it.0 ++ it.3) i
  at i = ap (λ (r : Row). column r i) it.4

  pub author_written : IsWord is_account (column row 0)
  author_written = (it.0.submitted.author, it.1.author, at 0)

  pub path_written : IsPathText (column row 1)
  path_written = (it.0.submitted.path, it.1.path, at 1)

  pub proposal_written : IsProposal (column row 2) (column row 3)
  proposal_written = (it.0.submitted.proposal, it.1.proposal, (at 2, at 3))

  pub note_written : IsWord is_text (column row 4)
  note_written = (it.0.submitted.note, it.1.note, at 4)

  pub state_written : (author : List ℕ) → column row 0 ≡ Text author → IsState author (column row 5) (column row 6) (column row 7)
  state_written author is =
      let same : it.0.submitted.author ≡ author = text_same _ _ (sym (at 0) ∙ is) in
      (it.0.state, it.2, (at 5, subst (λ a. column row 6 ≡ Text (decider_of a it.0.state)) same (at 6), at 7))

-- ---- a reply

kind_small : (r : Reply) → reply_kind r < 2 ^ 32
kind_small Done = omega arith
kind_small (Numbered n) = omega arith
kind_small (Counts a b c) = omega arith

first_small : (r : Reply) → IsReadableReply r → first_number r < 2 ^ 32
first_small Done good = omega arith
first_small (Numbered n) good = good
first_small (Counts a b c) good = good.0

second_small : (r : Reply) → IsReadableReply r → second_number r < 2 ^ 32
second_small Done good = omega arith
second_small (Numbered n) good = omega arith
second_small (Counts a b c) good = good.1

third_small : (r : Reply) → IsReadableReply r → third_number r < 2 ^ 32
third_small Done good = omega arith
third_small (Numbered n) good = omega arith
third_small (Counts a b c) good = good.2

module _ (row : Row) (it : IsReplyRow row) where
  pub kind_written : IsNumber (column row 0)
  kind_written = (reply_kind it.0, kind_small it.0, it.2.0)

  pub first_written : IsNumber (column row 1)
  first_written = (first_number it.0, first_small it.0 it.1, it.2.1)

  pub second_written : IsNumber (column row 2)
  second_written = (second_number it.0, second_small it.0 it.1, it.2.2)

  pub third_written : IsNumber (column row 3)
  third_written = (third_number it.0, third_small it.0 it.1, it.2.3)

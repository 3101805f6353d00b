-- Rows that show readable views are read.
use Rattle.std.proofs.Common.{◌≡◌, ◌⊎◌, inl, inr, ℕ, zero, suc, ◌<◌, ◌^◌, List, [], ◌∷◌, length, Bool, true, false, cond, None, Some, Option, Ok, Err, Result, IfOk, IfErr, MatchResult, slice_get, sym, ap, subst, ◌∙◌, arith, codes}
use Rattle.std.specs.Prelude.{option_map, IsSome}
use Rattle.std.specs.Str.{bytes_eq}
use Rattle.sqlite_rules.specs.Lists.{Has}
use Rattle.sqlite.specs.Order.{Row, column}
use Rattle.sqlite.specs.State.{State}
use Rattle.pid_ident.specs.Words.{is_name}
use Rattle.pid_moderation.specs.declared.rank.Rank.{Rank}
use Rattle.pid_moderation.specs.Ranks.{rank_number}
use Rattle.pid_moderation.specs.Items.{Items, name_at}
use Rattle.pid_moderation.specs.Views.{Views, Submitted, submission_at}
use Rattle.pid_moderation.specs.WellMade.{IsItem, AllItems}
use Rattle.pid_tables.specs.declared.rows.fault.TableFault.{TableFault}
use Rattle.pid_tables.specs.Rows.Answers.{standing_row}
use Rattle.pid_tables.specs.Rows.Steps.Answers.{value_row, name_row, rank_row, reply_row}
use Rattle.pid_tables.specs.Rows.Causes.{IsCaused, IsReadable, IsReadableSubmission, IsReadableState}
use Rattle.pid_tables.specs.declared.rows.schema_version.Version.TheVariants.{One, Two}
use Rattle.pid_tables.specs.Rows.Shows.{Counts, labels_of, more_labels, counts_of}
use Rattle.pid_tables.specs.Rows.Steps.Shows.{meta_of}
use Rattle.pid_moderation.specs.Submissions.{standing_in, Standing}
use Rattle.pid_tables.specs.Rows.TableRows.{number}
use Rattle.pid_tables.specs.Rows.Steps.Unread.{IsDamagedRow, IsWholeNumber, ReadsAsStanding}
use Rattle.pid_tables.specs.Rows.LabelRows.{IsNumber}
use Rattle.pid_tables.specs.Rows.Steps.Unread.{IsWord, IsReplyRow}
use Rattle.pid_tables.proofs.OfRows.DecodeLemmas.{some_row, number_same, mapped_some, all_at}
use Rattle.pid_tables.proofs.OfRows.RangeLemmas.{found_in}
use Rattle.pid_tables.proofs.OfRows.UnreadLemmas.{caused_unread}

-- a number in a row of its own
module _ (old new : State) (v : Views) (row : Row) (r : Result ℕ TableFault) where
  pub number_read : (n : ℕ) → row ≡ value_row n → (IsReadable v → n < 2 ^ 32) → IfOk r (λ m. column row 0 ≡ number m) → IfErr r (IsDamagedRow (IsNumber (column row 0)))
      → MatchResult r (λ m. m ≡ n) (λ fault. IsReadable v → IsCaused old new fault)
  number_read n is small = go r
    where
      at : column row 0 ≡ number n
      at = ap (λ x. column x 0) is

      go : (r : Result ℕ TableFault) → IfOk r (λ m. column row 0 ≡ number m) → IfErr r (IsDamagedRow (IsNumber (column row 0))) → MatchResult r (λ m. m ≡ n) (λ fault. IsReadable v → IsCaused old new fault)
      go (Ok m) read unread = number_same m n (sym read ∙ at)
      go (Err e) read unread = λ readable. caused_unread old new e (n, small readable, at) unread

  pub value_read : (o : Option ℕ) → Some row ≡ option_map value_row o → (IsReadable v → (n : ℕ) → o ≡ Some n → n < 2 ^ 32) → IfOk r (λ m. column row 0 ≡ number m) → IfErr r (IsDamagedRow (IsNumber (column row 0)))
      → MatchResult r (λ m. Some m ≡ o) (λ fault. IsReadable v → IsCaused old new fault)
  value_read o first small read unread =
      let it = some_row value_row o row first in
      there r it.0 it.1 (number_read it.0 it.2 (λ readable. small readable it.0 it.1) read unread)
    where
      there : (r : Result ℕ TableFault) (n : ℕ) → o ≡ Some n → MatchResult r (λ m. m ≡ n) (λ fault. IsReadable v → IsCaused old new fault) → MatchResult r (λ m. Some m ≡ o) (λ fault. IsReadable v → IsCaused old new fault)
      there (Ok m) n is h = ap Some h ∙ sym is
      there (Err e) n is h = h

pub only_row : {Q : Type 0} (rows : List Row) (row is : Row) → Some row ≡ slice_get rows 0 → ((rows ≡ []) × Q) ⊎ (rows ≡ is ∷ []) → row ≡ is
only_row rows row is first (inl none) = absurd (let e = first ∙ ap (λ l. slice_get l 0) none.0 in let bad : ⊥ = cc in bad)
only_row rows row is first (inr one) = let e : Some row ≡ Some is = first ∙ ap (λ l. slice_get l 0) one in cc

pub no_only : {is : Row} (rows : List Row) (n : ℕ) → None ≡ slice_get rows 0 → ((rows ≡ []) × (n ≡ 0)) ⊎ (rows ≡ is ∷ []) → 0 ≡ n
no_only rows n first (inl none) = sym none.1
no_only rows n first (inr one) = absurd (let e = first ∙ ap (λ l. slice_get l 0) one in let bad : ⊥ = cc in bad)

-- a whole number in a row of its own
pub whole_read : (old new : State) (v : Views) (row : Row) (r : Result ℕ TableFault) (n : ℕ) → row ≡ value_row n → IfOk r (λ m. column row 0 ≡ number m) → IfErr r (IsDamagedRow (IsWholeNumber (column row 0)))
    → MatchResult r (λ m. m ≡ n) (λ fault. IsReadable v → IsCaused old new fault)
whole_read old new v row (Ok m) n is read unread = number_same m n (sym read ∙ ap (λ x. column x 0) is)
whole_read old new v row (Err e) n is read unread = λ readable. caused_unread old new e (n, ap (λ x. column x 0) is) unread

pub rank_written : (o : Option Rank) (row : Row) → Some row ≡ option_map rank_row o → (rank : Rank) × (column row 0 ≡ number (rank_number rank))
rank_written o row first = let it = some_row rank_row o row first in (it.0, ap (λ r. column r 0) it.2)

pub reply_written : (v : Views) (account key : List ℕ) (row : Row) → IsReadable v → Some row ≡ option_map reply_row (v.kept account key) → IsReplyRow row
reply_written v account key row readable first =
    let it = some_row reply_row (v.kept account key) row first in
    let at = λ (i : ℕ). ap (λ r. column r i) it.2 in
    (it.0, readable.replies account key it.0 it.1, (at 0, at 1, at 2, at 3))

-- the three labels that both schemas have are there, with numbers of 32 bits
pub meta_there : (c : Counts) (revision : ℕ) (label : List ℕ) → IsSome (labels_of One c 0 label) → IsSome (meta_of c revision label)
meta_there c revision label = go (bytes_eq label (codes "schema")) (bytes_eq label (codes "items")) (bytes_eq label (codes "submissions"))
  where
    go : (x y z : Bool) → IsSome (cond x (Some 1) (cond y (Some c.items) (cond z (Some c.submissions) None))) → IsSome (cond x (Some 2) (cond y (Some c.items) (cond z (Some c.submissions) (more_labels Two revision label))))
    go true y z h = h
    go false true z h = h
    go false false true h = h
    go false false false h = absurd (let bad : ⊥ = cc in bad)

pub meta_fits : (v : Views) (label : List ℕ) → IsSome (labels_of One (counts_of v) 0 label) → IsReadable v → (n : ℕ) → meta_of (counts_of v) v.revision label ≡ Some n → n < 2 ^ 32
meta_fits v label known readable n = schema (bytes_eq label (codes "schema")) (bytes_eq label (codes "items")) (bytes_eq label (codes "submissions")) known
  where
    schema : (a b c : Bool) → IsSome (cond a (Some 1) (cond b (Some (length v.items)) (cond c (Some (length v.submits)) None)))
        → cond a (Some 2) (cond b (Some (length v.items)) (cond c (Some (length v.submits)) (more_labels Two v.revision label))) ≡ Some n → n < 2 ^ 32
    schema true b c known h = let is : 2 ≡ n = cc in omega (arith, is)
    schema false true c known h = let is : length v.items ≡ n = cc in subst (λ m. m < 2 ^ 32) is readable.item_count
    schema false false true known h = let is : length v.submits ≡ n = cc in subst (λ m. m < 2 ^ 32) is readable.submission_count
    schema false false false known h = absurd (let bad : ⊥ = cc in bad)

-- ---- items

pub among : (items : Items) (e : List ℕ × List ℕ) → AllItems items → Has items e → IsItem e.0 e.1
among [] e all h = absurd h
among (x ∷ items) e all (inl same) = subst (λ (p : List ℕ × List ℕ). IsItem p.0 p.1) (sym same) all.0
among (x ∷ items) e all (inr later) = among items e all.1 later

pub name_written : (items : Items) (path : List ℕ) (row : Row) → AllItems items → Some row ≡ option_map name_row (name_at path items) → IsWord is_name (column row 0)
name_written items path row all first =
    let it = some_row name_row (name_at path items) row first in
    (it.0, (among items (path, it.0) all (found_in path it.0 items it.1)).1, ap (λ r. column r 0) it.2)

-- ---- submissions

readable_at : (v : Views) (n : ℕ) (s : Submitted) → IsReadable v → submission_at n v.submits ≡ Some s → IsReadableSubmission s
readable_at v zero s readable e = absurd (let bad : ⊥ = cc in bad)
readable_at v (suc n) s readable e = all_at IsReadableSubmission v.submits n s readable.submissions e

pub standing_readable : (v : Views) (n : ℕ) (s : Standing) → IsReadable v → standing_in v n ≡ Some s → IsReadableSubmission s.submitted × IsReadableState s.state
standing_readable v n s readable is =
    let from = mapped_some _ (submission_at n v.submits) s is in
    (subst (λ (x : Standing). IsReadableSubmission x.submitted) from.2 (readable_at v n from.0 readable from.1), subst (λ (x : Standing). IsReadableState x.state) from.2 (readable.states n))

pub standing_written : (v : Views) (n : ℕ) (row : Row) → IsReadable v → Some row ≡ option_map standing_row (standing_in v n) → ReadsAsStanding row
standing_written v n row readable first =
    let it = some_row standing_row (standing_in v n) row first in
    let good = standing_readable v n it.0 readable it.1 in
    (it.0, good.0, good.1, [], it.2)

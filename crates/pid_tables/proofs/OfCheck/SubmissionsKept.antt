-- Tables that show a sound history have good submissions.
use Rattle.std.proofs.Common.{◌≡◌, ◌≢◌, ℕ, zero, suc, ◌≤◌, ◌<◌, List, [], ◌∷◌, length, false, Option, Some, None, refl, ◌∙◌, ap, subst, arith, slice_get}
use Rattle.std.specs.Prelude.{option_map, bytes_eq}
use Rattle.std.proofs.lemmas.List.{length-map}
use Rattle.std.proofs.lemmas.Option.{slice_get_within}
use Rattle.std.proofs.lemmas.Bool.{both_ways}
use Rattle.std.proofs.lemmas.Slice.Eq.{bytes_eq-Decides}
use Rattle.sqlite.specs.Order.{Row}
use Rattle.sqlite.specs.Effect.{Database}
use Rattle.sqlite_rules.specs.Lists.{Has}
use Rattle.pid_moderation.specs.declared.facts.State.{State}
use Rattle.pid_moderation.specs.declared.facts.State.TheVariants.{Pending, Approved, Rejected, Withdrawn}
use Rattle.pid_moderation.specs.History.{History}
use Rattle.pid_moderation.specs.Sound.{IsSound, IsGoodSubmission, AreGoodSubmissions, IsDecidedByOther, IsDecidedWell}
use Rattle.pid_moderation.specs.Views.{Submitted, submits_of, submission_at, state_of, views_of}
use Rattle.pid_tables.specs.Rows.Shows.{ShowsIn}
use Rattle.pid_tables.specs.declared.rows.schema_version.Version.{Version}
use Rattle.pid_tables.specs.Rows.TableRows.{submission_row, number}
use Rattle.pid_moderation.specs.Submissions.{Standing}
use Rattle.pid_tables.specs.Check.Conditions.{columns, rows_in, HasValue, IsDecided, IsSubmissionRow, AreSubmissions}
use Rattle.pid_tables.proofs.OfRows.Lengths.{mapped, unmapped}
use Rattle.pid_tables.proofs.OfCheck.AccountsKept.{account_known}

pub good_at : (h : History) (ss : List Submitted) (i : ℕ) (s : Submitted) → AreGoodSubmissions h ss → slice_get ss i ≡ Some s → IsGoodSubmission h s
good_at h [] i s all e = absurd cc
good_at h (x ∷ ss) zero s all e = let same : x ≡ s = cc in subst (IsGoodSubmission h) same all.0
good_at h (x ∷ ss) (suc i) s all e = good_at h ss i s all.1 e

-- the submission with a number, and the number's bounds
pub submitted_at : (ss : List Submitted) (n : ℕ) (s : Submitted) → submission_at n ss ≡ Some s → (1 ≤ n) × (n ≤ length ss)
submitted_at ss zero s e = absurd cc
submitted_at ss (suc n) s e = let low = slice_get_within ss n s e in (omega arith, omega (arith, low))

pub there_at : (ss : List Submitted) (n : ℕ) → 1 ≤ n → n ≤ length ss → (s : Submitted) × (submission_at n ss ≡ Some s)
there_at ss zero low high = absurd (omega (arith, low))
there_at ss (suc n) low high = at ss n (omega (arith, high))
  where
    at : (xs : List Submitted) (i : ℕ) → i < length xs → (s : Submitted) × (slice_get xs i ≡ Some s)
    at [] i less = absurd (omega (arith, less))
    at (x ∷ xs) zero less = (x, refl)
    at (x ∷ xs) (suc i) less = at xs i (omega (arith, less))

-- the value of a standing tells the submission and the state
pub stands_as : (o : Option Submitted) (state : State) (standing : Standing) → option_map (λ (s : Submitted). record { submitted = s; state = state }) o ≡ Some standing
    → (o ≡ Some standing.submitted) × (state ≡ standing.state)
stands_as None state standing e = absurd cc
stands_as (Some s) state standing e = let same : record { submitted = s; state = state } ≡ standing = cc in (ap (λ (x : Standing). Some x.submitted) same, ap (λ (x : Standing). x.state) same)

good_path : (h : History) (n : ℕ) (s : Submitted) → IsSound h → submission_at n (submits_of h) ≡ Some s → IsGoodSubmission h s
good_path h zero s sound e = absurd cc
good_path h (suc n) s sound e = good_at h (submits_of h) n s sound.submissions e

differs : (a b : List ℕ) → bytes_eq a b ≡ false → a ≢ b
differs a b unlike same = both_ways _ unlike ((bytes_eq-Decides a b).1 same)

module _ (h : History) (sound : IsSound h) (version : Version) (db : Database) (shows : ShowsIn version db (views_of h)) where
  decided : (author : List ℕ) (state : State) → IsDecidedByOther h author state → IsDecided (rows_in db.trees).accounts author state
  decided author Pending d = tt
  decided author (Approved decider) d = (differs decider author d.0, account_known h sound version db shows decider d.1)
  decided author (Rejected decider reason) d = (differs decider author d.0, account_known h sound version db shows decider d.1, d.2, d.3)
  decided author Withdrawn d = tt

  module _ (same : length (db.trees 6) ≡ length (submits_of h)) where
    count : length (rows_in db.trees).submissions ≡ length (submits_of h)
    count = length-map (db.trees 6) (columns (0 ∷ 2 ∷ 3 ∷ 4 ∷ 5 ∷ 6 ∷ 7 ∷ 8 ∷ 9 ∷ [])) ∙ same

    submission_good : (r : Row) → Has (rows_in db.trees).submissions r → IsSubmissionRow (rows_in db.trees).accounts (length (rows_in db.trees).submissions) r
    submission_good r has =
        let from = unmapped (columns (0 ∷ 2 ∷ 3 ∷ 4 ∷ 5 ∷ 6 ∷ 7 ∷ 8 ∷ 9 ∷ [])) (db.trees 6) r has in
        let pair = shows.submissions.sound from.0 from.1 in
        let n = pair.key in
        let standing = pair.value in
        let it = stands_as (submission_at n (submits_of h)) (state_of n h) standing pair.maps in
        let good = good_path h n standing.submitted sound it.0 in
        let bounds = submitted_at (submits_of h) n standing.submitted it.0 in
        let state : IsDecidedByOther h standing.submitted.author standing.state =
        subst (λ (s : State). IsDecidedByOther h standing.submitted.author s) it.1 (subst (λ (o : Option Submitted). IsDecidedWell h o (state_of n h)) it.0 (sound.deciders n)) in
        record {
          num = n;
          standing = standing;
          is = from.2 ∙ ap (columns (0 ∷ 2 ∷ 3 ∷ 4 ∷ 5 ∷ 6 ∷ 7 ∷ 8 ∷ 9 ∷ [])) pair.is;
          within = (bounds.0, omega (arith, bounds.1, count));
          author = account_known h sound version db shows standing.submitted.author good.author;
          path = good.path;
          proposal = good.proposal;
          note = good.note;
          state = decided standing.submitted.author standing.state state;
        }

    numbered : (n : ℕ) → 1 ≤ n → n ≤ length (rows_in db.trees).submissions → HasValue (rows_in db.trees).submissions 0 (number n)
    numbered n low high =
        let s = there_at (submits_of h) n low (omega (arith, high, count)) in
        let standing : Standing = record { submitted = s.0; state = state_of n h } in
        let row = shows.submissions.complete n standing (ap (option_map (λ (s : Submitted). record { submitted = s; state = state_of n h })) s.1) in
        (columns (0 ∷ 2 ∷ 3 ∷ 4 ∷ 5 ∷ 6 ∷ 7 ∷ 8 ∷ 9 ∷ []) (submission_row row.0 n standing), mapped (columns (0 ∷ 2 ∷ 3 ∷ 4 ∷ 5 ∷ 6 ∷ 7 ∷ 8 ∷ 9 ∷ [])) (db.trees 6) (submission_row row.0 n standing) row.1, refl)

    pub submissions_kept : AreSubmissions (rows_in db.trees).accounts (rows_in db.trees).submissions
    submissions_kept = record { each = submission_good; counted = numbered }

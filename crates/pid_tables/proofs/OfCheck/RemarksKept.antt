-- Tables that show a sound history have good remarks.
use Rattle.std.proofs.Common.{◌≡◌, ℕ, zero, suc, ◌≤◌, ◌<◌, List, [], ◌∷◌, length, Option, Some, None, refl, ◌∙◌, ap, subst, arith, slice_get}
use Rattle.std.proofs.lemmas.Option.{slice_get_within}
use Rattle.sqlite.specs.Order.{Row}
use Rattle.sqlite.specs.Effect.{Database}
use Rattle.sqlite_rules.specs.Lists.{Has}
use Rattle.pid_moderation.specs.CheckTables.{most_remarks}
use Rattle.pid_moderation.specs.History.{History}
use Rattle.pid_moderation.specs.Sound.{IsSound, IsGoodRemark, AreGoodRemarks, IsRemarkedWell}
use Rattle.pid_moderation.specs.Views.{Submitted, Remark, submits_of, submission_at, remarks_of, views_of}
use Rattle.pid_tables.specs.Rows.Shows.{ShowsIn, counted_from_one}
use Rattle.pid_tables.specs.declared.rows.schema_version.Version.{Version}
use Rattle.pid_tables.specs.Rows.TableRows.{remark_row}
use Rattle.pid_tables.proofs.OfRows.Lengths.{mapped, unmapped}
use Rattle.pid_tables.specs.Check.Conditions.{columns, rows_in, IsRemarkRow, AreRemarks}

good_at : (h : History) (rs : List Remark) (i : ℕ) (r : Remark) → AreGoodRemarks h rs → slice_get rs i ≡ Some r → IsGoodRemark h r
good_at h [] i r all e = absurd cc
good_at h (x ∷ rs) zero r all e = let same : x ≡ r = cc in subst (IsGoodRemark h) same all.0
good_at h (x ∷ rs) (suc i) r all e = good_at h rs i r all.1 e

counted_within : (rs : List Remark) (place : ℕ) (r : Remark) → counted_from_one place rs ≡ Some r → (1 ≤ place) × (place ≤ length rs)
counted_within rs zero r e = absurd cc
counted_within rs (suc i) r e = let low = slice_get_within rs i r e in (omega arith, omega (arith, low))

good_counted : (h : History) (rs : List Remark) (place : ℕ) (r : Remark) → AreGoodRemarks h rs → counted_from_one place rs ≡ Some r → IsGoodRemark h r
good_counted h rs zero r all e = absurd cc
good_counted h rs (suc i) r all e = good_at h rs i r all e

-- what stands before a place that is taken is taken
earlier_there : (rs : List Remark) (place : ℕ) (r : Remark) (earlier : ℕ) → 1 ≤ earlier → place ≡ suc earlier → counted_from_one place rs ≡ Some r → (x : Remark) × (counted_from_one earlier rs ≡ Some x)
earlier_there rs place r zero low next e = absurd (omega (arith, low))
earlier_there rs place r (suc i) low next e = let bounds = counted_within rs place r e in at rs i (omega (arith, bounds.1, next))
  where
    at : (xs : List Remark) (i : ℕ) → i < length xs → (x : Remark) × (slice_get xs i ≡ Some x)
    at [] i less = absurd (omega (arith, less))
    at (x ∷ xs) zero less = (x, refl)
    at (x ∷ xs) (suc i) less = at xs i (omega (arith, less))

none_counted : (rs : List Remark) (place : ℕ) (r : Remark) → rs ≡ [] → counted_from_one place rs ≡ Some r → ⊥
none_counted [] zero r e h = cc
none_counted [] (suc i) r e h = cc
none_counted (x ∷ rs) place r e h = cc

remarked : (h : History) (o : Option Submitted) (rs : List Remark) (place : ℕ) (r : Remark) → IsRemarkedWell h o rs → counted_from_one place rs ≡ Some r → AreGoodRemarks h rs × (length rs ≤ most_remarks)
remarked h None rs place r none e = absurd (none_counted rs place r none e)
remarked h (Some s) rs place r well e = well

module _ (h : History) (sound : IsSound h) (version : Version) (db : Database) (shows : ShowsIn version db (views_of h)) where
  remark_good : (r : Row) → Has (rows_in db.trees).remarks r → IsRemarkRow (rows_in db.trees).remarks r
  remark_good r has =
      let from = unmapped (columns (1 ∷ 2 ∷ 3 ∷ 4 ∷ [])) (db.trees 7) r has in
      let pair = shows.remarks.sound from.0 from.1 in
      let n = pair.key.0 in
      let rs = remarks_of n h in
      let well = remarked h (submission_at n (submits_of h)) rs pair.key.1 pair.value (sound.remarks n) pair.maps in
      let good = good_counted h rs pair.key.1 pair.value well.0 pair.maps in
      let bounds = counted_within rs pair.key.1 pair.value pair.maps in
      record {
        num = n;
        place = pair.key.1;
        body = pair.value.text;
        author = pair.value.author;
        is = from.2 ∙ ap (columns (1 ∷ 2 ∷ 3 ∷ 4 ∷ [])) pair.is;
        within = (bounds.0, omega (arith, bounds.1, well.1));
        before = λ earlier low next.
            let it = earlier_there rs pair.key.1 pair.value earlier low next pair.maps in
            let row = shows.remarks.complete (n, earlier) it.0 it.1 in
            (columns (1 ∷ 2 ∷ 3 ∷ 4 ∷ []) (remark_row row.0 (n, earlier) it.0), mapped (columns (1 ∷ 2 ∷ 3 ∷ 4 ∷ [])) (db.trees 7) (remark_row row.0 (n, earlier) it.0) row.1, refl, refl);
        text = good.text;
        filled = good.filled;
      }

  pub remarks_kept : AreRemarks (rows_in db.trees).remarks
  remarks_kept = remark_good

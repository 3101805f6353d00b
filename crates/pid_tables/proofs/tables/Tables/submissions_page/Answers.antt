use Rattle.std.proofs.Common.{◌≡◌, ◌+◌, List, map, ap, refl, ◌∙◌, arith}
use Rattle.std.specs.Option.{option_copied}
use Rattle.pid_moderation.specs.SubmissionPages.{Search, listed_of, listing_in}
use Rattle.pid_moderation.specs.Views.{Views}
use Rattle.sqlite.specs.Order.{Row}
use Rattle.pid_tables.specs.Rows.Causes.{IsCaused, IsReadable}
use Rattle.pid_tables.specs.Rows.Steps.Answers.{value_row}
use Rattle.pid_tables.proofs.OfRows.CauseLemmas.{caused_later, passed_on}
use Rattle.pid_tables.proofs.OfRows.OnlyReading.{reads_then}
use Rattle.pid_tables.specs.Lists.ByNumber.{standings_at}
use Rattle.pid_tables.specs.Lists.Steps.SubmissionRows.{AreListedIn, WantedRows, last_before, latest_asked, next_after, numbers_among}
use Rattle.pid_tables.proofs.OfLists.SubmissionLists.{numbers_fit}
use Rattle.pid_tables.proofs.OfLists.SubmissionPageLemmas.{page_is, path_stands}
use Rattle.pid_tables.proofs.ThenReads.{fault_first, no_memory}
use Rattle.pid_tables.proofs.tables.Tables.submissions_page.Goals as goal

-- what the rows that were asked for have
listed_asked : (v : Views) (asked : WantedRows) (rows : List Row) → rows ≡ map value_row (numbers_among (latest_asked 100 asked v))
    → AreListedIn v (map (listing_in v) (standings_at (numbers_among (latest_asked 100 asked v)) v)) rows
listed_asked v asked rows shown = record { numbers = numbers_among (latest_asked 100 asked v); shown = shown; fit = numbers_fit v 100 asked; are = refl }

pub returns : goal.returns
returns g c = record {
  rests = reads_then _ _ _ (reads_then _ _ _ c.in_ok-count.ensures.rests c.in_ok-rows.ensures.rests) c.in_ok-submissions.ensures.rests;
  told = λ clean v rest.
      let search : Search = record { path = option_copied c.args.path; author = option_copied c.args.author; before = c.args.before } in
      let path = path_stands search.path c.as_str.result.now (c.as_str.ensures.value ∙ c.in_ok-path.ensures) in
      let low = c.saturating_sub-low.result in
      let asked : WantedRows = record { low = low; last = c.last_of-last.result; path = c.as_str.result.now; author = c.author_or_any-author.result.now } in
      let counted = c.in_ok-count.ensures in
      let found = c.in_ok-rows.ensures in
      let listed = c.in_ok-submissions.ensures in
      let later = listed.rests.clean clean in
      let rest1 = counted.rests.kept v rest in
      let count = counted.told (found.rests.clean later) v rest in
      let are = listed_asked v asked c.as_slice.result.now (c.as_slice.ensures.value ∙ found.told later v rest1) in
      page_is v search asked 10000 (c.last_of-last.ensures ∙ ap (λ n. last_before n c.args.before) count) c.saturating_sub-low.ensures
      100 (record { before = c.next_of-before.result; submissions = c.in_ok-submissions.submissions }) (numbers_among (latest_asked 100 asked v)) (omega arith) path c.author_or_any-author.ensures refl
      (listed.told clean v _ (found.rests.kept v rest1) are) (c.next_of-before.ensures ∙ ap (λ l. next_after 100 (map listed_of l) (low + 1)) c.as_slice-2.ensures.value);
}

pub returns-in_err-submissions : goal.returns-in_err-submissions
returns-in_err-submissions g c =
    let counted = c.in_ok-count.ensures in
    let found = c.in_ok-rows.ensures in
    let listed = c.in_err-submissions.ensures in
    let both = reads_then _ _ _ counted.rests found.rests in
    let old = g.C.Database.state c.args.self.now.conn in
    let mid = g.C.Database.state c.number_rows-rows.new.tables.conn in
    let new = g.C.Database.state c.listed_at-listed.new.tables.conn in
    record {
      rests = reads_then _ _ _ both listed.rests;
      told = λ clean v rest.
          let asked : WantedRows = record { low = c.saturating_sub-low.result; last = c.last_of-last.result; path = c.as_str.result.now; author = c.author_or_any-author.result.now } in
          let later = listed.rests.clean clean in
          let are = listed_asked v asked c.as_slice.result.now (c.as_slice.ensures.value ∙ found.told later v (counted.rests.kept v rest)) in
          passed_on c.from_residual-in_err-submissions.result _ _ (λ fault. IsReadable v → IsCaused old new fault) c.from_residual-in_err-submissions.ensures.1
          (λ readable. caused_later old mid new (λ _. ⊥) c.in_err-submissions.field-0.0 both.survives listed.rests.survives.counts later (listed.told clean v _ (both.kept v rest) are readable));
    }

pub returns-in_err-rows : goal.returns-in_err-rows
returns-in_err-rows g c =
    let one = c.in_ok-count.ensures in
    let two = c.in_err-rows.ensures in
    let old = g.C.Database.state c.args.self.now.conn in
    let mid = g.C.Database.state c.submissions.new.self.conn in
    let new = g.C.Database.state c.number_rows-rows.new.tables.conn in
    record {
      rests = reads_then _ _ _ one.rests two.rests;
      told = λ clean v rest.
          passed_on c.from_residual-in_err-rows.result _ _ (λ fault. IsReadable v → IsCaused old new fault) c.from_residual-in_err-rows.ensures.1
          (λ readable. caused_later old mid new (λ _. ⊥) c.in_err-rows.field-0.0 one.rests.survives two.rests.survives.counts (two.rests.clean clean) (two.told clean v (one.rests.kept v rest) readable));
    }

pub returns-in_err-count : goal.returns-in_err-count
returns-in_err-count g c = fault_first g.C.Database.state c.args.self.now.conn c.submissions.new.self.conn c.in_err-count.field-0.0 c.from_residual.result c.from_residual.ensures.1 c.in_err-count.ensures

pub returns-in_err-path : goal.returns-in_err-path
returns-in_err-path g c = no_memory g.C.Database.state c.args.self.now.conn c.submissions.new.self.conn c.from_residual-in_err-path.result c.from_residual-in_err-path.ensures.1 c.in_ok-count.ensures.rests

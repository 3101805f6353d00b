use Rattle.std.proofs.Common.{◌≡◌, ◌<◌, ◌*◌, ◌+◌, length, arith, true, ap, subst, ◌∙◌}
use Rattle.std.proofs.lemmas.List.{length-map}
use Rattle.pid_tables.specs.Rows.Causes.{IsCaused, IsReadable}
use Rattle.pid_tables.proofs.OfRows.CauseLemmas.{caused_later, passed_on}
use Rattle.pid_tables.proofs.OfRows.OnlyReading.{reads_then}
use Rattle.pid_tables.specs.Searches.Steps.FilingRows.{filing_row}
use Rattle.pid_tables.proofs.OfSearches.NumberLists.{last_rows, more_rows, rows_before}
use Rattle.pid_tables.proofs.tables.Tables.read_numbers.Goals as goal

pub loop-time-preserved : goal.loop-time-preserved
loop-time-preserved g c =
    let one = c.in_ok-rows.ensures in
    let before = c.loop-time.invariant in
    let on : c.add_rows.result ≡ true = c.if-not-add_rows.false in
    let full : length c.in_ok-rows.rows.items < 1000 → ⊥ = λ low. let high = c.if-len-lt-ROWS.false in omega (arith, low, high, c.len.ensures, c.in_ok-rows.rows.ok.0) in
    let next : (c.loop-time.time + 1) * 1000 ≡ c.loop-time.time * 1000 + 1000 = omega arith in (
      reads_then _ _ _ before.0 one.rests,
      λ clean v rest.
          let was = before.1 (one.rests.clean clean) v rest in
          let rows = one.told clean v (before.0.kept v rest) in
          more_rows v (c.loop-time.time * 1000) (length c.in_ok-rows.rows.items) _ (ap length rows ∙ length-map _ filing_row)
          (c.add_rows.ensures _ _ (c.as_slice.ensures.value ∙ rows) was.1 (rows_before v _ was.0) on) _ next full,
    )

pub returns-then-len-lt-ROWS : goal.returns-then-len-lt-ROWS
returns-then-len-lt-ROWS g c =
    let one = c.in_ok-rows.ensures in
    let before = c.loop-time.invariant in
    let on : c.add_rows.result ≡ true = c.if-not-add_rows.false in
    let short : length c.in_ok-rows.rows.items < 1000 = subst (λ n. n < 1000) (c.len.ensures ∙ c.in_ok-rows.rows.ok.0) c.if-len-lt-ROWS.true in
    record {
      rests = reads_then _ _ _ before.0 one.rests;
      told = λ clean v rest.
          let was = before.1 (one.rests.clean clean) v rest in
          let rows = one.told clean v (before.0.kept v rest) in
          last_rows v (c.loop-time.time * 1000) (length c.in_ok-rows.rows.items) _ (ap length rows ∙ length-map _ filing_row)
          (c.add_rows.ensures _ _ (c.as_slice.ensures.value ∙ rows) was.1 (rows_before v _ was.0) on) short;
    }

pub returns-in_err-rows : goal.returns-in_err-rows
returns-in_err-rows g c =
    let one = c.in_err-rows.ensures in
    let before = c.loop-time.invariant in
    let old = g.C.Database.state c.args.self.now.conn in
    let mid = g.C.Database.state c.loop-time.self.conn in
    let new = g.C.Database.state c.filing_rows.new.tables.conn in
    record {
      rests = reads_then _ _ _ before.0 one.rests;
      told = λ clean v rest.
          passed_on c.from_residual.result _ _ (λ fault. IsReadable v → IsCaused old new fault) c.from_residual.ensures.1
          (λ readable. caused_later old mid new (λ _. ⊥) c.in_err-rows.field-0.0 before.0.survives one.rests.survives.counts (one.rests.clean clean) (one.told clean v (before.0.kept v rest) readable));
    }

-- too many, or no memory for them
pub returns-then-not-add_rows : goal.returns-then-not-add_rows
returns-then-not-add_rows g c = record { rests = reads_then _ _ _ c.loop-time.invariant.0 c.in_ok-rows.ensures.rests; told = λ clean v rest. tt }

pub returns : goal.returns
returns g c = record { rests = c.loop-time.invariant.0; told = λ clean v rest. tt }

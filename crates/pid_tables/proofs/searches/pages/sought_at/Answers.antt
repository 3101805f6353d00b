use Rattle.std.proofs.Common.{◌≡◌, length, refl, rules, arith}
use Rattle.std.specs.Option.{option_copied}
use Rattle.pid_tables.specs.Rows.Causes.{IsCaused, IsReadable}
use Rattle.pid_tables.proofs.OfRows.CauseLemmas.{caused_later, passed_on}
use Rattle.pid_tables.proofs.OfRows.OnlyReading.{reads_then}
use Rattle.pid_tables.proofs.OfSearches.AmongLemmas.{one_more, page_full, page_whole}
use Rattle.pid_tables.proofs.searches.pages.sought_at.Goals as goal

pub loop-at-preserved : goal.loop-at-preserved
loop-at-preserved g c =
    let one = c.in_ok-add_sought.ensures in
    let before = c.loop-at.invariant in
    let short : length c.loop-at.page.items ≡ 100 → ⊥ = search rules in (
      reads_then _ _ _ before.0 one.rests,
      λ clean v rest.
          one_more (option_copied c.args.path) (option_copied c.args.author) v c.args.numbers.now c.loop-at.at _ _ _ _ refl c.loop-at-test.true short (before.1 (one.rests.clean clean) v rest) (one.told clean v (before.0.kept v rest)),
    )

pub returns-then-len-eq-PAGE : goal.returns-then-len-eq-PAGE
returns-then-len-eq-PAGE g c =
    let full : length c.loop-at.page.items ≡ 100 = search rules in
    record { rests = c.loop-at.invariant.0; told = λ clean v rest. page_full (option_copied c.args.path) (option_copied c.args.author) v c.args.numbers.now c.loop-at.at c.loop-at.page.items full (c.loop-at.invariant.1 clean v rest) }

pub returns : goal.returns
returns g c =
    record { rests = c.loop-at.invariant.0; told = λ clean v rest. page_whole (option_copied c.args.path) (option_copied c.args.author) v c.args.numbers.now c.loop-at.at c.loop-at.page.items (let done = c.loop-at-test.false in omega (arith, done)) (c.loop-at.invariant.1 clean v rest) }

pub returns-in_err-add_sought : goal.returns-in_err-add_sought
returns-in_err-add_sought g c =
    let one = c.in_err-add_sought.ensures in
    let before = c.loop-at.invariant in
    let old = g.C.Database.state c.args.tables.now.conn in
    let mid = g.C.Database.state c.loop-at.tables.conn in
    let new = g.C.Database.state c.add_sought.new.tables.conn in
    record {
      rests = reads_then _ _ _ before.0 one.rests;
      told = λ clean v rest.
          passed_on c.from_residual.result _ _ (λ fault. IsReadable v → IsCaused old new fault) c.from_residual.ensures.1
          (λ readable. caused_later old mid new (λ _. ⊥) c.in_err-add_sought.field-0.0 before.0.survives one.rests.survives.counts (one.rests.clean clean) (one.told clean v (before.0.kept v rest) readable));
    }

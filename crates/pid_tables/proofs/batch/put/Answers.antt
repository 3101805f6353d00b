use Rattle.pid_ident.specs.PathTexts.{path_text}
use Rattle.pid_tables.specs.Rows.Steps.Writes.{with_name}
use Rattle.pid_tables.proofs.OfRows.GoingLemmas.{earlier, holds_on, within_on, told_within}
use Rattle.pid_tables.proofs.ApplyLemmas.{succeeds, faults}
use Rattle.pid_tables.proofs.batch.put.Goals as goal

pub returns-clause-puts : goal.returns-clause-puts
returns-clause-puts g c =
    let new = c.put_text.new.batch in
    let before = g.B.Batch.batch.state c.args.batch.now in
    let law = g.met.B.Batch.clean new in
    let shows = rw (c.as_str.ensures.value, c.in_ok-path.ensures) at c.put_text.ensures.shows in
    let told = rw (c.as_str.ensures.value, c.in_ok-path.ensures) at c.put_text.ensures.told in
    record {
      holds = λ counts v w within. holds_on before (g.B.Batch.batch.state new) c.put_text.result counts v w law c.put_text.ensures.goes within;
      written = λ counts v w within.
          within_on before (g.B.Batch.batch.state new) c.put_text.result counts counts v w (with_name c.args.revision (path_text c.args.path.now) c.args.name.now w) law c.put_text.ensures.goes within
          (λ clean inside now. succeeds _ _ c.put_text.result (shows clean inside counts w now tt));
      told = λ clean counts v w within. told_within before (g.B.Batch.batch.state new) c.put_text.result counts v w _ c.put_text.ensures.goes within clean (λ now. told clean counts w now);
      only_store = λ clean opened counts v w within.
          let early = earlier before (g.B.Batch.batch.state new) c.put_text.ensures.goes.survives clean in
          faults _ _ c.put_text.result (shows clean (within.inside early) counts w (within.shows opened) tt);
    }

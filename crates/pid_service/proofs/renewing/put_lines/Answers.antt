use Rattle.std.proofs.Common.{ap, length, sym, ◌∙◌}
use Rattle.std.proofs.lemmas.Bool.{false≢true}
use Rattle.pid_service.proofs.Renewed.{opens_kept}
use Rattle.pid_service.proofs.renewing.put_lines.Goals as goal

pub returns-then-len-place : goal.returns-then-len-place
returns-then-len-place c is = absurd (false≢true is)

pub returns-then-not-same : goal.returns-then-not-same
returns-then-not-same c is = absurd (false≢true is)

pub returns-then-not-put : goal.returns-then-not-put
returns-then-not-put c is = absurd (false≢true is)

pub returns-then-done : goal.returns-then-done
returns-then-done c is = record {
  bytes = rw c.as_slice-lines.ensures.value at (c.put.ensures c.if-not-put.false);
  extents = rw c.as_slice-extents.ensures.value at (c.put-done.ensures c.if-done.true);
  opens =
      opens_kept c.args.place.now c.args.path c.args.text.now.extents.items c.args.new.now.extents.items c.as_slice.result.now _ _ _ c.path_before-before.ensures (rw c.is_empty.ensures at c.path_before-now.ensures)
      (sym c.as_slice-extents.ensures.len ∙ ap length c.as_slice-extents.ensures.value) c.as_slice.ensures.value (c.opens_the_same-same.ensures c.if-not-same.false);
}

pub returns-else-done : goal.returns-else-done
returns-else-done c is = absurd (false≢true (sym c.if-done.false ∙ is))

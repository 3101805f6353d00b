use Rattle.std.proofs.Common.{◌<◌, arith, ap, map, sym, ◌∙◌}
use Rattle.pid_file.specs.PathTexts.{path_text}
use Rattle.pid_service.proofs.Words.{changed_of, edited, with_edit, with_items}
use Rattle.pid_service.proofs.RenewedChanges.{changed_with}
use Rattle.pid_service.proofs.changes.renewed.Goals as goal

pub returns-then-len-lt-PAGE : goal.returns-then-len-lt-PAGE
returns-then-len-lt-PAGE c v views fits kept =
    let write = c.args.write.now in
    let less : c.args.kept.now.since < c.args.number = omega (arith, c.if-number-since.false) in
    record {
      items = (rw c.as_slice.ensures.value at c.in_ok-items.ensures) ∙ ap (with_edit c.args.number (path_text write.path) write.edit) kept.items ∙ sym (changed_with c.args.number c.args.kept.now.since write.path v less write.edit views.sorted fits);
      few = omega (arith, c.if-len-lt-PAGE.true);
    }

pub returns : goal.returns
returns c v views fits kept =
    let write = c.args.write.now in
    let less : c.args.kept.now.since < c.args.number = omega (arith, c.if-number-since.false) in
    c.without_first.ensures (with_items c.args.number (edited (path_text write.path) write.edit v.items) v)
    (ap (map changed_of) c.as_slice-2.ensures.value ∙ (rw c.as_slice.ensures.value at c.in_ok-items.ensures) ∙ ap (with_edit c.args.number (path_text write.path) write.edit) kept.items ∙ sym (changed_with c.args.number c.args.kept.now.since write.path v less write.edit views.sorted fits))

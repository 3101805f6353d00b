use Rattle.std.proofs.Common.{◌≡◌, ap, arith, refl, []}
use Rattle.std.proofs.lemmas.List.{nil_from_length}
use Rattle.pid_file.specs.Steps.OpenLevels.{items_of}
use Rattle.pid_reader.proofs.LinesTold.{left_quiet, left_entry, left_fault, left_none, no_items}
use Rattle.pid_reader.proofs.lines.LinesIterator.next.Goals as goal

pub returns-in-Err-clause-steps : goal.returns-in-Err-clause-steps
returns-in-Err-clause-steps c items left =
    let none : c.split_at.result.1.now ≡ [] = nil_from_length c.split_at.result.1.now (omega (arith, c.split_at.ensures.back_len)) in
    left_fault c.loop-piece.self _ items c.in-Some.piece.now c.in-Some.rest.now c.without_cr.result.now c.in-Err.kind _ (c.loop-piece.invariant.left items left) c.in-Some.ensures.parts c.without_cr.ensures c.in-Err.ensures none refl refl refl

pub returns-in-Entry-clause-steps : goal.returns-in-Entry-clause-steps
returns-in-Entry-clause-steps c items left = left_entry c.loop-piece.self _ items c.in-Some.piece.now c.without_cr.result.now c.in-Ok.said _ _ (c.loop-piece.invariant.left items left) c.in-Some.ensures.parts c.without_cr.ensures c.in-Ok.ensures (ap items_of c.in-Entry.is) c.after-self.ensures refl refl

pub loop-piece-preserved : goal.loop-piece-preserved
loop-piece-preserved c =
    let h = c.in_default-said in
    record {
      left = λ items left. left_quiet c.loop-piece.self _ items c.in-Some.piece.now c.without_cr.result.now c.in-Ok.said (c.loop-piece.invariant.left items left) c.in-Some.ensures.parts c.without_cr.ensures c.in-Ok.ensures (no_items c.in-Ok.said h.not-Entry) c.after-self.ensures refl;
      shorter = omega (arith, c.in-Some.ensures.shorter, c.loop-piece.invariant.shorter);
    }

pub returns-clause-steps : goal.returns-clause-steps
returns-clause-steps c items left = left_none c.loop-piece.self items (c.loop-piece.invariant.left items left) c.in_default.ensures.parts

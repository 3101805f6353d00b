use Rattle.std.proofs.Common.{Err, refl, ap}
use Rattle.pid_file.proofs.InputTexts.{leaves_as, ok_no_fault, is_read_fault}
use Rattle.pid_lookup.specs.Steps.Kept.{kept_map}
use Rattle.pid_lookup.proofs.Answered.{answered}
use Rattle.pid_lookup.proofs.in_text.lookup_in.Goals as goal

pub returns-in-Ok-clause-answer : goal.returns-in-Ok-clause-answer
returns-in-Ok-clause-answer g c =
    answered c.other_names_do_not_matter.ensures _ c.args.limit c.args.args.now c.args.flags c.args.size c.in-Ok.names c.lookup.result (c.lookup.ensures.answer tt (kept_map c.in-Ok.names) refl) c.in-Ok.ensures.names

pub returns-in-Ok-clause-leaves : goal.returns-in-Ok-clause-leaves
returns-in-Ok-clause-leaves g c = leaves_as g.I.Input c.args.limit _ _ _ _ (λ e. absurd (ok_no_fault _ e)) (λ e. absurd (ok_no_fault _ e)) c.in-Ok.ensures.leaves

pub returns-in-Err-clause-leaves : goal.returns-in-Err-clause-leaves
returns-in-Err-clause-leaves g c = leaves_as g.I.Input c.args.limit _ _ _ _ (λ e. ap Err (is_read_fault c.in-Err.end e)) (λ e. ap Err (is_read_fault c.in-Err.end e)) c.in-Err.ensures.leaves

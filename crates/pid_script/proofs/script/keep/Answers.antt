use Rattle.std.proofs.Common.{◌≤◌, ℕ, List, ◌++◌, length, ap, ◌∙◌, subst, sym}
use Rattle.std.specs.Prelude.{nat_lt}
use Rattle.pid_reader.specs.Lines.{drop_cr}
use Rattle.pid_script.specs.ScriptLines.{LONGEST}
use Rattle.pid_script.specs.Steps.Output.{NoMemory, AlreadyLong}
use Rattle.pid_script.proofs.ScriptAsks.{is_longer, is_shorter}
use Rattle.pid_script.proofs.script.keep.Goals as goal

pub returns-then-is_too_long-clause-unfit : goal.returns-then-is_too_long-clause-unfit
returns-then-is_too_long-clause-unfit g c =
    AlreadyLong (is_longer _ (c.if-is_too_long.ensures ∙ ap (λ (k : List ℕ). nat_lt LONGEST (length (drop_cr (k ++ c.args.piece.now)))) c.deref.ensures.value)) c.refuse_long.ensures

pub returns-in-Err-clause-unfit : goal.returns-in-Err-clause-unfit
returns-in-Err-clause-unfit g c =
    NoMemory (is_shorter _ (c.if-is_too_long.ensures ∙ ap (λ (k : List ℕ). nat_lt LONGEST (length (drop_cr (k ++ c.args.piece.now)))) c.deref.ensures.value)) c.stop_for_memory.ensures

pub returns-in-Ok-clause-short : goal.returns-in-Ok-clause-short
returns-in-Ok-clause-short g c =
    let fits : length (drop_cr (c.args.kept.now.items ++ c.args.piece.now)) ≤ LONGEST = is_shorter _ (c.if-is_too_long.ensures ∙ ap (λ (k : List ℕ). nat_lt LONGEST (length (drop_cr (k ++ c.args.piece.now)))) c.deref.ensures.value) in
    subst (λ (l : List ℕ). length (drop_cr l) ≤ LONGEST) (sym c.in-Ok.ensures.items) fits

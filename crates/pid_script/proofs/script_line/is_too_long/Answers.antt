use Rattle.std.proofs.Common.{◌≡◌, ℕ, ◌+◌, List, [], ◌++◌, length, sym, ap, ◌∙◌, length-append}
use Rattle.std.proofs.lemmas.List.{append-nil}
use Rattle.std.specs.Prelude.{nat_lt}
use Rattle.pid_reader.specs.Lines.{drop_cr}
use Rattle.pid_script.specs.ScriptLines.{LONGEST}
use Rattle.pid_script.proofs.Pieces.{nothing_left, something_left}
use Rattle.pid_script.proofs.ScriptAsks.{cut_sum, drop_after}
use Rattle.pid_script.proofs.script_line.is_too_long.Goals as goal

pub returns-then-is_empty : goal.returns-then-is_empty
returns-then-is_empty c =
    let none : c.args.piece.now ≡ [] = nothing_left c.args.piece.now c.if-is_empty.ensures in
    ap (λ (l : List ℕ). nat_lt LONGEST (length l)) (c.without_cr.ensures ∙ ap drop_cr (sym (ap (λ (l : List ℕ). c.args.kept.now ++ l) none ∙ append-nil c.args.kept.now)))

pub returns : goal.returns
returns c =
    let line : length (drop_cr (c.args.kept.now ++ c.args.piece.now)) ≡ length (c.args.kept.now ++ drop_cr c.args.piece.now) = ap length (drop_after c.args.kept.now c.args.piece.now (something_left c.args.piece.now c.if-is_empty.ensures)) in
    cut_sum c.saturating_add.result (length c.args.kept.now + length c.without_cr-2.result.now) c.saturating_add.ensures
    ∙ ap (nat_lt LONGEST) (ap (λ (l : List ℕ). length c.args.kept.now + length l) c.without_cr-2.ensures ∙ sym (length-append c.args.kept.now (drop_cr c.args.piece.now)) ∙ sym line)

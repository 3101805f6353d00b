use Rattle.std.proofs.Common.{◌≡◌, ◌∙◌, sym, ap, arith, ◌++◌, [], List, ℕ}
use Rattle.std.proofs.lemmas.Bool.Decides.{nat_tests}
use Rattle.std.proofs.lemmas.List.{nil_from_length}
use Rattle.std.specs.Prelude.{reverse}
use Rattle.pid_file.specs.Lines.{drop_cr}
use Rattle.pid_file.specs.WholeLines.{open_part, whole_lines}
use Rattle.pid_file.proofs.Feeding.{on_line, extended, holds_line}
use Rattle.pid_file.proofs.open_text.OpenText.end_line.Goals as goal

pub returns-then-is_empty-clause-holds : goal.returns-then-is_empty-clause-holds
returns-then-is_empty-clause-holds g c text h =
    let none : c.args.self.now.line.items ≡ [] = nil_from_length c.args.self.now.line.items (grind (arith, nat_tests, c.if-is_empty.ensures, c.args.self.now.line.ok.0)) in
    let line : c.without_cr.result.now ≡ drop_cr (open_part text ++ c.args.front.now) = c.without_cr.ensures ∙ ap (λ (l : List ℕ). drop_cr (l ++ c.args.front.now)) (sym none ∙ h.open_line) in
    on_line g.S.Sink.takes g.S.Sink.faults c.take_line.result (reverse (whole_lines text)) c.without_cr.result.now c.args.sink.now c.take_line.new.sink (c.take_line.ensures.shows (reverse (whole_lines text)) h.shown) (c.take_line.ensures.ends (reverse (whole_lines text)) h.shown)
    (λ shows ok. holds_line c.args.self.now _ text c.args.front.now c.without_cr.result.now h c.requires line ok shows none)

pub returns-clause-holds : goal.returns-clause-holds
returns-clause-holds g c text h =
    let joined : c.deref.result.now ≡ open_part text ++ c.args.front.now = c.deref.ensures.value ∙ extended c.extend_from_slice.result _ (c.args.self.now.line.items ++ c.args.front.now) _ c.extend_from_slice.ensures.items (sym c.is_err.ensures.value ∙ c.if-is_err.false) ∙ ap (λ (l : List ℕ). l ++ c.args.front.now) h.open_line in
    let line : c.without_cr-2.result.now ≡ drop_cr (open_part text ++ c.args.front.now) = c.without_cr-2.ensures ∙ ap drop_cr joined in
    holds_line c.args.self.now _ text c.args.front.now c.without_cr-2.result.now h c.requires line (c.in_ok-take_line.ensures.ends (reverse (whole_lines text)) h.shown).good (c.in_ok-take_line.ensures.shows (reverse (whole_lines text)) h.shown) c.clear.ensures.items

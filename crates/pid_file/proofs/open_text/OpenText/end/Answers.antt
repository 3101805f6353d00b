use Rattle.std.proofs.Common.{◌≡◌, ◌∙◌, sym, ap, arith, length, ◌<◌, []}
use Rattle.std.proofs.lemmas.Bool.Decides.{nat_tests}
use Rattle.std.proofs.lemmas.List.{nil_from_length}
use Rattle.std.specs.Prelude.{reverse}
use Rattle.pid_file.specs.Lines.{drop_cr}
use Rattle.pid_file.specs.WholeLines.{whole_lines}
use Rattle.pid_file.proofs.Feeding.{finishes, finished}
use Rattle.pid_file.proofs.open_text.OpenText.end.Goals as goal

pub returns-then-is_empty : goal.returns-then-is_empty
returns-then-is_empty g c text start h took =
    let none : c.args.self.line.items ≡ [] = nil_from_length c.args.self.line.items (grind (arith, nat_tests, c.if-is_empty.ensures, c.args.self.line.ok.0)) in
    finished g.S.Sink.takes c.args.self text start c.args.sink.now h (sym h.open_line ∙ none) took

pub returns : goal.returns
returns g c text start h took =
    let longer : 0 < length c.args.self.line.items = grind (arith, nat_tests, c.if-is_empty.ensures, c.args.self.line.ok.0) in
    finishes g.S.Sink.takes g.S.Sink.faults c.take_line.result c.args.self text c.without_cr.result.now start c.args.sink.now c.take_line.new.sink h
    (λ none. let len : length c.args.self.line.items ≡ 0 = ap length (h.open_line ∙ none) in absurd (omega arith))
    (c.without_cr.ensures ∙ ap drop_cr (c.deref.ensures.value ∙ h.open_line)) took (c.take_line.ensures.ends (reverse (whole_lines text)) h.shown)

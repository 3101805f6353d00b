use Rattle.std.proofs.Common.{◌≡◌, ◌∙◌, sym, subst, List, ℕ, Some}
use Rattle.pid_file.specs.declared.fault_kind.LineKind.TheVariants.{BadName}
use Rattle.pid_file.specs.Steps.EntryLines.{name_fault}
use Rattle.pid_file.proofs.LineLemmas.{not_utf8, some_bytes, bad_bytes}
use Rattle.pid_file.proofs.entry_line.name_at.Goals as goal

pub returns-in_default-clause-fault : goal.returns-in_default-clause-fault
returns-in_default-clause-fault c = subst (λ (l : List ℕ). name_fault l ≡ Some BadName) c.trim_blanks-name.ensures (bad_bytes c.trim_blanks-name.result.now (some_bytes c.trim_blanks-name.result.now (sym c.is_empty.ensures ∙ c.if-is_empty.false)) (not_utf8 _ c.in_default.ensures.cases.0))

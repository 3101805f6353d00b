use Rattle.std.proofs.Common.{inl}
use Rattle.pid_journal.proofs.Marks.{marked_end}
use Rattle.pid_journal.proofs.marking.mark_end.Goals as goal

pub returns-then-is_marked : goal.returns-then-is_marked
returns-then-is_marked g c = record { honest = λ clean. clean; kept = λ clean h shown. shown; marked = λ text is. inl is }

pub returns-in_default : goal.returns-in_default
returns-in_default g c = record { honest = c.status.ensures.calls.clean; kept = λ clean h shown. (c.in_default.ensures.told clean h shown).1; marked = λ text is. inl is }

pub returns-in_default-mark_of : goal.returns-in_default-mark_of
returns-in_default-mark_of g c = record { honest = c.status.ensures.calls.clean; kept = λ clean h shown. (c.in-Ok.ensures.told clean h shown).1; marked = λ text is. inl is }

pub returns : goal.returns
returns g c = record {
  honest = c.status.ensures.calls.clean;
  kept = λ clean h shown. (c.in-Ok.ensures.told clean h shown).1;
  marked =
      marked_end g.R.RegistryCalls.showing c.args.registry.now c.status.new.self (g.J.JournalFile.safe c.args.journal.now) (g.J.JournalFile.safe c.mark.new.self) _ _ _ c.as_bytes.ensures.value c.in-Some.ensures (λ clean h shown. (c.in-Ok.ensures.told clean h shown).0) c.mark.ensures;
}

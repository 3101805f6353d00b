-- What became of a line, by the result of its writing.
use Rattle.std.specs.Prelude.{◌≡◌, ℕ, List, Some, IsSome, IfErr, Result, Ok, Err}
use Rattle.std.specs.Io.KnownBytes.{Appends}
use Rattle.std.proofs.Common.{inl, inr, refl, subst, sym}
use Rattle.pid_file.specs.declared.io.WriteFault.{WriteFault}
use Rattle.pid_file.specs.Sending.{Sends}
use Rattle.pid_file.specs.Writing.{FailsWithin, TriesLine, WriterUse}

module _ (w : WriterUse) (line : List ℕ) where
  is_kept : (fault : WriteFault) → w.fault ≡ Some fault → IsSome w.fault
  is_kept fault kept = subst IsSome (sym kept) refl

  pub tried : {X : Type 0} (r : Result X WriteFault) → Sends r w.before w.after line
      → IfErr r (λ f. w.fault ≡ Some f) → TriesLine w line
  tried (Ok x) sent kept = inl sent
  tried (Err f) sent kept = inr (is_kept f kept, sent)

  pub taken_whole : {X : Type 0} (r : Result X WriteFault) (x : X) → r ≡ Ok x
      → Sends r w.before w.after line → Appends w.before w.after line
  taken_whole r x is sent = subst (λ s. Sends s w.before w.after line) is sent

  pub taken_in_part : {X : Type 0} (r : Result X WriteFault) (f : WriteFault) → r ≡ Err f
      → Sends r w.before w.after line → IfErr r (λ e. w.fault ≡ Some e) → FailsWithin w line
  taken_in_part r f is sent kept = (
    is_kept f (subst (λ s. IfErr s (λ e. w.fault ≡ Some e)) is kept),
    subst (λ s. Sends s w.before w.after line) is sent,
  )

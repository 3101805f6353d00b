-- What is reported of a text that is refused.
use Rattle.std.proofs.Common.{◌≡◌, ℕ, ◌≤◌, List, length, Option, Some, None, IfSome, refl, sym, inl, inr, subst}
use Rattle.std.specs.Prelude.{IsSome}
use Rattle.std.specs.Io.KnownBytes.{Appends, Keeps}
use Rattle.pid_file.specs.declared.text_end.TheConstants.{LARGEST}
use Rattle.pid_file.specs.declared.text_end.TextEnd.{TextEnd}
use Rattle.pid_file.specs.declared.text_end.TextEnd.TheVariants.{Done, Line, TooManyEntries, TooLarge, Memory, ReadFault, WriteFault}
use Rattle.pid_file.specs.Checked.{IsChecked, count_of, ok_line}
use Rattle.pid_file.specs.Printing.{print}
use Rattle.pid_file.specs.Reading.{Reads, refused}
use Rattle.pid_file.specs.Sending.{SendsFront}
use Rattle.pid_file.specs.Trees.{TreeMap}
use Rattle.pid_file.specs.Tidied.{IsTidied, PrintsNothing, Writers}
use Rattle.pid_file.specs.Reports.{IsReported, ReportsEnd}
use Rattle.pid_file.specs.Writing.{WriterUse}

pub nothing_printed : (end : TextEnd) (old new : Option (List ℕ)) → Keeps old new → PrintsNothing end old new
nothing_printed Done old new kept = tt
nothing_printed (Line line kind) old new kept = kept
nothing_printed TooManyEntries old new kept = kept
nothing_printed TooLarge old new kept = kept
nothing_printed Memory old new kept = kept
nothing_printed ReadFault old new kept = kept
nothing_printed WriteFault old new kept = tt

pub Keeps-itself : (a : Option (List ℕ)) → Keeps a a
Keeps-itself None = tt
Keeps-itself (Some x) = refl

pub keeps_same : (a b : Option (List ℕ)) → b ≡ a → Keeps a b
keeps_same a b is = subst (λ (k : Option (List ℕ)). Keeps a k) (sym is) (Keeps-itself a)

pub reported_tidied : (end : TextEnd) (text : List ℕ) (w : Writers) → Keeps w.output w.output_after → IsReported end text w.faults w.faults_after → IsTidied end text w
reported_tidied Done text w kept reported = absurd reported
reported_tidied (Line line kind) text w kept reported = (kept, reported)
reported_tidied TooManyEntries text w kept reported = (kept, reported)
reported_tidied TooLarge text w kept reported = (kept, reported)
reported_tidied Memory text w kept reported = (kept, reported)
reported_tidied ReadFault text w kept reported = (kept, reported)
reported_tidied WriteFault text w kept reported = inr (kept, reported)

pub reported_checked : (end : TextEnd) (text : List ℕ) (old new : Option (List ℕ)) → IsReported end text old new → IsChecked end text old new
reported_checked Done text old new reported = absurd reported
reported_checked (Line line kind) text old new reported = reported
reported_checked TooManyEntries text old new reported = reported
reported_checked TooLarge text old new reported = reported
reported_checked Memory text old new reported = reported
reported_checked ReadFault text old new reported = reported
reported_checked WriteFault text old new reported = inr reported

pub keeps_fault : (end : TextEnd) (w : WriterUse) → ReportsEnd end w → end ≡ WriteFault → IsSome w.fault
keeps_fault end w reports is = (subst (λ e. ReportsEnd e w) is reports).failed.0

-- ends that are not the same
pub done_no_write_fault : Done ≡ WriteFault → ⊥
done_no_write_fault e = cc

pub done_no_read_fault : Done ≡ ReadFault → ⊥
done_no_read_fault e = cc

pub no_read_fault : WriteFault ≡ ReadFault → ⊥
no_read_fault e = cc

-- a text that was read whole, and what was made of it
pub tidied : (o : Option (List ℕ)) (t : TreeMap) (w : Writers) → IfSome o (λ text. (length text ≤ LARGEST) × (refused text ≡ None) × Reads text t) → Appends w.output w.output_after (print t) → Keeps w.faults w.faults_after → IfSome o (λ text. IsTidied Done text w)
tidied None t w read printed kept = tt
tidied (Some text) t w read printed kept = record { tree = t; reads = record { short = read.0; good = read.1; reads = read.2 }; printed = printed; nothing_reported = kept }

pub counted : (o : Option (List ℕ)) (n : ℕ) (old new : Option (List ℕ)) → IfSome o (λ text. (length text ≤ LARGEST) × (refused text ≡ None) × (n ≡ count_of text)) → Appends old new (ok_line n) → IfSome o (λ text. IsChecked Done text old new)
counted None n old new read sent = tt
counted (Some text) n old new read sent = (record { short = read.0; good = read.1 }, subst (λ m. Appends old new (ok_line m)) read.2 sent)

pub counted_front : (o : Option (List ℕ)) (n : ℕ) (old new : Option (List ℕ)) → IfSome o (λ text. (length text ≤ LARGEST) × (refused text ≡ None) × (n ≡ count_of text)) → SendsFront old new (ok_line n) → IfSome o (λ text. IsChecked WriteFault text old new)
counted_front None n old new read sent = tt
counted_front (Some text) n old new read sent = inl (record { short = read.0; good = read.1 }, subst (λ m. SendsFront old new (ok_line m)) read.2 sent)

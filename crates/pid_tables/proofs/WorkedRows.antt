-- Worked rows, by computation.
use Rattle.std.proofs.Common.{◌≡◌, [], ◌∷◌, ◌++◌, refl}
use Rattle.std.specs.Prelude.{codes}
use Rattle.std.specs.Str.{is_utf8, chars}
use lib.Utf8.{encode}
use Rattle.pid_file.specs.declared.fault_kind.LineKind.TheVariants.{NoName}
use Rattle.pid_moderation.specs.declared.refusal.FileFault.TheVariants.{Line}
use Rattle.pid_moderation.specs.History.{Faulty, Good}
use Rattle.pid_moderation.specs.Files.{file_reading}
use Rattle.pid_tables.specs.Steps.Tallies.{tally_of}

nothing : file_reading [] ≡ Good []
unfolding file_reading
nothing = refl

class_and_vendor : file_reading (codes "C 01  Mass" ++ 10 ∷ codes "8086  I" ++ 10 ∷ []) ≡ Good ((codes "PC/8086", codes "I") ∷ (codes "PD/01", codes "Mass") ∷ [])
unfolding file_reading is_utf8 chars encode
class_and_vendor = refl

second_line_faulty : file_reading (codes "8086  I" ++ 10 ∷ codes "1af4" ++ 32 ∷ 10 ∷ []) ≡ Faulty (Line 2 NoName)
unfolding file_reading is_utf8 chars encode
second_line_faulty = refl

one_of_each : tally_of ((codes "PC/1af4", codes "Red Hat") ∷ (codes "PC/8086", codes "I") ∷ []) ((codes "PD/01", codes "Mass") ∷ (codes "PC/8086", codes "Intel") ∷ (codes "PC/1af4", codes "Red Hat") ∷ [])
    ≡ record { added = 1; renamed = 1; same = 1 }
one_of_each = refl

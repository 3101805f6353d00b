-- What a file reads to, by its length and by its text.
use Rattle.std.proofs.Common.{◌≡◌, ◌≢◌, ◌⊎◌, inl, inr, ℕ, ◌<◌, ◌≤◌, Bool, true, false, List, [], length, Option, Some, None, refl, sym, ap, subst, ◌∙◌, arith, nat_lt, if◌then◌else◌}
use Rattle.std.specs.Prelude.{◌↔◌}
use Rattle.std.proofs.lemmas.Bool.{false≢true}
use Rattle.std.proofs.lemmas.Bool.Decides.{nat_tests}
use Rattle.pid_file.specs.declared.refusal.ReadRefusal.{ReadRefusal}
use Rattle.pid_reader.specs.Lines.{lines_of}
use Rattle.pid_reader.specs.Reading.{entries_of, refused}
use Rattle.pid_moderation.specs.CheckTables.{most_file_bytes}
use Rattle.pid_moderation.specs.History.{TooLong, Good}
use Rattle.pid_moderation.specs.Items.{Items}
use Rattle.pid_moderation.specs.WellMade.{HasGoodFile, IsFile}
use Rattle.pid_moderation.specs.Files.{file_reading, read_as}

short_test : (n : ℕ) → n ≤ most_file_bytes → nat_lt most_file_bytes n ≡ false
short_test n short = grind (arith, nat_tests)

long_test : (n : ℕ) → most_file_bytes < n → nat_lt most_file_bytes n ≡ true
long_test n long = grind (arith, nat_tests)

pub short_reading : (text : List ℕ) → length text ≤ most_file_bytes → file_reading text ≡ read_as (refused text) (entries_of (lines_of text))
unfolding file_reading
short_reading text short = ap (λ (b : Bool). if b then TooLong else read_as (refused text) (entries_of (lines_of text))) (short_test (length text) short)

pub long_reading : (text : List ℕ) → most_file_bytes < length text → file_reading text ≡ TooLong
unfolding file_reading
long_reading text long = ap (λ (b : Bool). if b then TooLong else read_as (refused text) (entries_of (lines_of text))) (long_test (length text) long)

pub good_reading : (text : List ℕ) → length text ≤ most_file_bytes → refused text ≡ None → file_reading text ≡ Good (entries_of (lines_of text))
good_reading text short good = short_reading text short ∙ ap (λ (o : Option ReadRefusal). read_as o (entries_of (lines_of text))) good

by_length : (n m : ℕ) → (n ≤ m) ⊎ (m < n)
by_length n m = elim (nat_lt m n) as (λ b. nat_lt m n ≡ b → (n ≤ m) ⊎ (m < n)) [ true ↦ λ e. inr (grind (arith, nat_tests)) | false ↦ λ e. inl (grind (arith, nat_tests)) ] refl

not_long : (o : Option ReadRefusal) (pairs : Items) → read_as o pairs ≢ TooLong
not_long None pairs = λ e. cc
not_long (Some refusal) pairs = λ e. cc

is_long : (text : List ℕ) → file_reading text ≡ TooLong → most_file_bytes < length text
is_long text reads = elim (by_length (length text) most_file_bytes) [
  | inl short ↦ absurd (not_long (refused text) (entries_of (lines_of text)) (sym (short_reading text short) ∙ reads))
  | inr long ↦ long
]

pub long_alone : (text : List ℕ) → (file_reading text ≡ TooLong) ↔ (most_file_bytes < length text)
long_alone text = (is_long text, long_reading text)

no_file : IsFile []
no_file = record { items = tt; apart = tt; tree = record { parents = λ path there. absurd (false≢true there) }; limit = omega arith }

read_good : (o : Option ReadRefusal) (pairs : Items) → (o ≡ None → IsFile pairs) → HasGoodFile (read_as o pairs)
read_good None pairs good = good refl
read_good (Some refusal) pairs good = no_file

pub good_file : ((text : List ℕ) → refused text ≡ None → IsFile (entries_of (lines_of text))) → (text : List ℕ) → HasGoodFile (file_reading text)
good_file law text = elim (by_length (length text) most_file_bytes) [
  | inl short ↦ subst HasGoodFile (sym (short_reading text short)) (read_good (refused text) (entries_of (lines_of text)) (law text))
  | inr long ↦ subst HasGoodFile (sym (long_reading text long)) no_file
]

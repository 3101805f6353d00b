-- What a file reads to, by its length.
use Rattle.std.proofs.Common.{◌≡◌, ℕ, List, length, true, false, Bool, if◌then◌else◌, nat_lt, refl}
use Rattle.pid_reader.specs.Reading.{refused}
use Rattle.pid_moderation.specs.Files.{file_reading}
use Rattle.pid_service.proofs.Words.{Account, Act, Approve, Comment, entries_of, file_of, Import, lines_of, most_file_bytes, read_as, Reading, Reject, Submit, TellsLength, TooLong, Withdraw}

by_test : (b : Bool) (r : Reading) → b ≡ true → (if b then TooLong else r) ≡ TooLong
by_test true r on = refl
by_test false r on = absurd (let no : ⊥ = cc in no)

long_test : (text : List ℕ) → nat_lt most_file_bytes (length text) ≡ true → file_reading text ≡ TooLong
unfolding file_reading
long_test text long = by_test (nat_lt most_file_bytes (length text)) (read_as (refused text) (entries_of (lines_of text))) long

pub tells_any : (act : Act) → TellsLength act (file_reading (file_of act))
tells_any (Account who rank) = tt
tells_any (Submit path proposal note) = tt
tells_any (Comment number text) = tt
tells_any (Withdraw number) = tt
tells_any (Approve number expected) = tt
tells_any (Reject number reason) = tt
tells_any (Import file) = long_test file

-- A command that breaks its form.
use Rattle.std.proofs.Common.{◌≡◌, ℕ, List, length, true, false, Bool, Err, refl, sym, ap}
use Rattle.std.specs.Prelude.{if◌then◌else◌, nat_lt}
use Rattle.pid_file.specs.Lines.{lines_of}
use Rattle.pid_file.specs.Reading.{entries_of, refused}
use Rattle.pid_moderation.specs.declared.command.Act.{Act}
use Rattle.pid_moderation.specs.declared.command.Act.TheVariants.{Account, Submit, Comment, Withdraw, Approve, Reject, Import}
use Rattle.pid_moderation.specs.declared.refusal.Refusal.TheVariants.{BadText}
use Rattle.pid_moderation.specs.CheckTables.{most_file_bytes, TellsLength}
use Rattle.pid_moderation.specs.History.{Asked, History, Reading, TooLong}
use Rattle.pid_moderation.specs.Files.{file_of, file_reading, read_as}
use Rattle.pid_moderation.specs.Judgement.{Refused, added, after, answer, judge}
use Rattle.pid_moderation.specs.Views.{views_of}

by_test : (b : Bool) (r : Reading) → b ≡ true → (if b then TooLong else r) ≡ TooLong
by_test true r on = refl
by_test false r on = absurd (let no : ⊥ = cc in no)

long_test : (text : List ℕ) → nat_lt most_file_bytes (length text) ≡ true → file_reading text ≡ TooLong
unfolding file_reading
long_test text long = by_test (nat_lt most_file_bytes (length text)) (read_as (refused text) (entries_of (lines_of text))) long

pub tells_any : (act : Act) → TellsLength act (file_reading (file_of act))
tells_any (Account who rank) = tt
tells_any (Submit path proposal note) = tt
tells_any (Comment number text) = tt
tells_any (Withdraw number) = tt
tells_any (Approve number expected) = tt
tells_any (Reject number reason) = tt
tells_any (Import file) = long_test file

-- it is refused, and changes nothing
pub broken_stays : (h : History) (c : Asked) → judge (views_of h) c ≡ Refused BadText → (Err BadText ≡ answer (judge (views_of h) c)) × (h ≡ after h c)
broken_stays h c is = (sym (ap answer is), sym (ap (added h c) is))

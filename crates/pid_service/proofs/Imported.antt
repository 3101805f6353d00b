-- What a registry shows after an import, by how far it came.
use Rattle.std.proofs.Common.{◌≡◌, ◌≢◌, inl, inr, ℕ, ◌<◌, ◌≤◌, ◌+◌, ◌↔◌, true, false, List, [], ◌++◌, length, Option, Some, Result, Ok, Err, refl, sym, ap, subst, ◌∙◌, arith, length-append, append-nil}
use Rattle.std.proofs.lemmas.Bool.Decides.{nat_tests}
use Rattle.pid_tables.specs.Rows.Clauses.{AtRest}
use Rattle.pid_tables.specs.declared.put_file.Stop.{Stop}
use Rattle.pid_tables.specs.declared.put_file.Stop.TheVariants as stops
use Rattle.pid_service_laws.specs.declared.faults.ImportEnd.TheVariants as imports
use Rattle.pid_service.specs.Histories.{IsMemoryOrStore}
use Rattle.pid_service.proofs.Words.{Account, Act, after, answer, AnswersPast, Approve, Asked, asked, asks, BadText, Command, Comment, connection, Deed, deed_of, EndsImport, Failed, file_reading, Ghosts, HasOneOutcome, History, Import, import_of, ImportEnd, Imports, is_broken, is_import, is_live, IsPlain, IsReached, judge, KeepsNothing, KeepsRight, kept_views, most_file_bytes, Obeys, ObeysImport, Reading, reading_of, ReadsFile, ReadsImport, Refusal, RefusesImport, Registry, Reject, Reply, SettlesImport, Shows, StopIsNotFailed, Submit, TooLong, views_of, Withdraw}

-- an import asks the same, whatever file its command has

pub import_deed : (act : Act) (reading : Reading) → is_import act ≡ true → Imports reading ≡ deed_of act reading
import_deed (Account who rank) reading is = absurd (let no : ⊥ = cc in no)
import_deed (Submit path proposal note) reading is = absurd (let no : ⊥ = cc in no)
import_deed (Comment number text) reading is = absurd (let no : ⊥ = cc in no)
import_deed (Withdraw number) reading is = absurd (let no : ⊥ = cc in no)
import_deed (Approve number expected) reading is = absurd (let no : ⊥ = cc in no)
import_deed (Reject number reason) reading is = absurd (let no : ⊥ = cc in no)
import_deed (Import file) reading is = refl

import_asks : (command : Command) (reading : Reading) → is_import command.act ≡ true → import_of command.account command.key reading ≡ asked command reading
import_asks command reading is = ap (λ (d : Deed). record { account = command.account; key = command.key; deed = d }) (import_deed command.act reading is)

-- what is known of files that are too long
abbrev pub LongFiles : Type 0
LongFiles = (text : List ℕ) → (file_reading text ≡ TooLong) ↔ (most_file_bytes < length text)

abbrev pub LongRefused : Type 0
LongRefused = (h : History) (command : Command) (text : List ℕ) → is_import command.act ≡ true → most_file_bytes < length text
    → (answer (judge (views_of h) (asked command (file_reading text))) ≡ Err BadText) × (after h (asked command (file_reading text)) ≡ h)

fits : (text : List ℕ) → LongFiles → length text ≤ most_file_bytes → file_reading text ≢ TooLong
fits text law short long = let over : most_file_bytes < length text = (law text).0 long in omega (arith, over, short)

-- how much was read where it was stopped
pub failed_read : (stop : Stop) (refusal told : Refusal) (rest : Option (List ℕ)) (text : List ℕ) → stop ≡ stops.Failed refusal → ReadsFile (Err stop) rest text → ReadsImport (Err (imports.Refused told)) rest text
failed_read stop refusal told rest text is read = let so : ReadsFile (Err (stops.Failed refusal)) rest text = subst (λ (s : Stop). ReadsFile (Err s) rest text) is read in inl so

pub body_read : (stop : Stop) (rest : Option (List ℕ)) (text : List ℕ) → stop ≡ stops.Body → ReadsFile (Err stop) rest text → ReadsImport (Err imports.Body) rest text
body_read stop rest text is read = subst (λ (s : Stop). ReadsFile (Err s) rest text) is read

pub stop_not : {Z : Type 0} (stop : Stop) (e : Refusal) → stop ≡ stops.Refused e → ◌≡◌ {A = Result Reply Stop} (Err stop) (Err stops.Body) → Z
stop_not stop e is body = absurd (let no : ⊥ = cc in no)

pub failure_not : {Z : Type 0} (stop : Stop) (e : Refusal) → stop ≡ stops.Failed e → ◌≡◌ {A = Result Reply Stop} (Err stop) (Err stops.Body) → Z
failure_not stop e is body = absurd (let no : ⊥ = cc in no)

pub refusal_not : {Z : Type 0} (e : Refusal) → ◌≡◌ {A = Result Reply ImportEnd} (Err (imports.Refused e)) (Err imports.Body) → Z
refusal_not e body = absurd (let no : ⊥ = cc in no)

pub refused_alive : (stop : Stop) (e : Refusal) → stop ≡ stops.Refused e → StopIsNotFailed stop → e ≢ Failed
refused_alive stop e is alive = subst StopIsNotFailed is alive

whole_or_bad : (e : Refusal) (rest : Option (List ℕ)) (text : List ℕ) → ReadsFile (Err (stops.Refused e)) rest text → ReadsImport (Err (imports.Refused e)) rest text
whole_or_bad e rest text (inl whole) = inl whole
whole_or_bad e rest text (inr (bad, long)) = inr (inl bad, long)

pub refused_read : (stop : Stop) (e : Refusal) (rest : Option (List ℕ)) (text : List ℕ) → stop ≡ stops.Refused e → ReadsFile (Err stop) rest text → ReadsImport (Err (imports.Refused e)) rest text
refused_read stop e rest text is read = whole_or_bad e rest text (subst (λ (s : Stop). ReadsFile (Err s) rest text) is read)

module _ {S : Type 0} (database : Ghosts S) where
  told_so : (r : Registry S database) (h : History) (c : Asked) (result : Result Reply Refusal) → Shows database r h → answer (judge (views_of h) c) ≡ result → after h c ≡ h → Obeys database result r h c
  told_so r h c result shows told same = inl (sym told, subst (Shows database r) (sym same) shows)

  settled : (r : Registry S database) (h : History) (command : Command) (text : List ℕ) (result : Result Reply Refusal) → is_import command.act ≡ true → Shows database r h → file_reading text ≢ TooLong
      → SettlesImport h command.account command.key result → Obeys database result r h (asked command (file_reading text))
  settled r h command text result is shows short told =
      subst (λ (c : Asked). Obeys database result r h c) (import_asks command (file_reading text) is) (told_so r h (import_of command.account command.key (file_reading text)) result shows (told (file_reading text) short).0 (told (file_reading text) short).1)

  settled_err : (r : Registry S database) (h : History) (command : Command) (text : List ℕ) (e : Refusal) → is_import command.act ≡ true → Shows database r h → file_reading text ≢ TooLong
      → HasOneOutcome h command (Err e) → Obeys database (Err e) r h (asked command (file_reading text))
  settled_err r h command text e is shows short (inl told) = settled r h command text (Err e) is shows short told
  settled_err r h command text e is shows short (inr fault) = inr (fault, inl shows)

  -- an import that was answered before its file was read
  pub past_obeyed : (r : Registry S database) (h : History) (command : Command) (given : Result Reply Refusal) (result : Result Reply ImportEnd) (text : List ℕ) → LongFiles → LongRefused → is_import command.act ≡ true → Shows database r h
      → HasOneOutcome h command given → AnswersPast true given result text → ObeysImport database result r h (asked command (file_reading text))
  past_obeyed r h command given (Ok reply) text long refused is shows told past =
      settled r h command text (Ok reply) is shows (fits text long past.1) (subst (HasOneOutcome h command) past.0 told)
  past_obeyed r h command given (Err (imports.Refused e)) text long refused is shows told (inl past) =
      settled_err r h command text e is shows (fits text long past.1) (subst (HasOneOutcome h command) past.0 told)
  past_obeyed r h command given (Err (imports.Refused e)) text long refused is shows told (inr past) =
      let over : most_file_bytes < length text = let n = past.1 in omega (arith, n) in
      let no = refused h command text is over in
      subst (λ (x : Refusal). Obeys database (Err x) r h (asked command (file_reading text))) (sym past.0) (told_so r h (asked command (file_reading text)) (Err BadText) shows no.0 no.1)
  past_obeyed r h command given (Err imports.Body) text long refused is shows told past = shows

  -- and one that was too long
  pub long_obeyed : (r : Registry S database) (h : History) (command : Command) (text : List ℕ) → LongRefused → is_import command.act ≡ true → most_file_bytes < length text → Shows database r h → Obeys database (Err BadText) r h (asked command (file_reading text))
  long_obeyed r h command text refused is over shows = let no = refused h command text is over in told_so r h (asked command (file_reading text)) (Err BadText) shows no.0 no.1

  -- an import whose file was brought in

  shows_still : (old new : Registry S database) (h : History) → Shows database old h → is_live new ≡ is_live old → AtRest database.state (connection new) (views_of h) → KeepsRight database new h → Shows database new h
  shows_still old new h shows same rest names = record { lives = same ∙ shows.lives; history = shows.history; tables = rest; kept = names }

  pub ok_obeyed : (old new : Registry S database) (h : History) (c : Asked) (reply : Reply) → Shows database old h → is_live new ≡ is_live old → IsReached (after h c) → KeepsRight database new (after h c) → EndsImport database.state (connection new) (Ok reply) h c → ObeysImport database (Ok reply) new h c
  ok_obeyed old new h c reply shows same reached names stops = inl (sym stops.0, record { lives = same ∙ shows.lives; history = reached; tables = stops.1; kept = names })

  pub body_obeyed : (old new : Registry S database) (h : History) (c : Asked) → Shows database old h → is_live new ≡ is_live old → KeepsRight database new h → EndsImport database.state (connection new) (Err stops.Body) h c → ObeysImport database (Err imports.Body) new h c
  body_obeyed old new h c shows same names stops = shows_still old new h shows same stops names

  refused_by : (r : Registry S database) (h : History) (c : Asked) (e : Refusal) → Shows database r h → RefusesImport h c e → Obeys database (Err e) r h c
  refused_by r h c e shows (inl told) = told_so r h c (Err e) shows told.0 told.1
  refused_by r h c e shows (inr fault) = inr (inl fault, inl shows)

  pub refused_obeyed : (old new : Registry S database) (h : History) (c : Asked) (e : Refusal) → Shows database old h → is_live new ≡ is_live old → KeepsRight database new h → EndsImport database.state (connection new) (Err (stops.Refused e)) h c → ObeysImport database (Err (imports.Refused e)) new h c
  refused_obeyed old new h c e shows same names stops = refused_by new h c e (shows_still old new h shows same stops.0 names) stops.1

  pub failed_obeyed : (old new : Registry S database) (h : History) (c : Asked) (e : Refusal) → Shows database old h → is_live new ≡ false → KeepsNothing (kept_views new) → IsReached (after h c) → EndsImport database.state (connection new) (Err (stops.Failed e)) h c → ObeysImport database (Err (imports.Refused e)) new h c
  failed_obeyed old new h c e shows off none reached stops = inr (stops.1, inr (record { has_failed = off; forgotten = none; before = shows.history; next = reached; leaves = stops.0 }))

  pub body_carried : (old new : Registry S database) (h : History) (c : Asked) (stop : Stop) → stop ≡ stops.Body → Shows database old h → is_live new ≡ is_live old → KeepsRight database new h
      → EndsImport database.state (connection new) (Err stop) h c → ObeysImport database (Err imports.Body) new h c
  body_carried old new h c stop is shows same names ends = body_obeyed old new h c shows same names (subst (λ (s : Stop). EndsImport database.state (connection new) (Err s) h c) is ends)

  pub refused_carried : (old new : Registry S database) (h : History) (c : Asked) (stop : Stop) (e : Refusal) → stop ≡ stops.Refused e → Shows database old h → is_live new ≡ is_live old → KeepsRight database new h
      → EndsImport database.state (connection new) (Err stop) h c → ObeysImport database (Err (imports.Refused e)) new h c
  refused_carried old new h c stop e is shows same names ends = refused_obeyed old new h c e shows same names (subst (λ (s : Stop). EndsImport database.state (connection new) (Err s) h c) is ends)

  -- what stops it, told as a fault
  pub failed_carried : (old new : Registry S database) (h : History) (c : Asked) (stop : Stop) (refusal told : Refusal) → stop ≡ stops.Failed refusal → (IsMemoryOrStore refusal → told ≡ refusal) → Shows database old h → is_live new ≡ false → KeepsNothing (kept_views new) → IsReached (after h c)
      → EndsImport database.state (connection new) (Err stop) h c → ObeysImport database (Err (imports.Refused told)) new h c
  failed_carried old new h c stop refusal told is same shows off none reached ends =
      let so : EndsImport database.state (connection new) (Err (stops.Failed refusal)) h c = subst (λ (s : Stop). EndsImport database.state (connection new) (Err s) h c) is ends in
      subst (λ (e : Refusal). ObeysImport database (Err (imports.Refused e)) new h c) (sym (same so.1)) (failed_obeyed old new h c refusal shows off none reached so)

  -- bytes in memory

  too_short : (file text rest : List ℕ) → file ≡ text ++ rest → length text ≡ most_file_bytes + 1 → length file ≤ most_file_bytes → ⊥
  too_short file text rest parts long short = let n : length file ≡ length text + length rest = ap length parts ∙ length-append text rest in omega (arith, n, long, short)

  whole_text : (file text rest : List ℕ) → file ≡ text ++ rest → rest ≡ [] → text ≡ file
  whole_text file text rest parts none = sym (parts ∙ ap (λ (l : List ℕ). text ++ l) none ∙ append-nil text)

  whole_or_long : (file text rest : List ℕ) (e : Refusal) → file ≡ text ++ rest → ReadsImport (Err (imports.Refused e)) (Some rest) text → length file ≤ most_file_bytes → text ≡ file
  whole_or_long file text rest e parts (inl whole) short = whole_text file text rest parts whole.at_end
  whole_or_long file text rest e parts (inr long) short = absurd (too_short file text rest parts long.1 short)

  pub bytes_obeyed : (given : Result Reply ImportEnd) (result : Result Reply Refusal) (r : Registry S database) (h : History) (command : Command) (file text rest : List ℕ) → IsPlain given result → given ≢ Err imports.Body → file ≡ text ++ rest → ReadsImport given (Some rest) text
      → length file ≤ most_file_bytes → ObeysImport database given r h (asked command (file_reading text)) → Obeys database result r h (asked command (file_reading file))
  bytes_obeyed (Ok reply) result r h command file text rest plain sure parts read short obeyed =
      subst (λ (t : List ℕ). Obeys database result r h (asked command (file_reading t))) (whole_text file text rest parts read.at_end)
      (subst (λ (x : Result Reply Refusal). Obeys database x r h (asked command (file_reading text))) (sym plain) obeyed)
  bytes_obeyed (Err (imports.Refused e)) result r h command file text rest plain sure parts read short obeyed =
      subst (λ (t : List ℕ). Obeys database result r h (asked command (file_reading t))) (whole_or_long file text rest e parts read short)
      (subst (λ (x : Result Reply Refusal). Obeys database x r h (asked command (file_reading text))) (sym plain) obeyed)
  bytes_obeyed (Err imports.Body) result r h command file text rest plain sure parts read short obeyed = absurd (sure refl)

  not_broken : (file : List ℕ) → is_broken (Import file) ≡ false → length file ≤ most_file_bytes
  not_broken file off = grind (arith, nat_tests)

  -- of a command that has a file of its own
  pub file_given : (P : Asked → Type 0) (command : Command) (file bytes : List ℕ) → command.act ≡ Import file → bytes ≡ file → is_broken command.act ≡ false
      → (is_import command.act ≡ true → length bytes ≤ most_file_bytes → P (asked command (file_reading bytes))) → P (asks command)
  file_given P command file bytes is same sound given =
      let short : length file ≤ most_file_bytes = not_broken file (sym (ap is_broken is) ∙ sound) in
      let full = given (ap is_import is) (subst (λ (b : List ℕ). length b ≤ most_file_bytes) (sym same) short) in
      subst (λ (x : Reading). P (asked command x)) (ap file_reading same ∙ sym (ap reading_of is)) full

-- A file that is refused is imported over no history.
use Rattle.std.proofs.Common.{◌≡◌, ◌⊎◌, inl, inr, ℕ, Bool, true, false, List, length, Option, Some, None, Result, Ok, Err, refl, sym, ap, subst, ◌∙◌}
use Rattle.std.specs.Prelude.{if◌then◌else◌, nat_lt, IsSome, MatchResult}
use Rattle.pid_file.specs.Lines.{lines_of}
use Rattle.pid_file.specs.Reading.{entries_of, refused}
use Rattle.pid_file.specs.declared.refusal.ReadRefusal.{ReadRefusal}
use Rattle.pid_moderation.proofs.Passing.{accepted_passes}
use Rattle.pid_moderation.specs.declared.command.Act.TheVariants.{Import}
use Rattle.pid_moderation.specs.declared.command.Command.{Command}
use Rattle.pid_moderation.specs.declared.command.Reply.{Reply}
use Rattle.pid_moderation.specs.declared.refusal.Refusal.{Refusal}
use Rattle.pid_moderation.specs.declared.refusal.FileFault.{FileFault}
use Rattle.pid_moderation.specs.BeforeFile.{import_of}
use Rattle.pid_moderation.specs.Faults.{IsMemoryOrStore}
use Rattle.pid_moderation.specs.CheckTables.{most_file_bytes}
use Rattle.pid_moderation.specs.FactsOfViews.{facts_of}
use Rattle.pid_moderation.specs.Files.{asks, fault_as, file_of, file_reading, read_as}
use Rattle.pid_moderation.specs.History.{Asked, History, Reading, TooLong, Faulty, deed_of}
use Rattle.pid_moderation.specs.Items.{Items}
use Rattle.pid_moderation.specs.Judgement.{Outcome, Refused, Repeated, Accepts, added, after, judge}
use Rattle.pid_moderation.specs.Views.{Views, views_of}

abbrev IsUnread : Reading → Type 0
IsUnread reading = (reading ≡ TooLong) ⊎ ((fault : FileFault) × (reading ≡ Faulty fault))

long_refused : (v : Views) (account : List ℕ) (key : Option (List ℕ)) (reply : Reply) → judge v (import_of account key TooLong) ≡ Accepts reply → ⊥
long_refused v account key reply is =
    let passes = accepted_passes (facts_of v (import_of account key TooLong)) (import_of account key TooLong) reply is in
    let off : true ≡ false = passes.well_formed in cc

fault_refused : (v : Views) (account : List ℕ) (key : Option (List ℕ)) (fault : FileFault) (reply : Reply) → judge v (import_of account key (Faulty fault)) ≡ Accepts reply → ⊥
fault_refused v account key fault reply is =
    let passes = accepted_passes (facts_of v (import_of account key (Faulty fault))) (import_of account key (Faulty fault)) reply is in
    let off : true ≡ false = passes.all.1.1.0 in cc

unread_refused : (v : Views) (account : List ℕ) (key : Option (List ℕ)) (reading : Reading) (reply : Reply) → IsUnread reading → judge v (import_of account key reading) ≡ Accepts reply → ⊥
unread_refused v account key reading reply (inl long) is = long_refused v account key reply (ap (λ (r : Reading). judge v (import_of account key r)) (sym long) ∙ is)
unread_refused v account key reading reply (inr (fault, faulty)) is = fault_refused v account key fault reply (ap (λ (r : Reading). judge v (import_of account key r)) (sym faulty) ∙ is)

none_added : (h : History) (c : Asked) (o : Outcome) → ((reply : Reply) → o ≡ Accepts reply → ⊥) → added h c o ≡ h
none_added h c (Refused e) never = refl
none_added h c (Repeated reply) never = refl
none_added h c (Accepts reply) never = absurd (never reply refl)

by_length : (long : Bool) (first : Option ReadRefusal) (pairs : Items) (r : ReadRefusal) → first ≡ Some r → IsUnread (if long then TooLong else read_as first pairs)
by_length true first pairs r is = inl refl
by_length false first pairs r is = inr (fault_as r, ap (λ (o : Option ReadRefusal). read_as o pairs) is)

is_unread : (text : List ℕ) (r : ReadRefusal) → refused text ≡ Some r → IsUnread (file_reading text)
unfolding file_reading
is_unread text r is = by_length (nat_lt most_file_bytes (length text)) (refused text) (entries_of (lines_of text)) r is

pub unaccepted : (h : History) (account : List ℕ) (key : Option (List ℕ)) (text : List ℕ) (r : ReadRefusal) → refused text ≡ Some r → after h (import_of account key (file_reading text)) ≡ h
unaccepted h account key text r is =
    let c = import_of account key (file_reading text) in
    none_added h c (judge (views_of h) c) (λ reply. unread_refused (views_of h) account key (file_reading text) reply (is_unread text r is))

import_asks : (command : Command) (file : List ℕ) → command.act ≡ Import file → asks command ≡ import_of command.account command.key (file_reading file)
import_asks command file is = λ i. record { account = command.account; key = command.key; deed = deed_of (is i) (file_reading (file_of (is i))) }

some_refusal : (o : Option ReadRefusal) → IsSome o → (r : ReadRefusal) × (o ≡ Some r)
some_refusal None some = absurd (let no : ⊥ = cc in no)
some_refusal (Some r) some = (r, refl)

pub never : (result : Result Bool Refusal) (command : Command) (file text : List ℕ) → command.act ≡ Import file → text ≡ file → MatchResult result (λ b. b ≡ true → IsSome (refused text)) IsMemoryOrStore → MatchResult result (λ b. b ≡ true → (h : History) → after h (asks command) ≡ h) IsMemoryOrStore
never (Err e) command file text is same told = told
never (Ok b) command file text is same told = λ on h.
    let some = some_refusal (refused file) (subst (λ (l : List ℕ). IsSome (refused l)) same (told on)) in
    ap (after h) (import_asks command file is) ∙ unaccepted h command.account command.key file some.0 some.1

-- A registry that has obeyed the lines of its journal.
use Rattle.std.proofs.Common.{◌≡◌, ◌⊎◌, inl, inr, ℕ, ◌<◌, ◌≤◌, false, List, [], ◌++◌, Option, Some, None, Result, Ok, Err, sym, ap, subst, ◌∙◌, arith}
use Rattle.std.specs.Prelude.{IfOk, MatchOption}
use Rattle.pid_file.proofs.Cuts.{open_more, whole_same}
use Rattle.pid_file.specs.WholeLines.{open_part, whole_lines}
use Rattle.pid_moderation.specs.History.{Asked, History}
use Rattle.pid_moderation.specs.Views.{revision_of}
use Rattle.pid_moderation.specs.RegistryStatus.{RegistryStatus, status_of_registry}
use Rattle.pid_script.specs.Replies.{history_after}
use Rattle.pid_journal.specs.declared.counts.Counts.{Counts}
use Rattle.pid_journal.specs.declared.open_fault.OpenFault.{OpenFault}
use Rattle.pid_journal.specs.declared.open_fault.OpenFault.TheVariants.{Refused, Another, Newer, Missing}
use Rattle.pid_journal.specs.Journals.{counts_held, AreTrue, IsEntry, JournalLeads}
use Rattle.pid_journal.specs.Steps.Ways.{IsOnWay}
use Rattle.pid_journal.specs.Steps.Faults.{IsRefused}
use Rattle.pid_journal.specs.Steps.Places.{IsOpenEnd}
use Rattle.pid_journal.specs.Steps.Segments.{LinesMayBeObeyed}
use Rattle.pid_journal.specs.Steps.Notes.{counts_in}
use Rattle.pid_journal.proofs.Appending.{journal_from}
use Rattle.pid_journal.proofs.Places.{revision_counted, way_grows}

pub open_joined : (front more : List ℕ) → open_part front ≡ [] → open_part more ≡ [] → open_part (front ++ more) ≡ []
open_joined front more one two = open_more front more ∙ ap (λ (o : List ℕ). open_part (o ++ more)) one ∙ two

pub counted_status : (s : RegistryStatus) (h : History) → s ≡ status_of_registry h → counts_held h ≡ counts_in s
unfolding counts_held
counted_status s h is = ap counts_in (sym is)

-- an entry says what the registry holds that was asked
pub entry_at : (text bytes : List ℕ) (s : RegistryStatus) (h : History) (c : Asked) → bytes ≡ text → s ≡ status_of_registry h → IsEntry text (counts_in s) c → IsEntry bytes (counts_held h) c
entry_at text bytes s h c same is entry = subst (λ (l : List ℕ). IsEntry l (counts_held h) c) (sym same) (subst (λ (k : Counts). IsEntry text k c) (sym (counted_status s h is)) entry)

-- the whole lines of the text are those of what is left
pub lines_kept : (text rest : List ℕ) (end : IsOpenEnd text rest) → whole_lines text ≡ whole_lines end.end.front
lines_kept text rest end = ap whole_lines end.end.parts ∙ whole_same end.end.front rest end.torn

-- the whole lines of the text are a journal
pub journal_of : (start : History) (text rest : List ℕ) (end : IsOpenEnd text rest) → AreTrue start false (whole_lines text) → JournalLeads start end.end.front (history_after start (whole_lines text))
journal_of start text rest end told =
    let same = lines_kept text rest end in
    journal_from start (history_after start (whole_lines text)) end.end.front end.end.whole (subst (λ (ls : List (List ℕ)). AreTrue start false ls) same told) (ap (history_after start) (sym same))

pub if_ok : {X : Type 0} (result : Result X OpenFault) (P : Type 0) → P → IfOk result (λ x. P)
if_ok (Ok x) P says = says
if_ok (Err fault) P says = tt

pub if_opened : (o : Option (List ℕ)) (names : List ℕ) (P Q : Type 0) → o ≡ Some names → MatchOption o Q (λ all. P) → P
if_opened None names P Q known said = absurd (let no : ⊥ = cc in no)
if_opened (Some all) names P Q known said = said

-- a fault that says that nothing was obeyed
pub untouched : {Q : Type 0} (fault : OpenFault) → LinesMayBeObeyed fault ⊎ Q → (fault ≡ Another) ⊎ (fault ≡ Newer) → Q
untouched fault (inr quiet) is = quiet
untouched fault (inl may) (inl is) = absurd (subst LinesMayBeObeyed is may)
untouched fault (inl may) (inr is) = absurd (subst LinesMayBeObeyed is may)

pub refused_moves : (fault : OpenFault) → IsRefused fault → LinesMayBeObeyed fault
refused_moves (Refused refusal) is = tt
refused_moves Another is = absurd is
refused_moves Newer is = absurd is
refused_moves Missing is = absurd is

-- the registry is before the beginning of the segment
pub before_begin : (start shown : History) (now : Counts) (begin : ℕ) (lines : List (List ℕ)) → revision_of start ≡ begin → counts_held shown ≡ now → IsOnWay start false lines shown → now.revision < begin → ⊥
before_begin start shown now begin lines begins is way early =
    apart (revision_of start) (revision_of shown) now.revision begin begins (revision_counted shown now is) (way_grows start shown false lines way) early
  where
    apart : (a b d e : ℕ) → a ≡ e → b ≡ d → a ≤ b → d < e → ⊥
    apart a b d e p q le lt = omega arith

pub come_to : (h : History) (now : Counts) (begin : ℕ) → counts_held h ≡ now → begin ≤ now.revision → begin ≤ revision_of h
come_to h now begin is le = through (revision_of h) now.revision begin (revision_counted h now is) le
  where
    through : (a b d : ℕ) → a ≡ b → d ≤ b → d ≤ a
    through a b d p le = omega arith

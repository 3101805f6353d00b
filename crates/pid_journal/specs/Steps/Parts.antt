-- What the steps of a command leave of a registry and of its journal.
use Rattle.std.specs.Prelude.{◌≡◌, ◌⊎◌, ◌+◌, ◌≤◌, ℕ, Bool, true, false, List, ◌∷◌, ◌++◌, length, Option, Some}
use Rattle.pid_moderation.specs.History.{History}
use Rattle.pid_service_laws.specs.CallLaws.{StaysClean}
use Rattle.pid_service_laws.specs.Registries.{Showing}
use Rattle.pid_journal.specs.declared.counts.Counts.{Counts}
use Rattle.pid_journal.specs.declared.file.JournalFile as files
use Rattle.pid_journal.specs.declared.journaled.Journaled.{Journaled}
use Rattle.pid_service_laws.specs.declared.registry_calls.RegistryCalls.{Ghosts}
use Rattle.pid_moderation.specs.declared.refusal.Refusal.{Refusal}
use Rattle.pid_moderation.specs.declared.refusal.Refusal.TheVariants.{Failed}
use Rattle.pid_journal.specs.Journals.{counts_held}
use Rattle.pid_journal.specs.Doubts.{LeavesPart}
use Rattle.pid_journal.specs.Pairs.{PairFailsBetween, PairShows, pair_showing}
use Rattle.pid_journal.specs.Steps.Notes.{IsMark}
use Rattle.pid_journal.specs.Steps.Segments.{KeepsShown}

-- A registry was asked whether it is live.
pub record IsProbed {R : Type 0} (w : Showing R) (is_live : R → Bool) (old new : R)
    (live : Bool) : Type 0 where
  pub clean : w.is_clean new → w.is_clean old
  pub shown : w.is_clean new → (h : History) → w.shows old h → (live ≡ true) × w.shows new h
  pub fallen : (h next : History) → w.fails_between old h next
      → (live ≡ false) × w.fails_between new h next
  pub off : is_live old ≡ false → (live ≡ false) × (new ≡ old)

-- A mark ends with an LF (10) after an LF. Those of the text are among its first bytes, so many.
abbrev pub MarksAreWithin : List ℕ → ℕ → Type 0
MarksAreWithin text count = (above rest : List ℕ) → text ≡ above ++ 10 ∷ 10 ∷ rest → length above + 2 ≤ count

-- of so many bytes nothing was cut off
abbrev pub CutsAfter : (old now : Option (List ℕ)) → ℕ → Type 0
CutsAfter old now count = (front behind : List ℕ) → old ≡ Some (front ++ behind)
    → length front ≡ count → LeavesPart now front behind

-- a mark was written to the end, which says what the registry holds, or none
abbrev pub MayBeMarked : {R : Type 0} → Showing R → (old new : R) → (safe now : Option (List ℕ)) → Type 0
MayBeMarked w old new safe now = (text : List ℕ) → safe ≡ Some text
    → (now ≡ Some text) ⊎ ((mark : List ℕ) × (counts : Counts) × IsMark mark counts
    × (now ≡ Some (text ++ mark))
    × (w.is_clean new → (h : History) → w.shows old h → counts ≡ counts_held h))

-- what a mark, or none, leaves of a registry and of the bytes of its journal
pub record MarksEnd {R : Type 0} (w : Showing R) (old new : R) (safe now : Option (List ℕ)) : Type 0 where
  pub honest : StaysClean w old new
  pub kept : KeepsShown w old new
  pub marked : MayBeMarked w old new safe now

-- no mark is in an entry, nor after an LF that comes before it
pub record IsUnmarked (entry : List ℕ) : Type 0 where
  pub first : (rest : List ℕ) → entry ≡ 10 ∷ rest → ⊥
  pub within : (above rest : List ℕ) → entry ≡ above ++ 10 ∷ 10 ∷ rest → ⊥

-- The entry after so many bytes was cut off, or the registry counts as failed.
abbrev pub IsCutBack : {R J : Type 0} → files.Ghosts J → (old new : Journaled R J) → ℕ → Type 0
IsCutBack file old new count = (front behind : List ℕ)
    → file.safe old.journal ≡ Some (front ++ behind) → length front ≡ count → old.failed ≡ false
    → ((new.failed ≡ false) × (file.safe new.journal ≡ Some front))
    ⊎ ((new.failed ≡ true) × LeavesPart (file.safe new.journal) front behind)

-- a refusal was answered for something that was not done, or that the registry has failed
pub record RefusesNothing {R J : Type 0} (registry : Ghosts R) (file : files.Ghosts J)
    (old new : Journaled R J) (refusal answered : Refusal) : Type 0 where
  pub either : (answered ≡ refusal) ⊎ (answered ≡ Failed)
  pub shown : registry.showing.is_clean new.registry → (start h : History)
      → PairShows registry file start old h
      → (answered ≡ refusal) × PairShows registry file start new h

-- how a pair is described whose journal begins at a history
abbrev pub pair_showing_from : {R J : Type 0} → Ghosts R → files.Ghosts J → History → Showing (Journaled R J)
pair_showing_from registry file start = record (pair_showing registry file) {
  shows = PairShows registry file start;
  fails_between = PairFailsBetween registry file start;
}

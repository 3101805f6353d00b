-- The counts that a journal says, compared with those of a registry.
use Rattle.std.specs.Prelude.{◌≡◌, ◌≢◌, ◌⊎◌, ◌<◌, ◌≤◌, ℕ, Bool, true, false, List, [], ◌∷◌, ◌++◌, Option, Some, None}
use Rattle.std.specs.Prelude.{find, filter_map, nat_le, Result, MatchResult}
use Rattle.pid_file.specs.WholeLines.{whole_lines}
use Rattle.pid_moderation.specs.History.{History}
use Rattle.pid_moderation.specs.Views.{revision_of}
use Rattle.pid_service_laws.specs.CallLaws.{StaysClean}
use Rattle.pid_service_laws.specs.Registries.{Showing}
use Rattle.pid_journal.specs.declared.counts.Counts.{Counts}
use Rattle.pid_journal.specs.declared.folder.JournalFolder as folders
use Rattle.pid_journal.specs.declared.open_fault.OpenFault.{OpenFault}
use Rattle.pid_journal.specs.declared.open_fault.OpenFault.TheVariants.{Another, Missing, Newer, Refused}
use Rattle.pid_journal.specs.declared.placing.Place.{Place}
use Rattle.pid_journal.specs.declared.placing.LineCounts.{LineCounts}
use Rattle.pid_journal.specs.declared.placing.Step.{Step}
use Rattle.pid_journal.specs.declared.placing.Step.TheVariants.{Here, Behind, Nowhere, Unnoted}
use Rattle.pid_journal.specs.Journals.{counts_held, counts_said}
use Rattle.pid_journal.specs.Openings.{FollowsInTurn, StopsAtOne, revision_after}
use Rattle.pid_journal.specs.Steps.Faults.{IsRefused}
use Rattle.pid_journal.specs.Steps.Places.{IsSaid}
use Rattle.pid_journal.specs.Steps.Segments.{HasBegun, IsSameFolder, StaysOrMoved}

-- the first counts that lines say of a revision that is no earlier than this one
abbrev pub said_since : ℕ → List (List ℕ) → Option Counts
said_since revision lines = find (λ k. nat_le revision k.revision) (filter_map counts_said lines)

-- A registry with these counts is where they are said, or after all lines if none are said that are no older.
abbrev pub IsWithin : Counts → ℕ → List (List ℕ) → Type 0
IsWithin now begin lines = (said_since now.revision lines ≡ Some now)
    ⊎ ((said_since now.revision lines ≡ None) × (now.revision ≤ revision_after begin lines))

-- it has commands that come after all lines
abbrev pub IsNewerThan : Counts → ℕ → List (List ℕ) → Type 0
IsNewerThan now begin lines = (said_since now.revision lines ≡ None) × (revision_after begin lines < now.revision)

-- no older counts, and others
abbrev pub AreOthers : Counts → Option Counts → Type 0
AreOthers now said = (k : Counts) × (said ≡ Some k) × (k ≢ now)

-- the counts of a comment, below which this is, are older than the registry
abbrev pub IsOlderAt : Counts → Place → Type 0
IsOlderAt now place = place.noted ≡ true → place.most < now.revision

abbrev pub ComparesOn : Step → Counts → Place → List ℕ → List (List ℕ) → Type 0
ComparesOn Here now place line lines = said_since now.revision (line ∷ lines) ≡ Some now
ComparesOn (Behind next) now place line lines = IsOlderAt now next
    × (said_since now.revision (line ∷ lines) ≡ said_since now.revision lines)
    × (revision_after place.most (line ∷ lines) ≡ revision_after next.most lines)
ComparesOn Nowhere now place line lines = AreOthers now (said_since now.revision (line ∷ lines))
ComparesOn Unnoted now place line lines = Unit {0}

abbrev pub ComparesLine : LineCounts → Counts → Place → Step → Type 0
ComparesLine said now place step = (line : List ℕ) (lines : List (List ℕ))
    → IsSaid line said → IsOlderAt now place → ComparesOn step now place line lines

-- what a fault says of a registry that has come to the segment
abbrev pub FaultsAt : OpenFault → Counts → ℕ → List (List ℕ) → Type 0
FaultsAt (Refused refusal) now begin lines = Unit {0}
FaultsAt Another now begin lines = AreOthers now (said_since now.revision lines)
FaultsAt Newer now begin lines = IsNewerThan now begin lines
FaultsAt Missing now begin lines = ⊥

abbrev pub Compares : {X : Type 0} → Counts → ℕ → List (List ℕ) → Result X OpenFault → Type 0
Compares now begin lines result = MatchResult result (λ x. IsWithin now begin lines)
    (λ fault. FaultsAt fault now begin lines)

-- whether there is a gap
abbrev pub FitsGap : Bool → Counts → ℕ → List (List ℕ) → Type 0
FitsGap gap now begin lines = (gap ≡ false → IsWithin now begin lines)
    × (gap ≡ true → IsNewerThan now begin lines)

abbrev pub RefusesOther : OpenFault → Counts → ℕ → List (List ℕ) → Type 0
RefusesOther fault now begin lines = IsRefused fault
    ⊎ ((fault ≡ Another) × AreOthers now (said_since now.revision lines))

module _ {R : Type 0} (w : Showing R) where
  -- a registry that has come to the beginning of the next segment
  abbrev pub SkipsLate : R → R → ℕ → Result Bool OpenFault → Type 0
  SkipsLate old new next result = w.is_clean new → (h : History) → w.shows old h
      → next ≤ revision_of h → MatchResult result (λ moved. (moved ≡ false) × w.shows new h) IsRefused

  module _ {F J : Type 0} (folder : folders.Ghosts F J) where
    -- what holds of the counts of a registry that has come to a segment, and of its lines
    abbrev pub OfSegment : R → R → F → ℕ → (Counts → ℕ → List (List ℕ) → Type 0) → Type 0
    OfSegment old new f name P = w.is_clean new → (names : List ℕ) → folder.names f ≡ Some names
        → (h : History) → w.shows old h → name ≤ revision_of h
        → P (counts_held h) name (whole_lines (folder.text_in f name))

    -- the same of the last one of some
    abbrev pub OfLast : R → R → F → List ℕ → (Counts → ℕ → List (List ℕ) → Type 0) → Type 0
    OfLast old new f names P = w.is_clean new → (front : List ℕ) (name : ℕ)
        → names ≡ front ++ name ∷ [] → folder.names f ≡ Some names → (h : History) → w.shows old h
        → HasBegun h names → P (counts_held h) name (whole_lines (folder.text_in f name))

    abbrev pub ComparesSegment : {X : Type 0} → R → R → F → ℕ → Result X OpenFault → Type 0
    ComparesSegment old new f name result = MatchResult result (λ x. OfSegment old new f name IsWithin)
        (λ fault. OfSegment old new f name (FaultsAt fault))

    abbrev pub ComparesAll : {X : Type 0} → R → R → F → List ℕ → Result X OpenFault → Type 0
    ComparesAll old new f names result = MatchResult result (λ x. OfLast old new f names IsWithin)
        (λ fault. OfLast old new f names (FaultsAt fault))

    -- the same, where it is enough that the last one has begun
    abbrev pub OfBegun : R → R → F → List ℕ → (Counts → ℕ → List (List ℕ) → Type 0) → Type 0
    OfBegun old new f names P = w.is_clean new → (front : List ℕ) (name : ℕ)
        → names ≡ front ++ name ∷ [] → folder.names f ≡ Some names → (h : History) → w.shows old h
        → name ≤ revision_of h → P (counts_held h) name (whole_lines (folder.text_in f name))

    abbrev pub ComparesGap : {X : Type 0} → R → R → F → Result (X × Bool) OpenFault → Type 0
    ComparesGap old new f result = (names : List ℕ) → folder.names f ≡ Some names
        → MatchResult result (λ found. OfBegun old new f names (FitsGap found.1))
        (λ fault. OfBegun old new f names (RefusesOther fault))

    -- What was obeyed are lines of these segments that have begun, in which the registry was.
    abbrev pub ObeysSome : {X : Type 0} → R → R → F → List ℕ → Result X OpenFault → Type 0
    ObeysSome old new f names result = w.is_clean new → (all : List ℕ) → folder.names f ≡ Some all
        → (h : History) → w.shows old h → MatchResult result
        (λ x. (g : History) × w.shows new g × FollowsInTurn (folder.text_in f) names h g)
        (λ fault. StopsAtOne w (FollowsInTurn (folder.text_in f) names h) new)

    -- what becomes of a registry that is brought on along these, and of the folder
    pub record BringsOn {X : Type 0} (old new : R) (f g : F) (names : List ℕ)
        (result : Result X OpenFault) : Type 0 where
      pub honest : StaysClean w old new
      pub same : IsSameFolder folder f g
      pub quiet : folder.openings g ≡ folder.openings f
      pub stays : StaysOrMoved w old new result
      pub obeys : ObeysSome old new f names result

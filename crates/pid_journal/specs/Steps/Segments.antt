-- The segments of a journal, obeyed in turn.
use Rattle.std.specs.Prelude.{◌≡◌, ◌≢◌, ◌⊎◌, ◌≤◌, ◌+◌, ℕ, Bool, false, List, [], ◌∷◌, ◌++◌, Option, Some, None}
use Rattle.std.specs.Prelude.{Result, Ok, MatchResult, IfErr, IfOk, IfSome}
use Rattle.pid_file.specs.WholeLines.{whole_lines}
use Rattle.pid_moderation.specs.History.{History}
use Rattle.pid_moderation.specs.Revisions.{IsMarked}
use Rattle.pid_moderation.specs.Views.{revision_of}
use Rattle.pid_script.specs.Replies.{history_after}
use Rattle.pid_service_laws.specs.CallLaws.{StaysClean}
use Rattle.pid_service_laws.specs.Registries.{Showing}
use Rattle.pid_service_laws.specs.declared.registry_calls.RegistryCalls.{Ghosts}
use Rattle.pid_journal.specs.declared.folder.JournalFolder as folders
use Rattle.pid_journal.specs.declared.open_fault.OpenFault.{OpenFault}
use Rattle.pid_journal.specs.declared.open_fault.OpenFault.TheVariants.{Another, Newer}
use Rattle.pid_journal.specs.declared.segment_text.SegmentText.{SegmentText}
use Rattle.pid_journal.specs.Journals.{AreTrue, lines_in}
use Rattle.pid_journal.specs.Steps.Ways.{IsAlong, IsInSegments, IsOnWay}
use Rattle.pid_journal.specs.Openings.{StopsAtOne}
use Rattle.pid_journal.specs.Steps.Faults.{IsRefused}

-- a fault that leaves open whether the registry obeyed lines
abbrev pub LinesMayBeObeyed : OpenFault → Type 0
LinesMayBeObeyed Another = ⊥
LinesMayBeObeyed Newer = ⊥
LinesMayBeObeyed other = Unit {0}

-- what was shown still is
abbrev pub KeepsShown : {R : Type 0} → Showing R → R → R → Type 0
KeepsShown w old new = w.is_clean new → (h : History) → w.shows old h → w.shows new h

-- these names do not end with this one
abbrev pub IsNewName : List ℕ → ℕ → Type 0
IsNewName names name = (front : List ℕ) → names ≢ front ++ name ∷ []

-- the segments begin at no later revisions
abbrev pub HasBegun : History → List ℕ → Type 0
HasBegun h names = (above below : List ℕ) (name : ℕ) → names ≡ above ++ name ∷ below
    → name ≤ revision_of h

-- the registry had come to where a segment begins
abbrev pub HasComeTo : {R : Type 0} → Showing R → R → R → ℕ → Type 0
HasComeTo w old new begin = w.is_clean new → (h : History) → w.shows old h → begin ≤ revision_of h

-- so had it to where the first one of these begins
abbrev pub HasComeToFirst : {R : Type 0} → Showing R → R → R → List ℕ → Type 0
HasComeToFirst w old new names = (name : ℕ) (later : List ℕ) → names ≡ name ∷ later
    → HasComeTo w old new name

-- a fault that says that nothing was obeyed says the truth
abbrev pub StaysOrMoved : {R X : Type 0} → Showing R → R → R → Result X OpenFault → Type 0
StaysOrMoved w old new result = IfErr result (λ fault. LinesMayBeObeyed fault ⊎ KeepsShown w old new)

-- the revision of the registry
abbrev pub TellsRevision : {R : Type 0} → Showing R → R → R → Result ℕ OpenFault → Type 0
TellsRevision w old new result = w.is_clean new → (h : History) → w.shows old h
    → MatchResult result (λ n. n ≡ revision_of h) IsRefused

-- a fault after which lines may have been obeyed
abbrev pub IsLateFault : {X : Type 0} → Result X OpenFault → Type 0
IsLateFault result = IfErr result (λ fault. IsRefused fault × LinesMayBeObeyed fault)

-- a registry was asked for its revision, and shows what it did
pub record AsksRevision {R : Type 0} (w : Showing R) (old new : R) (result : Result ℕ OpenFault) : Type 0 where
  pub honest : StaysClean w old new
  pub kept : KeepsShown w old new
  pub told : TellsRevision w old new result
  pub fault : IsLateFault result

-- so it is asked for the name of a new segment
pub record AsksName {R : Type 0} (w : Showing R) (old new : R) (result : Result (Option ℕ) OpenFault) : Type 0 where
  pub honest : StaysClean w old new
  pub kept : KeepsShown w old new
  pub told : IfOk result (λ name. IfSome name (λ n. TellsRevision w old new (Ok n)))
  pub fault : IsLateFault result

-- so it is asked whether the journal goes on in its last segment
pub record AsksOn {R : Type 0} (w : Showing R) (old new : R) (result : Result Bool OpenFault) : Type 0 where
  pub honest : StaysClean w old new
  pub kept : KeepsShown w old new
  pub fault : IsLateFault result

-- the registry shows a history on the way along which segments lead
pub record ShowsWithin {R : Type 0} (w : Showing R) (text : ℕ → List ℕ) (h : History)
    (names : List ℕ) (r : R) : Type 0 where
  pub shown : History
  pub shows : w.shows r shown
  pub way : IsInSegments text h names shown

-- the last one of these has begun
abbrev pub HasComeToLast : {R : Type 0} → Showing R → R → R → List ℕ → Type 0
HasComeToLast w old new names = (front : List ℕ) (name : ℕ) → names ≡ front ++ name ∷ []
    → HasComeTo w old new name

-- the folder stays
abbrev pub IsSameFolder : {F J : Type 0} → folders.Ghosts F J → F → F → Type 0
IsSameFolder folder old new = (folder.names new ≡ folder.names old)
    × (folder.text_in new ≡ folder.text_in old)

-- one file more was handed out, or at a fault none
abbrev pub HandsOut : {F J X : Type 0} → folders.Ghosts F J → F → F → Result X OpenFault → Type 0
HandsOut folder f g result = MatchResult result (λ x. folder.openings g ≡ folder.openings f + 1)
    (λ fault. folder.openings g ≡ folder.openings f)

-- all whole lines stay
abbrev pub KeepsLines : {F J : Type 0} → folders.Ghosts F J → F → F → Type 0
KeepsLines folder f g = (names : List ℕ) → folder.names f ≡ Some names → (name : ℕ)
    → whole_lines (folder.text_in g name) ≡ whole_lines (folder.text_in f name)

module _ {R : Type 0} (registry : Ghosts R) where
  -- at a fault the registry has obeyed some of the first lines
  abbrev pub FaultsAlong : History → List (List ℕ) → R → OpenFault → Type 0
  FaultsAlong h lines new fault = IsRefused fault
      × StopsAtOne registry.showing (IsAlong h lines) new

  -- the registry has obeyed all, and this is the text of the last segment, if there is one
  abbrev pub EndsLast : (ℕ → List ℕ) → History → List ℕ → R → Option SegmentText → Type 0
  EndsLast text start names new None = (names ≡ []) × registry.showing.shows new start
  EndsLast text start names new (Some t) = (front : List ℕ) × (names ≡ front ++ t.begin ∷ [])
      × AreTrue (history_after start (lines_in text front)) false (whole_lines (text t.begin))
      × registry.showing.shows new (history_after start (lines_in text names))

  module _ {F J : Type 0} (folder : folders.Ghosts F J) where
    -- the registry comes to the end of a segment
    abbrev pub FollowsSegment : {X : Type 0} → R → R → F → ℕ → Result X OpenFault → Type 0
    FollowsSegment old new f name result = registry.showing.is_clean new → (names : List ℕ)
        → folder.names f ≡ Some names → (h shown : History) → IsMarked h → revision_of h ≡ name
        → registry.showing.shows old shown
        → IsOnWay h false (whole_lines (folder.text_in f name)) shown
        → MatchResult result
        (λ x. registry.showing.shows new (history_after h (whole_lines (folder.text_in f name))))
        (FaultsAlong h (whole_lines (folder.text_in f name)) new)

    abbrev pub PassesSegment : R → R → F → (name next : ℕ) → Result Bool OpenFault → Type 0
    PassesSegment old new f name next result = registry.showing.is_clean new
        → (names later : List ℕ) → folder.names f ≡ Some names → (h : History) → IsMarked h
        → ShowsWithin registry.showing (folder.text_in f) h (name ∷ next ∷ later) old
        → MatchResult result (λ x. ShowsWithin registry.showing (folder.text_in f)
        (history_after h (whole_lines (folder.text_in f name))) (next ∷ later) new)
        (FaultsAlong h (lines_in (folder.text_in f) (name ∷ next ∷ later)) new)

    abbrev pub FollowsAll : R → R → F → List ℕ → Result (Option SegmentText) OpenFault → Type 0
    FollowsAll old new f names result = registry.showing.is_clean new → folder.names f ≡ Some names
        → (start : History) → IsMarked start
        → ShowsWithin registry.showing (folder.text_in f) start names old
        → MatchResult result (EndsLast (folder.text_in f) start names new)
        (FaultsAlong start (lines_in (folder.text_in f) names) new)

-- The segment in which a journal goes on after an opening.
use Rattle.std.specs.Prelude.{◌≡◌, ◌⊎◌, ℕ, Bool, false, List, [], ◌∷◌, ◌++◌, Option, Some}
use Rattle.std.specs.Prelude.{Result, MatchResult, IfErr, IfOk}
use Rattle.pid_moderation.specs.History.{History}
use Rattle.pid_moderation.specs.Revisions.{IsMarked}
use Rattle.pid_moderation.specs.Views.{revision_of}
use Rattle.pid_script.specs.Replies.{history_after}
use Rattle.pid_service_laws.specs.CallLaws.{StaysClean}
use Rattle.pid_service_laws.specs.Registries.{Showing}
use Rattle.pid_service_laws.specs.declared.registry_calls.RegistryCalls.{Ghosts}
use Rattle.pid_journal.specs.declared.file.JournalFile as files
use Rattle.pid_journal.specs.declared.folder.JournalFolder as folders
use Rattle.pid_journal.specs.declared.open_fault.OpenFault.{OpenFault}
use Rattle.pid_journal.specs.declared.segment_text.SegmentText.{SegmentText}
use Rattle.pid_journal.specs.Journals.{JournalLeads, lines_in}
use Rattle.pid_journal.specs.Steps.Faults.{IsRefused}
use Rattle.pid_journal.specs.Pairs.{AddsMark}
use Rattle.pid_journal.specs.Steps.Parts.{MayBeMarked}
use Rattle.pid_journal.specs.Steps.Places.{IsOpenEnd}
use Rattle.pid_journal.specs.Steps.Reads.{EndsAt, held_of}
use Rattle.pid_journal.specs.Steps.Segments.{FaultsAlong, HandsOut, HasComeToLast, IsLateFault, IsSameFolder}
use Rattle.pid_journal.specs.Steps.Segments.{KeepsLines, KeepsShown, LinesMayBeObeyed, ShowsWithin}

module _ {F J : Type 0} (folder : folders.Ghosts F J) where
  -- Of a segment that was read to its end the whole lines are left.
  pub record CutsTorn (f g : F) (t : SegmentText) (result : Result (Unit {0}) OpenFault) : Type 0 where
    pub same : folder.names g ≡ folder.names f
    pub quiet : folder.openings g ≡ folder.openings f
    pub keeps : EndsAt folder f t → KeepsLines folder f g
    pub cut : IfOk result (λ x. (names : List ℕ) → folder.names f ≡ Some names
        → (end : IsOpenEnd (folder.text_in f t.begin) (held_of t)) → folder.text_in g t.begin ≡ end.end.front)
    pub fault : IfErr result IsRefused

-- the text that is known, and maybe a mark, which says what the registry holds
abbrev pub EndsMarked : {R F J : Type 0} → Showing R → folders.Ghosts F J → files.Ghosts J
    → (old new : R) → F → SegmentText → J → Type 0
EndsMarked w folder file old new f t k = (names : List ℕ) → folder.names f ≡ Some names
    → MayBeMarked w old new (Some (folder.text_in f t.begin)) (file.safe k)

-- the file of a segment is handed out
pub record Reopens {R F J : Type 0} (w : Showing R) (folder : folders.Ghosts F J) (file : files.Ghosts J)
    (old new : R) (f g : F) (t : SegmentText) (result : Result J OpenFault) : Type 0 where
  pub honest : StaysClean w old new
  pub kept : KeepsShown w old new
  pub same : IsSameFolder folder f g
  pub hands : HandsOut folder f g result
  pub marked : IfOk result (EndsMarked w folder file old new f t)
  pub fault : IsLateFault result

module _ {R F J : Type 0} (registry : Ghosts R) (folder : folders.Ghosts F J) (file : files.Ghosts J) where
  -- the journal goes on in this file
  pub record EndsIn (text : ℕ → List ℕ) (start : History) (names : List ℕ) (after : Option (List ℕ))
      (new : R) (k : J) : Type 0 where
    pub front : List ℕ
    pub name : ℕ
    pub named : after ≡ Some (front ++ name ∷ [])
    pub last : ((names ≡ front) × (name ≡ revision_of (history_after start (lines_in text names))))
        ⊎ (after ≡ Some names)
    pub shown : registry.showing.shows new (history_after start (lines_in text names))
    pub kept : List ℕ
    pub safe : file.safe k ≡ Some kept
    pub leads : JournalLeads (history_after start (lines_in text front)) kept
        (history_after start (lines_in text names))

  -- the file of the last segment, whose text is known
  abbrev pub HandsOn : (g : F) → J → Type 0
  HandsOn g k = (front : List ℕ) × (name : ℕ) × (folder.names g ≡ Some (front ++ name ∷ []))
      × AddsMark (folder.text_in g name) (file.safe k)

  -- an empty file in front of a registry that has stayed
  pub record BeginsIn (old new : R) (f g : F) (k : J) (names : List ℕ) : Type 0 where
    pub safe : file.safe k ≡ Some []
    pub name : ℕ
    pub named : folder.names g ≡ Some (names ++ name ∷ [])
    pub empty : folder.text_in g name ≡ []
    pub told : registry.showing.is_clean new → (h : History) → registry.showing.shows old h
        → name ≡ revision_of h

  abbrev pub Begins : R → R → (f g : F) → J → Type 0
  Begins old new f g k = (names : List ℕ) → folder.names f ≡ Some names → BeginsIn old new f g k names

  -- so a registry is asked where a new segment begins
  pub record BeginsSegment (old new : R) (f g : F) (result : Result J OpenFault) : Type 0 where
    pub honest : StaysClean registry.showing old new
    pub kept : KeepsShown registry.showing old new
    pub same : folder.text_in g ≡ folder.text_in f
    pub hands : HandsOut folder f g result
    pub begun : IfOk result (Begins old new f g)
    pub fault : IsLateFault result

  -- the journal goes on in the last segment, whose text is cut
  pub record GoesOnIn (old new : R) (f g : F) (t : SegmentText) (k : J) : Type 0 where
    pub same : folder.names g ≡ folder.names f
    pub cut : (names : List ℕ) → folder.names f ≡ Some names
        → (end : IsOpenEnd (folder.text_in f t.begin) (held_of t)) → folder.text_in g t.begin ≡ end.end.front
    pub marked : EndsMarked registry.showing folder file old new g t k

  -- or where the journal goes on after the last one
  pub record FindsNext (old new : R) (f g : F) (last : Option SegmentText) (result : Result J OpenFault) : Type 0 where
    pub honest : StaysClean registry.showing old new
    pub kept : KeepsShown registry.showing old new
    pub keeps : ((t : SegmentText) → last ≡ Some t → EndsAt folder f t) → KeepsLines folder f g
    pub hands : HandsOut folder f g result
    pub goes : IfOk result (λ k. ((t : SegmentText) × (last ≡ Some t) × GoesOnIn old new f g t k)
        ⊎ Begins old new f g k)
    pub fault : IsLateFault result

  abbrev pub FindsGap : R → R → (f g : F) → J → Type 0
  FindsGap old new f g k = Begins old new f g k × KeepsShown registry.showing old new
      × ((names : List ℕ) → folder.names f ≡ Some names → HasComeToLast registry.showing old new names)

  abbrev pub FindsJournal : R → R → (f g : F) → Result (J × Bool) OpenFault → Type 0
  FindsJournal old new f g result = registry.showing.is_clean new → (names : List ℕ)
      → folder.names f ≡ Some names → (start : History) → IsMarked start
      → ShowsWithin registry.showing (folder.text_in f) start names old
      → MatchResult result (λ found. (found.1 ≡ false)
      × EndsIn (folder.text_in f) start names (folder.names g) new found.0)
      (FaultsAlong registry start (lines_in (folder.text_in f) names) new)

  -- what becomes of the folder
  pub record LeavesFolder (old new : R) (f g : F) (result : Result (J × Bool) OpenFault) : Type 0 where
    pub keeps : KeepsLines folder f g
    pub hands : HandsOut folder f g result
    pub handed : IfOk result (λ found. (names : List ℕ) → folder.names f ≡ Some names → HandsOn g found.0)
    pub stays : IfErr result (λ fault. LinesMayBeObeyed fault
        ⊎ (KeepsShown registry.showing old new × (folder.text_in g ≡ folder.text_in f)))

-- What an opening makes of a registry and of the folder of its journal: choices of this project.
use Rattle.std.specs.Prelude.{◌≡◌, ◌⊎◌, ◌≤◌, ◌+◌, nat_le, nat_lt, ℕ, Bool, true, false, if◌then◌else◌}
use Rattle.std.specs.Prelude.{List, [], ◌∷◌, ◌++◌, drop, find, filter_map, fold, Some, option_map}
use Rattle.std.specs.Prelude.{unwrap_or, MatchOption, Result, MatchResult, IfErr, IfOk}
use Rattle.pid_file.specs.WholeLines.{whole_lines}
use Rattle.pid_moderation.specs.declared.refusal.Refusal.{Refusal}
use Rattle.pid_moderation.specs.History.{History}
use Rattle.pid_moderation.specs.Revisions.{IsMarked}
use Rattle.pid_moderation.specs.Views.{revision_of}
use Rattle.pid_script.specs.Replies.{history_after}
use Rattle.pid_script.specs.ScriptLines.{is_idle_line}
use Rattle.pid_service_laws.specs.Registries.{Showing}
use Rattle.pid_service_laws.specs.declared.registry_calls.RegistryCalls.{Ghosts}
use Rattle.pid_journal.specs.declared.file.JournalFile as files
use Rattle.pid_journal.specs.declared.folder.JournalFolder as folders
use Rattle.pid_journal.specs.declared.journaled.Journaled.{Journaled}
use Rattle.pid_journal.specs.declared.open_fault.OpenFault.{OpenFault}
use Rattle.pid_journal.specs.declared.open_fault.OpenFault.TheVariants.{Refused, Another, Newer}
use Rattle.pid_journal.specs.declared.opened.Opened.{Opened}
use Rattle.pid_journal.specs.Journals.{counts_held, counts_said, AreSegments, IsPassed, lines_in}
use Rattle.pid_journal.specs.Pairs.{AddsMark, PairShows}

-- after a fault: the registry shows such a history, or has failed between two of them
abbrev pub StopsAtOne : {R : Type 0} → Showing R → (History → Type 0) → R → Type 0
StopsAtOne w Is r = (h : History) × (next : History) × Is h × Is next × (w.shows r h ⊎ w.fails_between r h next)

-- The revision after all lines of a segment that begins at this one, if each command is accepted.
abbrev pub revision_after : ℕ → List (List ℕ) → ℕ
revision_after = fold (λ most line. if is_idle_line line
    then unwrap_or (option_map (λ k. k.revision) (counts_said line)) most else most + 1)

-- A registry that shows this history has come to a segment, and is in it: the first counts that are said there of no
-- earlier revision are its own. If there are none, its revision says whether it is past all lines.
abbrev pub StandsIn : (past : Bool) → (ℕ → List ℕ) → (name : ℕ) → History → Type 0
StandsIn past text name h = let lines = whole_lines (text name) in (name ≤ revision_of h)
    × MatchOption (find (λ k. nat_le (revision_of h) k.revision) (filter_map counts_said lines))
    (past ≡ nat_lt (revision_after name lines) (revision_of h)) (λ k. (k ≡ counts_held h) × (past ≡ false))

-- Of segments in turn lines are obeyed, or none: of one in which the registry stands.
abbrev pub FollowsInTurn : (ℕ → List ℕ) → List ℕ → (h g : History) → Type 0
FollowsInTurn text [] h g = h ≡ g
FollowsInTurn text (name ∷ names) h g = FollowsInTurn text names h g ⊎ (StandsIn false text name h × (next : History)
    × ((from : ℕ) × IsPassed h (drop from (whole_lines (text name))) next) × FollowsInTurn text names next g)

-- `registry` is `R.RegistryCalls`, `folder` is `F.JournalFolder`, and `file` that of its segments
module _ {R F J : Type 0} (registry : Ghosts R) (folder : folders.Ghosts F J) (file : files.Ghosts J) where
  -- The journal goes on in a new segment, which begins at this history, and is named by its revision.
  abbrev pub BeginsNew : List ℕ → F → History → Journaled R J → Type 0
  BeginsNew names g h p = (folder.names g ≡ Some (names ++ revision_of h ∷ [])) × PairShows registry file h p h

  -- If the names of the segments are known, of a registry that shows a history:
  pub record Resumes (text : ℕ → List ℕ) (names : List ℕ) (g : F) (h : History)
      (end : Result (Opened R J) (R × OpenFault)) : Type 0 where
    -- A journal on whose way it is, is obeyed to its end, and goes on. Or there is a fault; then it is still so.
    pub obeyed : (start : History) → IsMarked start → AreSegments text start names
        → let passed = IsPassed start (lines_in text names) in passed h
        → let at = λ (ns : List ℕ). history_after start (lines_in text ns) in MatchResult end (λ o. (o.gap ≡ false)
        × (BeginsNew names g (at names) o.registry ⊎ ((folder.names g ≡ Some names) × (front : List ℕ) × (name : ℕ)
        × (names ≡ front ++ name ∷ []) × PairShows registry file (at front) o.registry (at names))))
        (λ back. ((refusal : Refusal) × (back.1 ≡ Refused refusal)) × StopsAtOne registry.showing passed back.0)
    -- Whatever is answered, no lines were obeyed but of segments in which the registry was.
    pub obeys : MatchResult end
        (λ o. (now : History) × registry.showing.shows o.registry.registry now × FollowsInTurn text names h now)
        (λ back. StopsAtOne registry.showing (FollowsInTurn text names h) back.0)
    -- After a gap the journal begins at that history, in a new segment.
    pub gap : IfOk end (λ o. o.gap ≡ true → BeginsNew names g h o.registry)
    -- the first segment has begun
    pub begun : IfOk end (λ o. (name : ℕ) (later : List ℕ) → names ≡ name ∷ later → name ≤ revision_of h)
    -- If the last one has begun, the registry is in it, or past it before a gap; with another's it is neither.
    pub compares : (front : List ℕ) (name : ℕ) → names ≡ front ++ name ∷ [] → MatchResult end
        (λ o. (o.gap ≡ true) ⊎ (name ≤ revision_of h) → StandsIn o.gap text name h)
        (λ back. name ≤ revision_of h → ((refusal : Refusal) × (back.1 ≡ Refused refusal))
        ⊎ ((back.1 ≡ Another) × ((past : Bool) → ¬ (StandsIn past text name h))))

  pub record OpensJournal (r : R) (f g : F) (result : Result (Opened R J) (R × OpenFault)) : Type 0 where
    -- each whole line of each segment stays
    pub keeps : (names : List ℕ) → folder.names f ≡ Some names → (name : ℕ)
        → whole_lines (folder.text_in g name) ≡ whole_lines (folder.text_in f name)
    -- The file that goes on is the only one that was handed out: that of the last segment. To it a mark may come.
    pub hands : MatchResult result (λ o. (folder.openings g ≡ folder.openings f + 1) × ((names : List ℕ)
        → folder.names f ≡ Some names → (front : List ℕ) × (name : ℕ) × (folder.names g ≡ Some (front ++ name ∷ []))
        × AddsMark (folder.text_in g name) (file.safe o.registry.journal)))
        (λ back. folder.openings g ≡ folder.openings f)
    -- with another's journal the registry shows what it showed, and nothing is cut off
    pub others : IfErr result (λ back. (back.1 ≡ Another) ⊎ (back.1 ≡ Newer)
        → (registry.showing.is_clean back.0 → (h : History) → registry.showing.shows r h
        → registry.showing.shows back.0 h) × (folder.text_in g ≡ folder.text_in f))
    -- a disk that has returned what was written up to the end has done so up to the beginning
    pub resumes : MatchResult result (λ o. registry.showing.is_clean o.registry.registry)
        (λ back. registry.showing.is_clean back.0) → registry.showing.is_clean r × ((names : List ℕ)
        → folder.names f ≡ Some names → (h : History) → registry.showing.shows r h
        → Resumes (folder.text_in f) names g h result)

-- A segment that is read line by line.
use Rattle.std.specs.Prelude.{◌≡◌, ℕ, List, [], ◌∷◌, ◌++◌, drop, Option, Some, None}
use Rattle.pid_file.specs.WholeLines.{ended_pieces}
use Rattle.pid_journal.specs.declared.folder.JournalFolder as folders
use Rattle.pid_journal.specs.declared.segment_text.SegmentText.{SegmentText}
use Rattle.pid_journal.specs.Steps.Places.{IsOpenEnd}
use Rattle.pid_journal.specs.Steps.Segments.{IsSameFolder}

-- what is held of a text and not taken
abbrev pub held_of : SegmentText → List ℕ
held_of t = drop t.taken t.held.items

-- what is not taken yet of a text
abbrev pub left_in : SegmentText → List ℕ → List ℕ
left_in t text = held_of t ++ drop t.read text

-- a line was taken, with its LF (10)
pub record IsLine (rest line behind : List ℕ) : Type 0 where
  pub parts : rest ≡ line ++ 10 ∷ behind
  pub one : ended_pieces line ≡ []

-- all of the text was read, and no line that is left is whole
pub record IsAllRead (t u : SegmentText) (text : List ℕ) : Type 0 where
  pub same : left_in u text ≡ left_in t text
  pub torn : ended_pieces (left_in t text) ≡ []
  pub all : drop u.read text ≡ []

module _ {F J : Type 0} (folder : folders.Ghosts F J) where
  -- of a folder segments were read, and of the same segment
  pub record OnlyReads (f g : F) (t u : SegmentText) : Type 0 where
    pub same : IsSameFolder folder f g
    pub quiet : folder.openings g ≡ folder.openings f
    pub begin : u.begin ≡ t.begin

  -- the names are these, if they are known
  abbrev pub AreNames : F → List ℕ → Type 0
  AreNames f begins = (names : List ℕ) → folder.names f ≡ Some names → begins ≡ names

  -- what holds of the text of a segment, if it is known
  abbrev pub OfText : F → SegmentText → (List ℕ → Type 0) → Type 0
  OfText f t Says = (names : List ℕ) → folder.names f ≡ Some names → Says (folder.text_in f t.begin)

  -- what is held of a segment is its end, and no whole line
  abbrev pub EndsAt : F → SegmentText → Type 0
  EndsAt f t = OfText f t (λ all. IsOpenEnd all (held_of t))

  -- the same of the last one of these
  abbrev pub EndsAtLast : F → List ℕ → Option SegmentText → Type 0
  EndsAtLast f names None = names ≡ []
  EndsAtLast f names (Some t) = (front : List ℕ) × (names ≡ front ++ t.begin ∷ []) × EndsAt f t

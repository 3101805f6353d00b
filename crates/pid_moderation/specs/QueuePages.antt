-- Pages of the queue of a moderator: pending submissions, each with the name that its path has
-- today: a choice of this project.
use Rattle.std.specs.Prelude.{ℕ, List, length, map, Option}
use Rattle.pid_file.specs.PathTexts.{path_text}
use Rattle.pid_moderation.specs.Items.{name_at}
use Rattle.pid_moderation.specs.PendingPages.{pending_in}
use Rattle.pid_moderation.specs.Submissions.{Standing, standing_of}
use Rattle.pid_moderation.specs.Views.{Views}
use Rattle.pid_moderation.specs.declared.lists.Queued.{Queued}

-- a pending submission with its number, the name at its path, and the count of the remarks on it
pub record QueueEntry : Type 0 where
  pub number : ℕ
  pub standing : Standing
  pub now : Option (List ℕ)
  pub remarks : ℕ

-- the entry of a pending submission
abbrev pub entry_in : Views → ℕ × Standing → QueueEntry
entry_in v s = record {
  number = s.0;
  standing = s.1;
  now = name_at (path_text s.1.submitted.path) v.items;
  remarks = length (v.remarks s.0);
}

-- the first that are pending with a number above this one, at most so many
abbrev pub queue_in : (most after : ℕ) → Views → List QueueEntry
queue_in most after v = map (entry_in v) (pending_in most after v)

-- the entry of a value of the code
abbrev pub queued_of : Queued → QueueEntry
queued_of queued = record {
  number = queued.number;
  standing = standing_of queued.submission;
  now = queued.now;
  remarks = queued.remarks;
}

-- What of the views a command looks at.
use Rattle.std.specs.Prelude.{ℕ, false, List, length, Option, Some, None}
use Rattle.std.specs.Option.{option_map}
use Rattle.pid_file.specs.PathTexts.{path_text}
use Rattle.pid_moderation.specs.declared.command.Reply.{Reply}
use Rattle.pid_moderation.specs.declared.facts.Facts.{Facts}
use Rattle.pid_moderation.specs.declared.facts.NamedSubmission.{NamedSubmission}
use Rattle.pid_moderation.specs.declared.facts.Verdict.{Verdict}
use Rattle.pid_moderation.specs.declared.facts.Verdict.TheVariants as verdicts
use Rattle.pid_moderation.specs.History.{Reading, TooLong, Faulty, Good, Deed, Ranks, Submits}
use Rattle.pid_moderation.specs.History.{Comments, Withdraws, Approves, Rejects, Imports, Asked}
use Rattle.pid_ident.specs.PathReading.{parent_text}
use Rattle.pid_moderation.specs.Items.{Items, name_at, holds_parent, has_children, imported}
use Rattle.pid_moderation.specs.Items.{count_new, count_renamed, count_same}
use Rattle.pid_moderation.specs.Views.{Views, submission_at}

abbrev pub kept_in : Views → List ℕ → Option (List ℕ) → Option Reply
kept_in v account None = None
kept_in v account (Some key) = v.kept account key

abbrev pub named : Views → ℕ → Option NamedSubmission
named v n = option_map
    (λ s. record {
      author = s.author;
      path = s.path;
      proposal = s.proposal;
      state = v.state n;
    }) (submission_at n v.submits)

-- what a file comes to over these items, with how many items there are then; `None` of one that is
-- too long
abbrev pub verdict : Items → Reading → Option Verdict
verdict items TooLong = None
verdict items (Faulty fault) = Some (verdicts.Faulty fault)
verdict items (Good pairs) =
    Some (verdicts.Good (count_new items pairs) (count_renamed items pairs) (count_same items pairs)
    (length (imported pairs items)))

-- What is known of every command: the caller's rank, the reply that is kept for it, and the
-- revision. No more is looked at yet: `file` is `None` here since it is not read yet, or the
-- command has none.
abbrev pub known : Views → List ℕ → Option (List ℕ) → Facts
known v account key = record {
  rank = v.rank account;
  kept = kept_in v account key;
  revision = v.revision;
  who = None;
  submissions = 0;
  items = 0;
  named = None;
  remarks = 0;
  present = None;
  has_parent = false;
  has_children = false;
  file = None;
}

-- the rows that a command looks at besides
pub data Wanted : Type 0 where
  RankOf : List ℕ → Wanted
  SubmissionCount : Wanted
  SubmissionOf : ℕ → Wanted
  RemarksOf : ℕ → Wanted
  ItemOf : ℕ → Wanted
  NoRows : Wanted

abbrev pub wanted : Deed → Wanted
wanted (Ranks who rank) = RankOf who
wanted (Submits path proposal note) = SubmissionCount
wanted (Comments n text) = RemarksOf n
wanted (Withdraws n) = SubmissionOf n
wanted (Approves n expected) = ItemOf n
wanted (Rejects n reason) = SubmissionOf n
wanted (Imports reading) = NoRows

-- the item that a submission speaks of
abbrev pub with_item_facts : Views → Option NamedSubmission → Facts → Facts
with_item_facts v None f = f
with_item_facts v (Some s) f = record f {
  named = Some s;
  items = length v.items;
  present = name_at (path_text s.path) v.items;
  has_parent = holds_parent (parent_text (path_text s.path)) v.items;
  has_children = has_children (path_text s.path) v.items;
}

abbrev pub looked_at : Views → Wanted → Facts → Facts
looked_at v (RankOf who) f = record f { who = v.rank who }
looked_at v SubmissionCount f = record f { submissions = length v.submits }
looked_at v (SubmissionOf n) f = record f { named = named v n }
looked_at v (RemarksOf n) f = record f { named = named v n; remarks = length (v.remarks n) }
looked_at v (ItemOf n) f = with_item_facts v (named v n) f
looked_at v NoRows f = f

-- the facts by the rows alone: an import's file is not read yet
abbrev pub facts_at : Views → List ℕ → Option (List ℕ) → Wanted → Facts
facts_at v account key w = looked_at v w (known v account key)

-- and what the file of an import comes to: from here on `file` is `None` if it is too long, or
-- the command is no import
abbrev pub with_file : Items → Deed → Facts → Facts
with_file items (Imports reading) f = record f { file = verdict items reading }
with_file items deed f = f

abbrev pub facts_of : Views → Asked → Facts
facts_of v c = with_file v.items c.deed (facts_at v c.account c.key (wanted c.deed))

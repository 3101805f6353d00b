-- What one statement that writes does to the views. What a whole change does is composed of these.
use Rattle.std.specs.Prelude.{ℕ, List, [], ◌∷◌, ◌++◌, Some, not, ◌==◌, ◌&&◌, if◌then◌else◌}
use Rattle.std.specs.Str.{bytes_eq}
use Rattle.std.specs.FinMap.Entries.{put, where_key}
use Rattle.pid_ident.specs.Trees.{text_cmp}
use Rattle.pid_moderation.specs.declared.facts.State.{State}
use Rattle.pid_moderation.specs.declared.facts.State.TheVariants.{Pending, Approved, Rejected}
use Rattle.pid_moderation.specs.declared.facts.State.TheVariants.{Withdrawn}
use Rattle.pid_moderation.specs.Changes.{with_items}
use Rattle.pid_moderation.specs.Views.{Views, Submitted, Remark}
use Rattle.pid_tables.specs.Rows.Shows.{Numbers}
use Rattle.std.specs.Ordering.{eq_by_cmp}
use Rattle.pid_moderation.specs.declared.command.Reply.{Reply}
use Rattle.pid_moderation.specs.declared.rank.Rank.{Rank}

-- a path has this name; the numbers are apart
abbrev pub with_item_named : List ℕ → List ℕ → Views → Views
with_item_named path name v = record v { items = put text_cmp path name v.items }

-- a path has this number
abbrev pub with_number : List ℕ → ℕ → Numbers → Numbers
with_number path n numbers = record numbers {
  since = λ p. if bytes_eq p path then Some n else numbers.since p;
}

-- the state itself names the decider
abbrev pub NamesDecider : State → Type 0
NamesDecider Pending = Unit {0}
NamesDecider (Approved decider) = Unit {0}
NamesDecider (Rejected decider reason) = Unit {0}
NamesDecider Withdrawn = ⊥

-- an account has this rank
abbrev pub with_rank : List ℕ → Rank → Views → Views
with_rank name rank v = record v { rank = λ a. if bytes_eq a name then Some rank else v.rank a }

-- so many commands were accepted
abbrev pub with_revision : ℕ → Views → Views
with_revision n v = record v { revision = n }

-- a path has no item
abbrev pub without_item : List ℕ → Views → Views
without_item path v = record v {
  items = where_key text_cmp
      (λ k. not (eq_by_cmp text_cmp path k)) v.items;
}

-- one more submission after the others
abbrev pub with_submission : Submitted → Views → Views
with_submission s v = record v { submits = v.submits ++ s ∷ [] }

-- a submission has this state
abbrev pub with_state : ℕ → State → Views → Views
with_state number state v = record v { state = λ n. if n == number then state else v.state n }

-- one more remark on a submission, after the others
abbrev pub with_remark : ℕ → Remark → Views → Views
with_remark number remark v = record v {
  remarks = λ n. if n == number then v.remarks n ++ remark
      ∷ [] else v.remarks n;
}

-- a reply is kept under an account and a key
abbrev pub with_reply : List ℕ → List ℕ → Reply → Views → Views
with_reply account key reply v = record v {
  kept = λ a k. if bytes_eq a account
      && bytes_eq k key then Some reply else v.kept a k;
}

-- a path has this name, and the number if that adds or renames it
abbrev pub with_name : ℕ → List ℕ → List ℕ → Views → Views
with_name n path name v = with_items n (put text_cmp path name v.items) v

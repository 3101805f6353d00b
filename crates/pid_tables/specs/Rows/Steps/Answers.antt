-- Steps of Answers.
use Rattle.std.specs.Prelude.{◌≡◌, ◌⊎◌, ℕ, true, false, List, [], ◌∷◌}
use Rattle.sqlite.specs.declared.types.Value.TheVariants.{Text}
use Rattle.sqlite.specs.Order.{Row}
use Rattle.pid_moderation.specs.declared.command.Reply.{Reply}
use Rattle.pid_moderation.specs.declared.rank.Rank.{Rank}
use Rattle.pid_moderation.specs.Ranks.{rank_number}
use Rattle.pid_moderation.specs.Items.{Items}
use Rattle.pid_moderation.specs.Views.{Remark}
use Rattle.pid_tables.specs.Rows.Steps.Ranges.{holds_between}
use Rattle.pid_tables.specs.Rows.TableRows.{number, reply_kind}
use Rattle.pid_tables.specs.Rows.TableRows.{first_number, second_number, third_number}

-- one number
abbrev pub value_row : ℕ → Row
value_row n = number n ∷ []

-- the rank of an account
abbrev pub rank_row : Rank → Row
rank_row rank = number (rank_number rank) ∷ []

-- the name of an item
abbrev pub name_row : List ℕ → Row
name_row name = Text name ∷ []

-- a kept reply
abbrev pub reply_row : Reply → Row
reply_row reply = number (reply_kind reply) ∷ number (first_number reply)
    ∷ number (second_number reply) ∷ number (third_number reply) ∷ []

-- an item
abbrev pub item_shown : List ℕ × List ℕ → Row
item_shown e = Text e.0 ∷ Text e.1 ∷ []

-- a remark
abbrev pub remark_shown : Remark → Row
remark_shown r = Text r.author ∷ Text r.text ∷ []

-- one row if some item's path is between these, and else none
abbrev pub IsFirstWithin : List ℕ → List ℕ → Items → List Row → Type 0
IsFirstWithin low high items rows = ((rows ≡ []) × (holds_between low high items ≡ false))
    ⊎ ((row : Row) × (rows ≡ row ∷ []) × (holds_between low high items ≡ true))

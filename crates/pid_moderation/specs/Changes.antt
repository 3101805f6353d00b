-- What an accepted command does to the views.
use Rattle.std.specs.Prelude.{◌≡◌, ℕ, ◌+◌, List, true, false, not, ◌&&◌, ◌==◌, if◌then◌else◌, []}
use Rattle.std.specs.Prelude.{◌∷◌, ◌++◌, length, Option, Some, None, is_none, is_some}
use Rattle.std.specs.Str.{bytes_eq}
use Rattle.std.specs.Ordering.{eq_by_cmp}
use Rattle.std.specs.FinMap.Entries.{put, where_key}
use Rattle.pid_file.specs.PathTexts.{path_text}
use Rattle.pid_file.specs.Trees.{text_cmp}
use Rattle.pid_moderation.specs.declared.change.Change.{Change}
use Rattle.pid_moderation.specs.declared.change.Receipt.{Receipt}
use Rattle.pid_moderation.specs.declared.change.Edit.{Edit}
use Rattle.pid_moderation.specs.declared.change.Edit.TheVariants.{Add, Rename, Remove}
use Rattle.pid_moderation.specs.declared.change.Write.{Write}
use Rattle.pid_moderation.specs.declared.change.Effect.{Effect}
use Rattle.pid_moderation.specs.declared.change.Effect.TheVariants.{Nothing, Ranked, Submitted}
use Rattle.pid_moderation.specs.declared.change.Effect.TheVariants.{Remarked, Decided, Imported}
use Rattle.pid_moderation.specs.Items.{Items, name_at, has_name, imported}
use Rattle.pid_moderation.specs.Views.{Views, Submitted as Submission, submission_at, is_named_anew}

-- the item of a path, added, renamed or removed
abbrev pub edited : List ℕ → Edit → Items → Items
edited path (Add name) items = put text_cmp path name items
edited path (Rename name) items = put text_cmp path name items
edited path Remove items = where_key text_cmp (λ k. not (eq_by_cmp text_cmp path k)) items

-- the item of a decision, if it writes one
abbrev pub write : Option Write → Items → Items
write None items = items
write (Some w) items = edited (path_text w.path) w.edit items

-- the number of a path, if a change with this number leads from items to other items
abbrev pub renumbered : ℕ → (before now : Items) → (List ℕ → ℕ) → List ℕ → ℕ
renumbered n before now since path = if is_named_anew (name_at path before)
    (name_at path now) then n else since path

-- other items, with the number if they are added or renamed
abbrev pub with_items : ℕ → Items → Views → Views
with_items n items v = record v { items = items; since = renumbered n v.items items v.since }

-- What a change with this number does. Of an import nothing is left to do here: its pairs were put
-- before, one by one (`with_pairs`), and what it says is how many items there are with them
-- (`FitsEffect`).
abbrev pub affected : ℕ → Effect → Views → Views
affected n Nothing v = v
affected n (Ranked who rank is_new) v =
    record v { rank = λ a. if bytes_eq a who then Some rank else v.rank a }
affected n (Submitted number author path proposal note) v =
    record v {
      submits = v.submits
          ++ record { author = author; path = path; proposal = proposal; note = note } ∷ [];
    }
affected n (Remarked number place author text) v =
    record v {
      remarks = λ m. if m == number then v.remarks m
          ++ record { author = author; text = text } ∷ [] else v.remarks m;
    }
affected n (Decided number state w) v = record
    (with_items n (write w v.items) v) { state = λ m. if m == number then state else v.state m }
affected n (Imported items) v = v

-- the receipt, if there is a key
abbrev pub keeping : Option Receipt → Views → Views
keeping None v = v
keeping (Some r) v = record v {
  kept = λ a k. if bytes_eq a r.account
      && bytes_eq k r.key then Some r.reply else v.kept a k;
}

abbrev pub changed : Change → Views → Views
changed change v = record (keeping change.receipt
    (affected change.revision change.effect v)) { revision = change.revision }

-- the pairs of a file, written one by one with the number of their command
abbrev pub with_pairs : Items → Views → Views
with_pairs pairs v = with_items (v.revision + 1) (imported pairs v.items) v

-- FITS: what the numbers and the kinds of a change say of the views that it is done to

abbrev pub IsThere : Option Submission → Type 0
IsThere o = is_some o ≡ true

-- an item is added if there is none, renamed if there is one of another name, and removed
-- if there is one
abbrev pub FitsEdit : Edit → Option (List ℕ) → Type 0
FitsEdit (Add name) present = is_none present ≡ true
FitsEdit (Rename name) present = (is_some present ≡ true) × (has_name name present ≡ false)
FitsEdit Remove present = is_some present ≡ true

-- a write says how many items there are afterwards
abbrev pub FitsWrite : Option Write → Items → Type 0
FitsWrite None items = Unit {0}
FitsWrite (Some w) items = (w.items ≡ length (edited (path_text w.path) w.edit items))
    × FitsEdit w.edit (name_at (path_text w.path) items)

abbrev pub FitsEffect : Effect → Views → Type 0
FitsEffect Nothing v = Unit {0}
FitsEffect (Ranked who rank is_new) v = is_new ≡ is_none (v.rank who)
FitsEffect (Submitted number author path proposal note) v = number ≡ length v.submits + 1
FitsEffect (Remarked number place author text) v = IsThere (submission_at number v.submits)
    × (place ≡ length (v.remarks number) + 1)
FitsEffect (Decided number state w) v = IsThere (submission_at number v.submits)
    × FitsWrite w v.items
FitsEffect (Imported items) v = items ≡ length v.items

-- no reply is kept yet under the key of a receipt
abbrev pub FitsReceipt : Option Receipt → Views → Type 0
FitsReceipt None v = Unit {0}
FitsReceipt (Some r) v = v.kept r.account r.key ≡ None

abbrev pub FitsViews : Change → Views → Type 0
FitsViews change v = FitsEffect change.effect v × FitsReceipt change.receipt v

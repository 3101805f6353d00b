-- Each entry of lines without faults stands behind those before it.
use Rattle.std.proofs.Common.{◌≡◌, ℕ, true, false, cond, ◌&&◌, List, [], ◌∷◌, ◌++◌, Option, Some, None, refl, sym, subst}
use mathlib.Core.Bool.{true≢false}
use Rattle.std.specs.Prelude.{is_some, IsSome, IfSome}
use Rattle.std.specs.FinMap.Entries.{find as value_at}
use Rattle.pid_ident.specs.PathReading.{parent_text}
use Rattle.pid_file.specs.Trees.{text_cmp}
use Rattle.pid_file.specs.Words.{is_name}
use Rattle.pid_file.specs.Lines.{lines_of}
use Rattle.pid_file.specs.LookingBack.{Item, entries_back, is_entry, path_at, name_at, is_known_path}
use Rattle.pid_file.specs.Reading.{AreGood, history_of, refused, entries_of}
use Rattle.pid_file.specs.Entries.{AreEntries}
use Rattle.pid_reader.proofs.Clean.{clean}
use Rattle.pid_reader.proofs.ReadTrees.{kept, name_test, parent_told}
use Rattle.pid_reader.proofs.Refusals.{good_by_refused}
use Rattle.pid_file.proofs.Feeding.{entries-good}

none_there : (o : Option (List ℕ)) → is_some o ≡ false → o ≡ None
none_there None h = refl
none_there (Some x) h = absurd (true≢false h)

abbrev one : List ℕ → List ℕ → List Item
one path name = (path, name) ∷ []

entries : (lines : List (List ℕ)) → AreGood lines → AreEntries (entries_back lines)
entries [] good = tt
entries (line ∷ before) good =
    let c = clean before line good.0 in
    elim (is_entry before line) as (λ b. is_entry before line ≡ b → (b && is_known_path before (path_at before line)) ≡ false → AreEntries (cond b (one (path_at before line) (name_at before line)) [] ++ entries_back before)) [
      | true ↦ λ e new.
          let k = kept before line good.1 good.0 e in
          let named : is_name (name_at before line) ≡ true = name_test _ (rw e at c.name) in (
            record {
              path = k.p;
              text = record { in_range = k.in_range; same = k.same };
              named = named;
              new = none_there (value_at text_cmp (path_at before line) (entries_back before)) new;
              parent = k.parent;
            },
            entries before good.1,
          )
      | false ↦ λ _ _. entries before good.1
    ] refl c.once

pub entries_told : (text : List ℕ) → refused text ≡ None → AreEntries (entries_of (lines_of text))
entries_told text none = subst AreEntries (sym (entries-good (lines_of text) none)) (entries (history_of text) (good_by_refused (lines_of text) [] tt none))

pub parents_told : (text path : List ℕ) → refused text ≡ None → IsSome (value_at text_cmp path (entries_of (lines_of text))) → IfSome (parent_text path) (λ above. IsSome (value_at text_cmp above (entries_of (lines_of text))))
parents_told text path none =
    subst (λ (es : List Item). IsSome (value_at text_cmp path es) → IfSome (parent_text path) (λ above. IsSome (value_at text_cmp above es))) (sym (entries-good (lines_of text) none))
    (parent_told (history_of text) path (good_by_refused (lines_of text) [] tt none))

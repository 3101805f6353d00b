-- What tables ask of views holds of sound histories.
use Rattle.std.proofs.Common.{◌≡◌, T, Bool, true, false, List, [], ◌∷◌, Option, refl, subst}
use Rattle.std.specs.List.{AllByRecursion}
use Rattle.std.specs.FinMap.{entries, entries_sorted}
use Rattle.std.specs.FinMap.Entries.{is_sorted}
use Rattle.pid_ident.specs.PathTexts.{IsPath}
use Rattle.pid_ident.specs.Trees.{text_cmp}
use Rattle.pid_moderation.specs.History.{History}
use Rattle.pid_moderation.specs.Sound.{IsSound, AreGoodSubmissions, IsDecidedWell}
use Rattle.pid_moderation.specs.Views.{Submitted, views_of, items_of, submits_of, state_of}
use Rattle.pid_moderation.specs.Writes.{tree_of}
use Rattle.pid_tables.specs.Rows.Shows.{AreViews}

holds : (b : Bool) → T b → b ≡ true
holds true h = refl
holds false h = absurd h

good_paths : (h : History) (submits : List Submitted) → AreGoodSubmissions h submits → AllByRecursion (λ (s : Submitted). IsPath s.path) submits
good_paths h [] good = tt
good_paths h (s ∷ submits) good = (good.0.path, good_paths h submits good.1)

pub are_views : (h : History) → IsSound h → entries (tree_of h) ≡ items_of h → AreViews (views_of h)
are_views h sound is = record {
  sorted = subst (λ items. is_sorted text_cmp items ≡ true) is (holds _ (entries_sorted (tree_of h)));
  paths = good_paths h (submits_of h) sound.submissions;
  pending = λ n none. subst (λ (o : Option Submitted). IsDecidedWell h o (state_of n h)) none (sound.deciders n);
}

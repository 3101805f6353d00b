-- Every history is sound.
use Rattle.std.proofs.Common.{◌≡◌, ℕ, Bool, true, false, cond, List, [], ◌∷◌, Option, Some, None, refl, sym, subst, arith}
use Rattle.std.specs.Prelude.{IsTrue, IsSome, IfSome, is_some, codes}
use Rattle.std.specs.Ordering.{eq_by_cmp}
use Rattle.std.specs.FinMap.{get, get-from_sorted}
use Rattle.pid_file.specs.PathTexts.{IsTextOf, path_text, parent_of}
use Rattle.pid_file.specs.Trees.{IsTree, text_cmp}
use Rattle.pid_file.specs.Words.{is_name}
use Rattle.pid_file.specs.declared.path.Path.{Path}
use Rattle.pid_file.specs.declared.path.Path.TheVariants.{Vendor, Device, Subsystem, Class, Subclass, ProgIf, Generic}
use Rattle.pid_moderation.specs.History.{Asked, Begins, History}
use Rattle.pid_moderation.specs.Items.{Items, name_at}
use Rattle.pid_moderation.specs.Views.{items_of}
use Rattle.pid_moderation.specs.Writes.{tree_of}
use Rattle.pid_moderation.specs.Judgement.{after_all}
use Rattle.pid_moderation.specs.WellMade.{IsItem, AllItems, HoldsParents, AreWellMade}
use Rattle.pid_moderation.specs.Sound.{IsSound}
use Rattle.pid_moderation.proofs.ItemLemmas.{tied}
use Rattle.pid_moderation.proofs.WriteLemmas.{items_sorted}
use Rattle.pid_moderation.proofs.Reaching.{reached}
use Rattle.pid_moderation.proofs.Knowing.{AreAccounts, accounts_stay, first_account, RootThere, root_stays, HasAdministrator, administrator_stays}
use Rattle.pid_moderation.proofs.TreeStays.{IsParented, parented_stays, IsNamed, named_stays, IsWithin, limit_stays}
use Rattle.pid_moderation.proofs.SubmissionsStay.{AllSubmitted, submissions_stay, FewSubmitted, few_submissions_stay, AreDecided, deciders_stay, none_decided, AreRemarked, remarks_stay, none_remarked}
use Rattle.pid_moderation.proofs.ReceiptsStay.{AllReceipted, all_receipts_stay, AreReceipts, kept_stays}

-- THE TREE

name_of_item : (k : List ℕ) (items : Items) (name : List ℕ) → AllItems items → name_at k items ≡ Some name → IsItem k name
name_of_item k [] name all e = absurd cc
name_of_item k (i ∷ items) name all e = chosen (eq_by_cmp text_cmp k i.0) refl (name_of_item k items name all.1) e
  where
    chosen : (b : Bool) → eq_by_cmp text_cmp k i.0 ≡ b → (name_at k items ≡ Some name → IsItem k name) → cond b (Some i.1) (name_at k items) ≡ Some name → IsItem k name
    chosen true t rest e = let same : i.1 ≡ name = cc in subst (λ (q : List ℕ). IsItem q name) (sym (tied k i.0 t)) (subst (λ (n : List ℕ). IsItem i.0 n) same all.0)
    chosen false t rest e = rest e

got : (h : History) (k : List ℕ) → get (tree_of h) k ≡ name_at k (items_of h)
got h k = get-from_sorted text_cmp (items_of h) k (items_sorted h)

got_there : (h : History) (k : List ℕ) → is_some (name_at k (items_of h)) ≡ true → IsSome (get (tree_of h) k)
got_there h k there = subst (λ (o : Option (List ℕ)). IsSome o) (sym (got h k)) there

there_got : (h : History) (k : List ℕ) → IsSome (get (tree_of h) k) → is_some (name_at k (items_of h)) ≡ true
there_got h k there = subst (λ (o : Option (List ℕ)). IsSome o) (got h k) there

path_at : (k : List ℕ) (items : Items) (o : Option (List ℕ)) → AllItems items → name_at k items ≡ o → is_some o ≡ true → (p : Path) × IsTextOf k p
path_at k items None all e there = absurd cc
path_at k items (Some name) all e there = (name_of_item k items name all e).0

name_there : (k : List ℕ) (items : Items) (o : Option (List ℕ)) → AllItems items → name_at k items ≡ o → IfSome o (λ name. IsTrue (is_name name))
name_there k items None all e = tt
name_there k items (Some name) all e = (name_of_item k items name all e).1

parent_there : (h : History) → HoldsParents (items_of h) → (p : Path) → IsSome (get (tree_of h) (path_text p)) → IfSome (parent_of p) (λ q. IsSome (get (tree_of h) (path_text q)))
parent_there h sound (Vendor v) there = tt
parent_there h sound (Device v d) there = got_there h (path_text (Vendor v)) (sound.parents (path_text (Device v d)) (there_got h _ there))
parent_there h sound (Subsystem v d s e) there = got_there h (path_text (Device v d)) (sound.parents (path_text (Subsystem v d s e)) (there_got h _ there))
parent_there h sound (Class c) there = tt
parent_there h sound (Subclass c s) there = got_there h (path_text (Class c)) (sound.parents (path_text (Subclass c s)) (there_got h _ there))
parent_there h sound (ProgIf c s p) there = got_there h (path_text (Subclass c s)) (sound.parents (path_text (ProgIf c s p)) (there_got h _ there))
parent_there h sound (Generic v d) there = got_there h (path_text (Vendor v)) (sound.parents (path_text (Generic v d)) (there_got h _ there))

is_tree : (h : History) → HoldsParents (items_of h) → AllItems (items_of h) → IsTree (tree_of h)
is_tree h sound all = record {
  paths = λ k there. path_at k (items_of h) (name_at k (items_of h)) all refl (there_got h k there);
  parents = λ p range there. parent_there h sound p there;
  names = λ k. subst (λ (o : Option (List ℕ)). IfSome o (λ name. IsTrue (is_name name))) (sym (got h k)) (name_there k (items_of h) _ all refl);
}

-- HISTORIES

pub histories_sound : (mark : ℕ) (cs : List Asked) → AreWellMade cs → IsSound (after_all (Begins mark) cs)
histories_sound mark cs made = record {
  tree = is_tree (after_all (Begins mark) cs) (reached IsParented parented_stays cs (Begins mark) made (record { parents = λ q h. absurd cc })) (reached IsNamed named_stays cs (Begins mark) made (record { submits = tt; items = tt })).items;
  item_limit = reached IsWithin limit_stays cs (Begins mark) made (omega arith);
  root = reached RootThere root_stays cs (Begins mark) made refl;
  administrator = reached HasAdministrator administrator_stays cs (Begins mark) made (codes "root", refl);
  accounts = reached AreAccounts accounts_stay cs (Begins mark) made (first_account mark);
  submissions = reached AllSubmitted submissions_stay cs (Begins mark) made tt;
  submission_limit = reached FewSubmitted few_submissions_stay cs (Begins mark) made (omega arith);
  deciders = reached AreDecided deciders_stay cs (Begins mark) made (none_decided mark);
  remarks = reached AreRemarked remarks_stay cs (Begins mark) made (none_remarked mark);
  receipts = reached AllReceipted all_receipts_stay cs (Begins mark) made tt;
  kept = reached AreReceipts kept_stays cs (Begins mark) made (λ a k r e. absurd cc);
}

-- The entries of a text that is refused nowhere are a file.
use Rattle.std.proofs.Common.{◌≡◌, ℕ, ◌≤◌, Bool, true, false, cond, List, [], ◌∷◌, length, Option, Some, None, refl, sym, subst, ◌∙◌}
use Rattle.std.specs.Prelude.{IsSome, IfSome, is_some}
use Rattle.std.specs.Option.{option_map}
use Rattle.std.specs.Ordering.{eq_by_cmp, is_eq}
use Rattle.std.proofs.lemmas.Bool.{false≢true}
use Rattle.std.specs.FinMap.{slice_cmp-IsAntisymmetric, nat_cmp-IsAntisymmetric}
use Rattle.std.specs.declared.cmp.Ordering.{Ordering}
use Rattle.std.specs.declared.cmp.Ordering.TheVariants.{Less, Equal, Greater}
use Rattle.pid_file.specs.declared.path.Path.{Path}
use Rattle.pid_ident.specs.PathTexts.{IsTextOf, path_text, parent_of}
use Rattle.pid_ident.specs.PathReading.{parent_text}
use Rattle.pid_ident.specs.Trees.{text_cmp}
use Rattle.pid_reader.specs.Entries.{AreEntries}
use Rattle.pid_moderation.specs.CheckTables.{most_items}
use Rattle.pid_moderation.specs.Items.{Items, name_at, holds_parent}
use Rattle.pid_moderation.specs.WellMade.{AllItems, AreApart, IsFile}

equal_order : (o : Ordering) → is_eq o ≡ true → o ≡ Equal
equal_order Less h = absurd cc
equal_order Equal h = refl
equal_order Greater h = absurd cc

-- texts that tie are one
pub tied : (q k : List ℕ) → eq_by_cmp text_cmp q k ≡ true → q ≡ k
tied q k h = slice_cmp-IsAntisymmetric nat_cmp-IsAntisymmetric q k (equal_order (text_cmp q k) h)

all_items : (es : Items) → AreEntries es → AllItems es
all_items [] are = tt
all_items (e ∷ es) are = (((are.0.path, are.0.text), are.0.named), all_items es are.1)

all_apart : (es : Items) → AreEntries es → AreApart es
all_apart [] are = tt
all_apart (e ∷ es) are = (are.0.new, all_apart es are.1)

-- a path whose parent, if it has one, is among the items
abbrev HasPlace : Items → List ℕ → Type 0
HasPlace es k = (p : Path) × IsTextOf k p × IfSome (parent_of p) (λ q. IsSome (name_at (path_text q) es))

there_more : (b : Bool) (name : List ℕ) (o : Option (List ℕ)) → IsSome o → IsSome (cond b (Some name) o)
there_more true name o h = refl
there_more false name o h = h

parent_more : (o : Option Path) (e : List ℕ × List ℕ) (es : Items) → IfSome o (λ q. IsSome (name_at (path_text q) es)) → IfSome o (λ q. IsSome (name_at (path_text q) (e ∷ es)))
parent_more None e es h = tt
parent_more (Some q) e es h = there_more (eq_by_cmp text_cmp (path_text q) e.0) e.1 (name_at (path_text q) es) h

place_at : (k : List ℕ) (es : Items) → AreEntries es → is_some (name_at k es) ≡ true → HasPlace es k
place_at k [] are h = absurd (false≢true h)
place_at k (e ∷ es) are h = by_key (eq_by_cmp text_cmp k e.0) refl (place_at k es are.1) h
  where
    by_key : (b : Bool) → eq_by_cmp text_cmp k e.0 ≡ b → (is_some (name_at k es) ≡ true → HasPlace es k) → is_some (cond b (Some e.1) (name_at k es)) ≡ true → HasPlace (e ∷ es) k
    by_key true same rest h = (are.0.path, record { in_range = are.0.text.in_range; same = tied k e.0 same ∙ are.0.text.same }, parent_more (parent_of are.0.path) e es are.0.parent)
    by_key false same rest h = let p = rest h in (p.0, p.1, parent_more (parent_of p.0) e es p.2)

held : (o : Option Path) (es : Items) → IfSome o (λ q. IsSome (name_at (path_text q) es)) → holds_parent (option_map path_text o) es ≡ true
held None es h = refl
held (Some q) es h = h

pub entries_file : ((path : Path) → parent_text (path_text path) ≡ option_map path_text (parent_of path)) → (es : Items) → AreEntries es → length es ≤ most_items → IsFile es
entries_file law es are few = record {
  items = all_items es are;
  apart = all_apart es are;
  tree = record {
    parents = λ k there.
        let p = place_at k es are there in
        subst (λ (t : List ℕ). holds_parent (parent_text t) es ≡ true) (sym p.1.same) (subst (λ (o : Option (List ℕ)). holds_parent o es ≡ true) (sym (law p.0)) (held (parent_of p.0) es p.2));
  };
  limit = few;
}

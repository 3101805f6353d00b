-- Paths by their letters and numbers, and where the children of a path lie.
use Rattle.std.proofs.Common.{◌≡◌, ℕ, List, [], ◌∷◌, Option, Some, None, refl, sym, ap, subst, ◌∙◌}
use Rattle.std.specs.Prelude.{◌==◌, if◌then◌else◌}
use Rattle.std.specs.declared.cmp.Ordering.{Ordering}
use Rattle.std.specs.declared.cmp.Ordering.TheVariants.{Less, Equal, Greater}
use Rattle.std.specs.Ordering.{nat_cmp, ordering_then}
use Rattle.std.specs.Cmp.Lexicographic.{slice_cmp}
use Rattle.std.specs.FinMap.{slice_cmp-IsAntisymmetric, nat_cmp-IsAntisymmetric}
use Rattle.std.proofs.lemmas.Cmp.{nat_list_cmp_total, tied_itself}
use Rattle.pid_file.specs.declared.path.Path.{Path}
use Rattle.pid_file.specs.declared.path.Path.TheVariants.{Vendor, Device, Subsystem, Class, Subclass, ProgIf, Generic}
use Rattle.pid_file.specs.PathTexts.{IsPath, path_text, parent_of}
use Rattle.pid_file.specs.Steps.Paths.{path_cmp}
use Rattle.pid_file.specs.Steps.PathPlaces.{letter_of, numbers_of}
use Rattle.pid_file.proofs.PathOrder.{places_order}

under_c : List ℕ → Option Path
under_c (v ∷ []) = Some (Vendor v)
under_c (v ∷ d ∷ []) = Some (Device v d)
under_c (v ∷ d ∷ s ∷ e ∷ []) = Some (Subsystem v d s e)
under_c _ = None

under_d : List ℕ → Option Path
under_d (c ∷ []) = Some (Class c)
under_d (c ∷ s ∷ []) = Some (Subclass c s)
under_d (c ∷ s ∷ p ∷ []) = Some (ProgIf c s p)
under_d _ = None

under_s : List ℕ → Option Path
under_s (v ∷ d ∷ []) = Some (Generic v d)
under_s _ = None

-- the path of a letter and numbers
path_at : ℕ → List ℕ → Option Path
path_at letter numbers = if letter == 67 then under_c numbers else (if letter == 68 then under_d numbers else under_s numbers)

found_at : (p : Path) → path_at (letter_of p) (numbers_of p) ≡ Some p
unfolding path_at under_c under_d under_s
found_at (Vendor v) = refl
found_at (Device v d) = refl
found_at (Subsystem v d s e) = refl
found_at (Class c) = refl
found_at (Subclass c s) = refl
found_at (ProgIf c s p) = refl
found_at (Generic v d) = refl

same_places : (p q : Path) → letter_of p ≡ letter_of q → numbers_of p ≡ numbers_of q → p ≡ q
same_places p q letters numbers =
    let same : Some p ≡ Some q = sym (found_at p) ∙ (λ i. path_at (letters i) (numbers i)) ∙ found_at q in
    cc

then_parts : (a b : Ordering) → ordering_then a b ≡ Equal → (a ≡ Equal) × (b ≡ Equal)
then_parts Less b h = absurd cc
then_parts Equal b h = (refl, h)
then_parts Greater b h = absurd cc

-- paths of one text are one
pub same_path : (p q : Path) → IsPath p → IsPath q → path_text p ≡ path_text q → p ≡ q
same_path p q a b same =
    let tied : path_cmp p q ≡ Equal = ap (λ (t : List ℕ). slice_cmp nat_cmp t (path_text q)) same ∙ tied_itself nat_list_cmp_total (path_text q) in
    let parts = then_parts _ _ (sym (places_order p q a b) ∙ tied) in
    same_places p q (nat_cmp-IsAntisymmetric _ _ parts.0) (slice_cmp-IsAntisymmetric nat_cmp-IsAntisymmetric _ _ parts.1)

pub parent_in_range : (q r : Path) → parent_of q ≡ Some r → IsPath q → IsPath r
parent_in_range (Vendor v) r h x = absurd cc
parent_in_range (Device v d) r h x = let same : Vendor v ≡ r = cc in subst IsPath same x.0
parent_in_range (Subsystem v d s e) r h x = let same : Device v d ≡ r = cc in subst IsPath same (x.0, x.1)
parent_in_range (Class c) r h x = absurd cc
parent_in_range (Subclass c s) r h x = let same : Class c ≡ r = cc in subst IsPath same x.0
parent_in_range (ProgIf c s p) r h x = let same : Subclass c s ≡ r = cc in subst IsPath same (x.0, x.1)
parent_in_range (Generic v d) r h x = let same : Vendor v ≡ r = cc in subst IsPath same x.0

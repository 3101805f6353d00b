-- A name that is put at a path.
use Rattle.std.proofs.Common.{◌≡◌, inl, inr, ℕ, Bool, T, true, false, cond, List, [], ◌∷◌, None, Some, Option, IsSome, refl, sym, ap, subst, ◌∙◌}
use Rattle.std.specs.Prelude.{option_map, bytes_eq}
use Rattle.std.specs.Ordering.{eq_by_cmp}
use Rattle.std.specs.Cmp.Lexicographic.{nat_list_cmp_total}
use Rattle.std.specs.FinMap.{nat_cmp-IsAntisymmetric, slice_cmp-IsAntisymmetric}
use Rattle.std.specs.FinMap.Entries.{put, is_sorted, is_sorted-put, find-put, same_entries}
use Rattle.std.proofs.lemmas.Slice.Eq.{bytes_eq-Decides}
use Rattle.sqlite.specs.declared.types.Value.TheVariants.{Text}
use Rattle.sqlite.specs.Order.{Row, column}
use Rattle.sqlite.specs.State.{State}
use Rattle.pid_ident.specs.Trees.{text_cmp}
use Rattle.pid_moderation.specs.Changes.{with_items}
use Rattle.pid_moderation.specs.Items.{Items, name_at, has_name}
use Rattle.pid_moderation.specs.Views.{Views}
use Rattle.pid_tables.specs.declared.putting.Put.TheVariants.{Added, Renamed, Same}
use Rattle.pid_tables.specs.Rows.Steps.Answers.{name_row}
use Rattle.pid_tables.specs.Steps.Puts.{put_over}
use Rattle.pid_tables.specs.Rows.Shows.{Counts}
use Rattle.pid_tables.specs.Rows.Steps.Shows.{ShowsCounting}
use Rattle.pid_tables.specs.Rows.Steps.Writes.{with_name}
use Rattle.std.proofs.lemmas.Bool.{cases_Bool}
use Rattle.pid_tables.proofs.OfRows.SetLemmas.{tied}
use Rattle.pid_tables.proofs.ChangeLemmas.{same_items}

pub added_over : (name : List ℕ) (o : Option (List ℕ)) → None ≡ option_map name_row o → Added ≡ put_over name o
added_over name None h = refl
added_over name (Some old) h = absurd (let bad : ⊥ = cc in bad)

over : (name : List ℕ) (o : Option (List ℕ)) (row : Row) (stored : List ℕ) (is_it : Bool) → Some row ≡ option_map name_row o → column row 0 ≡ Text stored → is_it ≡ bytes_eq stored name
    → put_over name o ≡ cond is_it Same Renamed
over name None row stored is_it first there is = absurd (let bad : ⊥ = cc in bad)
over name (Some old) row stored is_it first there is =
    let is_row : row ≡ Text old ∷ [] = cc in
    let as_text : Text old ≡ Text stored = ap (λ r. column r 0) (sym is_row) ∙ there in
    let same : old ≡ stored = cc in
    ap (λ (o : List ℕ). cond (bytes_eq o name) Same Renamed) same ∙ ap (λ b. cond b Same Renamed) (sym is)

pub text_there : (o : Option (List ℕ)) (row : Row) → Some row ≡ option_map name_row o → (stored : List ℕ) × (column row 0 ≡ Text stored)
text_there None row h = absurd (let bad : ⊥ = cc in bad)
text_there (Some name) row h = let is_row : row ≡ Text name ∷ [] = cc in (name, ap (λ r. column r 0) is_row)

pub same_over : (name : List ℕ) (o : Option (List ℕ)) (row : Row) (stored : List ℕ) (is_it : Bool) → Some row ≡ option_map name_row o → column row 0 ≡ Text stored → is_it ≡ bytes_eq stored name → is_it ≡ true
    → Same ≡ put_over name o
same_over name o row stored is_it first there is passed = sym (over name o row stored is_it first there is ∙ ap (λ b. cond b Same Renamed) passed)

pub renamed_over : (name : List ℕ) (o : Option (List ℕ)) (row : Row) (stored : List ℕ) (is_it : Bool) → Some row ≡ option_map name_row o → column row 0 ≡ Text stored → is_it ≡ bytes_eq stored name → is_it ≡ false
    → Renamed ≡ put_over name o
renamed_over name o row stored is_it first there is failed = sym (over name o row stored is_it first there is ∙ ap (λ b. cond b Same Renamed) failed)

either_over : (b : Bool) → Added ≡ cond b Same Renamed → ⊥
either_over true h = cc
either_over false h = cc

pub none_there : (name : List ℕ) (o : Option (List ℕ)) → Added ≡ put_over name o → o ≡ None
none_there name None h = refl
none_there name (Some old) h = absurd (either_over (bytes_eq old name) h)

is_renamed : (b : Bool) → Renamed ≡ cond b Same Renamed → b ≡ false
is_renamed true h = absurd (let bad : ⊥ = cc in bad)
is_renamed false h = refl

differs : (name old : List ℕ) → bytes_eq old name ≡ false → bytes_eq name old ≡ false
differs name old off = elim (cases_Bool (bytes_eq name old)) [
  | inl on ↦ absurd (let both = sym ((bytes_eq-Decides old name).1 (sym ((bytes_eq-Decides name old).0 on))) ∙ off in let bad : ⊥ = cc in bad)
  | inr apart ↦ apart
]

pub other_there : (name : List ℕ) (o : Option (List ℕ)) → Renamed ≡ put_over name o → IsSome o × (has_name name o ≡ false)
other_there name None h = absurd (let bad : ⊥ = cc in bad)
other_there name (Some old) h = (refl, differs name old (is_renamed (bytes_eq old name) h))

is_same : (b : Bool) → Same ≡ cond b Same Renamed → b ≡ true
is_same true h = refl
is_same false h = absurd (let bad : ⊥ = cc in bad)

pub same_there : (name : List ℕ) (o : Option (List ℕ)) → Same ≡ put_over name o → o ≡ Some name
same_there name None h = absurd (let bad : ⊥ = cc in bad)
same_there name (Some old) h = ap Some ((bytes_eq-Decides old name).0 (is_same (bytes_eq old name) h))

told : (b : Bool) → b ≡ true → T b
told true h = tt
told false h = absurd cc

-- to put the name that is there changes nothing
pub put_same : (path name : List ℕ) (items : Items) → is_sorted text_cmp items ≡ true → name_at path items ≡ Some name → put text_cmp path name items ≡ items
put_same path name items sorted there =
    same_entries text_cmp nat_list_cmp_total (λ x y. slice_cmp-IsAntisymmetric nat_cmp-IsAntisymmetric x y) (put text_cmp path name items) items
    (is_sorted-put text_cmp nat_list_cmp_total path name items (told _ sorted)) (told _ sorted)
    (λ q. find-put text_cmp nat_list_cmp_total q path name items ∙ at q (eq_by_cmp text_cmp q path) refl)
  where
    at : (q : List ℕ) (b : Bool) → eq_by_cmp text_cmp q path ≡ b → cond b (Some name) (name_at q items) ≡ name_at q items
    at q true e = sym (ap (λ p. name_at p items) (tied q path e) ∙ there)
    at q false e = refl

pub still_with : (n : ℕ) (path name : List ℕ) (c : Counts) (v : Views) (s : State) → name_at path v.items ≡ Some name → ShowsCounting c s.now v → ShowsCounting c s.now (with_name n path name v)
still_with n path name c v s there shows =
    subst (λ w. ShowsCounting c s.now w) (sym (ap (λ (items : Items). with_items n items v) (put_same path name v.items shows.views.sorted there) ∙ same_items n v)) shows

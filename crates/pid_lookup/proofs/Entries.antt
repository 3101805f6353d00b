-- One more entry of a text.
use Rattle.std.proofs.Common.{◌≡◌, ℕ, Bool, true, false, cond, List, Option, Some, refl, sym, ap, ◌∙◌}
use Rattle.std.specs.Prelude.{IsSome, is_some}
use Rattle.std.specs.BTreeMap.{insert_entry}
use Rattle.std.specs.FinMap.{get, insert, get-insert}
use Rattle.std.specs.List.{All, Any, slice_index_or}
use Rattle.std.specs.Ordering.{eq_by_cmp}
use Rattle.std.proofs.lemmas.Cmp.{nat_list_cmp_total}
use Rattle.pid_file.specs.declared.path.Path.{Path}
use Rattle.pid_file.specs.PathTexts.{path_text}
use Rattle.pid_file.specs.Steps.Paths.{path_cmp}
use Rattle.pid_file.specs.Trees.{TreeMap, text_cmp}
use Rattle.pid_lookup.specs.Asked.{AgreeOn}
use Rattle.pid_lookup.specs.Found.{name_in_map}
use Rattle.pid_file.specs.Items.{tree_of}
use Rattle.pid_file.proofs.Maps.{is_equal, same_texts, tree-insert}
use Rattle.pid_lookup.specs.Steps.AskedNames.{HasOnly}

-- the name of a path that is not asked for
pub not_asked : (m : TreeMap) (path : Path) (name : List ℕ) (asked : List Path) → All (λ p. eq_by_cmp path_cmp p path ≡ false) asked → AgreeOn asked (insert m (path_text path) name) m
not_asked m path name asked others k d lt =
    let p = slice_index_or asked k d in
    get-insert nat_list_cmp_total m (path_text path) name (path_text p) ∙ ap (λ (b : Bool). cond b (Some name) (get m (path_text p))) (others k d lt)

-- the name of one that is
pub is_kept : (before after : List (Path × List ℕ)) (path : Path) (name : List ℕ) (asked : List Path) → after ≡ insert_entry path_cmp before path name → AgreeOn asked (insert (tree_of before) (path_text path) name) (tree_of after)
is_kept before after path name asked entries k d lt = ap (λ (m : TreeMap). name_in_map m (slice_index_or asked k d)) (sym (ap tree_of entries ∙ tree-insert before path name))

-- its text is that of one of these paths
abbrev IsOf : List Path → List ℕ → Type 0
IsOf asked text = Any (λ p. text ≡ path_text p) asked

same_text : (path : Path) (asked : List Path) (text : List ℕ) → Any (λ p. eq_by_cmp path_cmp p path ≡ true) asked → text ≡ path_text path → IsOf asked text
same_text path asked text among is =
    (among.0, among.1, among.2, among.3, is ∙ sym (same_texts (path_text among.1) (path_text path) (is_equal _ among.4)))

one_of : (equal : Bool) (path : Path) (name : List ℕ) (asked : List Path) (text : List ℕ) (found : Option (List ℕ)) → eq_by_cmp text_cmp text (path_text path) ≡ equal
    → Any (λ p. eq_by_cmp path_cmp p path ≡ true) asked → (IsSome found → IsOf asked text) → IsSome (cond equal (Some name) found) → IsOf asked text
one_of true path name asked text found is among only some = same_text path asked text among (same_texts text (path_text path) (is_equal _ is))
one_of false path name asked text found is among only some = only some

-- and no others come with it
pub keeps_only : (before after : List (Path × List ℕ)) (path : Path) (name : List ℕ) (asked : List Path) → after ≡ insert_entry path_cmp before path name
    → Any (λ p. eq_by_cmp path_cmp p path ≡ true) asked → HasOnly asked (tree_of before) → HasOnly asked (tree_of after)
keeps_only before after path name asked entries among only text some =
    let is = ap (λ (m : TreeMap). get m text) (ap tree_of entries ∙ tree-insert before path name) ∙ get-insert nat_list_cmp_total (tree_of before) (path_text path) name text in
    one_of (eq_by_cmp text_cmp text (path_text path)) path name asked text (get (tree_of before) text) refl among (only text) (sym (ap is_some is) ∙ some)

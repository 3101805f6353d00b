-- The text of a list, row by row.
use Rattle.std.proofs.Common.{◌≡◌, ◌<◌, ◌≤◌, ◌+◌, List, [], ◌∷◌, ◌++◌, ℕ, Bool, true, false, length, map, take, get_or, refl, codes, sym, ap, ◌∙◌, append-nil, append_assoc}
use Rattle.std.proofs.lemmas.List.{take_more, take_all, map-append}
use Rattle.serde_json.specs.Data.{Data, array}
use Rattle.serde_json.specs.View.{items_of}
use Rattle.serde_json.specs.Written.{comma_if, compact_text, items_text}

-- the rows of a list, as far as they go
abbrev pub rows_text : Bool → List Data → List ℕ
rows_text later [] = []
rows_text later (row ∷ rows) = comma_if later ++ (compact_text row ++ rows_text true rows)

abbrev pub has_rows : {A : Type 0} → List A → Bool
has_rows [] = false
has_rows (x ∷ xs) = true

regrouped : (a b c d : List ℕ) → a ++ (b ++ (c ++ d)) ≡ (a ++ (b ++ c)) ++ d
regrouped a b c d = simp append_assoc refl

after_rows : (rows : List Data) (row : Data) → rows_text true (rows ++ row ∷ []) ≡ rows_text true rows ++ 44 ∷ compact_text row
after_rows [] row = rw (append-nil (compact_text row)) refl
after_rows (x ∷ xs) row = rw (after_rows xs row) (regrouped (44 ∷ []) (compact_text x) (rows_text true xs) (44 ∷ compact_text row))

-- one row more
pub row_more : (rows : List Data) (row : Data) → rows_text false (rows ++ row ∷ []) ≡ rows_text false rows ++ (comma_if (has_rows rows) ++ compact_text row)
row_more [] row = append-nil (compact_text row)
row_more (x ∷ xs) row = rw (after_rows xs row) (regrouped [] (compact_text x) (rows_text true xs) (44 ∷ compact_text row))

-- the list behind its last row
pub rows_closed : (later : Bool) (rows : List Data) → items_text later (items_of rows) ≡ rows_text later rows ++ codes "]"
rows_closed later [] = refl
rows_closed later (row ∷ rows) = rw (rows_closed true rows) (regrouped (comma_if later) (compact_text row) (rows_text true rows) (codes "]"))

has_mapped : {A B : Type 0} (f : A → B) (xs : List A) → has_rows (map f xs) ≡ has_rows xs
has_mapped f [] = refl
has_mapped f (x ∷ xs) = refl

has_last : {A : Type 0} (xs : List A) (x : A) → has_rows (xs ++ x ∷ []) ≡ true
has_last [] x = refl
has_last (y ∷ ys) x = refl

-- a loop over rows, each of which is appended behind those before it
module _ {A B : Type 0} (f : B → Data) (g : A → B) (xs : List A) (i : ℕ) where
  one_more : (x : A) → i < length xs → get_or xs i x ≡ x → take (i + 1) xs ≡ take i xs ++ x ∷ []
  one_more x inside at = take_more xs i x inside ∙ ap (λ y. take i xs ++ y ∷ []) at

  pub holds_more : (x : A) → i < length xs → get_or xs i x ≡ x → map f (map g (take (i + 1) xs)) ≡ map f (map g (take i xs)) ++ f (g x) ∷ []
  holds_more x inside at =
      ap (λ ys. map f (map g ys)) (one_more x inside at) ∙ (ap (map f) (map-append g (take i xs) (x ∷ [])) ∙ map-append f (map g (take i xs)) (g x ∷ []))

  pub row_step : (start old new : List ℕ) (later : Bool) (x : A) → i < length xs → get_or xs i x ≡ x
      → old ≡ start ++ rows_text false (map f (map g (take i xs))) → later ≡ has_rows (take i xs)
      → new ≡ old ++ comma_if later ++ compact_text (f (g x))
      → new ≡ start ++ rows_text false (map f (map g (take (i + 1) xs)))
  row_step start old new later x inside at before flag appended =
      let rows : List Data = map f (map g (take i xs)) in
      let text : List ℕ = compact_text (f (g x)) in
      let some : later ≡ has_rows rows = flag ∙ sym (has_mapped f (map g (take i xs)) ∙ has_mapped g (take i xs)) in
      let grown : rows_text false rows ++ (comma_if later ++ text) ≡ rows_text false (rows ++ f (g x) ∷ []) = ap (λ b. rows_text false rows ++ (comma_if b ++ text)) some ∙ sym (row_more rows (f (g x))) in
      appended ∙ (append_assoc old (comma_if later) text ∙ (ap (λ t. t ++ (comma_if later ++ text)) before ∙ (append_assoc start (rows_text false rows) (comma_if later ++ text)
      ∙ (ap (λ t. start ++ t) grown ∙ ap (λ ys. start ++ rows_text false ys) (sym (holds_more x inside at))))))

  pub has_more : (x : A) → i < length xs → get_or xs i x ≡ x → true ≡ has_rows (take (i + 1) xs)
  has_more x inside at = sym (ap has_rows (one_more x inside at) ∙ has_last (take i xs) x)

  pub list_ends : (start opened old new : List ℕ) → length xs ≤ i → opened ≡ start ++ codes "["
      → old ≡ opened ++ rows_text false (map f (map g (take i xs))) → new ≡ old ++ codes "]"
      → new ≡ start ++ compact_text (array (items_of (map f (map g xs))))
  list_ends start opened old new whole opens rows closed =
      let all : List Data = map f (map g xs) in
      let end : old ≡ opened ++ rows_text false all = rows ∙ ap (λ ys. opened ++ rows_text false (map f (map g ys))) (take_all i xs whole) in
      closed ∙ (ap (λ t. t ++ codes "]") (end ∙ ap (λ t. t ++ rows_text false all) opens)
      ∙ (ap (λ t. t ++ codes "]") (append_assoc start (codes "[") (rows_text false all)) ∙ (append_assoc start (codes "[" ++ rows_text false all) (codes "]")
      ∙ ap (λ t. start ++ (91 ∷ t)) (sym (rows_closed false all)))))

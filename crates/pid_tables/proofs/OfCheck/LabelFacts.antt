-- What rows of meta say of the labels, and what makes them those of a registry.
use Rattle.std.proofs.Common.{◌≡◌, inl, inr, ℕ, ◌<◌, List, [], ◌∷◌, ◌++◌, length, nat_eq, true, false, Option, Some, None, IsTrue, arith, refl, sym, ap, subst, ◌∙◌, codes}
use Rattle.std.proofs.lemmas.Bool.{false≢true}
use Rattle.std.proofs.lemmas.Bool.Decides.{nat_tests}
use Rattle.std.specs.Prelude.{◌↔◌, IfSome, IfNone}
use Rattle.sqlite.specs.declared.types.Value.TheVariants.{Text}
use Rattle.sqlite.specs.Order.{Row, column}
use Rattle.sqlite_rules.specs.Lists.{Has}
use Rattle.pid_tables.specs.Rows.TableRows.{number}
use Rattle.pid_tables.specs.Rows.Schema.{version_number}
use Rattle.pid_tables.specs.declared.rows.schema_version.Version.{Version}
use Rattle.pid_tables.specs.declared.rows.schema_version.Version.TheVariants.{One, Two}
use Rattle.pid_tables.specs.Check.Conditions.{labels, label_row, AreLabels}
use Rattle.pid_tables.specs.Check.Steps.Labels.{HasLabelRow, IsLabel, IsLater, IsToldOfLabel, IsToldOfSchema, TakesLabels}
use Rattle.pid_tables.specs.declared.check.meta.Labels.{Labels}
use Rattle.pid_tables.specs.declared.check.meta.Occurrence.{Occurrence}
use Rattle.pid_tables.specs.declared.check.meta.Occurrence.TheVariants.{Never, Once, Several}
use Rattle.pid_tables.proofs.OfCheck.ItemFacts.{split, before, last, texts_same}

pub label_first : (r : Row) (label : List ℕ) (n : ℕ) → r ≡ label_row (label, n) → column r 0 ≡ Text label
label_first r label n is = ap (λ (x : Row). column x 0) is

pub label_second : (r : Row) (label : List ℕ) (n : ℕ) → r ≡ label_row (label, n) → column r 1 ≡ number n
label_second r label n is = ap (λ (x : Row). column x 1) is

numbers_same : (m n : ℕ) → number m ≡ number n → m ≡ n
numbers_same m n e = cc

pub one_number : (r : Row) (label : List ℕ) (m n : ℕ) → r ≡ label_row (label, m) → r ≡ label_row (label, n) → m ≡ n
one_number r label m n p q = numbers_same m n (sym (label_second r label m p) ∙ label_second r label n q)

-- ---- a later schema, with one more row

module _ (rows : List Row) (r : Row) where
  pub later_before : (n : ℕ) → IsLater rows (Some n) → IsLater (rows ++ r ∷ []) (Some n)
  later_before n it = (it.0, before rows r _ it.1)

  pub later_here : (o : Option ℕ) → IfSome o (λ n. (2 < n) × (r ≡ label_row (codes "schema", n))) → IfNone o ((n : ℕ) → 2 < n → r ≡ label_row (codes "schema", n) → ⊥) → IsLater rows None → IsLater (rows ++ r ∷ []) o
  later_here (Some n) found none was = (found.0, subst (Has (rows ++ r ∷ [])) found.1 (last rows r))
  later_here None found none was = λ n it. elim (split rows r _ it.1) [ inl early ↦ was n (it.0, early) | inr same ↦ none n it.0 (sym same) ]

-- ---- what is told of a label, with one more row

module _ (label : List ℕ) (rows : List Row) (r : Row) where
  early : (n : ℕ) → HasLabelRow rows label n → HasLabelRow (rows ++ r ∷ []) label n
  early n = before rows r _

  here : (n : ℕ) → r ≡ label_row (label, n) → HasLabelRow (rows ++ r ∷ []) label n
  here n is = subst (Has (rows ++ r ∷ [])) is (last rows r)

  pub told_skipped : ((n : ℕ) → r ≡ label_row (label, n) → ⊥) → (told : Occurrence) → IsToldOfLabel label rows told → IsToldOfLabel label (rows ++ r ∷ []) told
  told_skipped none Never was = λ n has. elim (split rows r _ has) [ inl there ↦ was n there | inr same ↦ none n (sym same) ]
  told_skipped none (Once one) was = λ n. (λ has. elim (split rows r _ has) [ inl there ↦ (was n).0 there | inr same ↦ absurd (none n (sym same)) ], λ same. early n ((was n).1 same))
  told_skipped none Several was = (was.0, was.1, was.2, early was.0 was.3, early was.1 was.4)

  pub told_first : (n : ℕ) → r ≡ label_row (label, n) → IsToldOfLabel label rows Never → IsToldOfLabel label (rows ++ r ∷ []) (Once n)
  told_first n is was m = (
    λ has. elim (split rows r _ has) [ inl there ↦ absurd (was m there) | inr same ↦ one_number r label m n (sym same) is ],
    λ same. subst (HasLabelRow (rows ++ r ∷ []) label) (sym same) (here n is),
  )

  pub told_again : (n one : ℕ) → r ≡ label_row (label, n) → one ≡ n → IsToldOfLabel label rows (Once one) → IsToldOfLabel label (rows ++ r ∷ []) (Once one)
  told_again n one is equal was m = (λ has. elim (split rows r _ has) [ inl there ↦ (was m).0 there | inr same ↦ one_number r label m n (sym same) is ∙ sym equal ], λ same. early m ((was m).1 same))

  pub told_other : (n one : ℕ) → r ≡ label_row (label, n) → (one ≡ n → ⊥) → IsToldOfLabel label rows (Once one) → IsToldOfLabel label (rows ++ r ∷ []) Several
  told_other n one is apart was = (one, n, apart, early one ((was one).1 refl), here n is)

  pub told_more : IsToldOfLabel label rows Several → IsToldOfLabel label (rows ++ r ∷ []) Several
  told_more was = (was.0, was.1, was.2, early was.0 was.3, early was.1 was.4)

-- ---- what is told, and the number that the label has

only_never : (label : List ℕ) (rows : List Row) (told : Occurrence) → IsToldOfLabel label rows told → ((n : ℕ) → HasLabelRow rows label n → ⊥) → told ≡ Never
only_never label rows Never is none = refl
only_never label rows (Once one) is none = absurd (none one ((is one).1 refl))
only_never label rows Several is none = absurd (none is.0 is.3)

only_once : (label : List ℕ) (rows : List Row) (n : ℕ) (told : Occurrence) → IsToldOfLabel label rows told → HasLabelRow rows label n → ((m : ℕ) → HasLabelRow rows label m → m ≡ n) → told ≡ Once n
only_once label rows n Never is has only = absurd (is n has)
only_once label rows n (Once one) is has only = ap Once (only one ((is one).1 refl))
only_once label rows n Several is has only = absurd (is.2 (only is.0 is.3 ∙ sym (only is.1 is.4)))

-- ---- the labels of a registry

entry_of : (label : List ℕ) (n : ℕ) (e : List ℕ × ℕ) → label_row (label, n) ≡ label_row e → e ≡ (label, n)
entry_of label n e is =
    let text : e.0 ≡ label = sym (texts_same _ _ (label_first (label_row (label, n)) e.0 e.1 is)) in
    let value : e.1 ≡ n = sym (numbers_same _ _ (label_second (label_row (label, n)) e.0 e.1 is)) in
    λ i. (text i, value i)

module _ (version : Version) (items submissions revision : ℕ) (rows : List Row) (good : AreLabels version items submissions revision rows) where
  entry : (label : List ℕ) (n : ℕ) → HasLabelRow rows label n → Has (labels version items submissions revision) (label, n)
  entry label n has = let it = good.each _ has in subst (Has (labels version items submissions revision)) (entry_of label n it.0 it.2) it.1

texts : (k l : List ℕ) (m n : ℕ) → ◌≡◌ {A = List ℕ × ℕ} (k, m) (l, n) → k ≡ l
texts k l m n same = ap (λ (x : List ℕ × ℕ). x.0) same

itself : (n : ℕ) → nat_eq n n ≡ true
itself n = grind (arith, nat_tests)

-- labels of other lengths are apart
apart : (k l : List ℕ) (m n : ℕ) → nat_eq (length k) (length l) ≡ false → ◌≡◌ {A = List ℕ × ℕ} (k, m) (l, n) → ⊥
apart k l m n other same = false≢true (sym other ∙ ap (λ (x : List ℕ). nat_eq (length k) (length x)) (sym (texts k l m n same)) ∙ itself (length k))

values : (k l : List ℕ) (m n : ℕ) → ◌≡◌ {A = List ℕ × ℕ} (k, m) (l, n) → m ≡ n
values k l m n same = ap (λ (x : List ℕ × ℕ). x.1) same

module _ (items submissions revision : ℕ) where
  abbrev Listed : Version → List ℕ → ℕ → Type 0
  Listed version label n = Has (labels version items submissions revision) (label, n)

  schema_only : (version : Version) (n : ℕ) → Listed version (codes "schema") n → n ≡ version_number version
  schema_only One n (inl same) = values (codes "schema") (codes "schema") n 1 same
  schema_only Two n (inl same) = values (codes "schema") (codes "schema") n 2 same
  schema_only version n (inr (inl same)) = absurd (apart (codes "schema") (codes "items") n items refl same)
  schema_only version n (inr (inr (inl same))) = absurd (apart (codes "schema") (codes "submissions") n submissions refl same)
  schema_only One n (inr (inr (inr none))) = absurd none
  schema_only Two n (inr (inr (inr (inl same)))) = absurd (apart (codes "schema") (codes "revision") n revision refl same)
  schema_only Two n (inr (inr (inr (inr none)))) = absurd none

  items_only : (version : Version) (n : ℕ) → Listed version (codes "items") n → n ≡ items
  items_only version n (inl same) = absurd (apart (codes "items") (codes "schema") n (version_number version) refl same)
  items_only version n (inr (inl same)) = values (codes "items") (codes "items") n items same
  items_only version n (inr (inr (inl same))) = absurd (apart (codes "items") (codes "submissions") n submissions refl same)
  items_only One n (inr (inr (inr none))) = absurd none
  items_only Two n (inr (inr (inr (inl same)))) = absurd (apart (codes "items") (codes "revision") n revision refl same)
  items_only Two n (inr (inr (inr (inr none)))) = absurd none

  submissions_only : (version : Version) (n : ℕ) → Listed version (codes "submissions") n → n ≡ submissions
  submissions_only version n (inl same) = absurd (apart (codes "submissions") (codes "schema") n (version_number version) refl same)
  submissions_only version n (inr (inl same)) = absurd (apart (codes "submissions") (codes "items") n items refl same)
  submissions_only version n (inr (inr (inl same))) = values (codes "submissions") (codes "submissions") n submissions same
  submissions_only One n (inr (inr (inr none))) = absurd none
  submissions_only Two n (inr (inr (inr (inl same)))) = absurd (apart (codes "submissions") (codes "revision") n revision refl same)
  submissions_only Two n (inr (inr (inr (inr none)))) = absurd none

  no_revision : (n : ℕ) → Listed One (codes "revision") n → ⊥
  no_revision n (inl same) = apart (codes "revision") (codes "schema") n 1 refl same
  no_revision n (inr (inl same)) = apart (codes "revision") (codes "items") n items refl same
  no_revision n (inr (inr (inl same))) = apart (codes "revision") (codes "submissions") n submissions refl same
  no_revision n (inr (inr (inr none))) = none

  revision_only : (n : ℕ) → Listed Two (codes "revision") n → n ≡ revision
  revision_only n (inl same) = absurd (apart (codes "revision") (codes "schema") n 2 refl same)
  revision_only n (inr (inl same)) = absurd (apart (codes "revision") (codes "items") n items refl same)
  revision_only n (inr (inr (inl same))) = absurd (apart (codes "revision") (codes "submissions") n submissions refl same)
  revision_only n (inr (inr (inr (inl same)))) = values (codes "revision") (codes "revision") n revision same
  revision_only n (inr (inr (inr (inr none)))) = absurd none

  is_label : (version : Version) (r : Row) (e : List ℕ × ℕ) → Has (labels version items submissions revision) e → r ≡ label_row e → IsLabel r
  is_label One r e (inl same) is = inl (1, is ∙ ap label_row same)
  is_label Two r e (inl same) is = inl (2, is ∙ ap label_row same)
  is_label version r e (inr (inl same)) is = inr (inl (items, is ∙ ap label_row same))
  is_label version r e (inr (inr (inl same))) is = inr (inr (inl (submissions, is ∙ ap label_row same)))
  is_label One r e (inr (inr (inr none))) is = absurd none
  is_label Two r e (inr (inr (inr (inl same)))) is = inr (inr (inr (revision, is ∙ ap label_row same)))
  is_label Two r e (inr (inr (inr (inr none)))) is = absurd none

module _ (items submissions revision : ℕ) (rows : List Row) (it : Labels) (are : TakesLabels rows it) where
  pub good_of : (version : Version) → AreLabels version items submissions revision rows → IsTrue it.good
  good_of version good = are.good.1 (λ r h. let e = good.each r h in is_label items submissions revision version r e.0 e.1 e.2)

  pub items_of : (version : Version) → AreLabels version items submissions revision rows → it.items ≡ Once items
  items_of version good = only_once (codes "items") rows items it.items are.items (good.there _ (inr (inl refl))) (λ m has. items_only items submissions revision version m (entry version items submissions revision rows good _ m has))

  pub submissions_of : (version : Version) → AreLabels version items submissions revision rows → it.submissions ≡ Once submissions
  submissions_of version good = only_once (codes "submissions") rows submissions it.submissions are.submissions (good.there _ (inr (inr (inl refl)))) (λ m has. submissions_only items submissions revision version m (entry version items submissions revision rows good _ m has))

  pub revision_of : AreLabels Two items submissions revision rows → it.revision ≡ Once revision
  revision_of good = only_once (codes "revision") rows revision it.revision are.revision (good.there _ (inr (inr (inr (inl refl))))) (λ m has. revision_only items submissions revision m (entry Two items submissions revision rows good _ m has))

  schema_of : (version : Version) → AreLabels version items submissions revision rows → it.schema ≡ Once (version_number version)
  schema_of One good = only_once (codes "schema") rows 1 it.schema are.schema (good.there _ (inl refl)) (λ m has. schema_only items submissions revision One m (entry One items submissions revision rows good _ m has))
  schema_of Two good = only_once (codes "schema") rows 2 it.schema are.schema (good.there _ (inl refl)) (λ m has. schema_only items submissions revision Two m (entry Two items submissions revision rows good _ m has))

  pub told_of_schema : (version : Version) → AreLabels version items submissions revision rows → IsToldOfSchema version revision it
  told_of_schema One good = (schema_of One good, only_never (codes "revision") rows it.revision are.revision (λ n has. no_revision items submissions revision n (entry One items submissions revision rows good _ n has)))
  told_of_schema Two good = (schema_of Two good, revision_of good)

  -- a label with one number
  once : (label : List ℕ) (n : ℕ) (told : Occurrence) → IsToldOfLabel label rows told → told ≡ Once n → (m : ℕ) → HasLabelRow rows label m ↔ (m ≡ n)
  once label n told is same = subst (IsToldOfLabel label rows) same is

  never : (label : List ℕ) (told : Occurrence) → IsToldOfLabel label rows told → told ≡ Never → (m : ℕ) → HasLabelRow rows label m → ⊥
  never label told is same = subst (IsToldOfLabel label rows) same is

  row_there : (label : List ℕ) (n : ℕ) (told : Occurrence) → IsToldOfLabel label rows told → told ≡ Once n → (e : List ℕ × ℕ) → e ≡ (label, n) → Has rows (label_row e)
  row_there label n told is same e at = subst (λ (x : List ℕ × ℕ). Has rows (label_row x)) (sym at) ((once label n told is same n).1 refl)

  -- a row of a label with one number
  listed : (label : List ℕ) (n : ℕ) (told : Occurrence) → IsToldOfLabel label rows told → told ≡ Once n → (r : Row) → Has rows r → (m : ℕ) → r ≡ label_row (label, m) → r ≡ label_row (label, n)
  listed label n told is same r h m row = row ∙ ap (λ k. label_row (label, k)) ((once label n told is same m).0 (subst (Has rows) row h))

  module _ (good : IsTrue it.good) (of_items : it.items ≡ Once items) (of_submissions : it.submissions ≡ Once submissions) where
    row_of : (version : Version) → IsToldOfSchema version revision it → (r : Row) → Has rows r → IsLabel r → (e : List ℕ × ℕ) × Has (labels version items submissions revision) e × (r ≡ label_row e)
    row_of One told r h (inl row) = ((codes "schema", 1), inl refl, listed _ 1 it.schema are.schema told.0 r h row.0 row.1)
    row_of Two told r h (inl row) = ((codes "schema", 2), inl refl, listed _ 2 it.schema are.schema told.0 r h row.0 row.1)
    row_of version told r h (inr (inl row)) = ((codes "items", items), inr (inl refl), listed _ items it.items are.items of_items r h row.0 row.1)
    row_of version told r h (inr (inr (inl row))) = ((codes "submissions", submissions), inr (inr (inl refl)), listed _ submissions it.submissions are.submissions of_submissions r h row.0 row.1)
    row_of One told r h (inr (inr (inr row))) = absurd (never _ it.revision are.revision told.1 row.0 (subst (Has rows) row.1 h))
    row_of Two told r h (inr (inr (inr row))) = ((codes "revision", revision), inr (inr (inr (inl refl))), listed _ revision it.revision are.revision told.1 r h row.0 row.1)

    label_there : (version : Version) → IsToldOfSchema version revision it → (e : List ℕ × ℕ) → Has (labels version items submissions revision) e → Has rows (label_row e)
    label_there One told e (inl same) = row_there _ 1 it.schema are.schema told.0 e same
    label_there Two told e (inl same) = row_there _ 2 it.schema are.schema told.0 e same
    label_there version told e (inr (inl same)) = row_there _ items it.items are.items of_items e same
    label_there version told e (inr (inr (inl same))) = row_there _ submissions it.submissions are.submissions of_submissions e same
    label_there One told e (inr (inr (inr none))) = absurd none
    label_there Two told e (inr (inr (inr (inl same)))) = row_there _ revision it.revision are.revision told.1 e same
    label_there Two told e (inr (inr (inr (inr none)))) = absurd none

    pub labels_made : (version : Version) → IsToldOfSchema version revision it → AreLabels version items submissions revision rows
    labels_made version told = record { each = λ r h. row_of version told r h (are.good.0 good r h); there = label_there version told }

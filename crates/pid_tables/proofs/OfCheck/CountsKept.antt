-- Tables that show a sound history are counted.
use Rattle.std.proofs.Common.{◌≡◌, ◌≢◌, inl, inr, ℕ, zero, suc, ◌≤◌, ◌<◌, List, [], ◌∷◌, length, map, Bool, true, false, Option, Some, None, refl, sym, ap, subst, subst₂, ◌∙◌, arith, codes, cond}
use Rattle.std.specs.Prelude.{is_some, bytes_eq, option_map}
use Rattle.std.specs.Ordering.{is_lt, is_eq, eq_by_cmp}
use Rattle.std.specs.List.{AllByRecursion}
use Rattle.std.specs.Cmp.Lexicographic.{nat_list_cmp_total}
use Rattle.std.specs.FinMap.Entries.{is_sorted, below_all}
use Rattle.std.proofs.lemmas.Bool.{and_parts}
use Rattle.std.proofs.lemmas.Cmp.{tied_itself}
use Rattle.std.proofs.lemmas.Slice.Eq.{bytes_eq-Decides}
use Rattle.sqlite.specs.declared.types.Value.TheVariants.{Text}
use Rattle.std.proofs.lemmas.List.{length-map}
use Rattle.sqlite.specs.Order.{Row, column}
use Rattle.sqlite.specs.Tree.{rowid}
use Rattle.sqlite.specs.Effect.{Database}
use Rattle.sqlite_rules.specs.Lists.{Has}
use Rattle.pid_ident.specs.Trees.{text_cmp}
use Rattle.pid_moderation.specs.Items.{Items, name_at}
use Rattle.pid_moderation.specs.Views.{Views, Submitted, submission_at}
use Rattle.pid_tables.proofs.OfRows.Keys.{numbers_decided}
use Rattle.pid_tables.proofs.OfRows.SetLemmas.{tied}
use Rattle.pid_tables.specs.declared.rows.schema_version.Version.{Version}
use Rattle.pid_tables.specs.declared.rows.schema_version.Version.TheVariants.{One, Two}
use Rattle.pid_tables.specs.Rows.Schema.{version_number}
use Rattle.pid_tables.specs.Rows.Shows.{ShowsIn, counts_of, labels_of, more_labels as more_rows}
use Rattle.pid_tables.specs.Rows.TableRows.{meta_row, item_row, submission_row, number}
use Rattle.pid_moderation.specs.Submissions.{Standing}
use Rattle.pid_tables.specs.Check.Conditions.{columns, rows_in, labels_beside, labels, label_row, AreLabels}
use Rattle.pid_tables.proofs.OfRows.Lengths.{IsDistinct, some_there, same_length, mapped, unmapped}
use Rattle.pid_tables.proofs.OfRows.OneRowEach.{rowids_apart, item_keys_apart}
use Rattle.pid_tables.proofs.OfCheck.SubmissionsKept.{submitted_at, there_at, stands_as}

-- ---- items

below : (k : List ℕ) (items : Items) → below_all text_cmp k items ≡ true → AllByRecursion (λ v. Text k ≢ v) (map (λ (e : List ℕ × List ℕ). Text e.0) items)
below k [] h = tt
below k (e ∷ items) h =
    let parts = and_parts _ _ h in
    (λ same. apart k e.0 parts.0 (texts k e.0 same), below k items parts.1)
  where
    texts : (p q : List ℕ) → Text p ≡ Text q → p ≡ q
    texts p q same = cc

    apart : (p q : List ℕ) → is_lt (text_cmp p q) ≡ true → p ≡ q → ⊥
    apart p q less same = let bad : false ≡ true = ap is_lt (sym (tied_itself nat_list_cmp_total q)) ∙ (subst (λ x. is_lt (text_cmp x q) ≡ true) same less) in cc

items_apart : (items : Items) → is_sorted text_cmp items ≡ true → IsDistinct (map (λ (e : List ℕ × List ℕ). Text e.0) items)
items_apart [] h = tt
items_apart (e ∷ items) h = let parts = and_parts _ _ h in (below e.0 items parts.0, items_apart items parts.1)

key_there : (k name : List ℕ) (items : Items) → name_at k items ≡ Some name → Has (map (λ (e : List ℕ × List ℕ). Text e.0) items) (Text k)
key_there k name [] e = absurd cc
key_there k name (i ∷ items) e = chosen (eq_by_cmp text_cmp k i.0) refl (key_there k name items) e
  where
    chosen : (b : Bool) → eq_by_cmp text_cmp k i.0 ≡ b → (name_at k items ≡ Some name → Has (map (λ (e : List ℕ × List ℕ). Text e.0) items) (Text k)) → cond b (Some i.1) (name_at k items) ≡ Some name → Has (map (λ (e : List ℕ × List ℕ). Text e.0) (i ∷ items)) (Text k)
    chosen true t later h = inl (ap Text (tied k i.0 t))
    chosen false t later h = inr (later h)

itself_there : (items : Items) (e : List ℕ × List ℕ) → Has items e → is_some (name_at e.0 items) ≡ true
itself_there [] e h = absurd h
itself_there (i ∷ items) e h = chosen (eq_by_cmp text_cmp e.0 i.0) refl (itself_there items e) h
  where
    chosen : (b : Bool) → eq_by_cmp text_cmp e.0 i.0 ≡ b → (Has items e → is_some (name_at e.0 items) ≡ true) → Has (i ∷ items) e → is_some (cond b (Some i.1) (name_at e.0 items)) ≡ true
    chosen true t rest h = refl
    chosen false t rest (inl same) = absurd (let bad : false ≡ true = sym t ∙ ap (λ (x : List ℕ × List ℕ). eq_by_cmp text_cmp e.0 x.0) (sym same) ∙ ap is_eq (tied_itself nat_list_cmp_total e.0) in cc)
    chosen false t rest (inr later) = rest later

-- ---- submissions

abbrev pub countdown : ℕ → List ℕ
countdown zero = []
countdown (suc n) = suc n ∷ countdown n

pub down_length : (n : ℕ) → length (countdown n) ≡ n
down_length zero = refl
down_length (suc n) = ap suc (down_length n)

pub down_within : (n k : ℕ) → Has (countdown n) k → (1 ≤ k) × (k ≤ n)
down_within zero k h = absurd h
down_within (suc n) k (inl same) = (omega (arith, same), omega (arith, same))
down_within (suc n) k (inr later) = let it = down_within n k later in (it.0, omega (arith, it.1))

pub down_there : (n k : ℕ) → 1 ≤ k → k ≤ n → Has (countdown n) k
down_there zero k low high = absurd (omega (arith, low, high))
down_there (suc n) k low high = elim (numbers_decided k (suc n)) [ inl same ↦ inl same | inr other ↦ inr (down_there n k low (omega (arith, high, other))) ]

numbers_same : (m n : ℕ) → number m ≡ number n → m ≡ n
numbers_same m n same = cc

above_all : (m : ℕ) (ks : List ℕ) → ((k : ℕ) → Has ks k → k < m) → AllByRecursion (λ v. number m ≢ v) (map number ks)
above_all m [] less = tt
above_all m (k ∷ ks) less = ((λ same. let is = numbers_same m k same in let low = less k (inl refl) in omega (arith, is, low)), above_all m ks (λ j h. less j (inr h)))

down_apart : (n : ℕ) → IsDistinct (map number (countdown n))
down_apart zero = tt
down_apart (suc n) = (above_all (suc n) (countdown n) (λ k h. let it = down_within n k h in omega (arith, it.1)), down_apart n)

module _ (version : Version) (db : Database) (v : Views) (shows : ShowsIn version db v) where
  pub items_length : length (db.trees 4) ≡ length v.items
  items_length = same_length (λ r. column r 1) (λ (e : List ℕ × List ℕ). Text e.0) (db.trees 4) v.items
      (item_keys_apart version db shows.sound shows.schema shows.items.ordered (λ r h. let pair = shows.items.sound r h in (pair.id, pair.key, ap rowid pair.is, ap (λ (x : Row). column x 1) pair.is)))
      (items_apart v.items shows.views.sorted)
      (λ r h. let pair = shows.items.sound r h in subst (Has (map (λ (e : List ℕ × List ℕ). Text e.0) v.items)) (sym (ap (λ (x : Row). column x 1) pair.is)) (key_there pair.key pair.value v.items pair.maps))
      (λ e h.
      let name = some_there _ (itself_there v.items e h) in
      let row = shows.items.complete e.0 name.0 name.1 in
      mapped (λ r. column r 1) (db.trees 4) (item_row row.0 e.0 name.0) row.1)

  pub submissions_length : length (db.trees 6) ≡ length v.submits
  submissions_length = same_length rowid number (db.trees 6) (countdown (length v.submits)) (rowids_apart (db.trees 6) shows.submissions.ordered) (down_apart (length v.submits))
      (λ r h.
      let pair = shows.submissions.sound r h in
      let it = stands_as (submission_at pair.key v.submits) (v.state pair.key) pair.value pair.maps in
      let bounds = submitted_at v.submits pair.key pair.value.submitted it.0 in
      subst (Has (map number (countdown (length v.submits)))) (sym (ap rowid pair.is)) (mapped number _ pair.key (down_there _ pair.key bounds.0 bounds.1)))
      (λ n h.
      let bounds = down_within _ n h in
      let s = there_at v.submits n bounds.0 bounds.1 in
      let standing : Standing = record { submitted = s.0; state = v.state n } in
      let row = shows.submissions.complete n standing (ap (option_map (λ (s : Submitted). record { submitted = s; state = v.state n })) s.1) in
      mapped rowid (db.trees 6) (submission_row row.0 n standing) row.1)
      ∙ down_length (length v.submits)

  abbrev Told : List ℕ × ℕ → Type 0
  Told e = Has (labels version (length v.items) (length v.submits) v.revision) e

  same_pair : (key l : List ℕ) (value n : ℕ) → bytes_eq key l ≡ true → ◌≡◌ {A = Option ℕ} (Some n) (Some value) → ◌≡◌ {A = List ℕ × ℕ} (key, value) (l, n)
  same_pair key l value n t same = let is : key ≡ l = (bytes_eq-Decides key l).0 t in let that : n ≡ value = cc in λ i. (is i, sym that i)

  more_told : (it : Version) (key : List ℕ) (value : ℕ) → more_rows it v.revision key ≡ Some value → Has {X = List ℕ × ℕ} (labels_beside it v.revision) (key, value)
  more_told One key value e = absurd cc
  more_told Two key value e = go (bytes_eq key (codes "revision")) refl e
    where
      go : (b : Bool) → bytes_eq key (codes "revision") ≡ b → cond b (Some v.revision) None ≡ Some value → Has {X = List ℕ × ℕ} ((codes "revision", v.revision) ∷ []) (key, value)
      go true t same = inl (same_pair key (codes "revision") value v.revision t same)
      go false t same = absurd cc

  label_told : (key : List ℕ) (value : ℕ) → labels_of version (counts_of v) v.revision key ≡ Some value → Told (key, value)
  label_told key value e = go (bytes_eq key (codes "schema")) refl (bytes_eq key (codes "items")) refl (bytes_eq key (codes "submissions")) refl e
    where
      go : (a : Bool) → bytes_eq key (codes "schema") ≡ a → (b : Bool) → bytes_eq key (codes "items") ≡ b → (d : Bool) → bytes_eq key (codes "submissions") ≡ d
          → cond a (Some (version_number version)) (cond b (Some (length v.items)) (cond d (Some (length v.submits)) (more_rows version v.revision key))) ≡ Some value → Told (key, value)
      go true p b q d r same = inl (same_pair key (codes "schema") value (version_number version) p same)
      go false p true q d r same = inr (inl (same_pair key (codes "items") value (length v.items) q same))
      go false p false q true r same = inr (inr (inl (same_pair key (codes "submissions") value (length v.submits) r same)))
      go false p false q false r same = inr (inr (inr (more_told version key value same)))

  at : (label : List ℕ) (n : ℕ) → labels_of version (counts_of v) v.revision label ≡ Some n → (e : List ℕ × ℕ) → e ≡ (label, n) → Has (rows_in db.trees).meta (label_row e)
  at label n is e same = let row = shows.meta.complete label n is in subst (λ (x : List ℕ × ℕ). Has (rows_in db.trees).meta (label_row x)) (sym same) (mapped (columns (1 ∷ 2 ∷ [])) (db.trees 0) (meta_row row.0 label n) row.1)

  more_there : (it : Version) → it ≡ version → (e : List ℕ × ℕ) → Has (labels_beside it v.revision) e → Has (rows_in db.trees).meta (label_row e)
  more_there One is e none = absurd none
  more_there Two is e (inl same) = at (codes "revision") v.revision (ap (λ x. labels_of x (counts_of v) v.revision (codes "revision")) (sym is)) e same
  more_there Two is e (inr none) = absurd none

  told_there : (e : List ℕ × ℕ) → Told e → Has (rows_in db.trees).meta (label_row e)
  told_there e (inl same) = at (codes "schema") (version_number version) refl e same
  told_there e (inr (inl same)) = at (codes "items") (length v.items) refl e same
  told_there e (inr (inr (inl same))) = at (codes "submissions") (length v.submits) refl e same
  told_there e (inr (inr (inr more))) = more_there version refl e more

  pub labels_kept : AreLabels version (length (rows_in db.trees).items) (length (rows_in db.trees).submissions) v.revision (rows_in db.trees).meta
  labels_kept = subst₂ (λ x y. AreLabels version x y v.revision (rows_in db.trees).meta) (sym (length-map (db.trees 4) (columns (1 ∷ 2 ∷ [])) ∙ items_length))
      (sym (length-map (db.trees 6) (columns (0 ∷ 2 ∷ 3 ∷ 4 ∷ 5 ∷ 6 ∷ 7 ∷ 8 ∷ 9 ∷ [])) ∙ submissions_length)) (record {
        each = λ r h.
            let from = unmapped (columns (1 ∷ 2 ∷ [])) (db.trees 0) r h in
            let pair = shows.meta.sound from.0 from.1 in
            ((pair.key, pair.value), label_told pair.key pair.value pair.maps, from.2 ∙ ap (columns (1 ∷ 2 ∷ [])) pair.is);
        there = told_there;
      })

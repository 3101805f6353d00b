-- How the maps that tables keep change with the views.
use Rattle.std.proofs.Common.{◌≡◌, ◌≢◌, inl, inr, ℕ, zero, suc, ◌+◌, Bool, T, List, [], ◌∷◌, ◌++◌, length, true, false, not, cond, None, Some, Option, IsSome, refl, sym, ap, subst, ◌∙◌, codes, arith, slice_get}
use Rattle.std.specs.Prelude.{bytes_eq, ◌==◌, ◌&&◌, option_map, if◌then◌else◌}
use Rattle.std.specs.List.{AllByRecursion}
use Rattle.std.specs.declared.cmp.Ordering.{Ordering}
use Rattle.std.specs.declared.cmp.Ordering.TheVariants.{Less, Equal, Greater}
use Rattle.std.specs.Ordering.{eq_by_cmp, is_eq}
use Rattle.std.specs.Cmp.Lexicographic.{nat_list_cmp_total}
use Rattle.std.specs.FinMap.{nat_cmp-IsAntisymmetric, slice_cmp-IsAntisymmetric}
use Rattle.std.specs.FinMap.Entries.{put, where_key, is_sorted, is_sorted-put, is_sorted-where_key, find-put, find-where_key}
use Rattle.std.proofs.lemmas.Cmp.{tied_itself}
use Rattle.std.proofs.lemmas.Bool.{cases_Bool, and_parts, false_from_ne_true, both_ways}
use Rattle.std.proofs.lemmas.Bool.Decides.{Decides-eqb}
use Rattle.std.proofs.lemmas.Option.{slice_get_past}
use Rattle.std.proofs.lemmas.Slice.Eq.{bytes_eq-Decides}
use Rattle.pid_ident.specs.Trees.{text_cmp}
use Rattle.pid_moderation.specs.declared.command.Reply.{Reply}
use Rattle.pid_moderation.specs.declared.facts.State.{State}
use Rattle.pid_moderation.specs.declared.facts.State.TheVariants.{Pending, Approved, Rejected, Withdrawn}
use Rattle.pid_moderation.specs.Items.{Items, name_at}
use Rattle.pid_moderation.specs.Views.{Views, Submitted, Remark, submission_at, is_named_anew}
use Rattle.pid_tables.specs.Rows.PairRows.{Map}
use Rattle.pid_tables.specs.declared.rows.schema_version.Version.{Version}
use Rattle.pid_tables.specs.declared.rows.schema_version.Version.TheVariants.{One, Two}
use Rattle.pid_tables.specs.Rows.Schema.{version_number}
use Rattle.pid_moderation.specs.Submissions.{Standing, decider_of, standing_in}
use Rattle.pid_tables.specs.Rows.Shows.{Counts, labels_of, more_labels, counted_from_one, remark_in, receipt_in, since_in, numbers_in}
use Rattle.pid_tables.specs.Rows.Steps.Writes.{with_name}
use Rattle.pid_tables.specs.Rows.Steps.Writes.{without_item, with_submission, with_state, with_remark, with_reply}
use Rattle.pid_tables.specs.Rows.Steps.Writes.{with_number, NamesDecider}
use Rattle.pid_tables.proofs.OfRows.MapLemmas.{Sets}

holds : (b : Bool) → T b → b ≡ true
holds true h = refl
holds false h = absurd h

told : (b : Bool) → b ≡ true → T b
told true h = tt
told false h = absurd cc

pub text_set : {V : Type 0} (m : Map (List ℕ) V) (key : List ℕ) (value : Option V) → Sets m key value (λ k. cond (bytes_eq k key) value (m k))
text_set m key value = record {
  at = ap (λ b. cond b value (m key)) ((bytes_eq-Decides key key).1 refl);
  past = λ k other. ap (λ b. cond b value (m k)) (false_from_ne_true _ (λ same. other ((bytes_eq-Decides k key).0 same)));
}

-- ---- items

equal_order : (o : Ordering) → is_eq o ≡ true → o ≡ Equal
equal_order Less h = absurd cc
equal_order Equal h = refl
equal_order Greater h = absurd cc

-- texts that tie are one
pub tied : (q k : List ℕ) → eq_by_cmp text_cmp q k ≡ true → q ≡ k
tied q k h = slice_cmp-IsAntisymmetric nat_cmp-IsAntisymmetric q k (equal_order (text_cmp q k) h)

itself : (k : List ℕ) → eq_by_cmp text_cmp k k ≡ true
itself k = ap is_eq (tied_itself nat_list_cmp_total k)

differs : (q k : List ℕ) → q ≢ k → eq_by_cmp text_cmp q k ≡ false
differs q k other = false_from_ne_true _ (λ same. other (tied q k same))

pub put_sorted : (path name : List ℕ) (items : Items) → is_sorted text_cmp items ≡ true → is_sorted text_cmp (put text_cmp path name items) ≡ true
put_sorted path name items h = holds _ (is_sorted-put text_cmp nat_list_cmp_total path name items (told _ h))

pub left_sorted : (path : List ℕ) (items : Items) → is_sorted text_cmp items ≡ true → is_sorted text_cmp (where_key text_cmp (λ k. not (eq_by_cmp text_cmp path k)) items) ≡ true
left_sorted path items h = holds _ (is_sorted-where_key text_cmp (λ k. not (eq_by_cmp text_cmp path k)) items (told _ h))

pub name_put : (items : Items) (path name : List ℕ) → Sets (λ p. name_at p items) path (Some name) (λ p. name_at p (put text_cmp path name items))
name_put items path name = record {
  at = find-put text_cmp nat_list_cmp_total path path name items ∙ ap (λ b. cond b (Some name) (name_at path items)) (itself path);
  past = λ k other. find-put text_cmp nat_list_cmp_total k path name items ∙ ap (λ b. cond b (Some name) (name_at k items)) (differs k path other);
}

pub name_left : (items : Items) (path : List ℕ) → Sets (λ p. name_at p items) path None (λ p. name_at p (where_key text_cmp (λ k. not (eq_by_cmp text_cmp path k)) items))
name_left items path = record {
  at = found path ∙ ap (λ b. cond (not b) (name_at path items) None) (itself path);
  past = λ k other. found k ∙ ap (λ b. cond (not b) (name_at k items) None) (differs path k (λ same. other (sym same)));
}
  where
    found : (q : List ℕ) → name_at q (where_key text_cmp (λ k. not (eq_by_cmp text_cmp path k)) items) ≡ cond (not (eq_by_cmp text_cmp path q)) (name_at q items) None
    found q = find-where_key text_cmp (λ k. not (eq_by_cmp text_cmp path k)) q (λ x e. ap (λ (y : List ℕ). not (eq_by_cmp text_cmp path y)) (sym (slice_cmp-IsAntisymmetric nat_cmp-IsAntisymmetric q x e))) items

-- ---- counts

labels_past : (k : List ℕ) (a b x : Bool) (one i j s t more : Option ℕ) → (a ≡ true → i ≡ j) → ((b ≡ true) → s ≡ t) → cond x one (cond a i (cond b s more)) ≡ cond x one (cond a j (cond b t more))
labels_past k a b true one i j s t more f g = refl
labels_past k true b false one i j s t more f g = f refl
labels_past k false true false one i j s t more f g = g refl
labels_past k false false false one i j s t more f g = refl

pub items_set : (version : Version) (c : Counts) (revision n : ℕ) → Sets (labels_of version c revision) (codes "items") (Some n) (labels_of version (record c { items = n }) revision)
items_set version c revision n = record {
  at = refl;
  past = λ k other. labels_past k (bytes_eq k (codes "items")) (bytes_eq k (codes "submissions")) (bytes_eq k (codes "schema")) (Some (version_number version)) (Some n) (Some c.items) (Some c.submissions) (Some c.submissions) (more_labels version revision k)
      (λ same. absurd (other ((bytes_eq-Decides k (codes "items")).0 same))) (λ _. refl);
}

pub submissions_set : (version : Version) (c : Counts) (revision n : ℕ) → Sets (labels_of version c revision) (codes "submissions") (Some n) (labels_of version (record c { submissions = n }) revision)
submissions_set version c revision n = record {
  at = refl;
  past = λ k other. labels_past k (bytes_eq k (codes "items")) (bytes_eq k (codes "submissions")) (bytes_eq k (codes "schema")) (Some (version_number version)) (Some c.items) (Some c.items) (Some n) (Some c.submissions) (more_labels version revision k)
      (λ _. refl) (λ same. absurd (other ((bytes_eq-Decides k (codes "submissions")).0 same)));
}

pub revision_set : (c : Counts) (revision n : ℕ) → Sets (labels_of Two c revision) (codes "revision") (Some n) (labels_of Two c n)
revision_set c revision n = record {
  at = refl;
  past = λ k other. revision_past (bytes_eq k (codes "schema")) (bytes_eq k (codes "items")) (bytes_eq k (codes "submissions")) (bytes_eq k (codes "revision"))
      (λ same. other ((bytes_eq-Decides k (codes "revision")).0 same));
}
  where
    revision_past : (a b x r : Bool) → (r ≡ true → ⊥) → cond a (Some 2) (cond b (Some c.items) (cond x (Some c.submissions) (cond r (Some n) None))) ≡ cond a (Some 2) (cond b (Some c.items) (cond x (Some c.submissions) (cond r (Some revision) None)))
    revision_past true b x r other = refl
    revision_past false true x r other = refl
    revision_past false false true r other = refl
    revision_past false false false true other = absurd (other refl)
    revision_past false false false false other = refl

-- the labels of schema 1, with a revision of 0
abbrev pub labels_between : Counts → Map (List ℕ) ℕ
labels_between c label = if bytes_eq label (codes "revision") then Some 0 else labels_of One c 0 label

-- with the number of schema 2 they are those of schema 2
pub schema_raised : (c : Counts) → Sets (labels_between c) (codes "schema") (Some 2) (labels_of Two c 0)
schema_raised c = record {
  at = refl;
  past = λ k other. elim (cases_Bool (bytes_eq k (codes "revision"))) [
    | inl same ↦ subst (λ label. labels_of Two c 0 label ≡ labels_between c label) (sym ((bytes_eq-Decides k (codes "revision")).0 same)) refl
    | inr differ ↦ no_revision k (bytes_eq k (codes "revision")) differ (bytes_eq k (codes "schema")) (bytes_eq k (codes "items")) (bytes_eq k (codes "submissions")) (λ same. other ((bytes_eq-Decides k (codes "schema")).0 same))
  ];
}
  where
    no_revision : (k : List ℕ) (r : Bool) → r ≡ false → (a b x : Bool) → (a ≡ true → ⊥)
        → cond a (Some 2) (cond b (Some c.items) (cond x (Some c.submissions) (cond r (Some 0) None))) ≡ cond r (Some 0) (cond a (Some 1) (cond b (Some c.items) (cond x (Some c.submissions) None)))
    no_revision k true is a b x other = absurd (let bad : ⊥ = cc in bad)
    no_revision k false is true b x other = absurd (other refl)
    no_revision k false is false true x other = refl
    no_revision k false is false false true other = refl
    no_revision k false is false false false other = refl

-- ---- numbers of items

pub since_left : (v : Views) (path : List ℕ) → Sets (since_in v) path None (since_in (without_item path v))
since_left v path =
    let left = name_left v.items path in
    record { at = ap (option_map (λ (name : List ℕ). v.since path)) left.at; past = λ k other. ap (option_map (λ (name : List ℕ). v.since k)) (left.past k other) }

named_as_before : (o : Option (List ℕ)) (n since : ℕ) → option_map (λ (name : List ℕ). cond (is_named_anew o o) n since) o ≡ option_map (λ (name : List ℕ). since) o
named_as_before None n since = refl
named_as_before (Some name) n since = ap (λ b. Some (cond (not b) n since)) ((bytes_eq-Decides name name).1 refl)

-- the number of the path that is named anew, and of no other
pub since_named : (n : ℕ) (path name : List ℕ) (v : Views) → is_named_anew (name_at path v.items) (Some name) ≡ true → (k : List ℕ) → (with_number path n (numbers_in v)).since k ≡ since_in (with_name n path name v) k
since_named n path name v anew k = elim (cases_Bool (bytes_eq k path)) [
  | inl same ↦
      let is : k ≡ path = (bytes_eq-Decides k path).0 same in
      let at_path : Some n ≡ since_in (with_name n path name v) path = sym (ap (λ o. option_map (λ (name : List ℕ). cond (is_named_anew (name_at path v.items) o) n (v.since path)) o) put_name.at ∙ ap (λ b. Some (cond b n (v.since path))) anew) in
      ap (λ b. cond b (Some n) (since_in v k)) same ∙ subst (λ p. Some n ≡ since_in (with_name n path name v) p) (sym is) at_path
  | inr differ ↦
      let past = put_name.past k (λ is. both_ways _ differ ((bytes_eq-Decides k path).1 is)) in
      ap (λ b. cond b (Some n) (since_in v k)) differ ∙ sym (ap (λ o. option_map (λ (name : List ℕ). cond (is_named_anew (name_at k v.items) o) n (v.since k)) o) past ∙ named_as_before (name_at k v.items) n (v.since k))
]
  where
    put_name : Sets (λ p. name_at p v.items) path (Some name) (λ p. name_at p (put text_cmp path name v.items))
    put_name = name_put v.items path name

-- ---- places in lists

past_end : {X : Type 0} (xs : List X) → slice_get xs (length xs) ≡ None
past_end xs = slice_get_past xs (length xs) (omega arith)

last_there : {X : Type 0} (xs : List X) (x : X) → slice_get (xs ++ x ∷ []) (length xs) ≡ Some x
last_there [] x = refl
last_there (y ∷ xs) x = last_there xs x

elsewhere : {X : Type 0} (xs : List X) (x : X) (i : ℕ) → i ≢ length xs → slice_get (xs ++ x ∷ []) i ≡ slice_get xs i
elsewhere [] x zero other = absurd (other refl)
elsewhere [] x (suc i) other = refl
elsewhere (y ∷ xs) x zero other = refl
elsewhere (y ∷ xs) x (suc i) other = elsewhere xs x i (λ e. other (ap suc e))

-- ---- submissions

pub past_the_last : (submits : List Submitted) (n : ℕ) → n ≡ length submits + 1 → submission_at n submits ≡ None
past_the_last submits zero e = refl
past_the_last submits (suc n) e = let same : n ≡ length submits = omega arith in subst (λ i. slice_get submits i ≡ None) (sym same) (past_end submits)

last_submitted : (submits : List Submitted) (s : Submitted) (n : ℕ) → n ≡ length submits + 1 → submission_at n (submits ++ s ∷ []) ≡ Some s
last_submitted submits s zero e = absurd (omega arith)
last_submitted submits s (suc n) e = let same : n ≡ length submits = omega arith in subst (λ i. slice_get (submits ++ s ∷ []) i ≡ Some s) (sym same) (last_there submits s)

others_submitted : (submits : List Submitted) (s : Submitted) (n k : ℕ) → n ≡ length submits + 1 → k ≢ n → submission_at k (submits ++ s ∷ []) ≡ submission_at k submits
others_submitted submits s n zero e other = refl
others_submitted submits s n (suc k) e other = elsewhere submits s k (λ same. other (omega arith))

pub not_before : (submits : List Submitted) (s : Submitted) (k : ℕ) → submission_at k (submits ++ s ∷ []) ≡ None → submission_at k submits ≡ None
not_before submits s zero none = refl
not_before submits s (suc k) none = go submits k none
  where
    go : (xs : List Submitted) (i : ℕ) → slice_get (xs ++ s ∷ []) i ≡ None → slice_get xs i ≡ None
    go [] i none = refl
    go (x ∷ xs) zero none = none
    go (x ∷ xs) (suc i) none = go xs i none

pub all_with : {X : Type 0} (P : X → Type 0) (xs : List X) (x : X) → AllByRecursion P xs → P x → AllByRecursion P (xs ++ x ∷ [])
all_with P [] x all it = (it, tt)
all_with P (y ∷ xs) x all it = (all.0, all_with P xs x all.1 it)

standing : State → Submitted → Standing
standing state s = record { submitted = s; state = state }

pub submission_set : (v : Views) (s : Submitted) (n : ℕ) → n ≡ length v.submits + 1 → v.state n ≡ Pending → Sets (standing_in v) n (Some (record { submitted = s; state = Pending })) (standing_in (with_submission s v))
submission_set v s n last pending = record {
  at = ap (option_map (λ (s : Submitted). record { submitted = s; state = v.state n })) (last_submitted v.submits s n last) ∙ ap (λ state. Some (record { submitted = s; state = state })) pending;
  past = λ k other. ap (option_map (λ (s : Submitted). record { submitted = s; state = v.state k })) (others_submitted v.submits s n k last other);
}

number_differs : (k n : ℕ) → k ≢ n → (k == n) ≡ false
number_differs k n other = false_from_ne_true _ (λ same. other ((Decides-eqb k n).0 same))

number_itself : (n : ℕ) → (n == n) ≡ true
number_itself n = (Decides-eqb n n).1 refl

pub state_set : (v : Views) (n : ℕ) (state : State) (s : Submitted) → submission_at n v.submits ≡ Some s → Sets (standing_in v) n (Some (record { submitted = s; state = state })) (standing_in (with_state n state v))
state_set v n state s there = record {
  at = ap (option_map _) there ∙ ap (λ b. Some (record { submitted = s; state = cond b state (v.state n) })) (number_itself n);
  past = λ k other. ap (λ b. option_map (λ (s : Submitted). record { submitted = s; state = cond b state (v.state k) }) (submission_at k v.submits)) (number_differs k n other);
}

none_is_some : {X : Type 0} (o : Option X) → o ≡ None → IsSome o → ⊥
none_is_some None e h = let bad : ⊥ = cc in bad
none_is_some (Some x) e h = cc

pub not_there : (v : Views) (n : ℕ) (state : State) → IsSome (submission_at n v.submits) → (k : ℕ) → submission_at k v.submits ≡ None → v.state k ≡ Pending → cond (k == n) state (v.state k) ≡ Pending
not_there v n state there k none pending =
    let other : k ≢ n = λ same. none_is_some (submission_at n v.submits) (subst (λ i. submission_at i v.submits ≡ None) same none) there in
    ap (λ b. cond b state (v.state k)) (number_differs k n other) ∙ pending

pub any_author : (author : List ℕ) (state : State) → NamesDecider state → decider_of [] state ≡ decider_of author state
any_author author Pending h = refl
any_author author (Approved decider) h = refl
any_author author (Rejected decider reason) h = refl
any_author author Withdrawn h = absurd h

-- ---- remarks

pub past_all : {X : Type 0} (xs : List X) (place : ℕ) → place ≡ length xs + 1 → counted_from_one place xs ≡ None
past_all xs zero e = refl
past_all xs (suc n) e = let same : n ≡ length xs = omega arith in subst (λ i. slice_get xs i ≡ None) (sym same) (past_end xs)

last_counted : {X : Type 0} (xs : List X) (x : X) (place : ℕ) → place ≡ length xs + 1 → counted_from_one place (xs ++ x ∷ []) ≡ Some x
last_counted xs x zero e = absurd (omega arith)
last_counted xs x (suc n) e = let same : n ≡ length xs = omega arith in subst (λ i. slice_get (xs ++ x ∷ []) i ≡ Some x) (sym same) (last_there xs x)

others_counted : {X : Type 0} (xs : List X) (x : X) (place k : ℕ) → place ≡ length xs + 1 → k ≢ place → counted_from_one k (xs ++ x ∷ []) ≡ counted_from_one k xs
others_counted xs x place zero e other = refl
others_counted xs x place (suc k) e other = elsewhere xs x k (λ same. other (omega arith))

pub remark_set : (v : Views) (n : ℕ) (r : Remark) (place : ℕ) → place ≡ length (v.remarks n) + 1 → Sets (remark_in v) (n, place) (Some r) (remark_in (with_remark n r v))
remark_set v n r place last = record {
  at = ap (λ b. counted_from_one place (cond b (v.remarks n ++ r ∷ []) (v.remarks n))) (number_itself n) ∙ last_counted (v.remarks n) r place last;
  past = λ k other. elim (cases_Bool (k.0 == n)) [
    | inl same ↦
        let is : k.0 ≡ n = (Decides-eqb k.0 n).0 same in
        let elsewhere_in : k.1 ≢ place = λ e. other (λ i. (is i, e i)) in
        ap (λ b. counted_from_one k.1 (cond b (v.remarks k.0 ++ r ∷ []) (v.remarks k.0))) same
        ∙ others_counted (v.remarks k.0) r place k.1 (subst (λ m. place ≡ length (v.remarks m) + 1) (sym is) last) elsewhere_in
    | inr differ ↦ ap (λ b. counted_from_one k.1 (cond b (v.remarks k.0 ++ r ∷ []) (v.remarks k.0))) differ
  ];
}

-- ---- receipts

pub reply_set : (v : Views) (who token : List ℕ) (reply : Reply) → Sets (receipt_in v) (who, token) (Some reply) (receipt_in (with_reply who token reply v))
reply_set v who token reply = record {
  at = ap (λ b. cond b (Some reply) (v.kept who token)) (both_true (bytes_eq who who) (bytes_eq token token) ((bytes_eq-Decides who who).1 refl) ((bytes_eq-Decides token token).1 refl));
  past = λ k other. ap (λ b. cond b (Some reply) (v.kept k.0 k.1)) (false_from_ne_true _ (λ same.
      let parts = and_parts _ _ same in
      let first = (bytes_eq-Decides k.0 who).0 parts.0 in
      let second = (bytes_eq-Decides k.1 token).0 parts.1 in
      other (λ i. (first i, second i))));
}
  where
    both_true : (a b : Bool) → a ≡ true → b ≡ true → (a && b) ≡ true
    both_true true true p q = refl
    both_true true false p q = q
    both_true false b p q = p

-- The tables keep their maps by their keys, and what columns make of the values written to them.
use Rattle.std.proofs.Common.{◌≡◌, ◌≢◌, ◌⊎◌, inl, inr, ℕ, pos, List, [], ◌∷◌, refl, ap}
use Rattle.std.proofs.lemmas.Bool.{cases_Bool, and_parts, and_from, both_ways}
use Rattle.std.proofs.lemmas.Slice.Eq.{bytes_eq-Decides}
use Rattle.std.specs.Prelude.{bytes_eq, ◌==◌}
use Rattle.std.proofs.lemmas.Bool.Decides.{Decides-eqb}
use Rattle.pid_ident.specs.PathTexts.{path_text}
use Rattle.sqlite.specs.declared.types.Value.{Value}
use Rattle.sqlite.specs.declared.types.Value.TheVariants.{Null, Int, Text}
use Rattle.sqlite.specs.Order.{Row}
use Rattle.sqlite.specs.Cast.{cast, cast_row}
use Rattle.sqlite.specs.Kind.TheVariants.{Integer}
use Rattle.pid_moderation.specs.declared.command.Reply.{Reply}
use Rattle.pid_moderation.specs.Ranks.{rank_number}
use Rattle.pid_moderation.specs.Views.{Remark}
use Rattle.pid_tables.specs.Rows.Schema.{meta, account, item, submission, remark, receipt, item_since}
use Rattle.pid_tables.specs.Rows.TableRows.{number, meta_row, account_row, item_row, submission_row, remark_row, receipt_row, since_row, form_of, name_of, state_number, reply_kind, first_number, second_number, third_number}
use Rattle.pid_moderation.specs.Submissions.{Standing, decider_of, reason_of}
use Rattle.pid_tables.proofs.OfRows.Select.{texts_equal, text_equal, integers_equal, integer_equal}
use Rattle.pid_tables.proofs.OfRows.WriteLemmas.{IsPlainTable, cast_null, cast_int}
use Rattle.pid_tables.proofs.OfRows.MapLemmas.{Finds}
use Rattle.pid_tables.proofs.OfRows.KeyTexts.{by_first, by_rowid, by_both}

-- ---- equality of keys

abbrev Decided : {X : Type 0} → X → X → Type 0
Decided x y = (x ≡ y) ⊎ (x ≢ y)

pub texts_decided : (p q : List ℕ) → Decided p q
texts_decided p q = elim (cases_Bool (bytes_eq p q)) [
  | inl same ↦ inl ((bytes_eq-Decides p q).0 same)
  | inr differ ↦ inr (λ is. both_ways _ differ ((bytes_eq-Decides p q).1 is))
]

pub numbers_decided : (m n : ℕ) → Decided m n
numbers_decided m n = elim (cases_Bool (m == n)) [
  | inl same ↦ inl ((Decides-eqb m n).0 same)
  | inr differ ↦ inr (λ is. both_ways _ differ ((Decides-eqb m n).1 is))
]

both_decided : {X Y : Type 0} (p q : X × Y) → Decided p.0 q.0 → Decided p.1 q.1 → Decided p q
both_decided p q (inl first) (inl second) = inl (λ i. (first i, second i))
both_decided p q (inr first) other = inr (λ is. first (ap (λ x. x.0) is))
both_decided p q (inl first) (inr second) = inr (λ is. second (ap (λ x. x.1) is))

pub pos_same : (m n : ℕ) → pos m ≡ pos n → m ≡ n
pos_same m n e = cc

-- ---- what finds the row of a key

module _ {V : Type 0} (rest : V → Row) where
  pub text_found : Finds (λ id key v. Int id ∷ Text key ∷ rest v) by_first (λ key. Text key ∷ [])
  text_found = record {
    decides = texts_decided;
    has_id = λ id k v. (id, refl);
    hit = λ id k v more. and_from _ _ (text_equal k) refl;
    only = λ id k l v more passed. texts_equal l k (and_parts _ _ passed).0;
  }

  pub number_found : Finds (λ id (n : ℕ) v. number n ∷ rest v) by_rowid (λ n. number n ∷ [])
  number_found = record {
    decides = numbers_decided;
    has_id = λ id n v. (pos n, refl);
    hit = λ id n v more. and_from _ _ (integer_equal (pos n)) refl;
    only = λ id m n v more passed. pos_same n m (integers_equal (pos n) (pos m) (and_parts _ _ passed).0);
  }

  pub texts_found : Finds (λ id (at : List ℕ × List ℕ) v. Int id ∷ Text at.0 ∷ Text at.1 ∷ rest v) by_both (λ at. Text at.0 ∷ Text at.1 ∷ [])
  texts_found = record {
    decides = λ p q. both_decided p q (texts_decided p.0 q.0) (texts_decided p.1 q.1);
    has_id = λ id at v. (id, refl);
    hit = λ id at v more. and_from _ _ (text_equal at.0) (and_from _ _ (text_equal at.1) refl);
    only = λ id at b v more passed.
        let parts = and_parts _ _ passed in
        let first = texts_equal b.0 at.0 parts.0 in
        let second = texts_equal b.1 at.1 (and_parts _ _ parts.1).0 in
        λ i. (first i, second i);
  }

  pub numbers_found : Finds (λ id (at : ℕ × ℕ) v. Int id ∷ number at.0 ∷ number at.1 ∷ rest v) by_both (λ at. number at.0 ∷ number at.1 ∷ [])
  numbers_found = record {
    decides = λ p q. both_decided p q (numbers_decided p.0 q.0) (numbers_decided p.1 q.1);
    has_id = λ id at v. (id, refl);
    hit = λ id at v more. and_from _ _ (integer_equal (pos at.0)) (and_from _ _ (integer_equal (pos at.1)) refl);
    only = λ id at b v more passed.
        let parts = and_parts _ _ passed in
        let first = pos_same b.0 at.0 (integers_equal (pos b.0) (pos at.0) parts.0) in
        let second = pos_same b.1 at.1 (integers_equal (pos b.1) (pos at.1) (and_parts _ _ parts.1).0) in
        λ i. (first i, second i);
  }

pub meta_found : Finds meta_row by_first (λ key. Text key ∷ [])
meta_found = text_found (λ n. number n ∷ [])

pub account_found : Finds account_row by_first (λ key. Text key ∷ [])
account_found = text_found (λ rank. number (rank_number rank) ∷ [])

pub item_found : Finds item_row by_first (λ key. Text key ∷ [])
item_found = text_found (λ name. Text name ∷ [])

pub submission_found : Finds submission_row by_rowid (λ n. number n ∷ [])
submission_found = number_found (λ (s : Standing). Null ∷ Text s.submitted.author ∷ Text (path_text s.submitted.path) ∷ number (form_of s.submitted.proposal) ∷ Text (name_of s.submitted.proposal)
    ∷ Text s.submitted.note ∷ number (state_number s.state) ∷ Text (decider_of s.submitted.author s.state) ∷ Text (reason_of s.state) ∷ [])

pub remark_found : Finds remark_row by_both (λ at. number at.0 ∷ number at.1 ∷ [])
remark_found = numbers_found (λ (r : Remark). Text r.author ∷ Text r.text ∷ [])

pub receipt_found : Finds receipt_row by_both (λ at. Text at.0 ∷ Text at.1 ∷ [])
receipt_found = texts_found (λ (r : Reply). number (reply_kind r) ∷ number (first_number r) ∷ number (second_number r) ∷ number (third_number r) ∷ [])

pub since_found : Finds since_row by_first (λ key. Text key ∷ [])
since_found = text_found (λ n. number n ∷ [])

-- ---- the tables take no count of their own, and no default reads the time

pub meta_plain : IsPlainTable meta
meta_plain = record { uncounted = refl; unstamped = refl }

pub account_plain : IsPlainTable account
account_plain = record { uncounted = refl; unstamped = refl }

pub item_plain : IsPlainTable item
item_plain = record { uncounted = refl; unstamped = refl }

pub submission_plain : IsPlainTable submission
submission_plain = record { uncounted = refl; unstamped = refl }

pub remark_plain : IsPlainTable remark
remark_plain = record { uncounted = refl; unstamped = refl }

pub receipt_plain : IsPlainTable receipt
receipt_plain = record { uncounted = refl; unstamped = refl }

pub since_plain : IsPlainTable item_since
since_plain = record { uncounted = refl; unstamped = refl }

-- ---- columns take the values as they are

pub meta_cast : (id : Value) (label : List ℕ) (n : ℕ) → cast_row meta (id ∷ Text label ∷ number n ∷ []) ≡ cast Integer id ∷ Text label ∷ number n ∷ []
meta_cast id label n = ap (λ w. cast Integer id ∷ Text label ∷ w ∷ []) (cast_int (pos n))

pub account_cast : (id : Value) (name : List ℕ) (n : ℕ) → cast_row account (id ∷ Text name ∷ number n ∷ []) ≡ cast Integer id ∷ Text name ∷ number n ∷ []
account_cast id name n = ap (λ w. cast Integer id ∷ Text name ∷ w ∷ []) (cast_int (pos n))

pub item_cast : (id : Value) (path name : List ℕ) → cast_row item (id ∷ Text path ∷ Text name ∷ []) ≡ cast Integer id ∷ Text path ∷ Text name ∷ []
item_cast id path name = refl

pub submission_cast : (n form state : ℕ) (author path name note decider reason : List ℕ)
    → cast_row submission (number n ∷ Null ∷ Text author ∷ Text path ∷ number form ∷ Text name ∷ Text note ∷ number state ∷ Text decider ∷ Text reason ∷ [])
    ≡ number n ∷ Null ∷ Text author ∷ Text path ∷ number form ∷ Text name ∷ Text note ∷ number state ∷ Text decider ∷ Text reason ∷ []
submission_cast n form state author path name note decider reason = λ i.
    cast_int (pos n) i ∷ cast_null i ∷ Text author ∷ Text path ∷ cast_int (pos form) i ∷ Text name ∷ Text note ∷ cast_int (pos state) i ∷ Text decider ∷ Text reason ∷ []

pub remark_cast : (id : Value) (n seq : ℕ) (author body : List ℕ) → cast_row remark (id ∷ number n ∷ number seq ∷ Text author ∷ Text body ∷ []) ≡ cast Integer id ∷ number n ∷ number seq ∷ Text author ∷ Text body ∷ []
remark_cast id n seq author body = λ i. cast Integer id ∷ cast_int (pos n) i ∷ cast_int (pos seq) i ∷ Text author ∷ Text body ∷ []

pub receipt_cast : (id : Value) (who token : List ℕ) (kind a b c : ℕ)
    → cast_row receipt (id ∷ Text who ∷ Text token ∷ number kind ∷ number a ∷ number b ∷ number c ∷ []) ≡ cast Integer id ∷ Text who ∷ Text token ∷ number kind ∷ number a ∷ number b ∷ number c ∷ []
receipt_cast id who token kind a b c = λ i. cast Integer id ∷ Text who ∷ Text token ∷ cast_int (pos kind) i ∷ cast_int (pos a) i ∷ cast_int (pos b) i ∷ cast_int (pos c) i ∷ []

pub since_cast : (id : Value) (path : List ℕ) (n : ℕ) → cast_row item_since (id ∷ Text path ∷ number n ∷ []) ≡ cast Integer id ∷ Text path ∷ number n ∷ []
since_cast id path n = ap (λ w. cast Integer id ∷ Text path ∷ w ∷ []) (cast_int (pos n))

-- What makes rows of receipts those of a registry.
use Rattle.std.proofs.Common.{◌≡◌, ◌↔◌, ◌++◌, ◌&&◌, Bool, IsTrue, ℕ, ◌<◌, ◌≤◌, List, [], ◌∷◌, length, true, refl, sym, ap, subst, ◌∙◌, arith}
use Rattle.sqlite.specs.declared.types.Value.TheVariants.{Text}
use Rattle.sqlite.specs.Order.{Row, column}
use Rattle.pid_ident.specs.Words.{is_account, is_key}
use Rattle.pid_moderation.specs.declared.command.Reply.TheVariants.{Done, Numbered, Counts}
use Rattle.pid_tables.specs.Rows.TableRows.{number}
use Rattle.pid_tables.specs.Check.Conditions.{IsReceiptRow}
use Rattle.pid_tables.specs.Check.Steps.AuthorSets.{IsByAuthor, IsNumbered, HasReply, HasCounts}
use Rattle.pid_tables.specs.Check.Steps.AuthorSets.{AreAuthorsOf}
use Rattle.pid_tables.specs.Check.Steps.Keeping.{AreOfAuthors}
use Rattle.pid_tables.specs.declared.check.authors.Authors.{Authors}
use Rattle.pid_tables.proofs.OfCheck.ItemFacts.{one_row, texts_same}
use Rattle.pid_tables.proofs.OfCheck.RemarkFacts.{numbers_same}

module _ (rows : List Row) (r : Row) (account : List ℕ) where
  kinds : (m n : ℕ) → column r 2 ≡ number m → column r 2 ≡ number n → m ≡ n
  kinds m n p q = numbers_same m n (sym p ∙ q)

  pub numbered_so : (n : ℕ) (by : Bool) → column r 3 ≡ number n → column r 4 ≡ number 0 → column r 5 ≡ number 0 → (IsTrue by ↔ IsByAuthor rows n account) → IsTrue by ↔ IsNumbered rows r account
  numbered_so n by first second third is = (
    λ yes. (n, first, second, third, is.0 yes),
    λ it. is.1 (subst (λ k. IsByAuthor rows k account) (numbers_same it.0 n (sym it.1 ∙ first)) it.4),
  )

  pub done : column r 2 ≡ number 0 → ((column r 3 ≡ number 0) × (column r 4 ≡ number 0) × (column r 5 ≡ number 0)) → HasReply rows r account
  done e it = (Done, e, it.0, it.1, it.2, tt)

  pub done_back : column r 2 ≡ number 0 → HasReply rows r account → (column r 3 ≡ number 0) × (column r 4 ≡ number 0) × (column r 5 ≡ number 0)
  done_back e (Done, k, a, b, c, own) = (a, b, c)
  done_back e (Numbered n, k, a, b, c, own) = absurd (let bad : 0 ≡ 1 = kinds 0 1 e k in omega (arith, bad))
  done_back e (Counts x y z, k, a, b, c, own) = absurd (let bad : 0 ≡ 2 = kinds 0 2 e k in omega (arith, bad))

  pub numbered : column r 2 ≡ number 1 → IsNumbered rows r account → HasReply rows r account
  numbered e it = (Numbered it.0, e, it.1, it.2, it.3, it.4)

  pub numbered_back : column r 2 ≡ number 1 → HasReply rows r account → IsNumbered rows r account
  numbered_back e (Done, k, a, b, c, own) = absurd (let bad : 1 ≡ 0 = kinds 1 0 e k in omega (arith, bad))
  numbered_back e (Numbered n, k, a, b, c, own) = (n, a, b, c, own)
  numbered_back e (Counts x y z, k, a, b, c, own) = absurd (let bad : 1 ≡ 2 = kinds 1 2 e k in omega (arith, bad))

  pub counted : column r 2 ≡ number 2 → HasCounts r → HasReply rows r account
  counted e it = (Counts it.0 it.1 it.2, e, it.3, it.4, it.5, it.6)

  pub counted_back : column r 2 ≡ number 2 → HasReply rows r account → HasCounts r
  counted_back e (Done, k, a, b, c, own) = absurd (let bad : 2 ≡ 0 = kinds 2 0 e k in omega (arith, bad))
  counted_back e (Numbered n, k, a, b, c, own) = absurd (let bad : 2 ≡ 1 = kinds 2 1 e k in omega (arith, bad))
  counted_back e (Counts x y z, k, a, b, c, own) = (x, y, z, a, b, c, own)

  pub kind_told : HasReply rows r account → (n : ℕ) × (column r 2 ≡ number n) × (n ≤ 2)
  kind_told (Done, k, a, b, c, own) = (0, k, omega arith)
  kind_told (Numbered n, k, a, b, c, own) = (1, k, omega arith)
  kind_told (Counts x y z, k, a, b, c, own) = (2, k, omega arith)

  pub other_kind : (n : ℕ) → column r 2 ≡ number n → 2 < n → HasReply rows r account → ⊥
  other_kind n e high it = let told = kind_told it in let same = kinds n told.0 e told.1 in omega (arith, high, same, told.2)

six : (r : Row) → length r ≡ 6 → r ≡ column r 0 ∷ column r 1 ∷ column r 2 ∷ column r 3 ∷ column r 4 ∷ column r 5 ∷ []
six (a ∷ b ∷ c ∷ d ∷ e ∷ f ∷ []) len = refl
six (a ∷ b ∷ c ∷ d ∷ e ∷ f ∷ g ∷ r) len = absurd (omega (arith, len))
six [] len = absurd (omega (arith, len))
six (a ∷ []) len = absurd (omega (arith, len))
six (a ∷ b ∷ []) len = absurd (omega (arith, len))
six (a ∷ b ∷ c ∷ []) len = absurd (omega (arith, len))
six (a ∷ b ∷ c ∷ d ∷ []) len = absurd (omega (arith, len))
six (a ∷ b ∷ c ∷ d ∷ e ∷ []) len = absurd (omega (arith, len))

module _ (rows : List Row) (r : Row) where
  pub receipt_made : (account : List ℕ) → length r ≡ 6 → column r 0 ≡ Text account → is_account account ≡ true → ((key : List ℕ) × (column r 1 ≡ Text key) × (is_key key ≡ true)) → HasReply rows r account → IsReceiptRow rows r
  receipt_made account len first good key it = record {
    account = account;
    token = key.0;
    reply = it.0;
    is = six r len ∙ (λ i. first i ∷ key.1 i ∷ it.1 i ∷ it.2 i ∷ it.3 i ∷ it.4 i ∷ []);
    good = good;
    key = key.2;
    own = it.5;
  }

  pub length_of : IsReceiptRow rows r → length r ≡ 6
  length_of it = ap length it.is

  pub key_of : IsReceiptRow rows r → (key : List ℕ) × (column r 1 ≡ Text key) × (is_key key ≡ true)
  key_of it = (it.token, ap (λ (x : Row). column x 1) it.is, it.key)

  pub account_of : IsReceiptRow rows r → (account : List ℕ) × (column r 0 ≡ Text account) × (is_account account ≡ true) × HasReply rows r account
  account_of it = (
    it.account,
    ap (λ (x : Row). column x 0) it.is,
    it.good,
    (it.reply, ap (λ (x : Row). column x 2) it.is, ap (λ (x : Row). column x 3) it.is, ap (λ (x : Row). column x 4) it.is, ap (λ (x : Row). column x 5) it.is, it.own),
  )

  pub account_is : (account : List ℕ) → column r 0 ≡ Text account → IsReceiptRow rows r → (is_account account ≡ true) × HasReply rows r account
  account_is account is it = let of = account_of it in subst (λ a. (is_account a ≡ true) × HasReply rows r a) (texts_same _ _ (sym of.1 ∙ is)) (of.2, of.3)

-- the receipts so far, and one more
pub one_receipt : (authors : Authors) (rows : List Row) (r : Row) (good row : Bool) → ((submissions : List Row) → AreAuthorsOf authors submissions → IsTrue row ↔ IsReceiptRow submissions r)
    → AreOfAuthors authors rows good → AreOfAuthors authors (rows ++ r ∷ []) (good && row)
one_receipt authors rows r good row one are submissions of = one_row (IsReceiptRow submissions) rows r good row (one submissions of) (are submissions of)

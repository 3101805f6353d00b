-- What makes rows of submissions those of a registry.
use Rattle.std.proofs.Common.{◌≡◌, ◌≢◌, ◌↔◌, ◌&&◌, Bool, nat_le, inl, inr, IsTrue, ℕ, ◌≤◌, List, [], ◌∷◌, ◌++◌, length, true, false, refl, sym, ap, subst, ◌∙◌, arith, le-leb}
use Rattle.std.proofs.lemmas.Bool.{false≢true, leb-true}
use Rattle.std.proofs.lemmas.Slice.Eq.{bytes_eq-Decides}
use Rattle.std.specs.Str.{bytes_eq}
use Rattle.std.specs.Prelude.{IsUtf8, String, not}
use Rattle.std.specs.BTreeSet.{BTreeSet}
use Rattle.std.specs.declared.alloc.Global.{Global}
use Rattle.sqlite.specs.declared.types.Value.TheVariants.{Text}
use Rattle.sqlite.specs.Order.{Row, column}
use Rattle.pid_ident.specs.Bytes.{is_empty}
use Rattle.pid_ident.specs.PathTexts.{IsPath, path_text}
use Rattle.pid_ident.specs.Words.{is_name, is_text}
use Rattle.pid_file.specs.declared.path.Path.{Path}
use Rattle.pid_moderation.specs.declared.command.Proposal.{Proposal}
use Rattle.pid_moderation.specs.declared.command.Proposal.TheVariants.{Name, Removal}
use Rattle.pid_moderation.specs.declared.facts.State.{State}
use Rattle.pid_moderation.specs.declared.facts.State.TheVariants.{Pending, Approved, Rejected, Withdrawn}
use Rattle.pid_moderation.specs.WellMade.{ProposesName}
use Rattle.pid_tables.specs.Rows.TableRows.{number, form_of, name_of}
use Rattle.pid_tables.specs.Check.Conditions.{HasAccount, AreAccounts, IsDecided, IsSubmissionRow, AreSubmissions}
use Rattle.pid_tables.specs.Check.Steps.NamesRead.{IsAmong, IsDecidedAmong, IsSubmissionAmong, StandsInRows}
use Rattle.pid_tables.specs.Check.Steps.NameSets.{AreNamesOf}
use Rattle.sqlite_rules.specs.Lists.{Has}
use Rattle.pid_tables.specs.Check.Steps.Keeping.{AreFit, AreOfAccounts, TakesSubmissions}
use Rattle.pid_tables.specs.declared.check.submission.SubmissionFold.{SubmissionFold}
use Rattle.pid_tables.specs.declared.check.submission.Fit.{Fit}
use Rattle.pid_tables.specs.Check.Steps.NumberSets.{CountFromOne}
use Rattle.pid_tables.proofs.OfCheck.ItemFacts.{split, before, last, texts_same, both}
use Rattle.pid_tables.proofs.OfCheck.AccountFacts.{account_named}

numbers_same : (m n : ℕ) → number m ≡ number n → m ≡ n
numbers_same m n e = cc

on_of : (b : Bool) → not b ≡ false → b ≡ true
on_of true off = refl
on_of false off = sym off

pub differ : (a b : List ℕ) → not (bytes_eq a b) ≡ true → a ≢ b
differ a b on same = false≢true (sym (ap not ((bytes_eq-Decides a b).1 same)) ∙ on)

pub alike : (a b : List ℕ) → not (bytes_eq a b) ≡ false → a ≡ b
alike a b off = (bytes_eq-Decides a b).0 (on_of (bytes_eq a b) off)

-- ---- the parts of a row

abbrev pub Proposes : Row → Type 0
Proposes r = (p : Proposal) × (column r 3 ≡ number (form_of p)) × (column r 4 ≡ Text (name_of p)) × ProposesName p

pub named : (r : Row) → column r 3 ≡ number 0 → ((name : List ℕ) × (column r 4 ≡ Text name) × (is_name name ≡ true)) → Proposes r
named r e it = (Name it.0, e, it.1, it.2)

pub name_of_form : (r : Row) → column r 3 ≡ number 0 → Proposes r → (name : List ℕ) × (column r 4 ≡ Text name) × (is_name name ≡ true)
name_of_form r e (Name name, form, is, good) = (name, is, good)
name_of_form r e (Removal, form, is, good) = absurd (let bad : 0 ≡ 1 = numbers_same 0 1 (sym e ∙ form) in omega (arith, bad))

module _ (names : BTreeSet (String Global)) (r : Row) where
  abbrev pub IsByOther : List ℕ → Type 0
  IsByOther author = (decider : List ℕ) × (column r 7 ≡ Text decider) × (decider ≢ author) × IsAmong names decider

  pub other_of : (author decider : List ℕ) → column r 7 ≡ Text decider → IsByOther author → (decider ≢ author) × IsAmong names decider
  other_of author decider at it = subst (λ d. (d ≢ author) × IsAmong names d) (texts_same _ _ (sym it.1 ∙ at)) (it.2, it.3)

  pub pending : (author : List ℕ) → column r 6 ≡ number 0 → column r 7 ≡ Text [] → column r 8 ≡ Text [] → StandsInRows names r author
  pending author e decider none = (Pending, e, decider, none, tt)

  pub withdrawn : (author : List ℕ) → column r 6 ≡ number 3 → column r 7 ≡ Text author → column r 8 ≡ Text [] → StandsInRows names r author
  withdrawn author e decider none = (Withdrawn, e, decider, none, tt)

  pub pending_parts : (author : List ℕ) → column r 6 ≡ number 0 → StandsInRows names r author → (column r 7 ≡ Text []) × (column r 8 ≡ Text [])
  pending_parts author e (Pending, n, d, w, good) = (d, w)
  pending_parts author e (Approved decider, n, d, w, good) = absurd (let bad : 0 ≡ 1 = numbers_same 0 1 (sym e ∙ n) in omega (arith, bad))
  pending_parts author e (Rejected decider reason, n, d, w, good) = absurd (let bad : 0 ≡ 2 = numbers_same 0 2 (sym e ∙ n) in omega (arith, bad))
  pending_parts author e (Withdrawn, n, d, w, good) = absurd (let bad : 0 ≡ 3 = numbers_same 0 3 (sym e ∙ n) in omega (arith, bad))

  pub withdrawn_parts : (author : List ℕ) → column r 6 ≡ number 3 → StandsInRows names r author → (column r 7 ≡ Text author) × (column r 8 ≡ Text [])
  withdrawn_parts author e (Pending, n, d, w, good) = absurd (let bad : 3 ≡ 0 = numbers_same 3 0 (sym e ∙ n) in omega (arith, bad))
  withdrawn_parts author e (Approved decider, n, d, w, good) = absurd (let bad : 3 ≡ 1 = numbers_same 3 1 (sym e ∙ n) in omega (arith, bad))
  withdrawn_parts author e (Rejected decider reason, n, d, w, good) = absurd (let bad : 3 ≡ 2 = numbers_same 3 2 (sym e ∙ n) in omega (arith, bad))
  withdrawn_parts author e (Withdrawn, n, d, w, good) = (d, w)

  pub approved_by : (author : List ℕ) → column r 6 ≡ number 1 → StandsInRows names r author → IsByOther author
  approved_by author e (Pending, n, d, w, good) = absurd (let bad : 1 ≡ 0 = numbers_same 1 0 (sym e ∙ n) in omega (arith, bad))
  approved_by author e (Approved decider, n, d, w, good) = (decider, d, good.0, good.1)
  approved_by author e (Rejected decider reason, n, d, w, good) = (decider, d, good.0, good.1)
  approved_by author e (Withdrawn, n, d, w, good) = absurd (let bad : 1 ≡ 3 = numbers_same 1 3 (sym e ∙ n) in omega (arith, bad))

  pub rejected_by : (author : List ℕ) → column r 6 ≡ number 2 → StandsInRows names r author → IsByOther author
  rejected_by author e (Pending, n, d, w, good) = absurd (let bad : 2 ≡ 0 = numbers_same 2 0 (sym e ∙ n) in omega (arith, bad))
  rejected_by author e (Approved decider, n, d, w, good) = (decider, d, good.0, good.1)
  rejected_by author e (Rejected decider reason, n, d, w, good) = (decider, d, good.0, good.1)
  rejected_by author e (Withdrawn, n, d, w, good) = absurd (let bad : 2 ≡ 3 = numbers_same 2 3 (sym e ∙ n) in omega (arith, bad))

  pub approved : (author : List ℕ) → column r 6 ≡ number 1 → IsByOther author → column r 8 ≡ Text [] → StandsInRows names r author
  approved author e by none = (Approved by.0, e, by.1, none, (by.2, by.3))

  pub rejected : (author : List ℕ) → column r 6 ≡ number 2 → IsByOther author → ((text : List ℕ) × (column r 8 ≡ Text text) × (is_text text ≡ true) × (is_empty text ≡ false)) → StandsInRows names r author
  rejected author e by why = (Rejected by.0 why.0, e, by.1, why.1, (by.2, by.3, why.2, why.3))

  pub approved_reason : (author : List ℕ) → column r 6 ≡ number 1 → StandsInRows names r author → column r 8 ≡ Text []
  approved_reason author e (Pending, n, d, w, good) = w
  approved_reason author e (Approved decider, n, d, w, good) = w
  approved_reason author e (Rejected decider reason, n, d, w, good) = absurd (let bad : 1 ≡ 2 = numbers_same 1 2 (sym e ∙ n) in omega (arith, bad))
  approved_reason author e (Withdrawn, n, d, w, good) = w

  pub rejected_reason : (author : List ℕ) → column r 6 ≡ number 2 → StandsInRows names r author → (text : List ℕ) × (column r 8 ≡ Text text) × (is_text text ≡ true) × (is_empty text ≡ false)
  rejected_reason author e (Pending, n, d, w, good) = absurd (let bad : 2 ≡ 0 = numbers_same 2 0 (sym e ∙ n) in omega (arith, bad))
  rejected_reason author e (Approved decider, n, d, w, good) = absurd (let bad : 2 ≡ 1 = numbers_same 2 1 (sym e ∙ n) in omega (arith, bad))
  rejected_reason author e (Rejected decider reason, n, d, w, good) = (reason, w, good.2, good.3)
  rejected_reason author e (Withdrawn, n, d, w, good) = absurd (let bad : 2 ≡ 3 = numbers_same 2 3 (sym e ∙ n) in omega (arith, bad))

  module _ (count : ℕ) where
    pub num_of : IsSubmissionAmong names count r → (n : ℕ) × (column r 0 ≡ number n) × (1 ≤ n) × (n ≤ count)
    num_of it = (it.num, ap (λ (x : Row). column x 0) it.is, it.within.0, it.within.1)

    pub path_of : IsSubmissionAmong names count r → (p : Path) × IsPath p × (column r 2 ≡ Text (path_text p))
    path_of it = (it.standing.submitted.path, it.path, ap (λ (x : Row). column x 2) it.is)

    pub proposal_of : IsSubmissionAmong names count r → Proposes r
    proposal_of it = (it.standing.submitted.proposal, ap (λ (x : Row). column x 3) it.is, ap (λ (x : Row). column x 4) it.is, it.proposal)

    pub note_of : IsSubmissionAmong names count r → (text : List ℕ) × (column r 5 ≡ Text text) × (is_text text ≡ true)
    note_of it = (it.standing.submitted.note, ap (λ (x : Row). column x 5) it.is, it.note)

    pub author_of : IsSubmissionAmong names count r → (author : List ℕ) × (column r 1 ≡ Text author) × IsAmong names author × StandsInRows names r author
    author_of it = (
      it.standing.submitted.author,
      ap (λ (x : Row). column x 1) it.is,
      it.author,
      (it.standing.state, ap (λ (x : Row). column x 6) it.is, ap (λ (x : Row). column x 7) it.is, ap (λ (x : Row). column x 8) it.is, it.state),
    )

    pub stands_of : (author : List ℕ) → column r 1 ≡ Text author → IsSubmissionAmong names count r → IsAmong names author × StandsInRows names r author
    stands_of author is it = let of = author_of it in subst (λ a. IsAmong names a × StandsInRows names r a) (texts_same _ _ (sym of.1 ∙ is)) (of.2, of.3)

nine : (r : Row) → length r ≡ 9 → r ≡ column r 0 ∷ column r 1 ∷ column r 2 ∷ column r 3 ∷ column r 4 ∷ column r 5 ∷ column r 6 ∷ column r 7 ∷ column r 8 ∷ []
nine (a ∷ b ∷ c ∷ d ∷ e ∷ f ∷ g ∷ h ∷ i ∷ []) len = refl
nine (a ∷ b ∷ c ∷ d ∷ e ∷ f ∷ g ∷ h ∷ i ∷ j ∷ r) len = absurd (omega (arith, len))
nine [] len = absurd (omega (arith, len))
nine (a ∷ []) len = absurd (omega (arith, len))
nine (a ∷ b ∷ []) len = absurd (omega (arith, len))
nine (a ∷ b ∷ c ∷ []) len = absurd (omega (arith, len))
nine (a ∷ b ∷ c ∷ d ∷ []) len = absurd (omega (arith, len))
nine (a ∷ b ∷ c ∷ d ∷ e ∷ []) len = absurd (omega (arith, len))
nine (a ∷ b ∷ c ∷ d ∷ e ∷ f ∷ []) len = absurd (omega (arith, len))
nine (a ∷ b ∷ c ∷ d ∷ e ∷ f ∷ g ∷ []) len = absurd (omega (arith, len))
nine (a ∷ b ∷ c ∷ d ∷ e ∷ f ∷ g ∷ h ∷ []) len = absurd (omega (arith, len))

pub submission_made : (names : BTreeSet (String Global)) (count : ℕ) (r : Row) (author : List ℕ) → length r ≡ 9 → ((n : ℕ) × (column r 0 ≡ number n) × (1 ≤ n) × (n ≤ count)) → ((p : Path) × IsPath p × (column r 2 ≡ Text (path_text p)))
    → Proposes r → ((text : List ℕ) × (column r 5 ≡ Text text) × (is_text text ≡ true)) → column r 1 ≡ Text author → (IsAmong names author × StandsInRows names r author) → IsSubmissionAmong names count r
submission_made names count r author len num path proposal note is it = record {
  num = num.0;
  within = (num.2, num.3);
  standing = record { submitted = record { author = author; path = path.0; proposal = proposal.0; note = note.0 }; state = it.1.0 };
  is = nine r len ∙ (λ i. num.1 i ∷ is i ∷ path.2 i ∷ proposal.1 i ∷ proposal.2 i ∷ note.1 i ∷ it.1.1 i ∷ it.1.2 i ∷ it.1.3 i ∷ []);
  author = it.0;
  path = path.1;
  proposal = proposal.3;
  note = note.2;
  state = it.1.4;
}

-- ---- by the accounts

module _ (accounts : List Row) (good : AreAccounts accounts) (names : BTreeSet (String Global)) (are : AreNamesOf names accounts) where
  pub known : (name : List ℕ) → IsAmong names name → HasAccount accounts name
  known name it = (are name it.0).0 it.1

  pub listed : (name : List ℕ) → HasAccount accounts name → IsAmong names name
  listed name it =
      let of = account_named it.0 (good.each it.0 it.1) in
      let utf8 = subst IsUtf8 (texts_same _ _ (sym of.1 ∙ it.2)) of.2 in
      (utf8, (are name utf8).1 it)

  decided : (author : List ℕ) (s : State) → IsDecidedAmong names author s → IsDecided accounts author s
  decided author Pending h = tt
  decided author (Approved decider) h = (h.0, known decider h.1)
  decided author (Rejected decider reason) h = (h.0, known decider h.1, h.2, h.3)
  decided author Withdrawn h = tt

  decided_among : (author : List ℕ) (s : State) → IsDecided accounts author s → IsDecidedAmong names author s
  decided_among author Pending h = tt
  decided_among author (Approved decider) h = (h.0, listed decider h.1)
  decided_among author (Rejected decider reason) h = (h.0, listed decider h.1, h.2, h.3)
  decided_among author Withdrawn h = tt

  row_of : (count : ℕ) (r : Row) → IsSubmissionAmong names count r → IsSubmissionRow accounts count r
  row_of count r it = record {
    num = it.num;
    standing = it.standing;
    is = it.is;
    within = it.within;
    author = known _ it.author;
    path = it.path;
    proposal = it.proposal;
    note = it.note;
    state = decided it.standing.submitted.author it.standing.state it.state;
  }

  row_among : (count : ℕ) (r : Row) (it : IsSubmissionRow accounts count r) → IsSubmissionAmong names count r
  row_among count r it = record {
    num = it.num;
    standing = it.standing;
    is = it.is;
    within = it.within;
    author = listed _ it.author;
    path = it.path;
    proposal = it.proposal;
    note = it.note;
    state = decided_among it.standing.submitted.author it.standing.state it.state;
  }

  pub submissions_made : (rows : List Row) → ((r : Row) → Has rows r → IsSubmissionAmong names (length rows) r) → CountFromOne rows → AreSubmissions accounts rows
  submissions_made rows all counted = record { each = λ r h. row_of (length rows) r (all r h); counted = counted }

  pub submissions_among : (rows : List Row) → AreSubmissions accounts rows → (r : Row) → Has rows r → IsSubmissionAmong names (length rows) r
  submissions_among rows good r h = row_among (length rows) r (good.each r h)

pub counted_of : (accounts rows : List Row) → AreSubmissions accounts rows → CountFromOne rows
counted_of accounts rows good = good.counted

-- ---- one row more

within_count : (names : BTreeSet (String Global)) (r : Row) (n m : ℕ) (it : IsSubmissionAmong names n r) → it.num ≤ m → IsSubmissionAmong names m r
within_count names r n m it most = record {
  num = it.num;
  standing = it.standing;
  is = it.is;
  within = (it.within.0, most);
  author = it.author;
  path = it.path;
  proposal = it.proposal;
  note = it.note;
  state = it.state;
}

module _ (names : BTreeSet (String Global)) (r : Row) where
  num_is : (n count : ℕ) → column r 0 ≡ number n → (it : IsSubmissionAmong names count r) → it.num ≡ n
  num_is n count first it = numbers_same it.num n (sym (ap (λ (x : Row). column x 0) it.is) ∙ first)

  -- with its own number as the count, and so with any count that is no less
  pub to_own : (n count : ℕ) → column r 0 ≡ number n → IsSubmissionAmong names count r → IsSubmissionAmong names n r
  to_own n count first it = let same = num_is n count first it in within_count names r count n it (omega (arith, same))

  pub from_own : (n : ℕ) → column r 0 ≡ number n → IsSubmissionAmong names n r → (count : ℕ) → (n ≤ count) ↔ IsSubmissionAmong names count r
  from_own n first it count = (λ most. within_count names r n count it (omega (arith, most, it.within.1)), λ other. let same = num_is n count first other in omega (arith, same, other.within.1))

  module _ (rows : List Row) (fit : Fit) (are : AreFit names rows fit) where
    pub misfit : ((count : ℕ) → IsSubmissionAmong names count r → ⊥) → AreFit names (rows ++ r ∷ []) (record fit { good = false })
    misfit none count = (λ yes. absurd cc, λ all. absurd (none count (all r (last rows r))))

    pub fits : (n greatest : ℕ) → ((count : ℕ) → (n ≤ count) ↔ IsSubmissionAmong names count r) → ((most : ℕ) → (greatest ≤ most) ↔ ((fit.greatest ≤ most) × (n ≤ most))) → AreFit names (rows ++ r ∷ []) (record fit { greatest = greatest })
    fits n greatest own bound count = (
      λ yes x h.
          let both = (bound count).0 yes.1 in
          elim (split rows r x h) [
            | inl early ↦ (are count).0 (yes.0, both.0) x early
            | inr same ↦ subst (IsSubmissionAmong names count) (sym same) ((own count).0 both.1)
          ],
      λ all. let was = (are count).1 (λ x h. all x (before rows r x h)) in (was.0, (bound count).1 (was.1, (own count).1 (all r (last rows r)))),
    )

-- the submissions go with the accounts if they fit their count and count from 1
module _ (names : BTreeSet (String Global)) (rows : List Row) (fit : Fit) (count : ℕ) (is : count ≡ length rows) (are : AreFit names rows fit) (accounts : List Row) (listed : AreNamesOf names accounts) (good : AreAccounts accounts) where
  pub all_fit : IsTrue fit.good → fit.greatest ≤ count → CountFromOne rows → AreSubmissions accounts rows
  all_fit on most counted = submissions_made accounts good names listed rows (subst (λ k. (r : Row) → Has rows r → IsSubmissionAmong names k r) is ((are count).0 (on, most))) counted

  pub fit_of : AreSubmissions accounts rows → IsTrue fit.good × (fit.greatest ≤ count)
  fit_of all = (are count).1 (subst (λ k. (r : Row) → Has rows r → IsSubmissionAmong names k r) (sym is) (submissions_among accounts good names listed rows all))

pub submissions_judged : (first : SubmissionFold) (rows : List Row) (it : SubmissionFold) (counted : Bool) → TakesSubmissions first rows it → (IsTrue counted ↔ CountFromOne rows)
    → AreOfAccounts first.names.now rows ((it.fit.good && nat_le it.fit.greatest it.count) && counted)
submissions_judged first rows it counted taken counts =
    let fits = it.fit.good && nat_le it.fit.greatest it.count in
    let names = it.names.now in
    subst (λ names. AreOfAccounts names rows (fits && counted)) taken.names (λ accounts listed good. (
      λ yes.
          let of = (both fits counted).0 yes in
          let fit = (both it.fit.good (nat_le it.fit.greatest it.count)).0 of.0 in
          all_fit names rows it.fit it.count taken.count taken.fit accounts listed good fit.0 (leb-true it.fit.greatest it.count fit.1) (counts.0 of.1),
      λ all.
          let fit = fit_of names rows it.fit it.count taken.count taken.fit accounts listed good all in
          (both fits counted).1 ((both it.fit.good (nat_le it.fit.greatest it.count)).1 (fit.0, le-leb it.fit.greatest it.count fit.1), counts.1 (counted_of accounts rows all)),
    ))

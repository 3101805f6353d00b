-- The conditions hold of rows in any order.
use Rattle.std.proofs.Common.{ℕ, List, length, sym, subst₂, arith}
use Rattle.std.specs.List.Sorted.{IsPermutation}
use Rattle.std.proofs.lemmas.List.Sorted.{IsPermutation-sym, length_permutation}
use Rattle.sqlite.specs.declared.types.Value.{Value}
use Rattle.sqlite.specs.Order.{Row}
use Rattle.pid_tables.proofs.OfRows.TurnLemmas.{permuted}
use Rattle.pid_moderation.specs.declared.facts.State.{State}
use Rattle.pid_moderation.specs.declared.facts.State.TheVariants.{Pending, Approved, Rejected, Withdrawn}
use Rattle.pid_moderation.specs.declared.command.Reply.{Reply}
use Rattle.pid_moderation.specs.declared.command.Reply.TheVariants.{Done, Numbered, Counts}
use Rattle.pid_tables.specs.declared.rows.schema_version.Version.{Version}
use Rattle.pid_tables.specs.declared.rows.schema_version.Version.TheVariants.{One, Two}
use Rattle.pid_tables.specs.Check.Conditions.{Rows, HasValue, IsItemRow, AreAccounts, AreItems, HasRemark, AreRemarks, AreLabels, IsDecided, IsSubmissionRow, AreSubmissions, IsOwn, AreReceipts, AreSinces, AreNumbered, AreOfRegistry}

pub value_moved : (xs ys : List Row) → IsPermutation xs ys → (at : ℕ) (v : Value) → HasValue xs at v → HasValue ys at v
value_moved xs ys p at v h = (h.0, permuted xs ys h.0 p h.1, h.2)

pub accounts_moved : (xs ys : List Row) → IsPermutation xs ys → AreAccounts xs → AreAccounts ys
accounts_moved xs ys p good = record {
  each = λ r h. good.each r (permuted ys xs r (IsPermutation-sym xs ys p) h);
  root = value_moved xs ys p _ _ good.root;
  administrator = value_moved xs ys p _ _ good.administrator;
}

item_moved : (xs ys : List Row) → IsPermutation xs ys → (r : Row) → IsItemRow xs r → IsItemRow ys r
item_moved xs ys p r row = record { path = row.path; name = row.name; is = row.is; in_range = row.in_range; good = row.good; parent = λ above e. value_moved xs ys p _ _ (row.parent above e) }

pub items_moved : (xs ys : List Row) → IsPermutation xs ys → AreItems xs → AreItems ys
items_moved xs ys p good = record {
  each = λ r h. item_moved xs ys p r (good.each r (permuted ys xs r (IsPermutation-sym xs ys p) h));
  limit = omega (arith, good.limit, length_permutation xs ys p);
}

remark_moved : (xs ys : List Row) → IsPermutation xs ys → (num place : ℕ) → HasRemark xs num place → HasRemark ys num place
remark_moved xs ys p num place h = (h.0, permuted xs ys h.0 p h.1, h.2, h.3)

pub remarks_moved : (xs ys : List Row) → IsPermutation xs ys → AreRemarks xs → AreRemarks ys
remarks_moved xs ys p good r h =
    let row = good r (permuted ys xs r (IsPermutation-sym xs ys p) h) in
    record {
      num = row.num;
      place = row.place;
      author = row.author;
      body = row.body;
      is = row.is;
      within = row.within;
      before = λ earlier low next. remark_moved xs ys p row.num earlier (row.before earlier low next);
      text = row.text;
      filled = row.filled;
    }

labels_moved : (version : Version) (items submissions revision : ℕ) (xs ys : List Row) → IsPermutation xs ys → AreLabels version items submissions revision xs → AreLabels version items submissions revision ys
labels_moved version items submissions revision xs ys p good = record { each = λ r h. good.each r (permuted ys xs r (IsPermutation-sym xs ys p) h); there = λ e h. permuted xs ys _ p (good.there e h) }

-- submissions, where the accounts are moved too
module _ (accounts others xs ys : List Row) (q : IsPermutation accounts others) (p : IsPermutation xs ys) where
  decided_moved : (author : List ℕ) (s : State) → IsDecided accounts author s → IsDecided others author s
  decided_moved author Pending h = tt
  decided_moved author (Approved decider) h = (h.0, value_moved accounts others q _ _ h.1)
  decided_moved author (Rejected decider reason) h = (h.0, value_moved accounts others q _ _ h.1, h.2, h.3)
  decided_moved author Withdrawn h = tt

  submission_moved : (r : Row) → IsSubmissionRow accounts (length xs) r → IsSubmissionRow others (length ys) r
  submission_moved r row = record {
    num = row.num;
    standing = row.standing;
    is = row.is;
    within = (row.within.0, omega (arith, row.within.1, length_permutation xs ys p));
    author = value_moved accounts others q _ _ row.author;
    path = row.path;
    proposal = row.proposal;
    note = row.note;
    state = decided_moved row.standing.submitted.author row.standing.state row.state;
  }

  pub submissions_moved : AreSubmissions accounts xs → AreSubmissions others ys
  submissions_moved good = record {
    each = λ r h. submission_moved r (good.each r (permuted ys xs r (IsPermutation-sym xs ys p) h));
    counted = λ n low high. value_moved xs ys p _ _ (good.counted n low (omega (arith, high, length_permutation xs ys p)));
  }

-- receipts, where the submissions are moved too
module _ (submissions others xs ys : List Row) (q : IsPermutation submissions others) (p : IsPermutation xs ys) where
  own_moved : (account : List ℕ) (reply : Reply) → IsOwn submissions account reply → IsOwn others account reply
  own_moved account Done h = tt
  own_moved account (Numbered n) h = (h.0, permuted submissions others h.0 q h.1, h.2, h.3)
  own_moved account (Counts added renamed same) h = h

  pub receipts_moved : AreReceipts submissions xs → AreReceipts others ys
  receipts_moved good r h =
      let row = good r (permuted ys xs r (IsPermutation-sym xs ys p) h) in
      record { account = row.account; token = row.token; reply = row.reply; is = row.is; good = row.good; key = row.key; own = own_moved row.account row.reply row.own }

pub sinces_moved : (revision : ℕ) (items others xs ys : List Row) → IsPermutation items others → IsPermutation xs ys → AreSinces revision items xs → AreSinces revision others ys
sinces_moved revision items others xs ys q p good = record {
  each = λ r h. good.each r (permuted ys xs r (IsPermutation-sym xs ys p) h);
  there = λ path range has. value_moved xs ys p _ _ (good.there path range (value_moved others items (IsPermutation-sym items others q) _ _ has));
}

-- ---- all tables

-- schema 1 has no rows of item_since
abbrev pub SameSinces : Version → List Row → List Row → Type 0
SameSinces One xs ys = Unit {0}
SameSinces Two xs ys = IsPermutation xs ys

-- the same rows, in any order
pub record AreSame (version : Version) (s t : Rows) : Type 0 where
  pub meta : IsPermutation s.meta t.meta
  pub accounts : IsPermutation s.accounts t.accounts
  pub items : IsPermutation s.items t.items
  pub submissions : IsPermutation s.submissions t.submissions
  pub remarks : IsPermutation s.remarks t.remarks
  pub receipts : IsPermutation s.receipts t.receipts
  pub sinces : SameSinces version s.sinces t.sinces

numbered_moved : (version : Version) (revision : ℕ) (s t : Rows) → AreSame version s t → AreNumbered version revision s → AreNumbered version revision t
numbered_moved One revision s t same good = tt
numbered_moved Two revision s t same good = sinces_moved revision s.items t.items s.sinces t.sinces same.items same.sinces good

pub rows_moved : (version : Version) (s t : Rows) → AreSame version s t → AreOfRegistry version s → AreOfRegistry version t
rows_moved version s t same good = record {
  counts = record {
    revision = good.counts.revision;
    limit = good.counts.limit;
    labels = subst₂ (λ x y. AreLabels version x y good.counts.revision t.meta) (sym (length_permutation s.items t.items same.items)) (sym (length_permutation s.submissions t.submissions same.submissions))
        (labels_moved version _ _ good.counts.revision s.meta t.meta same.meta good.counts.labels);
    sinces = numbered_moved version good.counts.revision s t same good.counts.sinces;
  };
  accounts = accounts_moved s.accounts t.accounts same.accounts good.accounts;
  items = items_moved s.items t.items same.items good.items;
  submissions = submissions_moved s.accounts t.accounts s.submissions t.submissions same.accounts same.submissions good.submissions;
  remarks = remarks_moved s.remarks t.remarks same.remarks good.remarks;
  receipts = receipts_moved s.submissions t.submissions s.receipts t.receipts same.submissions same.receipts good.receipts;
}

same_back : (version : Version) (xs ys : List Row) → SameSinces version xs ys → SameSinces version ys xs
same_back One xs ys h = tt
same_back Two xs ys h = IsPermutation-sym xs ys h

pub backwards : (version : Version) (s t : Rows) → AreSame version s t → AreSame version t s
backwards version s t same = record {
  meta = IsPermutation-sym _ _ same.meta;
  accounts = IsPermutation-sym _ _ same.accounts;
  items = IsPermutation-sym _ _ same.items;
  submissions = IsPermutation-sym _ _ same.submissions;
  remarks = IsPermutation-sym _ _ same.remarks;
  receipts = IsPermutation-sym _ _ same.receipts;
  sinces = same_back version s.sinces t.sinces same.sinces;
}

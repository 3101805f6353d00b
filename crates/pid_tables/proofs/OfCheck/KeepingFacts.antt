-- What is kept of tables, put together.
use Rattle.std.proofs.Common.{◌≡◌, ◌&&◌, ℕ, Bool, List, [], sym, subst}
use Rattle.sqlite.specs.Effect.{Database}
use Rattle.sqlite.specs.Order.{Row}
use Rattle.pid_tables.specs.declared.rows.schema_version.Version.{Version}
use Rattle.pid_tables.specs.declared.rows.schema_version.Version.TheVariants.{One, Two}
use Rattle.pid_tables.specs.Check.Conditions.{AreRemarks}
use Rattle.pid_tables.specs.Check.Steps.Keeping.{IsPartJudged, KeepsAccounts, KeepsItems, KeepsSubmissions, GoWith, AreOfAuthors, ShowsNamed, ShowsSubmitted, ShowsJudged}
use Rattle.pid_tables.specs.Check.Queries.{query_of}
use Rattle.pid_tables.proofs.OfCheck.ItemFacts.{both}
use Rattle.pid_tables.specs.Check.Shapes.{ShowsRows}
use Rattle.pid_tables.specs.declared.check.account.Accounts.{Accounts}
use Rattle.pid_tables.specs.declared.check.item.Items.{Items}
use Rattle.pid_tables.specs.declared.check.submission.Submissions.{Submissions}
use Rattle.pid_tables.specs.declared.check.tables.Part.{Part}
use Rattle.pid_tables.specs.declared.check.schema.Table.{Table}
use Rattle.pid_tables.specs.declared.check.schema.Table.TheVariants.{Account, Item, Submission, Remark, Receipt, Since}

-- the query of a table answers rows of which this is kept
abbrev pub Has : Database → Table → (List Row → Type 0) → Type 0
Has d table Says = (rows : List Row) × ShowsRows d (query_of table) rows × Says rows

module _ (version : Version) (revision : ℕ) (d : Database) (it : Items) (items : Has d Item (λ rows. KeepsItems rows it)) where
  pub first_named : version ≡ One → ShowsNamed version revision d (record { good = it.good; count = it.count })
  first_named is = subst (λ v. ShowsNamed v revision d (record { good = it.good; count = it.count })) (sym is) (record {
    items = items.0;
    sinces = [];
    has_items = items.1;
    has_sinces = tt;
    count = items.2.count;
    good = (λ yes. (items.2.good.0 yes, tt), λ all. items.2.good.1 all.0);
  })

  pub second_named : version ≡ Two → (dated : Bool) → Has d Since (λ rows. GoWith it.paths revision rows dated) → ShowsNamed version revision d (record { good = it.good && dated; count = it.count })
  second_named is dated sinces = subst (λ v. ShowsNamed v revision d (record { good = it.good && dated; count = it.count })) (sym is) (
      let go = sinces.2 items.0 items.2.paths in
      record {
        items = items.0;
        sinces = sinces.0;
        has_items = items.1;
        has_sinces = sinces.1;
        count = items.2.count;
        good = (λ yes. let each = (both it.good dated).0 yes in (items.2.good.0 each.0, go.0 each.1), λ all. (both it.good dated).1 (items.2.good.1 all.0, go.1 all.1));
      })

pub submitted : (d : Database) (a : Accounts) (s : Submissions) (r : Bool) → Has d Account (λ rows. KeepsAccounts rows a)
    → Has d Submission (λ rows. KeepsSubmissions a.names rows s) → Has d Receipt (λ rows. AreOfAuthors s.authors rows r) → ShowsSubmitted d (record { good = a.good && s.good && r; count = s.count })
submitted d a s r accounts submissions receipts =
    let of = submissions.2.good accounts.0 accounts.2.names in
    let go = receipts.2 submissions.0 submissions.2.authors in
    record {
      accounts = accounts.0;
      submissions = submissions.0;
      receipts = receipts.0;
      has_accounts = accounts.1;
      has_submissions = submissions.1;
      has_receipts = receipts.1;
      count = submissions.2.count;
      good = (
        λ yes.
            let each = (both (a.good && s.good) r).0 yes in
            let listed = (both a.good s.good).0 each.0 in
            let first = accounts.2.good.0 listed.0 in
            (first, (of first).0 listed.1, go.0 each.1),
        λ all. (both (a.good && s.good) r).1 ((both a.good s.good).1 (accounts.2.good.1 all.0, (of all.0).1 all.1), go.1 all.2),
      );
    }

pub judged : (version : Version) (revision : ℕ) (d : Database) (s n : Part) (r : Bool) → ShowsSubmitted d s → ShowsNamed version revision d n
    → Has d Remark (λ rows. IsPartJudged AreRemarks rows r) → ShowsJudged version revision d (record { good = s.good && n.good && r; items = n.count; submissions = s.count })
judged version revision d s n r of named remarks = record {
  rows = record { meta = []; accounts = of.accounts; items = named.items; submissions = of.submissions; remarks = remarks.0; receipts = of.receipts; sinces = named.sinces };
  shows = λ meta shown. record { meta = shown; accounts = of.has_accounts; items = named.has_items; submissions = of.has_submissions; remarks = remarks.1; receipts = of.has_receipts; sinces = named.has_sinces };
  items = named.count;
  submissions = of.count;
  good = (
    λ yes.
        let each = (both (s.good && n.good) r).0 yes in
        let shown = (both s.good n.good).0 each.0 in
        let first = of.good.0 shown.0 in
        let second = named.good.0 shown.1 in
        record { accounts = first.0; items = second.0; submissions = first.1; remarks = remarks.2.0 each.1; receipts = first.2; sinces = second.1 },
    λ all. (both (s.good && n.good) r).1 ((both s.good n.good).1 (of.good.1 (all.accounts, all.submissions, all.receipts), named.good.1 (all.items, all.sinces)), remarks.2.1 all.remarks),
  );
}

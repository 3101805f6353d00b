use Rattle.std.proofs.Common.{◌≡◌, length, sym, subst, ◌∙◌}
use Rattle.pid_tables.specs.declared.rows.schema_version.Version.TheVariants.{Two}
use Rattle.pid_tables.specs.Rows.Accounts.{HasAccounts}
use Rattle.pid_tables.specs.Rows.Causes.{IsCaused, IsReadable}
use Rattle.pid_tables.specs.Rows.Shows.{counts_of}
use Rattle.pid_tables.specs.Rows.Schema.{pid_schema}
use Rattle.pid_tables.proofs.OfRows.AccountRows.{accounts_found, accounts_query, select_accounts}
use Rattle.pid_tables.proofs.OfRows.CauseLemmas.{passed_on}
use Rattle.pid_tables.proofs.OfRows.FindLemmas.{rows_at_rest}
use Rattle.pid_tables.proofs.tables.Tables.accounts.Goals as goal

pub returns : goal.returns
returns g c = record {
  rests = c.in_ok-rows.ensures.rests;
  told = λ clean v rest.
      let rows = c.in_ok-rows.rows.items in
      let found = rows_at_rest g.C.Database.state c.args.self.now.conn v select_accounts _ rows (HasAccounts v (length rows)) rest (λ mid shows h. accounts_found _ mid (counts_of v) v shows rows h) (c.in_ok-rows.ensures.shown clean) in
      let is : c.len.result ≡ length rows = c.len.ensures ∙ c.in_ok-rows.rows.ok.0 in
      subst (λ n. HasAccounts v n) (sym is) found;
}

pub returns-in_err-rows : goal.returns-in_err-rows
returns-in_err-rows g c = record {
  rests = c.in_err-rows.ensures.rests;
  told = λ clean v rest.
      passed_on c.from_residual.result _ _ (λ fault. IsReadable v → IsCaused (g.C.Database.state c.args.self.now.conn) (g.C.Database.state c.read_rows.new.tables.conn) fault) c.from_residual.ensures.1
      (λ readable. c.in_err-rows.ensures.faults.caused clean pid_schema (λ opened. (rest.shows opened).schema) (accounts_query Two));
}

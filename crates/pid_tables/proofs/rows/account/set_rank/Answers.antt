use Rattle.std.proofs.Common.{◌≡◌, ◌∙◌, sym, subst, false, None, Some, Option, refl, inl, inr, IsSome}
use Rattle.std.specs.Prelude.{is_none}
use Rattle.std.proofs.lemmas.Bool.{cases_Bool}
use Rattle.sqlite.specs.Listing.{understood}
use Rattle.pid_tables.specs.declared.rows.schema_version.Version.TheVariants.{Two}
use Rattle.pid_tables.specs.Rows.Schema.{pid_schema}
use Rattle.pid_tables.specs.Rows.Steps.Queries.{IsWriteAs}
use Rattle.pid_tables.proofs.ApplyLemmas.{none_there}
use Rattle.pid_tables.proofs.OfRows.KeyTexts.{insert_account_is, update_account_is}
use Rattle.pid_tables.proofs.OfRows.WriteFaults.{led, insert_writes, update_writes}
use Rattle.pid_tables.proofs.OfRows.WriteRows.{account_added, rank_changed}
use Rattle.pid_tables.proofs.rows.account.set_rank.Goals as goal

some_there : {X : Type 0} (o : Option X) → is_none o ≡ false → IsSome o
some_there None h = sym h
some_there (Some x) h = refl

pub returns : goal.returns
returns g c = record {
  same_reference = c.write_one.ensures.same_reference;
  goes = c.write_one.ensures.goes;
  shows = λ clean inside counts v shows fits.
      let old = g.B.Batch.batch.state c.args.tx.now in
      let new = g.B.Batch.batch.state c.write_one.new.self in
      let who = c.args.who.now in
      elim (cases_Bool c.args.is_new) [
        | inl is_new ↦
            let text = c.ranking.ensures.new is_new in
            led c.write_one.result (account_added old new counts v shows who c.args.rank (none_there (v.rank who) (sym fits ∙ is_new)))
            (rw (text, c.to_sql-name.ensures, c.to_sql-rank.ensures, c.as_str.ensures.text, c.from.ensures, c.number.ensures) at (c.write_one.ensures.runs.ran clean inside))
            (c.write_one.ensures.runs.only_store clean pid_schema (λ opened. shows.schema) (subst (λ t. IsWriteAs t (understood pid_schema t)) (sym text) (insert_writes (insert_account_is Two))))
        | inr known ↦
            let text = c.ranking.ensures.known known in
            led c.write_one.result (rank_changed old new counts v shows who c.args.rank (some_there (v.rank who) (sym fits ∙ known)))
            (rw (text, c.to_sql-name.ensures, c.to_sql-rank.ensures, c.as_str.ensures.text, c.from.ensures, c.number.ensures) at (c.write_one.ensures.runs.ran clean inside))
            (c.write_one.ensures.runs.only_store clean pid_schema (λ opened. shows.schema) (subst (λ t. IsWriteAs t (understood pid_schema t)) (sym text) (update_writes (update_account_is Two))))
      ];
}

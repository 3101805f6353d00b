use Rattle.std.proofs.Common.{◌≡◌, ap, ◌∙◌, slice_get, None, Some, Option}
use Rattle.pid_tables.proofs.OfRows.ReadBack.{whole_read}
use Rattle.pid_tables.proofs.OfRows.MapLemmas.{some_same}
use Rattle.pid_tables.proofs.tables.Tables.revision.Goals as goal

no_some : {A : Type 0} {x : A} → ◌≡◌ {A = Option A} None (Some x) → ⊥
no_some e = cc

pub returns-in-Some : goal.returns-in-Some
returns-in-Some g c = record {
  rests = c.in_ok-rows.ensures.reads.rests;
  told = λ clean v rest.
      let found = c.in_ok-rows.ensures.reads.told clean v rest in
      whole_read (g.C.Database.state c.args.self.now.conn) (g.C.Database.state c.value_rows.new.tables.conn) v c.in-Some.row.now c.whole_at.result v.revision
      (some_same (c.in-Some.ensures.value ∙ ap (λ l. slice_get l 0) c.deref.ensures.value ∙ found)) c.whole_at.ensures.read c.whole_at.ensures.unread;
}

pub returns : goal.returns
returns g c = record {
  rests = c.in_ok-rows.ensures.reads.rests;
  told = λ clean v rest readable.
      let found = c.in_ok-rows.ensures.reads.told clean v rest in
      no_some (c.in-None.ensures.value ∙ ap (λ l. slice_get l 0) c.deref.ensures.value ∙ found);
}

use Rattle.std.proofs.Common.{◌++◌, None, Some, ap, map, sym, ◌∙◌, append-nil}
use Rattle.pid_moderation.specs.PendingPages.{told_of}
use Rattle.pid_moderation.specs.Submissions.{standing_of}
use Rattle.pid_tables.proofs.OfLists.NumberLemmas.{by_number, kept_one}
use Rattle.pid_tables.proofs.ThenReads.{fault_first}
use Rattle.pid_tables.proofs.lists.pending.add_numbered.Goals as goal

pub returns-in-None : goal.returns-in-None
returns-in-None g c = record {
  rests = c.in_ok-standing.ensures.rests;
  told = λ clean v rest.
      sym (append-nil (map told_of c.args.page.now.items))
      ∙ ap (λ l. map told_of c.args.page.now.items ++ l) (by_number v c.args.number None (rw c.in-None.is at (c.in_ok-standing.ensures.told clean v rest)));
}

pub returns-in-Some : goal.returns-in-Some
returns-in-Some g c = record {
  rests = c.in_ok-standing.ensures.rests;
  told = λ clean v rest.
      kept_one told_of c.args.page.now.items c.push_last.new.list.items _ _ c.push_last.result (g.C.Database.state c.args.tables.now.conn) (g.C.Database.state c.standing.new.tables.conn) v
      c.push_last.ensures.items c.push_last.ensures.full (by_number v c.args.number (Some (standing_of c.in-Some.submission)) (rw c.in-Some.is at (c.in_ok-standing.ensures.told clean v rest)));
}

pub returns-in_err-standing : goal.returns-in_err-standing
returns-in_err-standing g c = fault_first g.C.Database.state c.args.tables.now.conn c.standing.new.tables.conn c.in_err-standing.field-0.0 c.from_residual.result c.from_residual.ensures.1 c.in_err-standing.ensures

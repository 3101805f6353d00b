use Rattle.std.proofs.Common.{◌∷◌, [], ap}
use Rattle.pid_moderation.specs.ChangePages.{changed_of}
use Rattle.pid_tables.specs.Rows.Causes.{IsCaused, IsReadable}
use Rattle.pid_tables.proofs.OfRows.CauseLemmas.{passed_on}
use Rattle.pid_tables.proofs.OfRows.UnreadLemmas.{caused_unread}
use Rattle.pid_tables.proofs.OfLists.ChangeReads.{path_written, since_written, change_read, change_there}
use Rattle.pid_tables.proofs.OfLists.NumberLemmas.{kept_one}
use Rattle.pid_tables.proofs.OfCheck.Asking.{nothing_read}
use Rattle.pid_tables.proofs.tables.Tables.add_changed.Goals as goal

pub returns-in_err-path : goal.returns-in_err-path
returns-in_err-path g c = record {
  rests = nothing_read (g.C.Database.state c.args.self.now.conn) c.args.self.now.settled;
  told = λ clean v item rest (named, is).
      let old = g.C.Database.state c.args.self.now.conn in
      passed_on c.from_residual.result _ _ (λ fault. IsReadable v → IsCaused old old fault) c.from_residual.ensures.1
      (λ readable. caused_unread old old c.in_err-path.field-0.0 (path_written v item c.args.row.now named is readable) c.in_err-path.ensures.unread);
}

pub returns-in_err-since : goal.returns-in_err-since
returns-in_err-since g c = record {
  rests = nothing_read (g.C.Database.state c.args.self.now.conn) c.args.self.now.settled;
  told = λ clean v item rest (named, is).
      let old = g.C.Database.state c.args.self.now.conn in
      passed_on c.from_residual-in_err-since.result _ _ (λ fault. IsReadable v → IsCaused old old fault) c.from_residual-in_err-since.ensures.1
      (λ readable. caused_unread old old c.in_err-since.field-0.0 (since_written v item c.args.row.now named is) c.in_err-since.ensures.unread);
}

pub returns-in-Some : goal.returns-in-Some
returns-in-Some g c = record {
  rests = c.in_ok-name.ensures.rests;
  told = λ clean v item rest (named, is).
      let old = g.C.Database.state c.args.self.now.conn in
      let new = g.C.Database.state c.item.new.self.conn in
      let found = rw c.in-Some.is at (c.in_ok-name.ensures.told clean v rest) in
      kept_one changed_of c.args.items.now.items c.push_last.new.list.items _ (item ∷ []) c.push_last.result old new v c.push_last.ensures.items c.push_last.ensures.full
      (ap (λ x. x ∷ []) (change_read v item c.args.row.now named is _ _ c.in-Some.name c.in_ok-path.ensures.read.1 c.in_ok-since.ensures.read found));
}

pub returns-in-None : goal.returns-in-None
returns-in-None g c = record {
  rests = c.in_ok-name.ensures.rests;
  told = λ clean v item rest (named, is).
      let found = rw c.in-None.is at (c.in_ok-name.ensures.told clean v rest) in
      λ readable. absurd (change_there v item c.args.row.now named is _ c.in_ok-path.ensures.read.1 found);
}

pub returns-in_err-name : goal.returns-in_err-name
returns-in_err-name g c = record {
  rests = c.in_err-name.ensures.rests;
  told = λ clean v item rest is.
      passed_on c.from_residual-in_err-name.result _ _ (λ fault. IsReadable v → IsCaused (g.C.Database.state c.args.self.now.conn) (g.C.Database.state c.item.new.self.conn) fault) c.from_residual-in_err-name.ensures.1
      (λ readable. c.in_err-name.ensures.told clean v rest readable);
}

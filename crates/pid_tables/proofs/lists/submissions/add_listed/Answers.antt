use Rattle.std.proofs.Common.{◌≡◌, ◌∷◌, ◌++◌, [], None, Some, ap, map, sym, ◌∙◌, append-nil}
use Rattle.sqlite.specs.Order.{column}
use Rattle.pid_moderation.specs.SubmissionPages.{listed_of, listing_in}
use Rattle.pid_moderation.specs.Submissions.{standing_of}
use Rattle.pid_tables.specs.Rows.Causes.{IsCaused, IsReadable}
use Rattle.pid_tables.proofs.OfRows.CauseLemmas.{caused_later, passed_on}
use Rattle.pid_tables.proofs.OfRows.OnlyReading.{reads_then}
use Rattle.pid_tables.proofs.OfLists.PendingLists.{same_number}
use Rattle.pid_tables.proofs.OfRows.UnreadLemmas.{caused_unread}
use Rattle.pid_tables.specs.Lists.ByNumber.{standings_at}
use Rattle.pid_tables.proofs.OfLists.NumberLemmas.{by_number, kept_one}
use Rattle.pid_tables.proofs.OfCheck.Asking.{nothing_read}
use Rattle.pid_tables.proofs.lists.submissions.add_listed.Goals as goal

pub returns-in_err-number : goal.returns-in_err-number
returns-in_err-number g c = record {
  rests = nothing_read (g.C.Database.state c.args.tables.now.conn) c.args.tables.now.settled;
  told = λ clean v more rest is.
      let old = g.C.Database.state c.args.tables.now.conn in
      passed_on c.from_residual.result _ _ (λ fault. IsReadable v → IsCaused old old fault) c.from_residual.ensures.1
      (λ readable. caused_unread old old c.in_err-number.field-0.0 (is.number, is.fits readable, ap (λ r. column r 0) is.shown) c.in_err-number.ensures.unread);
}

pub returns-in_err-standing : goal.returns-in_err-standing
returns-in_err-standing g c = record {
  rests = reads_then _ _ _ c.in_ok-remarks.ensures.rests c.in_err-standing.ensures.rests;
  told = λ clean v more rest is.
      let old = g.C.Database.state c.args.tables.now.conn in
      let one = c.in_ok-remarks.ensures in
      let two = c.in_err-standing.ensures in
      passed_on c.from_residual-in_err-standing.result _ _ (λ fault. IsReadable v → IsCaused old (g.C.Database.state c.standing.new.tables.conn) fault) c.from_residual-in_err-standing.ensures.1
      (λ readable. caused_later old (g.C.Database.state c.remark_count.new.tables.conn) (g.C.Database.state c.standing.new.tables.conn) (λ _. ⊥) c.in_err-standing.field-0.0 one.rests.survives two.rests.survives.counts (two.rests.clean clean) (two.told clean v (one.rests.kept v rest) readable));
}

pub returns-in-None : goal.returns-in-None
returns-in-None g c = record {
  rests = reads_then _ _ _ c.in_ok-remarks.ensures.rests c.in_ok-standing.ensures.rests;
  told = λ clean v more rest is.
      let one = c.in_ok-remarks.ensures in
      let two = c.in_ok-standing.ensures in
      let number : c.in_ok-number.number ≡ is.number = same_number _ _ (sym c.in_ok-number.ensures.read ∙ ap (λ r. column r 0) is.shown) in
      let none = by_number v c.in_ok-number.number None (rw c.in-None.is at (two.told clean v (one.rests.kept v rest))) in
      sym (append-nil (map listed_of c.args.page.now.items))
      ∙ ap (λ l. map listed_of c.args.page.now.items ++ map (listing_in v) l) (none ∙ ap (λ n. standings_at (n ∷ []) v) number) ∙ ap (λ l. map listed_of c.args.page.now.items ++ l) (sym is.is);
}

pub returns-in-Some : goal.returns-in-Some
returns-in-Some g c = record {
  rests = reads_then _ _ _ c.in_ok-remarks.ensures.rests c.in_ok-standing.ensures.rests;
  told = λ clean v more rest is.
      let one = c.in_ok-remarks.ensures in
      let two = c.in_ok-standing.ensures in
      let stands = standing_of c.in-Some.submission in
      let count = one.told (two.rests.clean clean) v rest in
      let number : c.in_ok-number.number ≡ is.number = same_number _ _ (sym c.in_ok-number.ensures.read ∙ ap (λ r. column r 0) is.shown) in
      let some = by_number v c.in_ok-number.number (Some stands) (rw c.in-Some.is at (two.told clean v (one.rests.kept v rest))) in
      kept_one listed_of c.args.page.now.items c.push_last.new.list.items _ more c.push_last.result (g.C.Database.state c.args.tables.now.conn) (g.C.Database.state c.standing.new.tables.conn) v c.push_last.ensures.items c.push_last.ensures.full
      ((λ i. record { number = c.in_ok-number.number; standing = stands; remarks = count i } ∷ []) ∙ ap (map (listing_in v)) (some ∙ ap (λ n. standings_at (n ∷ []) v) number) ∙ sym is.is);
}

pub returns-in_err-remarks : goal.returns-in_err-remarks
returns-in_err-remarks g c = record {
  rests = c.in_err-remarks.ensures.rests;
  told = λ clean v more rest is.
      passed_on c.from_residual-in_err-remarks.result _ _ (λ fault. IsReadable v → IsCaused (g.C.Database.state c.args.tables.now.conn) (g.C.Database.state c.remark_count.new.tables.conn) fault) c.from_residual-in_err-remarks.ensures.1
      (λ readable. c.in_err-remarks.ensures.told clean v rest readable);
}

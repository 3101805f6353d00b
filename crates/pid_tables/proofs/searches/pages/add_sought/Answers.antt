use Rattle.std.proofs.Common.{◌≡◌, ◌∷◌, [], Some, Option, List, ℕ, true, false, sym, ◌∙◌}
use Rattle.std.specs.Option.{option_copied}
use Rattle.pid_file.specs.declared.path.Path.{Path}
use Rattle.pid_moderation.specs.SubmissionPages.{listed_of}
use Rattle.pid_moderation.specs.Submissions.{standing_in, standing_of}
use Rattle.pid_tables.proofs.OfLists.NumberLemmas.{kept_one}
use Rattle.pid_tables.proofs.OfRows.CauseLemmas.{caused_later}
use Rattle.pid_tables.proofs.OfRows.OnlyReading.{reads_then}
use Rattle.pid_tables.proofs.OfSearches.AmongLemmas.{none_more, none_there, of_another, one_found}
use Rattle.pid_tables.proofs.ThenReads.{fault_first}
use Rattle.pid_tables.proofs.searches.pages.add_sought.Goals as goal

pub returns-in-None : goal.returns-in-None
returns-in-None g c = record {
  rests = c.in_ok-standing.ensures.rests;
  told = λ clean v rest.
      let path : Option Path = option_copied c.args.path in
      let author : Option (List ℕ) = option_copied c.args.author in
      none_more path author v c.args.page.now.items c.args.number (none_there path author v c.args.number (sym (rw c.in-None.is at (c.in_ok-standing.ensures.told clean v rest))));
}

pub returns-then-not-is_of : goal.returns-then-not-is_of
returns-then-not-is_of g c =
    let off : c.is_of.result ≡ false = c.if-not-is_of.true in
    record {
      rests = c.in_ok-standing.ensures.rests;
      told = λ clean v rest.
          let path : Option Path = option_copied c.args.path in
          let author : Option (List ℕ) = option_copied c.args.author in
          let stands : standing_in v c.args.number ≡ Some (standing_of c.in-Some.submission) = sym (rw c.in-Some.is at (c.in_ok-standing.ensures.told clean v rest)) in
          none_more path author v c.args.page.now.items c.args.number (of_another path author v c.args.number (standing_of c.in-Some.submission) stands (sym c.is_of.ensures ∙ off));
    }

pub returns-in-Ok : goal.returns-in-Ok
returns-in-Ok g c =
    let of_it : c.is_of.result ≡ true = c.if-not-is_of.false in
    let one = c.in_ok-standing.ensures in
    let two = c.in-Ok.ensures in
    record {
      rests = reads_then _ _ _ one.rests two.rests;
      told = λ clean v rest.
          let path : Option Path = option_copied c.args.path in
          let author : Option (List ℕ) = option_copied c.args.author in
          let stands : standing_in v c.args.number ≡ Some (standing_of c.in-Some.submission) = sym (rw c.in-Some.is at (one.told (two.rests.clean clean) v rest)) in
          let count = two.told clean v (one.rests.kept v rest) in
          kept_one listed_of c.args.page.now.items c.push_last.new.list.items _ _ c.push_last.result (g.C.Database.state c.args.tables.now.conn) (g.C.Database.state c.remark_count.new.tables.conn) v c.push_last.ensures.items c.push_last.ensures.full
          ((λ i. record { number = c.args.number; standing = standing_of c.in-Some.submission; remarks = count i } ∷ [])
          ∙ sym (one_found path author v c.args.number (standing_of c.in-Some.submission) stands (sym c.is_of.ensures ∙ of_it)));
    }

pub returns-in-Err : goal.returns-in-Err
returns-in-Err g c =
    let one = c.in_ok-standing.ensures in
    let two = c.in-Err.ensures in
    record {
      rests = reads_then _ _ _ one.rests two.rests;
      told = λ clean v rest readable.
          caused_later (g.C.Database.state c.args.tables.now.conn) (g.C.Database.state c.standing.new.tables.conn) (g.C.Database.state c.remark_count.new.tables.conn) (λ _. ⊥) c.in-Err.fault one.rests.survives two.rests.survives.counts (two.rests.clean clean) (two.told clean v (one.rests.kept v rest) readable);
    }

pub returns-in_err-standing : goal.returns-in_err-standing
returns-in_err-standing g c = fault_first g.C.Database.state c.args.tables.now.conn c.standing.new.tables.conn c.in_err-standing.field-0.0 c.from_residual.result c.from_residual.ensures.1 c.in_err-standing.ensures

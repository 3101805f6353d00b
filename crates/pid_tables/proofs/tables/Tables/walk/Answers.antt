use Rattle.std.proofs.Common.{◌≤◌, ◌∙◌, ◌++◌, map, length, ap, subst, sym}
use Rattle.std.specs.Option.{option_copied}
use Rattle.std.proofs.lemmas.List.{map-append}
use Rattle.pid_moderation.specs.SubmissionPages.{Search, listed_of, sought_in}
use Rattle.pid_tables.specs.Rows.Causes.{IsCaused, IsReadable}
use Rattle.pid_tables.proofs.OfRows.CauseLemmas.{caused_later, passed_on}
use Rattle.pid_tables.proofs.OfCheck.Asking.{nothing_read}
use Rattle.pid_tables.proofs.OfRows.OnlyReading.{reads_then}
use Rattle.pid_tables.proofs.OfSearches.PageLemmas.{no_number, page_goes, some_number, walked_all, walked_enough, walked_on}
use Rattle.pid_tables.proofs.tables.Tables.walk.Goals as goal

pub loop-preserved : goal.loop-preserved
loop-preserved g c =
    let one = c.in_ok-page.ensures in
    let before = c.loop.invariant in
    let wanted : Search = record { path = option_copied c.args.path; author = option_copied c.args.author; before = c.args.before } in
    let more = some_number c.in_ok-page.page.before c.if-next-eq0.false in (
      reads_then _ _ _ before.0 one.rests,
      λ clean v rest.
          walked_on v wanted c.loop.found.items _ c.loop.next c.in_ok-page.page.before _ more (before.1 (one.rests.clean clean) v rest)
          (ap (map listed_of) c.in_ok-add_page.ensures.items ∙ map-append listed_of _ _)
          (page_goes v wanted c.submissions_go_on.ensures.next c.loop.next c.in_ok-page.page (one.told clean v (before.0.kept v rest))),
    )

pub returns-then-next-eq0 : goal.returns-then-next-eq0
returns-then-next-eq0 g c =
    let one = c.in_ok-page.ensures in
    let before = c.loop.invariant in
    let wanted : Search = record { path = option_copied c.args.path; author = option_copied c.args.author; before = c.args.before } in
    let none = no_number c.in_ok-page.page.before c.if-next-eq0.true in
    record {
      rests = reads_then _ _ _ before.0 one.rests;
      told = λ clean v rest.
          ap (map listed_of) c.truncate.ensures.items
          ∙ walked_all v wanted c.loop.found.items _ c.loop.next c.in_ok-page.page.before _ none (before.1 (one.rests.clean clean) v rest)
          (ap (map listed_of) c.in_ok-add_page.ensures.items ∙ map-append listed_of _ _)
          (page_goes v wanted c.submissions_go_on.ensures.next c.loop.next c.in_ok-page.page (one.told clean v (before.0.kept v rest)));
    }

pub returns-then-len-ge-PAGE : goal.returns-then-len-ge-PAGE
returns-then-len-ge-PAGE g c =
    let one = c.in_ok-page.ensures in
    let before = c.loop.invariant in
    let wanted : Search = record { path = option_copied c.args.path; author = option_copied c.args.author; before = c.args.before } in
    let enough : 100 ≤ length c.add_page.new.found.items = subst (λ n. 100 ≤ n) (c.len.ensures ∙ c.add_page.new.found.ok.0) c.if-len-ge-PAGE.true in
    record {
      rests = reads_then _ _ _ before.0 one.rests;
      told = λ clean v rest.
          ap (map listed_of) c.truncate-then-len-ge-PAGE.ensures.items
          ∙ walked_enough v wanted c.loop.found.items _ c.loop.next c.in_ok-page.page.before _ enough (before.1 (one.rests.clean clean) v rest)
          (ap (map listed_of) c.in_ok-add_page.ensures.items ∙ map-append listed_of _ _)
          (page_goes v wanted c.submissions_go_on.ensures.next c.loop.next c.in_ok-page.page (one.told clean v (before.0.kept v rest)));
    }

pub returns-in_err-page : goal.returns-in_err-page
returns-in_err-page g c =
    let one = c.in_err-page.ensures in
    let before = c.loop.invariant in
    let old = g.C.Database.state c.args.self.now.conn in
    let mid = g.C.Database.state c.loop.self.conn in
    let new = g.C.Database.state c.submissions_page.new.self.conn in
    record {
      rests = reads_then _ _ _ before.0 one.rests;
      told = λ clean v rest.
          passed_on c.from_residual.result _ _ (λ fault. IsReadable v → IsCaused old new fault) c.from_residual.ensures.1
          (λ readable. caused_later old mid new (λ _. ⊥) c.in_err-page.field-0.0 before.0.survives one.rests.survives.counts (one.rests.clean clean) (one.told clean v (before.0.kept v rest) readable));
    }

pub loop-init : goal.loop-init
loop-init g c =
    let wanted : Search = record { path = option_copied c.args.path; author = option_copied c.args.author; before = c.args.before } in
    (nothing_read (g.C.Database.state c.args.self.now.conn) c.args.self.now.settled, λ clean v rest. ap (λ l. map listed_of l ++ sought_in wanted v) c.new-found.ensures.items)

pub returns-in_err-add_page : goal.returns-in_err-add_page
returns-in_err-add_page g c =
    let one = c.in_ok-page.ensures in
    let before = c.loop.invariant in
    let old = g.C.Database.state c.args.self.now.conn in
    let new = g.C.Database.state c.submissions_page.new.self.conn in
    record {
      rests = reads_then _ _ _ before.0 one.rests;
      told = λ clean v rest.
          passed_on c.from_residual-in_err-add_page.result _ _ (λ fault. IsReadable v → IsCaused old new fault) c.from_residual-in_err-add_page.ensures.1
          (λ readable. subst (IsCaused old new) (sym c.in_err-add_page.ensures.full) tt);
    }

pub returns : goal.returns
returns g c = record { rests = c.loop.invariant.0; told = λ clean v rest readable. tt }

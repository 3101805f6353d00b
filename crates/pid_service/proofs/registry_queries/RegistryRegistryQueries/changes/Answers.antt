use Rattle.std.proofs.Common.{◌≡◌, ℕ, List, map, take, Err, Option, refl, ap, sym, ◌∙◌}
use Rattle.std.specs.Option.{option_copied}
use Rattle.pid_moderation.specs.ChangePages.{Changed}
use Rattle.pid_tables.proofs.OfRows.OnlyReading.{reads_then}
use Rattle.pid_service.proofs.Words.{changed_after, changed_of, ChangedItem, ChangePage, PAGE, Path, start_text, views_of}
use Rattle.pid_service.proofs.Keeping.{true_not}
use Rattle.pid_service.proofs.Obeyed.{only_read}
use Rattle.pid_service.proofs.QueriesMet.{promised}
use Rattle.pid_service.proofs.Questions.{answers_fault, failed_here, reads_after}
use Rattle.pid_moderation.proofs.RevisionLemmas.{within as within_revision}
use Rattle.pid_service.proofs.Reached.{reached_held, reached_readable}
use Rattle.pid_service.proofs.registry_queries.RegistryRegistryQueries.changes.Goals as goal

page_with : (revision now : ℕ) (told : List ChangedItem) (items : List Changed) → revision ≡ now → map changed_of told ≡ items
    → ◌≡◌ {A = ChangePage} (record { revision = revision; items = map changed_of told }) (record { revision = now; items = items })
page_with revision now told items same is = ap (λ (l : List Changed). record { revision = revision; items = l }) is ∙ ap (λ (n : ℕ). record { revision = n; items = items }) same

pub returns-then-not-self : goal.returns-then-not-self
returns-then-not-self g c =
    promised g.C.Database c.args.self.now _ _ _
    (failed_here g.C.Database c.args.self.now _ c.if-not-self.true c.args.self.now.tables.settled)

pub returns-in-Err : goal.returns-in-Err
returns-in-Err g c =
    promised g.C.Database c.args.self.now _ _ _
    (answers_fault g.C.Database c.args.self.now _ c.in-Err.fault c.refusal_of.result _ c.if-not-self.false refl refl c.revision.ensures.rests c.refusal_of.ensures.same c.refusal_of.ensures.fault
    (λ clean h shows. c.in-Err.ensures.told clean (views_of h) shows.tables (reached_readable h shows.history)))

-- ---- none was changed, or the items are kept

pub returns-in-Some : goal.returns-in-Some
returns-in-Some g c =
    promised g.C.Database c.args.self.now _ _ _
    (record {
      failed = true_not c.args.self.now.live c.if-not-self.false;
      fault = tt;
      lives = refl;
      rests = c.revision.ensures.rests;
      told = λ clean h shows.
          let now : c.in-Ok.revision ≡ (views_of h).revision = c.in-Ok.ensures.told clean (views_of h) shows.tables in
          let page = c.in-Some.ensures (views_of h) now (within_revision h) (shows.kept (c.revision.ensures.rests.clean clean)).changes ∙ ap (λ (start : Option Path). take PAGE (changed_after c.args.since (start_text start) (views_of h))) c.copied-start.ensures in
          (page_with c.in-Ok.revision (views_of h).revision c.in-Some.items.items _ now page, only_read g.C.Database c.args.self.now _ h refl c.revision.ensures.rests refl shows);
      caused = λ clean h shows. tt;
    })

-- ---- they are read

pub returns-in-Ok-changes_page : goal.returns-in-Ok-changes_page
returns-in-Ok-changes_page g c =
    promised g.C.Database c.args.self.now _ _ _
    (let first = c.revision.ensures.rests in
    let second = c.changes_page.ensures.rests in
    record {
      failed = true_not c.args.self.now.live c.if-not-self.false;
      fault = tt;
      lives = refl;
      rests = reads_then _ _ _ first second;
      told = λ clean h shows.
          let kept = shows.kept (first.clean (second.clean clean)) in
          let told = c.in-Ok-changes_page.ensures.told clean (views_of h) (first.kept (views_of h) shows.tables) (reached_held h shows.history) in
          let page : map changed_of c.in-Ok-changes_page.changes.items.items ≡ take PAGE (changed_after c.args.since (start_text (option_copied c.args.after)) (views_of h)) = ap (λ (p : ChangePage). p.items) told in
          let asked = page ∙ sym (ap (λ (start : Option Path). take PAGE (changed_after c.args.since (start_text start) (views_of h))) c.copied-start.ensures) in (
            told,
            record {
              lives = shows.lives;
              history = shows.history;
              tables = second.kept (views_of h) (first.kept (views_of h) shows.tables);
              kept = λ still. record {
                names = kept.names;
                text = kept.text;
                top = kept.top;
                changes = c.keep_page.ensures (views_of h) kept.changes (ap (map changed_of) c.as_slice-page.ensures.value ∙ asked);
                pending = kept.pending;
                numbers = kept.numbers;
                accounts = kept.accounts;
              };
            },
          );
      caused = λ clean h shows. tt;
    })

pub returns-in-Err-changes_page : goal.returns-in-Err-changes_page
returns-in-Err-changes_page g c =
    promised g.C.Database c.args.self.now _ _ _
    (let read = reads_after g.C.Database c.args.self.now.tables.conn c.revision.new.self.conn c.changes_page.new.self.conn (Err c.in-Err-changes_page.fault) _ c.revision.ensures.rests c.in-Err-changes_page.ensures in
    answers_fault g.C.Database c.args.self.now _ c.in-Err-changes_page.fault c.refusal_of-in-Err-changes_page.result _ c.if-not-self.false refl refl read.rests c.refusal_of-in-Err-changes_page.ensures.same c.refusal_of-in-Err-changes_page.ensures.fault
    (λ clean h shows. read.told clean (views_of h) shows.tables (reached_readable h shows.history)))

use Rattle.std.proofs.Common.{◌≡◌, map, take, ap, sym, subst, ◌∙◌, Result}
use Rattle.std.specs.Prelude.{Vec}
use Rattle.std.specs.Option.{option_copied}
use Rattle.std.specs.declared.alloc.Global.{Global}
use Rattle.sqlite.specs.State.{State}
use Rattle.pid_moderation.specs.SubmissionPages.{Search, listed_of, sought_in}
use Rattle.pid_moderation.specs.declared.lists.Listed.{Listed}
use Rattle.pid_tables.specs.Lists.Steps.SubmissionRows.{next_after}
use Rattle.pid_tables.specs.Rows.Clauses.{Reads}
use Rattle.pid_tables.specs.Searches.KeptNumbers.{HoldsNumbers}
use Rattle.pid_tables.specs.declared.rows.fault.TableFault.{TableFault}
use Rattle.pid_tables.specs.declared.searches.numbers.Searches.{Searches}
use Rattle.pid_tables.proofs.OfSearches.PageLemmas.{page_is}
use Rattle.pid_tables.proofs.ThenReads.{fault_first, says_less}
use Rattle.pid_tables.proofs.tables.Tables.page_by.Goals.{in-Some, in-None}
use Rattle.pid_tables.proofs.tables.Tables.page_by.Goals as goal

-- a way to the submissions of a page
abbrev Finds : {S : Type 0} → (S → State) → Searches → Search → S → S → Result (Vec Listed Global) TableFault → Type 0
Finds store numbers wanted old new r = Reads store old new r (λ v page. HoldsNumbers numbers v → map listed_of page.items ≡ take 100 (sought_in wanted v))

pub returns-in_err-submissions : goal.returns-in_err-submissions
returns-in_err-submissions g c =
    let wanted : Search = record { path = option_copied c.args.path; author = option_copied c.args.author; before = c.args.before } in
    let old = c.args.self.now.conn in
    let new = c.match-list_below.self.conn in
    let numbers = c.args.numbers.now in
    let found : Finds g.C.Database.state numbers wanted old new c.match-list_below.found = elim c.match-list_below.branch [
      | in-Some w ↦ subst (λ s. Finds g.C.Database.state numbers wanted old s.conn c.match-list_below.found) (sym w.self-is) (subst (λ r. Finds g.C.Database.state numbers wanted old w.sought_at-found.new.tables.conn r) (sym w.found-is)
          (says_less g.C.Database.state old w.sought_at-found.new.tables.conn w.sought_at-found.result w.sought_at-found.ensures (λ v x says holds. says ∙ ap (take 100) (w.in-Some.ensures v holds))))
      | in-None w ↦ subst (λ s. Finds g.C.Database.state numbers wanted old s.conn c.match-list_below.found) (sym w.self-is) (subst (λ r. Finds g.C.Database.state numbers wanted old w.walk-found.new.self.conn r) (sym w.found-is)
          (says_less g.C.Database.state old w.walk-found.new.self.conn w.walk-found.result w.walk-found.ensures (λ v x says holds. says)))
    ] in
    fault_first g.C.Database.state old new c.in_err-submissions.field-0.0 c.from_residual.result c.from_residual.ensures.1 (subst (λ r. Finds g.C.Database.state numbers wanted old new r) c.in_err-submissions.was found)

pub returns : goal.returns
returns g c =
    let wanted : Search = record { path = option_copied c.args.path; author = option_copied c.args.author; before = c.args.before } in
    let old = c.args.self.now.conn in
    let new = c.match-list_below.self.conn in
    let numbers = c.args.numbers.now in
    let found : Finds g.C.Database.state numbers wanted old new c.match-list_below.found = elim c.match-list_below.branch [
      | in-Some w ↦ subst (λ s. Finds g.C.Database.state numbers wanted old s.conn c.match-list_below.found) (sym w.self-is) (subst (λ r. Finds g.C.Database.state numbers wanted old w.sought_at-found.new.tables.conn r) (sym w.found-is)
          (says_less g.C.Database.state old w.sought_at-found.new.tables.conn w.sought_at-found.result w.sought_at-found.ensures (λ v x says holds. says ∙ ap (take 100) (w.in-Some.ensures v holds))))
      | in-None w ↦ subst (λ s. Finds g.C.Database.state numbers wanted old s.conn c.match-list_below.found) (sym w.self-is) (subst (λ r. Finds g.C.Database.state numbers wanted old w.walk-found.new.self.conn r) (sym w.found-is)
          (says_less g.C.Database.state old w.walk-found.new.self.conn w.walk-found.result w.walk-found.ensures (λ v x says holds. says)))
    ] in
    let one : Finds g.C.Database.state numbers wanted old new _ = subst (λ r. Finds g.C.Database.state numbers wanted old new r) c.in_ok-submissions.was found in
    record {
      rests = one.rests;
      told = λ clean v rest holds.
          page_is v wanted c.next_of-before.result (map listed_of c.in_ok-submissions.submissions.items)
          (one.told clean v rest holds) (c.next_of-before.ensures ∙ ap (λ l. next_after 100 (map listed_of l) 0) c.as_slice.ensures.value);
    }

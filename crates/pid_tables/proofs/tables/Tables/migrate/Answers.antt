use Rattle.std.proofs.Common.{◌≡◌, None, Some, MatchResult}
use Rattle.pid_moderation.specs.History.{new_history}
use Rattle.pid_moderation.specs.Views.{views_of}
use Rattle.pid_tables.specs.declared.rows.schema_version.Version.TheVariants.{One, Two}
use Rattle.pid_tables.specs.Rows.Faults.{IsMemoryOrStore, IsNotNewerSchema}
use Rattle.pid_tables.specs.Rows.Leaves.{AtRest, OnlyReads, RestsIn}
use Rattle.pid_tables.proofs.OfRows.CauseLemmas.{passed_from, passed_on}
use Rattle.pid_tables.proofs.OfRows.OnlyReading.{rests_in_still}
use Rattle.pid_tables.proofs.OfCheck.Later.{only_store_never}
use Rattle.pid_tables.specs.Check.Checking.{Explains}
use Rattle.pid_tables.specs.Bringing.{Refuses, Fails}
use Rattle.pid_tables.specs.Creation.{RestsBare}
use Rattle.pid_tables.specs.Steps.Found.{BringsNone, BringsOne}
use Rattle.pid_tables.specs.Statements.{IsMadeBy, move_statements, registry_statements}
use Rattle.pid_tables.proofs.AtOnceLemmas.{reads_at_once, reads_never, reads_then_at_once, still_bare}
use Rattle.pid_tables.proofs.BringLemmas.{of_none, of_one, of_two, made_alone, with_step, none_there, still_met, met_reads, left_alone, or_only_store, brought, named_brought, moved_brought, some_moved, read_alone, one_found, ok_rests, left_rests, kept_rests, hands_latest, reads_then_kept, reads_then_made}
use Rattle.pid_tables.proofs.StandLemmas.{standing_latest, tables_some, only_store_told}
use Rattle.pid_tables.proofs.MoveLemmas.{not_ok, not_on_ok}
use Rattle.pid_tables.proofs.tables.Tables.migrate.Goals as goal

-- ---- what stands is not known

pub returns-in_err-found-clause-at_once : goal.returns-in_err-found-clause-at_once
returns-in_err-found-clause-at_once g c = reads_at_once (g.C.Database.state c.args.self.now.conn) (g.C.Database.state c.schema_found.new.self.conn) c.from_residual.result c.schema_found.ensures.rests

pub returns-in_err-found-clause-shown : goal.returns-in_err-found-clause-shown
returns-in_err-found-clause-shown g c =
    let old = g.C.Database.state c.args.self.now.conn in
    let mid = g.C.Database.state c.schema_found.new.self.conn in
    let reads = c.schema_found.ensures.rests in
    let bad = c.in_err-found.ensures.shown in
    record {
      created = λ clean bare.
          passed_on c.from_residual.result _ _ (λ fault. IsMemoryOrStore fault × RestsBare mid) c.from_residual.ensures.1
          (none_there old c.schemas_have_tables.ensures.none bare (λ closed. bad.shut clean closed) (λ none. bad.bare clean none), still_bare old mid reads bare);
      moved = λ clean h sound rest.
          passed_on c.from_residual.result _ _ (λ fault. IsMemoryOrStore fault × RestsIn One mid (views_of h)) c.from_residual.ensures.1 (bad.earlier clean h sound rest, rests_in_still old mid (views_of h) reads rest);
      told = λ clean v rest. passed_from c.from_residual.result _ (Explains old.now) c.from_residual.ensures.1 (c.in_err-found.ensures.told clean);
      already = λ clean v rest. passed_on c.from_residual.result _ _ (λ fault. IsMemoryOrStore fault × OnlyReads old mid) c.from_residual.ensures.1 (bad.latest clean v rest, reads);
      kept = λ clean version v rest. not_on_ok c.from_residual.result _ _ c.from_residual.ensures.1;
    }

pub returns-in_err-found-clause-judged : goal.returns-in_err-found-clause-judged
returns-in_err-found-clause-judged g c =
    let old = g.C.Database.state c.args.self.now.conn in
    let mid = g.C.Database.state c.schema_found.new.self.conn in
    record {
      found = λ clean some. passed_on c.from_residual.result _ _ (λ fault. Refuses old fault mid) c.from_residual.ensures.1 (Fails (c.in_err-found.ensures.told clean) c.schema_found.ensures.rests);
      moved = λ some. reads_never (IsMadeBy g.C.Database.state move_statements c.args.self.now.conn) old mid c.schema_found.ensures.rests;
      done = λ clean. not_ok c.from_residual.result _ _ c.from_residual.ensures.1;
      named = λ clean. not_ok c.from_residual.result _ _ c.from_residual.ensures.1;
      only_read = not_ok c.from_residual.result _ _ c.from_residual.ensures.1;
      latest = λ clean. not_ok c.from_residual.result _ _ c.from_residual.ensures.1;
    }

pub returns-in_err-found-clause-none : goal.returns-in_err-found-clause-none
returns-in_err-found-clause-none g c =
    let old = g.C.Database.state c.args.self.now.conn in
    let mid = g.C.Database.state c.schema_found.new.self.conn in
    let reads = c.schema_found.ensures.rests in
    let bad = c.in_err-found.ensures.shown in
    record {
      made = λ none. reads_never (IsMadeBy g.C.Database.state registry_statements c.args.self.now.conn) old mid reads;
      done = λ clean none. not_on_ok c.from_residual.result _ _ c.from_residual.ensures.1;
      bare = λ clean none. passed_on c.from_residual.result _ _ IsNotNewerSchema c.from_residual.ensures.1 (only_store_never _ (bad.bare clean none));
      met = λ clean none met. passed_on c.from_residual.result _ _ (λ fault. IsNotNewerSchema fault × OnlyReads old mid) c.from_residual.ensures.1 (only_store_never _ (bad.bare clean none), reads);
      shut = λ clean closed. passed_on c.from_residual.result _ _ (λ fault. IsMemoryOrStore fault × OnlyReads old mid) c.from_residual.ensures.1 (bad.shut clean closed, reads);
    }

-- ---- what stands is brought

pub returns-clause-at_once : goal.returns-clause-at_once
returns-clause-at_once g c =
    reads_then_at_once (g.C.Database.state c.args.self.now.conn) (g.C.Database.state c.schema_found.new.self.conn) (g.C.Database.state c.upgrade.new.conn) c.upgrade.result c.schema_found.ensures.rests c.upgrade.ensures.at_once

pub returns-clause-shown : goal.returns-clause-shown
returns-clause-shown g c =
    let old = g.C.Database.state c.args.self.now.conn in
    let mid = g.C.Database.state c.schema_found.new.self.conn in
    let new = g.C.Database.state c.upgrade.new.conn in
    let reads = c.schema_found.ensures.rests in
    let good = c.in_ok-found.ensures.shown in
    let found = c.in_ok-found.found in
    let step = c.upgrade.ensures.step in
    let made : found ≡ None → BringsNone g.C.Database.state c.schema_found.new.self.conn c.upgrade.new.conn c.upgrade.result = of_none g.C.Database.state c.schema_found.new.self.conn c.upgrade.new.conn found c.upgrade.result c.upgrade.ensures.brings in
    let moved : found ≡ Some One → BringsOne g.C.Database.state c.schema_found.new.self.conn c.upgrade.new.conn c.upgrade.result = of_one g.C.Database.state c.schema_found.new.self.conn c.upgrade.new.conn found c.upgrade.result c.upgrade.ensures.brings in
    let left : found ≡ Some Two → MatchResult c.upgrade.result (λ _. c.upgrade.new.conn ≡ c.schema_found.new.self.conn) (λ _. ⊥) = of_two g.C.Database.state c.schema_found.new.self.conn c.upgrade.new.conn found c.upgrade.result c.upgrade.ensures.brings in
    record {
      created = λ clean bare.
          let first = c.upgrade.ensures.at_once.clean clean in
          let is : found ≡ None = none_there old c.schemas_have_tables.ensures.none bare (λ closed. absurd (good.shut first closed)) (λ none. good.bare first none) in
          with_step (AtRest new (views_of new_history)) (λ fault. IsMemoryOrStore fault × RestsBare new) None found c.upgrade.result is step ((made is).created clean (still_bare old mid reads bare));
      moved = λ clean h sound rest.
          let is : found ≡ Some One = good.earlier (c.upgrade.ensures.at_once.clean clean) h sound rest in
          with_step (AtRest new (views_of h)) (λ fault. IsMemoryOrStore fault × RestsIn One new (views_of h)) (Some One) found c.upgrade.result is step ((moved is).moved clean (views_of h) (rests_in_still old mid (views_of h) reads rest));
      told = λ clean v rest.
          let first = c.upgrade.ensures.at_once.clean clean in
          let is = one_found old found v (tables_some One _ (c.schemas_have_tables.ensures.tables One)) rest (good.shut first) (c.in_ok-found.ensures.told first) in
          only_store_told (λ _. AtRest new v) (λ fault. RestsIn One new v) old.now c.upgrade.result ((moved is).moved clean v (rests_in_still old mid v reads rest));
      already = λ clean v rest.
          let is = good.latest (c.upgrade.ensures.at_once.clean clean) v rest in
          or_only_store _ _ c.upgrade.result (left_alone g.C.Database.state old c.schema_found.new.self.conn c.upgrade.new.conn found c.upgrade.result reads is step (left is));
      kept = λ clean.
          let first = c.upgrade.ensures.at_once.clean clean in
          kept_rests old new c.upgrade.result
          (λ v rest.
          let is = one_found old found v (tables_some One _ (c.schemas_have_tables.ensures.tables One)) rest (good.shut first) (c.in_ok-found.ensures.told first) in
          ok_rests new v (λ fault. IsMemoryOrStore fault × RestsIn One new v) c.upgrade.result ((moved is).moved clean v (rests_in_still old mid v reads rest)))
          (λ v rest.
          let is = good.latest first v rest in
          left_rests old new v c.upgrade.result rest (left_alone g.C.Database.state old c.schema_found.new.self.conn c.upgrade.new.conn found c.upgrade.result reads is step (left is)));
    }

pub returns-clause-judged : goal.returns-clause-judged
returns-clause-judged g c =
    let old = g.C.Database.state c.args.self.now.conn in
    let mid = g.C.Database.state c.schema_found.new.self.conn in
    let new = g.C.Database.state c.upgrade.new.conn in
    let reads = c.schema_found.ensures.rests in
    let good = c.in_ok-found.ensures.shown in
    let found = c.in_ok-found.found in
    let step = c.upgrade.ensures.step in
    let made : found ≡ None → BringsNone g.C.Database.state c.schema_found.new.self.conn c.upgrade.new.conn c.upgrade.result = of_none g.C.Database.state c.schema_found.new.self.conn c.upgrade.new.conn found c.upgrade.result c.upgrade.ensures.brings in
    let moved : found ≡ Some One → BringsOne g.C.Database.state c.schema_found.new.self.conn c.upgrade.new.conn c.upgrade.result = of_one g.C.Database.state c.schema_found.new.self.conn c.upgrade.new.conn found c.upgrade.result c.upgrade.ensures.brings in
    let left : found ≡ Some Two → MatchResult c.upgrade.result (λ _. c.upgrade.new.conn ≡ c.schema_found.new.self.conn) (λ _. ⊥) = of_two g.C.Database.state c.schema_found.new.self.conn c.upgrade.new.conn found c.upgrade.result c.upgrade.ensures.brings in
    record {
      found = λ clean some.
          brought old new found c.upgrade.result (c.in_ok-found.ensures.told (c.upgrade.ensures.at_once.clean clean)) some step
          (λ is. left_alone g.C.Database.state old c.schema_found.new.self.conn c.upgrade.new.conn found c.upgrade.result reads is step (left is)) (c.upgrade.ensures.never clean);
      moved = λ some.
          reads_then_made g.C.Database.state move_statements c.args.self.now.conn c.schema_found.new.self.conn c.upgrade.new.conn reads c.schema_found.ensures.same c.upgrade.ensures.at_once.once
          (λ clean.
          some_moved g.C.Database.state (IsMadeBy g.C.Database.state move_statements c.schema_found.new.self.conn) old.now c.schema_found.new.self.conn c.upgrade.new.conn found c.upgrade.result (c.in_ok-found.ensures.told (c.upgrade.ensures.at_once.clean clean)) some reads.settled
          (λ is. (moved is).carried.survives) left);
      done = λ clean.
          moved_brought _ found c.upgrade.result step
          (λ is. reads_then_kept g.C.Database.state move_statements c.args.self.now.conn c.schema_found.new.self.conn c.upgrade.new.conn c.upgrade.result reads c.schema_found.ensures.same ((moved is).carried.done clean));
      named = λ clean. named_brought found c.upgrade.result step (standing_latest old.now found (c.in_ok-found.ensures.told (c.upgrade.ensures.at_once.clean clean)));
      only_read = read_alone g.C.Database.state old c.schema_found.new.self.conn c.upgrade.new.conn found c.upgrade.result reads step left;
      latest = λ clean.
          let first = c.upgrade.ensures.at_once.clean clean in
          hands_latest g.C.Database.state old c.schema_found.new.self.conn c.upgrade.new.conn found c.upgrade.result c.schema_found.ensures.same (standing_latest old.now found (c.in_ok-found.ensures.told first)) step left
          (λ v rest.
          let is = one_found old found v (tables_some One _ (c.schemas_have_tables.ensures.tables One)) rest (good.shut first) (c.in_ok-found.ensures.told first) in
          ok_rests new v (λ fault. IsMemoryOrStore fault × RestsIn One new v) c.upgrade.result ((moved is).moved clean v (rests_in_still old mid v reads rest)))
          (λ bare.
          let is : found ≡ None = none_there old c.schemas_have_tables.ensures.none bare (λ closed. absurd (good.shut first closed)) (λ none. good.bare first none) in
          ok_rests new (views_of new_history) (λ fault. IsMemoryOrStore fault × RestsBare new) c.upgrade.result ((made is).created clean (still_bare old mid reads bare)));
    }

pub returns-clause-none : goal.returns-clause-none
returns-clause-none g c =
    let old = g.C.Database.state c.args.self.now.conn in
    let mid = g.C.Database.state c.schema_found.new.self.conn in
    let reads = c.schema_found.ensures.rests in
    let good = c.in_ok-found.ensures.shown in
    let found = c.in_ok-found.found in
    let made : found ≡ None → BringsNone g.C.Database.state c.schema_found.new.self.conn c.upgrade.new.conn c.upgrade.result = of_none g.C.Database.state c.schema_found.new.self.conn c.upgrade.new.conn found c.upgrade.result c.upgrade.ensures.brings in
    record {
      made = λ none.
          reads_then_made g.C.Database.state registry_statements c.args.self.now.conn c.schema_found.new.self.conn c.upgrade.new.conn reads c.schema_found.ensures.same c.upgrade.ensures.at_once.once
          (λ clean. (made (good.bare (c.upgrade.ensures.at_once.clean clean) none)).carried.survives);
      done = λ clean none.
          reads_then_kept g.C.Database.state registry_statements c.args.self.now.conn c.schema_found.new.self.conn c.upgrade.new.conn c.upgrade.result reads c.schema_found.ensures.same
          ((made (good.bare (c.upgrade.ensures.at_once.clean clean) none)).carried.done clean);
      bare = λ clean none. made_alone c.in_ok-found.found c.upgrade.result (good.bare (c.upgrade.ensures.at_once.clean clean) none) c.upgrade.ensures.step (c.upgrade.ensures.never clean);
      met = λ clean none met.
          met_reads old mid (g.C.Database.state c.upgrade.new.conn) c.upgrade.result reads ((made (good.bare (c.upgrade.ensures.at_once.clean clean) none)).met clean (still_met old mid reads c.schema_found.ensures.same met));
      shut = λ clean closed. absurd (good.shut (c.upgrade.ensures.at_once.clean clean) closed);
    }

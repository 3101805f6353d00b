use Rattle.std.proofs.Common.{refl, sym, ◌∙◌}
use Rattle.std.proofs.lemmas.Bool.{true≢false, false≢true}
use Rattle.pid_moderation.specs.Views.{views_of}
use Rattle.pid_tables.specs.declared.rows.schema_version.Version.TheVariants.{One, Two}
use Rattle.pid_tables.specs.Rows.Faults.{IsMemoryOrStore}
use Rattle.pid_tables.specs.Rows.Shows.{counts_of, numbers_in}
use Rattle.pid_tables.proofs.OfRows.CauseLemmas.{passed_on}
use Rattle.pid_tables.proofs.OfRows.OnlyReading.{reads_then, rests_in_still}
use Rattle.pid_tables.specs.Check.Checking.{Explains}
use Rattle.pid_tables.proofs.OfCheck.Telling.{told_stored}
use Rattle.pid_tables.specs.Steps.Bringing.{Named}
use Rattle.pid_tables.proofs.StandLemmas.{outside, seen_still, only_store_explains, told_before, as_standing, none_found, none_within, good_found}
use Rattle.pid_tables.proofs.tables.Tables.schema_found.Goals as goal

-- ---- it only reads

pub returns-in_err-is_current-clause-rests : goal.returns-in_err-is_current-clause-rests
returns-in_err-is_current-clause-rests g c = c.is_current.ensures.rests

pub returns-then-branch-clause-rests : goal.returns-then-branch-clause-rests
returns-then-branch-clause-rests g c = c.is_current.ensures.rests

pub returns-clause-rests : goal.returns-clause-rests
returns-clause-rests g c = reads_then _ _ _ c.is_current.ensures.rests c.check.ensures.rests

-- ---- all reads see the same

pub returns-in_err-is_current-clause-same : goal.returns-in_err-is_current-clause-same
returns-in_err-is_current-clause-same g c =
    seen_still (g.C.Database.state c.args.self.now.conn) (g.C.Database.state c.is_current.new.tables.conn) (c.is_autocommit-outside.ensures.settled (outside _ _ c.args.self.now.settled c.is_autocommit-outside.ensures.value)) c.is_current.ensures.rests

pub returns-then-branch-clause-same : goal.returns-then-branch-clause-same
returns-then-branch-clause-same g c =
    seen_still (g.C.Database.state c.args.self.now.conn) (g.C.Database.state c.is_current.new.tables.conn) (c.is_autocommit-outside.ensures.settled (outside _ _ c.args.self.now.settled c.is_autocommit-outside.ensures.value)) c.is_current.ensures.rests

pub returns-clause-same : goal.returns-clause-same
returns-clause-same g c =
    let old = g.C.Database.state c.args.self.now.conn in
    let mid = g.C.Database.state c.is_current.new.tables.conn in
    let new = g.C.Database.state c.check.new.self.conn in
    seen_still old new (c.is_autocommit-outside.ensures.settled (outside _ _ c.args.self.now.settled c.is_autocommit-outside.ensures.value)) (reads_then old mid new c.is_current.ensures.rests c.check.ensures.rests)

-- ---- what is shown

pub returns-in_err-is_current-clause-shown : goal.returns-in_err-is_current-clause-shown
returns-in_err-is_current-clause-shown g c = record {
  shut = λ clean closed. passed_on c.from_residual.result _ _ IsMemoryOrStore c.from_residual.ensures.1 c.in_err-is_current.ensures.only_store;
  bare = λ clean none. passed_on c.from_residual.result _ _ IsMemoryOrStore c.from_residual.ensures.1 c.in_err-is_current.ensures.only_store;
  earlier = λ clean h sound rest. passed_on c.from_residual.result _ _ IsMemoryOrStore c.from_residual.ensures.1 c.in_err-is_current.ensures.only_store;
  latest = λ clean v rest. passed_on c.from_residual.result _ _ IsMemoryOrStore c.from_residual.ensures.1 c.in_err-is_current.ensures.only_store;
}

-- the labels name schema 2
pub returns-then-branch-clause-shown : goal.returns-then-branch-clause-shown
returns-then-branch-clause-shown g c = record {
  shut = λ clean closed. absurd (true≢false (sym (c.in_ok-is_current.ensures.was_open clean) ∙ closed));
  bare = λ clean none. absurd (true≢false (sym c.if-branch.true ∙ c.in_ok-is_current.ensures.bare clean none));
  earlier = λ clean h sound rest.
      absurd (true≢false (sym c.if-branch.true ∙ c.in_ok-is_current.ensures.shown clean One (counts_of (views_of h)) (numbers_in (views_of h)) (views_of h) rest.shows));
  latest = λ clean v rest. refl;
}

-- the check tells
pub returns-clause-shown : goal.returns-clause-shown
returns-clause-shown g c =
    let old = g.C.Database.state c.args.self.now.conn in
    let mid = g.C.Database.state c.is_current.new.tables.conn in
    let still = seen_still old mid (c.is_autocommit-outside.ensures.settled (outside _ _ c.args.self.now.settled c.is_autocommit-outside.ensures.value)) c.is_current.ensures.rests in
    record {
      shut = λ clean closed. absurd (true≢false (sym (c.in_ok-is_current.ensures.was_open (c.check.ensures.rests.clean clean)) ∙ closed));
      bare = λ clean none. none_found old.now c.check.result none (told_before old mid c.check.result still (c.check.ensures.shut clean) (c.check.ensures.told clean));
      earlier = λ clean h sound rest.
          good_found One mid (views_of h) c.check.result (rests_in_still old mid (views_of h) c.is_current.ensures.rests rest) (λ shows. c.sound_histories_are_registries.ensures h sound (none_within _ shows.sinces.0) One mid.now shows) (c.check.ensures.shut clean) (told_stored mid.now c.check.result (c.check.ensures.told clean));
      latest = λ clean v rest.
          absurd (false≢true (sym c.if-branch.false ∙ c.in_ok-is_current.ensures.shown (c.check.ensures.rests.clean clean) Two (counts_of v) (numbers_in v) v rest.shows));
    }

-- ---- any tables

pub returns-in_err-is_current-clause-told : goal.returns-in_err-is_current-clause-told
returns-in_err-is_current-clause-told g c clean =
    let db = (g.C.Database.state c.args.self.now.conn).now in
    passed_on c.from_residual.result _ _ (Explains db) c.from_residual.ensures.1 (only_store_explains db _ c.in_err-is_current.ensures.only_store)

pub returns-then-branch-clause-told : goal.returns-then-branch-clause-told
returns-then-branch-clause-told g c clean = Named refl (c.in_ok-is_current.ensures.named clean c.if-branch.true)

pub returns-clause-told : goal.returns-clause-told
returns-clause-told g c clean =
    let old = g.C.Database.state c.args.self.now.conn in
    let mid = g.C.Database.state c.is_current.new.tables.conn in
    let still = seen_still old mid (c.is_autocommit-outside.ensures.settled (outside _ _ c.args.self.now.settled c.is_autocommit-outside.ensures.value)) c.is_current.ensures.rests in
    as_standing old.now c.check.result (told_before old mid c.check.result still (c.check.ensures.shut clean) (c.check.ensures.told clean))

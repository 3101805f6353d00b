use Rattle.std.proofs.Common.{None, Ok, MatchResult, ap, arith, subst, sym, ◌∙◌}
use Rattle.std.specs.Prelude.{not}
use Rattle.sqlite.specs.Effect.{Database}
use Rattle.pid_moderation.specs.Views.{views_of}
use Rattle.pid_tables.proofs.OfRows.CauseLemmas.{passed_on}
use Rattle.pid_tables.proofs.OfRows.OnlyReading.{reads_then}
use Rattle.pid_tables.specs.Check.Checking.{Explains, FindsVersion}
use Rattle.pid_tables.specs.Check.Steps.Lacking.{ExplainsLater}
use Rattle.pid_tables.specs.Check.Shapes.{HasEachTable, HasSomeTable}
use Rattle.pid_tables.proofs.OfCheck.Asking.{each_table}
use Rattle.pid_tables.proofs.OfCheck.Judged.{not_both}
use Rattle.pid_tables.proofs.OfCheck.Telling.{lacked, told_stored, only_store, off_on}
use Rattle.pid_tables.proofs.StandLemmas.{good_found}
use Rattle.pid_tables.specs.Rows.Faults.{IsMemoryOrStore}
use Rattle.pid_tables.proofs.tables.Tables.check.Goals as goal

pub returns-then-not-branch-clause-rests : goal.returns-then-not-branch-clause-rests
returns-then-not-branch-clause-rests g c =
    reads_then (g.C.Database.state c.args.self.now.conn) (g.C.Database.state c.some_can.new.tables.conn) (g.C.Database.state c.check_tables.new.tables.conn) c.in_ok-some_can.ensures.asks.rests c.check_tables.ensures.rests

pub returns-then-not-branch-clause-shut : goal.returns-then-not-branch-clause-shut
returns-then-not-branch-clause-shut g c clean shut = absurd (off_on _ shut (c.in_ok-some_can.ensures.was_open (c.check_tables.ensures.rests.clean clean) (omega arith)))

pub returns-then-not-branch-clause-told : goal.returns-then-not-branch-clause-told
returns-then-not-branch-clause-told g c clean =
    let mid = c.check_tables.ensures.rests.clean clean in
    let one = c.in_ok-some_can.ensures.asks.same mid in
    let each = (each_table (g.C.Database.state c.args.self.now.conn).now.schema _ (c.in_ok-some_can.ensures.asks.asked mid)).0 (ap not c.if-not-branch.true) in
    subst (λ d. MatchResult c.check_tables.result (FindsVersion d) (Explains d)) one (c.check_tables.ensures.told clean (subst (λ (d : Database). HasEachTable d.schema) (sym one) each))

pub returns-then-branch-clause-rests : goal.returns-then-branch-clause-rests
returns-then-branch-clause-rests g c =
    let a = g.C.Database.state c.args.self.now.conn in
    let b = g.C.Database.state c.some_can.new.tables.conn in
    let d = g.C.Database.state c.has_some_table.new.tables.conn in
    reads_then a d (g.C.Database.state c.check_lacking.new.tables.conn) (reads_then a b d c.in_ok-some_can.ensures.asks.rests c.in_ok-has_some_table.ensures.reads.rests) c.check_lacking.ensures.rests

pub returns-then-branch-clause-shut : goal.returns-then-branch-clause-shut
returns-then-branch-clause-shut g c clean shut = absurd (off_on _ shut (c.in_ok-some_can.ensures.was_open (c.in_ok-has_some_table.ensures.reads.rests.clean (c.check_lacking.ensures.rests.clean clean)) (omega arith)))

pub returns-then-branch-clause-told : goal.returns-then-branch-clause-told
returns-then-branch-clause-told g c clean =
    let a = (g.C.Database.state c.args.self.now.conn).now in
    let late = c.check_lacking.ensures.rests.clean clean in
    let mid = c.in_ok-has_some_table.ensures.reads.rests.clean late in
    let one = c.in_ok-some_can.ensures.asks.same mid in
    let two = c.in_ok-has_some_table.ensures.found.same late in
    let some = subst (λ (x : Database). HasSomeTable x.schema) one ((c.in_ok-has_some_table.ensures.found.asked late).0 c.if-branch.true) in
    lacked a c.check_lacking.result some (λ each. not_both _ ((each_table (g.C.Database.state c.args.self.now.conn).now.schema _ (c.in_ok-some_can.ensures.asks.asked mid)).1 each) c.if-not-branch.false) (subst (λ (x : Database). MatchResult c.check_lacking.result (λ found. ⊥) (ExplainsLater x)) (two ∙ one) (c.check_lacking.ensures.told clean))

pub returns-in_err-some_can-clause-told : goal.returns-in_err-some_can-clause-told
returns-in_err-some_can-clause-told g c clean =
    let a = (g.C.Database.state c.args.self.now.conn).now in
    passed_on c.from_residual.result _ _ (Explains a) c.from_residual.ensures.1 (only_store a _ c.in_err-some_can.ensures.asks.only_store)

pub returns-in_err-has_some_table-clause-rests : goal.returns-in_err-has_some_table-clause-rests
returns-in_err-has_some_table-clause-rests g c =
    reads_then (g.C.Database.state c.args.self.now.conn) (g.C.Database.state c.some_can.new.tables.conn) (g.C.Database.state c.has_some_table.new.tables.conn) c.in_ok-some_can.ensures.asks.rests c.in_err-has_some_table.ensures.reads.rests

pub returns-in_err-has_some_table-clause-shut : goal.returns-in_err-has_some_table-clause-shut
returns-in_err-has_some_table-clause-shut g c clean shut = absurd (off_on _ shut (c.in_ok-some_can.ensures.was_open (c.in_err-has_some_table.ensures.reads.rests.clean clean) (omega arith)))

pub returns-in_err-has_some_table-clause-told : goal.returns-in_err-has_some_table-clause-told
returns-in_err-has_some_table-clause-told g c clean =
    let a = (g.C.Database.state c.args.self.now.conn).now in
    passed_on c.from_residual-in_err-has_some_table.result _ _ (Explains a) c.from_residual-in_err-has_some_table.ensures.1 (only_store a _ c.in_err-has_some_table.ensures.found.only_store)

pub returns-clause-rests : goal.returns-clause-rests
returns-clause-rests g c =
    reads_then (g.C.Database.state c.args.self.now.conn) (g.C.Database.state c.some_can.new.tables.conn) (g.C.Database.state c.has_some_table.new.tables.conn) c.in_ok-some_can.ensures.asks.rests c.in_ok-has_some_table.ensures.reads.rests

pub returns-clause-shut : goal.returns-clause-shut
returns-clause-shut g c clean shut = absurd (off_on _ shut (c.in_ok-some_can.ensures.was_open (c.in_ok-has_some_table.ensures.reads.rests.clean clean) (omega arith)))

pub returns-clause-told : goal.returns-clause-told
returns-clause-told g c clean = λ some.
    let one = c.in_ok-some_can.ensures.asks.same (c.in_ok-has_some_table.ensures.reads.rests.clean clean) in
    off_on _ c.if-branch.false ((c.in_ok-has_some_table.ensures.found.asked clean).1 (subst (λ (x : Database). HasSomeTable x.schema) (sym one) some))

pub returns-then-not-branch-clause-good : goal.returns-then-not-branch-clause-good
returns-then-not-branch-clause-good g c clean h sound within schema rest =
    let s = g.C.Database.state c.args.self.now.conn in
    good_found schema s (views_of h) c.check_tables.result rest (c.sound_histories_are_registries.ensures h sound within schema s.now) (returns-then-not-branch-clause-shut g c clean) (told_stored s.now c.check_tables.result (returns-then-not-branch-clause-told g c clean))

pub returns-then-branch-clause-good : goal.returns-then-branch-clause-good
returns-then-branch-clause-good g c clean h sound within schema rest =
    let s = g.C.Database.state c.args.self.now.conn in
    good_found schema s (views_of h) c.check_lacking.result rest (c.sound_histories_are_registries.ensures h sound within schema s.now) (returns-then-branch-clause-shut g c clean) (told_stored s.now c.check_lacking.result (returns-then-branch-clause-told g c clean))

pub returns-clause-good : goal.returns-clause-good
returns-clause-good g c clean h sound within schema rest =
    let s = g.C.Database.state c.args.self.now.conn in
    good_found schema s (views_of h) (Ok None) rest (c.sound_histories_are_registries.ensures h sound within schema s.now) (returns-clause-shut g c clean) (told_stored s.now (Ok None) (returns-clause-told g c clean))

pub returns-in_err-some_can-clause-good : goal.returns-in_err-some_can-clause-good
returns-in_err-some_can-clause-good g c clean h sound within schema rest = passed_on c.from_residual.result _ _ IsMemoryOrStore c.from_residual.ensures.1 c.in_err-some_can.ensures.asks.only_store

pub returns-in_err-has_some_table-clause-good : goal.returns-in_err-has_some_table-clause-good
returns-in_err-has_some_table-clause-good g c clean h sound within schema rest = passed_on c.from_residual-in_err-has_some_table.result _ _ IsMemoryOrStore c.from_residual-in_err-has_some_table.ensures.1 c.in_err-has_some_table.ensures.found.only_store

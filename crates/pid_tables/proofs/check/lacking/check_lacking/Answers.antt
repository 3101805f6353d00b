use Rattle.std.proofs.Common.{ℕ, Option, subst, sym}
use Rattle.pid_tables.proofs.OfRows.CauseLemmas.{passed_on}
use Rattle.pid_tables.proofs.OfRows.OnlyReading.{reads_then}
use Rattle.pid_tables.specs.Check.Shapes.{CanBeAsked, ShowsLater}
use Rattle.pid_tables.specs.Check.Steps.Lacking.{ExplainsLater}
use Rattle.pid_tables.proofs.OfCheck.Labels.{later_shown}
use Rattle.pid_tables.proofs.OfCheck.Later.{only_store_later}
use Rattle.pid_tables.proofs.OfCheck.Telling.{off_on}
use Rattle.pid_tables.proofs.check.lacking.check_lacking.Goals as goal

pub returns-in_err-labels-clause-told : goal.returns-in_err-labels-clause-told
returns-in_err-labels-clause-told g c clean =
    let d = (g.C.Database.state c.args.tables.now.conn).now in
    let mid = c.in_err-labels.ensures.rests.clean clean in
    let asked = subst (CanBeAsked d.schema) c.query.ensures ((c.in_ok-can_ask.ensures.asks.asked mid).0 c.if-not-branch.false) in
    passed_on c.from_residual-in_err-labels.result _ _ (ExplainsLater d) c.from_residual-in_err-labels.ensures.1 (only_store_later d _ (c.in_err-labels.ensures.keeps clean d (c.in_ok-can_ask.ensures.asks.same mid) asked))

pub returns-in-Some-clause-told : goal.returns-in-Some-clause-told
returns-in-Some-clause-told g c clean =
    let d = (g.C.Database.state c.args.tables.now.conn).now in
    let mid = c.in_ok-labels.ensures.rests.clean clean in
    let asked = subst (CanBeAsked d.schema) c.query.ensures ((c.in_ok-can_ask.ensures.asks.asked mid).0 c.if-not-branch.false) in
    let it = (c.in_ok-labels.ensures.keeps clean d (c.in_ok-can_ask.ensures.asks.same mid) asked).0 in
    subst (λ (o : Option ℕ). ShowsLater d o) c.in-Some.is (later_shown d it.0 c.in_ok-labels.labels.later it.1 it.2.later)

pub returns-in-None-clause-told : goal.returns-in-None-clause-told
returns-in-None-clause-told g c clean can =
    let d = (g.C.Database.state c.args.tables.now.conn).now in
    let mid = c.in_ok-labels.ensures.rests.clean clean in
    let it = (c.in_ok-labels.ensures.keeps clean d (c.in_ok-can_ask.ensures.asks.same mid) can).0 in
    subst (λ (o : Option ℕ). ShowsLater d o) c.in-None.is (later_shown d it.0 c.in_ok-labels.labels.later it.1 it.2.later)

pub returns-in_err-can_ask-clause-told : goal.returns-in_err-can_ask-clause-told
returns-in_err-can_ask-clause-told g c clean =
    let d = (g.C.Database.state c.args.tables.now.conn).now in
    passed_on c.from_residual.result _ _ (ExplainsLater d) c.from_residual.ensures.1 (only_store_later d _ c.in_err-can_ask.ensures.asks.only_store)

pub returns-then-not-branch-clause-told : goal.returns-then-not-branch-clause-told
returns-then-not-branch-clause-told g c clean asked =
    let d = (g.C.Database.state c.args.tables.now.conn).now in
    absurd (off_on _ c.if-not-branch.true ((c.in_ok-can_ask.ensures.asks.asked clean).1 (subst (CanBeAsked d.schema) (sym c.query.ensures) asked)))

pub returns-in_err-labels-clause-rests : goal.returns-in_err-labels-clause-rests
returns-in_err-labels-clause-rests g c = reads_then (g.C.Database.state c.args.tables.now.conn) (g.C.Database.state c.can_ask.new.tables.conn) (g.C.Database.state c.read_labels.new.tables.conn) c.in_ok-can_ask.ensures.asks.rests c.in_err-labels.ensures.rests

pub returns-in-Some-clause-rests : goal.returns-in-Some-clause-rests
returns-in-Some-clause-rests g c = reads_then (g.C.Database.state c.args.tables.now.conn) (g.C.Database.state c.can_ask.new.tables.conn) (g.C.Database.state c.read_labels.new.tables.conn) c.in_ok-can_ask.ensures.asks.rests c.in_ok-labels.ensures.rests

pub returns-in-None-clause-rests : goal.returns-in-None-clause-rests
returns-in-None-clause-rests g c = reads_then (g.C.Database.state c.args.tables.now.conn) (g.C.Database.state c.can_ask.new.tables.conn) (g.C.Database.state c.read_labels.new.tables.conn) c.in_ok-can_ask.ensures.asks.rests c.in_ok-labels.ensures.rests

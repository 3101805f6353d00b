use Rattle.std.proofs.Common.{codes, refl, Ok, Err, Result, IfOk, IfErr, MatchResult}
use Rattle.pid_tables.proofs.OfRows.LabelLemmas.{told_stored, refused_stored}
use Rattle.pid_tables.proofs.ThenReads.{read_number}
use Rattle.pid_tables.proofs.rows.meta.schema_number.Goals as goal

both : {X E : Type 0} (r : Result X E) (Good : X → Type 0) (Bad : E → Type 0) → IfOk r Good → IfErr r Bad → MatchResult r Good Bad
both (Ok x) Good Bad good bad = good
both (Err e) Good Bad good bad = bad

pub returns-clause-shown : goal.returns-clause-shown
returns-clause-shown g c clean = both c.count.result _ _ (c.count.ensures.shown clean) (c.count.ensures.refused clean)

pub returns-clause-stored : goal.returns-clause-stored
returns-clause-stored g c clean made =
    let db = (g.C.Database.state c.args.tables.now.conn).now in
    both c.count.result _ _ (told_stored db made (codes "schema") c.count.result (c.count.ensures.shown clean))
    (refused_stored db made (codes "schema") c.count.result (c.count.ensures.refused clean))

pub returns-clause-reads : goal.returns-clause-reads
returns-clause-reads g c = read_number g.C.Database.state c.args.tables.now.conn c.count.new.tables.conn c.count.result (λ v. 2) c.count.ensures.rests (c.count.ensures.found (λ counts. refl))

pub returns-clause-never : goal.returns-clause-never
returns-clause-never g c = c.count.ensures.never

use Rattle.std.proofs.Common.{◌∙◌, Some, Ok, refl, sym, ap}
use Rattle.pid_tables.proofs.OfCheck.Asking.{nothing_read}
use Rattle.pid_tables.specs.Steps.Bringing.{step_for}
use Rattle.pid_tables.specs.declared.migration.Step.TheVariants.{Already}
use Rattle.pid_tables.proofs.AtOnceLemmas.{reads_at_once}
use Rattle.pid_tables.proofs.BringLemmas.{as_none, as_one, as_two}
use Rattle.pid_tables.proofs.migration.upgrade.Goals as goal

-- ---- no table: a registry is made

pub returns-in-Ok-clause-at_once : goal.returns-in-Ok-clause-at_once
returns-in-Ok-clause-at_once g c = let h = c.in-Ok.ensures.at_once in record { settled = h.settled; clean = h.clean; once = h.once; back = tt; unchanged = λ clean. tt }

pub returns-in-Ok-clause-step : goal.returns-in-Ok-clause-step
returns-in-Ok-clause-step g c = ap step_for (sym c.in-None.is)

pub returns-in-Ok-clause-brings : goal.returns-in-Ok-clause-brings
returns-in-Ok-clause-brings g c =
    let h = c.in-Ok.ensures in
    as_none g.C.Database.state c.args.conn.now c.create.new.self c.args.found _ c.in-None.is (record {
      carried = record { survives = h.statements.survives; done = h.statements.done };
      created = λ clean bare. h.makes.made bare;
      met = λ clean met. h.spares.refused clean met;
    })

pub returns-in-Err-clause-at_once : goal.returns-in-Err-clause-at_once
returns-in-Err-clause-at_once g c = let h = c.in-Err.ensures.at_once in record { settled = h.settled; clean = h.clean; once = h.once; back = h.back; unchanged = h.unchanged }

pub returns-in-Err-clause-brings : goal.returns-in-Err-clause-brings
returns-in-Err-clause-brings g c =
    let h = c.in-Err.ensures in
    as_none g.C.Database.state c.args.conn.now c.create.new.self c.args.found _ c.in-None.is (record {
      carried = record { survives = h.statements.survives; done = λ clean. tt };
      created = λ clean bare. (h.makes.only_store clean bare, h.makes.bare bare);
      met = λ clean met. (h.spares.refused clean met, h.spares.rests met);
    })

pub returns-in-Err-clause-never : goal.returns-in-Err-clause-never
returns-in-Err-clause-never g c clean = c.in-Err.ensures.spares.never clean

-- ---- schema 1: the tables are moved

pub returns-in-Ok-move_up-clause-at_once : goal.returns-in-Ok-move_up-clause-at_once
returns-in-Ok-move_up-clause-at_once g c = let h = c.in-Ok-move_up.ensures.at_once in record { settled = h.settled; clean = h.clean; once = h.once; back = tt; unchanged = λ clean. tt }

pub returns-in-Ok-move_up-clause-step : goal.returns-in-Ok-move_up-clause-step
returns-in-Ok-move_up-clause-step g c = ap step_for (sym (c.in-Some-One.is ∙ ap Some (rw c.in-Some-One.is at c.in-Some-One.field-0-is)))

pub returns-in-Ok-move_up-clause-brings : goal.returns-in-Ok-move_up-clause-brings
returns-in-Ok-move_up-clause-brings g c =
    let h = c.in-Ok-move_up.ensures in
    as_one g.C.Database.state c.args.conn.now c.move_up.new.self c.args.found _ (c.in-Some-One.is ∙ ap Some (rw c.in-Some-One.is at c.in-Some-One.field-0-is)) (record {
      carried = record { survives = h.statements.survives; done = h.statements.done };
      moved = λ clean v rest. h.moved.moved v rest;
    })

pub returns-in-Err-move_up-clause-at_once : goal.returns-in-Err-move_up-clause-at_once
returns-in-Err-move_up-clause-at_once g c = let h = c.in-Err-move_up.ensures.at_once in record { settled = h.settled; clean = h.clean; once = h.once; back = h.back; unchanged = h.unchanged }

pub returns-in-Err-move_up-clause-brings : goal.returns-in-Err-move_up-clause-brings
returns-in-Err-move_up-clause-brings g c =
    let h = c.in-Err-move_up.ensures in
    as_one g.C.Database.state c.args.conn.now c.move_up.new.self c.args.found _ (c.in-Some-One.is ∙ ap Some (rw c.in-Some-One.is at c.in-Some-One.field-0-is)) (record {
      carried = record { survives = h.statements.survives; done = λ clean. tt };
      moved = λ clean v rest. (h.moved.only_store clean v rest, h.moved.kept v rest);
    })

pub returns-in-Err-move_up-clause-never : goal.returns-in-Err-move_up-clause-never
returns-in-Err-move_up-clause-never g c clean = c.in-Err-move_up.ensures.never clean

-- ---- schema 2: nothing is done

pub returns-in-Some-Two-clause-at_once : goal.returns-in-Some-Two-clause-at_once
returns-in-Some-Two-clause-at_once g c = let s = g.C.Database.state c.args.conn.now in reads_at_once s s (Ok Already) (nothing_read s c.requires)

pub returns-in-Some-Two-clause-brings : goal.returns-in-Some-Two-clause-brings
returns-in-Some-Two-clause-brings g c = as_two g.C.Database.state c.args.conn.now c.args.conn.now c.args.found _ (c.in-Some-Two.is ∙ ap Some (rw c.in-Some-Two.is at c.in-Some-Two.field-0-is)) refl

use Rattle.pid_tables.proofs.tables.Tables.each_item.Goals as goal

pub returns-clause-rests : goal.returns-clause-rests
returns-clause-rests g c = c.each_item.ensures.rests

pub returns-clause-told : goal.returns-clause-told
returns-clause-told g c = c.each_item.ensures.told

pub returns-clause-some : goal.returns-clause-some
returns-clause-some g c = c.each_item.ensures.some

pub returns-clause-caused : goal.returns-clause-caused
returns-clause-caused g c = c.each_item.ensures.caused

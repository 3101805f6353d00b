use Rattle.std.proofs.Common.{◌≡◌, refl, sym, subst}
use Rattle.sqlite.specs.declared.error.Error.{Error}
use Rattle.pid_tables.specs.Rows.Faults.{IsMemoryOrStore, IsNotNewerSchema}
use Rattle.pid_tables.specs.Rows.Steps.Faults.{fault_of_sql}
use Rattle.pid_tables.specs.declared.rows.fault.TableFault.{TableFault}
use Rattle.pid_tables.specs.declared.rows.fault.TableFault.TheVariants.{Memory, Store, NewerSchema, Damaged}
use Rattle.pid_tables.proofs.OfRows.FaultLemmas.{not_later}
use Rattle.pid_tables.proofs.check.schema.unasked.Goals as goal

-- what is no damage is no later schema either
other : (e : Error) (fault : TableFault) → fault ≡ fault_of_sql e → (fault ≡ Damaged → ⊥) → IsMemoryOrStore fault
other e Memory is undamaged = tt
other e Store is undamaged = tt
other e (NewerSchema n) is undamaged = subst IsNotNewerSchema (sym is) (not_later e)
other e Damaged is undamaged = undamaged refl

pub returns-in-Damaged-clause-refused : goal.returns-in-Damaged-clause-refused
returns-in-Damaged-clause-refused c = (refl, sym c.in-Damaged.ensures)

pub returns-in_default : goal.returns-in_default
returns-in_default c = record {
  refused = tt;
  only_store = other c.args.error c.from.result c.from.ensures c.in_default.not-Damaged;
  told = c.from.ensures;
}

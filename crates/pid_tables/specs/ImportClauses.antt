-- What clauses say of the connection of an import: the definitions of Importing, of what the
-- connection shows.
use Rattle.std.specs.Prelude.{◌≡◌, false, Result}
use Rattle.sqlite.specs.State.{State}
use Rattle.pid_moderation.specs.declared.command.Reply.{Reply}
use Rattle.pid_moderation.specs.History.{Asked, History}
use Rattle.pid_tables.specs.Rows.Clauses.{HasCleanDisk}
use Rattle.pid_tables.specs.declared.put_file.Stop.{Stop}
use Rattle.pid_tables.specs.Importing as importing

module _ {S : Type 0} (state : S → State) where
  -- outside a transaction; no fault of the disk is forgotten, and no limit of steps is set
  pub record EndsOutside (old new : S) : Type 0 where
    pub settled : (state new).in_transaction ≡ false
    pub clean : HasCleanDisk state new → HasCleanDisk state old
    pub limit : (state new).step_limit ≡ (state old).step_limit

  abbrev pub EndsImport : S → Result Reply Stop → History → Asked → Type 0
  EndsImport conn result h c = importing.EndsImport result (state conn) h c

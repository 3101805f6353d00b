-- What clauses say of a connection while tables are made or moved: the definitions of Creation,
-- AtOnce, Bringing, Making and ShowsOrBlank, of the states that the connections show.
use Rattle.std.specs.Prelude.{ℕ, Result}
use Rattle.sqlite.specs.State.{State}
use Rattle.sqlite.specs.State as states
use Rattle.pid_moderation.specs.declared.command.Command.{Command}
use Rattle.pid_moderation.specs.History.{History}
use Rattle.pid_tables.specs.declared.rows.fault.TableFault.{TableFault}
use Rattle.pid_tables.specs.declared.judging.Early.{Early}
use Rattle.pid_tables.specs.declared.migration.Step.{Step}
use Rattle.pid_tables.specs.AtOnce as at_once
use Rattle.pid_tables.specs.Bringing as bringing
use Rattle.pid_tables.specs.Creation as creation
use Rattle.pid_tables.specs.Judging as judging
use Rattle.pid_tables.specs.SchemaNumbers as numbers
use Rattle.pid_tables.specs.ShowsOrBlank as shows
use Rattle.pid_tables.specs.Statements.{IsMadeBy, move_statements, registry_statements}

module _ {S : Type 0} (state : S → State) where
  abbrev pub IsNameTaken : S → Type 0
  IsNameTaken conn = creation.IsNameTaken (state conn)

  abbrev pub EarlyIsCaused : S → S → History → Command → Early → Type 0
  EarlyIsCaused old new h command early = judging.EarlyIsCaused (state old) (state new)
      h command early

  abbrev pub RestsBare : S → Type 0
  RestsBare conn = creation.RestsBare (state conn)

  abbrev pub IsOneStep : S → S → Type 0
  IsOneStep old new = at_once.IsOneStep (state old) (state new)

  abbrev pub IsTakenBack : S → S → Type 0
  IsTakenBack old new = at_once.IsTakenBack (state old) (state new)

  abbrev pub WritesAtOnce : {X : Type 0} → S → S → Result X TableFault → Type 0
  WritesAtOnce old new result = at_once.WritesAtOnce (state old) (state new) result

  abbrev pub MakesNew : {X : Type 0} → S → S → Result X TableFault → Type 0
  MakesNew old new result = creation.MakesNew (state old) (state new) result

  abbrev pub MakesNothing : {X : Type 0} → S → S → Result X TableFault → Type 0
  MakesNothing old new result = creation.MakesNothing (state old) (state new) result

  abbrev pub TellsSchema : S → S → Result ℕ TableFault → Type 0
  TellsSchema old new result = numbers.TellsSchema (state old) (state new) result

  abbrev pub Brings : S → Step → S → Type 0
  Brings old step new = bringing.Brings (state old) step (state new)

  abbrev pub HandsLatest : S → Step → S → Type 0
  HandsLatest old step new = bringing.HandsLatest (state old) step (state new)

  abbrev pub Refuses : S → TableFault → S → Type 0
  Refuses old fault new = bringing.Refuses (state old) fault (state new)

  abbrev pub MigratesShown : S → S → Result Step TableFault → Type 0
  MigratesShown old new result = bringing.MigratesShown (state old) (state new) result

  abbrev pub MigratesJudged : S → S → Result Step TableFault → Type 0
  MigratesJudged old new result = bringing.MigratesJudged (IsMadeBy state move_statements old)
      (state old) (state new) result

  abbrev pub MigratesNone : S → S → Result Step TableFault → Type 0
  MigratesNone old new result = bringing.MigratesNone (IsMadeBy state registry_statements old)
      (state old) (state new) result

  abbrev pub ShowsOrBlank : S → History → Type 0
  ShowsOrBlank conn h = shows.ShowsOrBlank (state conn) h

  -- it was just opened, on trees that are a database
  abbrev pub IsOpened : S → Type 0
  IsOpened conn = states.Opens (state conn) × states.IsLive (state conn)

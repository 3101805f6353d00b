-- The two files of a database: opened, closed, and what the next run finds in them. Choices of
-- this project.
use Rattle.std.specs.Prelude.{◌≡◌, false, IsTrue}
use Rattle.sqlite.specs.Closing.{IsCopied}
use Rattle.sqlite.specs.Files.{FailsToClose, IsBlankAs, IsClosed, IsOpened, file_state}
use Rattle.sqlite.specs.Held.{Held, IsNew}
use Rattle.sqlite.specs.Start.{FindsIn}
use Rattle.sqlite.specs.State as states
use Rattle.sqlite.specs.declared.error.Error.{Error}
use Rattle.sqlite_disk.specs.declared.Disk as disk
use Rattle.sqlite_disk.specs.declared.Files.{Files}
use Rattle.sqlite_store.specs.FileStore.{state, view}
use Rattle.sqlite_store.specs.declared.store.FileStore.{FileStore}
use Rattle.sqlite_trees.specs.View.{IsClean}
use Rattle.sqlite_wal.specs.Files.{outcomes}
use Rattle.sqlite_wal.specs.Reads.{AreClean}
use Rattle.sqlite_wal.specs.Recovery.{Image}

-- The connection is new. While the disk returns what was written, it is open on what the files held;
-- and a new file is as `sqlite3` makes it, whose pages have no sums.
pub record OpensFiles {E : Type 0} {k : disk.Ghosts E} (image : Image) (conn : Held (FileStore E k))
    : Type 0 where
  pub fresh : IsNew conn
  pub opened : states.HasCleanDisk (file_state conn) → IsOpened conn
  pub found : states.HasCleanDisk (file_state conn) → FindsIn image (file_state conn)
  pub plain : states.HasCleanDisk (file_state conn) → IsBlankAs false image
      → (view conn.store).has_sums ≡ false

-- What the files hold at the next start, after a run with this connection, if nobody else wrote to
-- them. A store numbers the objects of its database, as each one does that is opened.
pub data IsLeftIn {D : Type 0} {g : disk.Ghosts D} (earlier : Held (FileStore D g)) (image : Image)
    : Type 0 where
  -- what a stop leaves, at any place within the run
  Stopped : IsTrue (view earlier.store).is_numbered → (state earlier.store).may_leave image
      → IsLeftIn earlier image
  -- the same where closing failed
  Unclosed : (last : FileStore D g) → IsClosed earlier last → IsTrue (view last).is_numbered
      → (state last).may_leave image → IsLeftIn earlier image
  -- what closing left, maybe after a stop
  Closed : (files : Files D) → IsCopied earlier files → outcomes g files.log files.db image
      → IsLeftIn earlier image

-- A connection to files was closed. The log was copied: if the disk returned what was written, the
-- last commit is in the database file. Or it was not: a stop leaves nothing new, and if the disk
-- returned what was written, it failed, or memory ran out.
pub data ClosesFiles {D : Type 0} {g : disk.Ghosts D} (conn : Held (FileStore D g)) : Type 0 where
  Copied : (files : Files D) → (AreClean g files.log files.db → IsCopied conn files)
      → ClosesFiles conn
  Uncopied : (last : FileStore D g) → IsClosed conn last
      → (IsClean (view last) → (error : Error) × FailsToClose conn last error) → ClosesFiles conn

module _ {D E : Type 0} {g : disk.Ghosts D} {k : disk.Ghosts E} where
  -- The next run: its connection was opened on what an earlier one left. The earlier disk returned
  -- what was written.
  pub record IsNextRun (earlier : Held (FileStore D g)) (conn : Held (FileStore E k))
      : Type 0 where
    pub clean : states.HasCleanDisk (file_state earlier)
    pub image : Image
    pub left : IsLeftIn earlier image
    pub opens : OpensFiles image conn

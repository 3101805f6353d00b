-- The query of each table.
use Rattle.std.specs.Prelude.{ℕ, List, codes}
use Rattle.pid_tables.specs.declared.check.schema.Table.{Table}
use Rattle.pid_tables.specs.declared.check.schema.Table.TheVariants.{Meta, Account, Item}
use Rattle.pid_tables.specs.declared.check.schema.Table.TheVariants.{Submission, Remark, Receipt}
use Rattle.pid_tables.specs.declared.check.schema.Table.TheVariants.{Since}

-- each table is asked for by its columns' names
abbrev pub query_of : Table → List ℕ
query_of Meta = codes "SELECT label, value FROM meta"
query_of Account = codes "SELECT name, rank FROM account"
query_of Item = codes "SELECT path, name FROM item"
query_of Submission = codes "SELECT num, author, path, form, name, note, state, decider, reason FROM submission"
query_of Remark = codes "SELECT num, seq, author, body FROM remark"
query_of Receipt = codes "SELECT account, token, kind, a, b, c FROM receipt"
query_of Since = codes "SELECT path, since FROM item_since"

-- it asks for a table of this name, whatever its columns
abbrev pub any_since : List ℕ
any_since = codes "SELECT count(*) FROM item_since"

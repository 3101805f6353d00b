-- The statements on rows, one table in each, by keys.
use Rattle.std.proofs.Common.{ℕ, List, codes}

abbrev pub select_meta : List ℕ
select_meta = codes "SELECT value FROM meta WHERE label = ?1"

abbrev pub insert_meta : List ℕ
insert_meta = codes "INSERT INTO meta (label, value) VALUES (?1, ?2)"

abbrev pub update_meta : List ℕ
update_meta = codes "UPDATE meta SET value = ?2 WHERE label = ?1"

abbrev pub select_account : List ℕ
select_account = codes "SELECT rank FROM account WHERE name = ?1"

abbrev pub insert_account : List ℕ
insert_account = codes "INSERT INTO account (name, rank) VALUES (?1, ?2)"

abbrev pub update_account : List ℕ
update_account = codes "UPDATE account SET rank = ?2 WHERE name = ?1"

abbrev pub select_item : List ℕ
select_item = codes "SELECT name FROM item WHERE path = ?1"

abbrev pub insert_item : List ℕ
insert_item = codes "INSERT INTO item (path, name) VALUES (?1, ?2)"

abbrev pub update_item : List ℕ
update_item = codes "UPDATE item SET name = ?2 WHERE path = ?1"

abbrev pub delete_item : List ℕ
delete_item = codes "DELETE FROM item WHERE path = ?1"

abbrev pub select_submission : List ℕ
select_submission = codes "SELECT author, path, form, name, note, state, decider, reason FROM submission WHERE num = ?1"

abbrev pub insert_submission : List ℕ
insert_submission = codes "INSERT INTO submission (num, author, path, form, name, note, state, decider, reason) VALUES (?1, ?2, ?3, ?4, ?5, ?6, 0, '', '')"

abbrev pub update_submission : List ℕ
update_submission = codes "UPDATE submission SET state = ?2, decider = ?3, reason = ?4 WHERE num = ?1"

abbrev pub withdraw_submission : List ℕ
withdraw_submission = codes "UPDATE submission SET state = 3, decider = author, reason = '' WHERE num = ?1"

abbrev pub insert_remark : List ℕ
insert_remark = codes "INSERT INTO remark (num, seq, author, body) VALUES (?1, ?2, ?3, ?4)"

abbrev pub select_receipt : List ℕ
select_receipt = codes "SELECT kind, a, b, c FROM receipt WHERE account = ?1 AND token = ?2"

abbrev pub insert_receipt : List ℕ
insert_receipt = codes "INSERT INTO receipt (account, token, kind, a, b, c) VALUES (?1, ?2, ?3, ?4, ?5, ?6)"

abbrev pub create_since : List ℕ
create_since = codes "CREATE TABLE item_since (path TEXT NOT NULL PRIMARY KEY REFERENCES item(path) ON DELETE CASCADE, since INTEGER NOT NULL) STRICT"

abbrev pub fill_since : List ℕ
fill_since = codes "INSERT INTO item_since (path, since) SELECT path, 0 FROM item"

abbrev pub insert_since : List ℕ
insert_since = codes "INSERT INTO item_since (path, since) VALUES (?1, ?2)"

abbrev pub update_since : List ℕ
update_since = codes "UPDATE item_since SET since = ?2 WHERE path = ?1"

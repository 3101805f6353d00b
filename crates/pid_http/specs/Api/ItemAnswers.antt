-- The answers with items: choices of this project. An item is the text of its path, and its name; one
-- that was added or renamed has the number of the last change of its name too.
use Rattle.std.specs.Prelude.{ℕ, List, ◌++◌, codes, decimal}
use Rattle.serde_json.specs.Data.{Data, string, object, member, no_members, number, unsigned}
use Rattle.pid_http_stream.specs.Replies.{Answer}
use Rattle.pid_http.specs.Api.Replying.{answer_in, word_line, rows_data}
use Rattle.pid_http.specs.declared.api.format.Format.{Format}
use Rattle.std.specs.List.{flat_map}
use Rattle.pid_moderation.specs.ChangePages.{Changed, ChangePage}

-- {"name":"Intel","path":"PC/8086"}
abbrev pub item_data : List ℕ × List ℕ → Data
item_data (path, name) = object (member (codes "name") (string name)
    (member (codes "path") (string path) no_members))

-- one item; its text is its name
abbrev pub item_answer : Format → List ℕ × List ℕ → Answer
item_answer format item = answer_in format 200 (item_data item) (item.1 ++ codes "\n")

-- PC/8086 Intel, in a list
abbrev pub child_line : List ℕ × List ℕ → List ℕ
child_line (path, name) = word_line path name

-- {"name":"Intel","path":"PC/8086","since":3}
abbrev pub changed_data : Changed → Data
changed_data item =
    object (member (codes "name") (string item.name)
    (member (codes "path") (string item.path)
    (member (codes "since") (number (unsigned item.since)) no_members)))

-- {"items":[],"revision":4}
abbrev pub changes_data : ChangePage → Data
changes_data page = object (member (codes "items") (rows_data changed_data page.items)
    (member (codes "revision") (number (unsigned page.revision)) no_members))

-- 3 PC/8086 Intel
abbrev pub changed_line : Changed → List ℕ
changed_line item = decimal item.since ++ codes " " ++ word_line item.path item.name

-- revision 4, and a line for each item
abbrev pub changes_text : ChangePage → List ℕ
changes_text page = word_line (codes "revision") (decimal page.revision)
    ++ flat_map changed_line page.items

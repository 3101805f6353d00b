-- The answer with how much a registry holds: a choice of this project.
use Rattle.std.specs.Prelude.{ℕ, List, ◌++◌, codes, decimal}
use Rattle.serde_json.specs.Data.{Data, number, unsigned, object, member, no_members}
use Rattle.pid_moderation.specs.RegistryStatus.{RegistryStatus}
use Rattle.pid_http.specs.Api.Replying.{word_line}

-- {"accounts":2,"items":35598,"pending":44,"revision":72,"submissions":52}
abbrev pub status_data : RegistryStatus → Data
status_data s =
    object (member (codes "accounts") (number (unsigned s.accounts))
    (member (codes "items") (number (unsigned s.items))
    (member (codes "pending") (number (unsigned s.pending))
    (member (codes "revision") (number (unsigned s.revision))
    (member (codes "submissions") (number (unsigned s.submissions)) no_members)))))

-- accounts 2, and a line for each of the others, in the same order
abbrev pub status_text : RegistryStatus → List ℕ
status_text s =
    word_line (codes "accounts") (decimal s.accounts)
    ++ word_line (codes "items") (decimal s.items)
    ++ word_line (codes "pending") (decimal s.pending)
    ++ word_line (codes "revision") (decimal s.revision)
    ++ word_line (codes "submissions") (decimal s.submissions)

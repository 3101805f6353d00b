-- The answer with the rank of an account, and the refusal if there is no such account: choices of
-- this project. No command is refused so.
use Rattle.std.specs.Prelude.{ℕ, List, Option, Some, None, codes, decimal}
use Rattle.serde_json.specs.Data.{Data, number, unsigned, string, object, member, no_members}
use Rattle.pid_moderation.specs.Ranks.{rank_number}
use Rattle.pid_moderation.specs.declared.rank.Rank.{Rank}
use Rattle.pid_http_stream.specs.Replies.{Answer}
use Rattle.pid_http_stream.specs.StreamFaults.{refusal_data}
use Rattle.pid_http.specs.Api.Replying.{answer_in, word_line}
use Rattle.pid_http.specs.declared.api.format.Format.{Format}

-- {"rank":0,"who":"alice"}
abbrev pub rank_data : List ℕ → Rank → Data
rank_data who rank = object (member (codes "rank") (number (unsigned (rank_number rank)))
    (member (codes "who") (string who) no_members))

-- the rank of an account (alice 0), or that there is no such account
abbrev pub rank_answer : Format → List ℕ → Option Rank → Answer
rank_answer format who None = answer_in format 404 (refusal_data 29 (codes "NoSuchAccount"))
    (codes "refused 29 NoSuchAccount\n")
rank_answer format who (Some rank) = answer_in format 200 (rank_data who rank)
    (word_line who (decimal (rank_number rank)))

-- Why a stream is refused: the number, the word, the status (RFC 9110, section 15) and the JSON (RFC
-- 8259) of each fault. Choices of this project.
use Rattle.std.specs.Prelude.{ℕ, false, List, codes}
use Rattle.serde_json.specs.Data.{Data, number, unsigned, string, boolean}
use Rattle.serde_json.specs.Data.{object, member, no_members}
use Rattle.serde_json.specs.Written.{compact_text}
use Rattle.pid_http_stream.specs.declared.refusal.StreamFault.{StreamFault}
use Rattle.pid_http_stream.specs.declared.refusal.StreamFault.TheVariants.{BadHead, BodyTooLong}
use Rattle.pid_http_stream.specs.declared.refusal.StreamFault.TheVariants.{Encoding, BodyShort}

-- its status, its number among those of commands and of questions, and its word
abbrev pub fault_row : StreamFault → ℕ × ℕ × List ℕ
fault_row BadHead = (400, 20, codes "BadHead")
fault_row BodyTooLong = (413, 21, codes "BodyTooLong")
fault_row Encoding = (501, 22, codes "Encoding")
fault_row BodyShort = (400, 23, codes "BodyShort")

-- {"ok":false,"refused":5,"word":"RankTooLow"}
abbrev pub refusal_data : ℕ → List ℕ → Data
refusal_data n word = object (member (codes "ok") (boolean false)
    (member (codes "refused") (number (unsigned n))
    (member (codes "word") (string word) no_members)))

-- {"ok":false,"refused":20,"word":"BadHead"}
unfoldable pub fault_text : StreamFault → List ℕ
fault_text fault = compact_text (refusal_data (fault_row fault).1 (fault_row fault).2)

-- The texts of the refusals, by computation.
use Rattle.std.proofs.Common.{◌≡◌, refl, codes}
use Rattle.std.specs.Fmt.{digits}
use Rattle.serde_json.proofs.OnLiterals.{serde_json_on_literals}
use Rattle.pid_http_stream.specs.StreamFaults.{fault_text}
use Rattle.pid_http_stream.specs.declared.refusal.StreamFault.TheVariants.{BadHead, BodyTooLong, Encoding, BodyShort}

pub bad_head : fault_text BadHead ≡ codes "{\"ok\":false,\"refused\":20,\"word\":\"BadHead\"}"
unfolding fault_text serde_json_on_literals digits
bad_head = refl

pub body_too_long : fault_text BodyTooLong ≡ codes "{\"ok\":false,\"refused\":21,\"word\":\"BodyTooLong\"}"
unfolding fault_text serde_json_on_literals digits
body_too_long = refl

pub encoding : fault_text Encoding ≡ codes "{\"ok\":false,\"refused\":22,\"word\":\"Encoding\"}"
unfolding fault_text serde_json_on_literals digits
encoding = refl

pub body_short : fault_text BodyShort ≡ codes "{\"ok\":false,\"refused\":23,\"word\":\"BodyShort\"}"
unfolding fault_text serde_json_on_literals digits
body_short = refl

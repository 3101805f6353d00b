-- A front of what was to be written.
use Rattle.std.proofs.Common.{ℕ, List, Option, length, sym, subst, arith}
use Rattle.std.specs.Io.KnownBytes.{Appends}
use Rattle.std.proofs.lemmas.List.{take_all}
use Rattle.pid_ident.specs.Sending.{SendsFront}
use Rattle.pid_http_stream.specs.Serving.{WritesFront}

pub some_front : (old new : Option (List ℕ)) (bytes : List ℕ) → SendsFront old new bytes → WritesFront old new bytes
some_front old new bytes (n, less, appended) = (n, omega arith, appended)

pub all_of_it : (old new : Option (List ℕ)) (bytes : List ℕ) → Appends old new bytes → WritesFront old new bytes
all_of_it old new bytes appended = (length bytes, omega arith, subst (Appends old new) (sym (take_all (length bytes) bytes (omega arith))) appended)

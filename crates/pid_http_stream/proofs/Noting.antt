-- The moment that one read notes.
use Rattle.std.proofs.Common.{ℕ, List, [], ◌∷◌, Option, Some, None, refl}
use Rattle.std.proofs.lemmas.List.Elements.{All-nil, All-push}
use Rattle.pid_http_stream.specs.Moments.{Moment, AllSince}
use Rattle.pid_ident.specs.Steps.Moments.{IsNoted}
use Rattle.pid_http_stream.specs.Steps.Intakes.{IsMoment}

pub since_noted : (come taken : Option (List ℕ)) (ms ns : Option (List Moment)) → IsNoted come taken ms ns → AllSince (IsMoment come taken) ms ns
since_noted come taken ms None noted = tt
since_noted come taken None (Some now) noted = absurd noted
since_noted come taken (Some first) (Some now) noted =
    let m : Moment = record { to_come = come; taken = taken } in
    (m ∷ [], noted, All-push (IsMoment come taken) [] m (All-nil _) refl)

-- What is served of a stream.
use Rattle.std.proofs.Common.{ℕ, List, [], Option, Some, None, refl, inl, arith}
use Rattle.std.specs.Prelude.{⊤, IfSome}
use Rattle.std.proofs.KnownBytes.{Appends-nil, Consumes-nil}
use Rattle.pid_service_laws.specs.declared.registry_calls.RegistryCalls.{Ghosts}
use Rattle.pid_http_stream.specs.Leading.{Leads}
use Rattle.pid_ident.specs.Steps.MomentLaws.{since_none}
use Rattle.pid_http_stream.specs.Moments.{AllSince, Moment}
use Rattle.pid_ident.specs.Steps.ReadLaws.{reads_none}
use Rattle.pid_http_stream.specs.Reads.{ReaderState}
use Rattle.pid_http_stream.specs.Serving.{IsCaughtUp, IsServed}
use Rattle.pid_http_stream.specs.declared.stream.StreamEnd.TheVariants.{Memory}
use Rattle.pid_file.specs.declared.io.WriteFault.{WriteFault}
use Rattle.pid_http_stream.specs.Causes.{EndsFor}
use Rattle.pid_http_stream.proofs.Heads.{nothing_yet}
use Rattle.pid_http.specs.Serving.{serving}
use Rattle.pid_http.specs.Known.{SessionState, IsSessionState}

-- no read was made
pub memory_ends : (reader : ReaderState) (turns : ℕ) (write_fault : Option WriteFault)
    → EndsFor Memory (record { before = reader; after = reader; write_fault = write_fault; stuck = ⊤; turns = turns })
memory_ends reader turns write_fault = record { made = 0; within = omega arith; spent = λ e. cc; reads = reads_none 0 reader; cause = tt; failed = inl refl }

module _ {R : Type 0} (registry : Ghosts R) where
  none : (t : SessionState registry) (taken to_come : Option (List ℕ)) → IfSome to_come (λ stream. IsServed (serving registry) (record { handler = t; handler_after = t; taken = taken; taken_after = taken }) stream to_come Memory 0)
  none t taken None = tt
  none t taken (Some stream) = (
    [],
    Consumes-nil (Some stream),
    record {
      rest = [];
      mid = t;
      taken = taken;
      before = record { requests = []; replies = []; fronts = refl; answered = (refl, refl); written = Appends-nil taken; counts = refl };
      next = (inl (inl refl, nothing_yet), refl);
    },
  )

  unread : (t : SessionState registry) (taken to_come : Option (List ℕ)) (moments : Option (List Moment)) → IfSome to_come (λ stream. AllSince (IsCaughtUp (serving registry) t taken stream) moments moments)
  unread t taken None moments = tt
  unread t taken (Some stream) moments = since_none (IsCaughtUp (serving registry) t taken stream) moments

  -- there was no memory to begin
  pub none_served : (r : R) (taken to_come : Option (List ℕ))
      → Leads registry.showing.is_clean (IsSessionState registry) r r (λ t u. IfSome to_come (λ stream. IsServed (serving registry) (record { handler = t; handler_after = u; taken = taken; taken_after = taken }) stream to_come Memory 0))
  none_served r taken to_come = record { good = λ g. g; leads = λ good t is. (t, is, none t taken to_come) }

  -- nor was anything read
  pub none_read : (r : R) (taken to_come : Option (List ℕ)) (moments : Option (List Moment))
      → Leads registry.showing.is_clean (IsSessionState registry) r r (λ t _. IfSome to_come (λ stream. AllSince (IsCaughtUp (serving registry) t taken stream) moments moments))
  none_read r taken to_come moments = record { good = λ g. g; leads = λ good t is. (t, is, unread t taken to_come moments) }

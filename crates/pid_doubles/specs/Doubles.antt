-- What a reader or a writer for tests does that is made to fail after some calls: how many calls
-- are still good, `None` if none fails.
use Rattle.std.specs.Prelude.{◌≡◌, ℕ, zero, suc, min, Bool, true, false, Option, Some, None, Result}
use Rattle.std.specs.Prelude.{Err, IfOk, IfErr, is_err}
use Rattle.pid_file.specs.declared.io.ReadFault.{ReadFault}
use Rattle.pid_file.specs.declared.io.WriteFault.{WriteFault}
use Rattle.pid_file.specs.declared.io.WriteFault.TheVariants.{Device}

-- whether the next call fails: a fault is kept, or no good call is left
abbrev pub fails : {F : Type 0} → Option F → Option ℕ → Bool
fails (Some fault) good_calls = true
fails None None = false
fails None (Some zero) = true
fails None (Some (suc calls)) = false

-- the calls that are still good after one more
abbrev pub one_less : Option ℕ → Option ℕ
one_less None = None
one_less (Some zero) = Some zero
one_less (Some (suc calls)) = Some calls

-- the same if a fault may be kept: then no more are counted
abbrev pub calls_left : {F : Type 0} → Option F → Option ℕ → Option ℕ
calls_left (Some fault) good_calls = good_calls
calls_left None good_calls = one_less good_calls

-- how a reader or a writer for tests was made: the fault that it keeps, the calls that are still
-- good, and the most bytes that a call moves
pub record Made (F : Type 0) : Type 0 where
  pub fault : Option F
  pub good_calls : Option ℕ
  pub most : ℕ

abbrev pub made : {F : Type 0} → Option F → Option ℕ → ℕ → Made F
made fault good_calls most = record { fault = fault; good_calls = good_calls; most = most }

-- a read as the reader was made: it fails when it is to, and else moves as many bytes as it can
pub record ReadsAsMade (old new : Made ReadFault) (result : Result ℕ ReadFault)
    (room there : ℕ) : Type 0 where
  pub fault : is_err result ≡ fails old.fault old.good_calls
  pub calls : new.good_calls ≡ calls_left old.fault old.good_calls
  pub moved : IfOk result (λ n. n ≡ min old.most (min room there))

-- a write as the writer was made: it fails when it is to, with this fault, or with Device if
-- there is no memory for the bytes; else it moves as many as it can
pub record WritesAsMade (old new : Made WriteFault) (result : Result ℕ WriteFault)
    (last_fault : WriteFault) (given : ℕ) : Type 0 where
  pub fault : old.fault ≡ None → fails old.fault old.good_calls ≡ true → result ≡ Err last_fault
  pub no_memory : fails old.fault old.good_calls ≡ false → IfErr result (λ f. f ≡ Device)
  pub calls : new.good_calls ≡ calls_left old.fault old.good_calls
  pub moved : IfOk result (λ n. n ≡ min old.most given)
  pub most : new.most ≡ old.most

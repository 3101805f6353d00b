-- A read after others, outside a transaction.
use Rattle.std.proofs.Common.{◌≡◌, ℕ, Some, Ok, Err, Result, IsErrAnd, refl}
use Rattle.sqlite.specs.State.{State}
use Rattle.pid_moderation.specs.Views.{Views}
use Rattle.pid_tables.specs.declared.rows.fault.TableFault.{TableFault}
use Rattle.pid_tables.specs.declared.rows.fault.TableFault.TheVariants.{Memory}
use Rattle.pid_tables.specs.Rows.Causes.{IsCaused, IsReadable}
use Rattle.pid_tables.specs.Rows.Clauses.{AtRest, HasCleanDisk, OnlyReads, Reads, Tells}
use Rattle.pid_tables.proofs.OfRows.CauseLemmas.{caused_later, passed_on}
use Rattle.pid_tables.proofs.OfRows.OnlyReading.{reads_then}

-- the first read answers a fault, and so does the call
pub fault_first : {S : Type 0} (state : S → State) (old new : S) {X Y : Type 0} {Says : Views → X → Type 0} {P : Views → Y → Type 0} (e : TableFault) (r : Result Y TableFault) → IsErrAnd r (λ y. y ≡ e) → Reads state old new (Err e) Says → Reads state old new r P
fault_first state old new {P = P} e r is one = record {
  rests = one.rests;
  told = λ clean v rest. passed_on r e (P v) (λ fault. IsReadable v → IsCaused (state old) (state new) fault) is (one.told clean v rest);
}

-- there is no memory after reads, and so the call answers
pub no_memory : {S : Type 0} (state : S → State) (old new : S) {X : Type 0} {P : Views → X → Type 0} (r : Result X TableFault) → IsErrAnd r (λ y. y ≡ Memory) → OnlyReads state old new → Reads state old new r P
no_memory state old new {P = P} r is rests = record {
  rests = rests;
  told = λ clean v rest. passed_on r Memory (P v) (λ fault. IsReadable v → IsCaused (state old) (state new) fault) is (λ readable. tt);
}

-- a read that says more says this too
pub says_less : {S : Type 0} (state : S → State) (old new : S) {X : Type 0} {Says P : Views → X → Type 0} (r : Result X TableFault) → Reads state old new r Says → ((v : Views) (x : X) → Says v x → P v x) → Reads state old new r P
says_less state old new (Ok x) one so = record { rests = one.rests; told = λ clean v rest. so v x (one.told clean v rest) }
says_less state old new (Err e) one so = record { rests = one.rests; told = λ clean v rest. one.told clean v rest }

-- a number that the views have
pub read_number : {S : Type 0} (state : S → State) (old new : S) (r : Result ℕ TableFault) (number : Views → ℕ) → OnlyReads state old new → Tells state old new r (λ v n. Some n ≡ Some (number v)) → Reads state old new r (λ v n. n ≡ number v)
read_number state old new r number rests told = says_less state old new r (record { rests = rests; told = told }) (λ v n says. let same : n ≡ number v = cc in same)

module _ {S : Type 0} (state : S → State) (old mid new : S) (one : OnlyReads state old mid) where
  -- it answers a fault, and so does the call
  pub fault_after : {X Y : Type 0} {Says : Views → X → Type 0} {P : Views → Y → Type 0} (e : TableFault) (r : Result Y TableFault) → IsErrAnd r (λ y. y ≡ e) → Reads state mid new (Err e) Says → Reads state old new r P
  fault_after {P = P} e r is two = record {
    rests = reads_then (state old) (state mid) (state new) one two.rests;
    told = λ clean v rest.
        passed_on r e (P v) (λ fault. IsReadable v → IsCaused (state old) (state new) fault) is
        (λ readable. caused_later (state old) (state mid) (state new) (λ _. ⊥) e one.survives two.rests.survives.counts (two.rests.clean clean) (two.told clean v (one.kept v rest) readable));
  }

  -- it answers a value, and so does the call
  pub value_after : {X Y : Type 0} {Says : Views → X → Type 0} {P : Views → Y → Type 0} (x : X) (y : Y) → Reads state mid new (Ok x) Says → (HasCleanDisk state mid → (v : Views) → AtRest state old v → Says v x → P v y) → Reads state old new (Ok y) P
  value_after x y two so = record {
    rests = reads_then (state old) (state mid) (state new) one two.rests;
    told = λ clean v rest. so (two.rests.clean clean) v rest (two.told clean v (one.kept v rest));
  }

  -- its answer is that of the call
  pub answer_after : {X : Type 0} {Says P : Views → X → Type 0} (r : Result X TableFault) → Reads state mid new r Says → (HasCleanDisk state mid → (v : Views) → AtRest state old v → (x : X) → Says v x → P v x) → Reads state old new r P
  answer_after (Ok x) two so = value_after x x two (λ clean v rest. so clean v rest x)
  answer_after (Err e) two so = fault_after e (Err e) refl two

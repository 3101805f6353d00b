-- What was put into a transaction, as pairs that it shows.
use Rattle.std.proofs.Common.{◌≡◌, inl, inr, List, [], ◌∷◌, sym, subst, ap, ◌∙◌, ℕ, Result, Ok, Err, OnOk, OnErr, IfOk}
use Rattle.sqlite.specs.State.{State, HasCleanDisk, Survives}
use Rattle.pid_reader.specs.LookingBack.{Item}
use Rattle.pid_moderation.specs.Items.{Items, name_at, imported}
use Rattle.pid_moderation.specs.Views.{Views}
use Rattle.pid_tables.specs.Rows.Steps.Within.{KeepsCommitted, Within, Written}
use Rattle.pid_tables.specs.Rows.Shows.{Counts}
use Rattle.pid_tables.specs.Rows.Steps.Writes.{with_name}
use Rattle.pid_tables.specs.declared.rows.fault.TableFault.{TableFault}
use Rattle.pid_tables.proofs.OfRows.GoingLemmas.{earlier}
use Rattle.pid_tables.specs.declared.putting.Put.{Put}
use Rattle.pid_tables.specs.Steps.Puts.{put_over}
use Rattle.pid_tables.specs.declared.tally.Tally.{Tally}
use Rattle.pid_tables.specs.Steps.PutFiles.{PutAll, PutSome}
use Rattle.pid_tables.specs.Steps.Putting.{Puts, GivesUp}
use Rattle.pid_tables.specs.Steps.Putting.{put_in_turn}
use Rattle.pid_tables.specs.Steps.Tallies.{tallied}
use Rattle.pid_tables.specs.Steps.Tallies.{tally_of}
use Rattle.pid_tables.proofs.InTurn.{items_in_turn}

module _ {K : Type 0} (n : ℕ) (st : K → State) (puts : K → Item → Put → K → Type 0) (gives_up : K → K → Type 0)
    (means : (s : K) (item : Item) (put : Put) (t : K) → puts s item put t → Puts n (st s) (st t) item put) (gives : (s t : K) → gives_up s t → GivesUp (st s) (st t)) where
  pub all_within : (old new : K) (items : List Item) (tally : Tally) → PutAll puts old items tally new → (c : Counts) (v w : Views) → Within c (st old) v w → Within c (st new) v (put_in_turn n items w)
  all_within old new [] tally all c v w within = subst (λ (s : K). Within c (st s) v w) (sym all.0) within
  all_within old new (item ∷ items) tally (between, before, put, all, puts_it, counted) c v w within =
      ((means between item put new puts_it).written c v (put_in_turn n items w) (all_within old between items before all c v w within)).within

  pub all_clean : (old new : K) (items : List Item) (tally : Tally) → PutAll puts old items tally new → HasCleanDisk (st new) → HasCleanDisk (st old)
  all_clean old new [] tally all clean = subst (λ (s : K). HasCleanDisk (st s)) all.0 clean
  all_clean old new (item ∷ items) tally (between, before, put, all, puts_it, counted) clean = all_clean old between items before all ((means between item put new puts_it).clean clean)

  pub all_tally : (old new : K) (items : List Item) (tally : Tally) → PutAll puts old items tally new → HasCleanDisk (st new) → (c : Counts) (v w : Views) → Within c (st old) v w → tally ≡ tally_of w.items items
  all_tally old new [] tally all clean c v w within = all.1
  all_tally old new (item ∷ items) tally (between, before, put, all, puts_it, counted) clean c v w within =
      let step = means between item put new puts_it in
      let told : put ≡ put_over item.1 (name_at item.0 (put_in_turn n items w).items) = step.told clean c v (put_in_turn n items w) (all_within old between items before all c v w within) in
      let there : (put_in_turn n items w).items ≡ imported items w.items = items_in_turn n items w in
      let earlier = all_tally old between items before all (step.clean clean) c v w within in
      counted ∙ ap (λ (p : Put). tallied p before) (told ∙ ap (λ (is : Items). put_over item.1 (name_at item.0 is)) there)
      ∙ ap (λ (t : Tally). tallied (put_over item.1 (name_at item.0 (imported items w.items))) t) earlier

  pub some_holds : (old new : K) → PutSome puts gives_up old new → (c : Counts) (v w : Views) → Within c (st old) v w → KeepsCommitted (st new) v
  some_holds old new (items, tally, inl all) c v w within = (all_within old new items tally all c v w within).holds
  some_holds old new (items, tally, inr (between, all, gave)) c v w within = (gives between new gave).holds c v (put_in_turn n items w) (all_within old between items tally all c v w within)

  pub some_clean : (old new : K) → PutSome puts gives_up old new → HasCleanDisk (st new) → HasCleanDisk (st old)
  some_clean old new (items, tally, inl all) clean = all_clean old new items tally all clean
  some_clean old new (items, tally, inr (between, all, gave)) clean = all_clean old between items tally all ((gives between new gave).clean clean)

pub all_same : {K N : Type 0} (name : K → N) (puts : K → Item → Put → K → Type 0) → ((s : K) (item : Item) (put : Put) (t : K) → puts s item put t → name t ≡ name s) → (old new : K) (items : List Item) (tally : Tally) → PutAll puts old items tally new → name new ≡ name old
all_same name puts keeps old new [] tally all = ap name all.0
all_same name puts keeps old new (item ∷ items) tally (between, before, put, all, puts_it, counted) = keeps between item put new puts_it ∙ all_same name puts keeps old between items before all

pub some_same : {K N : Type 0} (name : K → N) (puts : K → Item → Put → K → Type 0) (gives_up : K → K → Type 0) → ((s : K) (item : Item) (put : Put) (t : K) → puts s item put t → name t ≡ name s) → ((s t : K) → gives_up s t → name t ≡ name s)
    → (old new : K) → PutSome puts gives_up old new → name new ≡ name old
some_same name puts gives_up keeps gives old new (items, tally, inl all) = all_same name puts keeps old new items tally all
some_same name puts gives_up keeps gives old new (items, tally, inr (between, all, gave)) = gives between new gave ∙ all_same name puts keeps old between items tally all

pub put_means : {N : Type 0} (n : ℕ) (first second : N) (r : Result Put TableFault) (old new : State) (path name : List ℕ) → first ≡ second → Survives old new (λ _. ⊥)
    → ((c : Counts) (v w : Views) → Within c old v w → OnOk r (Written c new v (with_name n path name w))) → (HasCleanDisk new → (c : Counts) (v w : Views) → Within c old v w → IfOk r (λ put. put ≡ put_over name (name_at path w.items)))
    → IfOk r (λ put. (first ≡ second) × Puts n old new (path, name) put)
put_means n first second (Ok p) old new path name same survives written told = (same, record { clean = earlier old new survives; limit = survives.limit; written = written; told = told })
put_means n first second (Err f) old new path name same survives written told = tt

pub put_gives_up : {X N : Type 0} (r : Result X TableFault) (first second : N) (old new : State) → first ≡ second → Survives old new (λ _. ⊥) → ((c : Counts) (v w : Views) → Within c old v w → KeepsCommitted new v) → OnErr r ((first ≡ second) × GivesUp old new)
put_gives_up (Ok x) first second old new same survives holds = tt
put_gives_up (Err f) first second old new same survives holds = (same, record { clean = earlier old new survives; limit = survives.limit; holds = holds })

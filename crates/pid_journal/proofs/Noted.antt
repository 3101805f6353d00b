-- A command whose entry was written: what its end leaves.
use Rattle.std.proofs.Common.{◌≡◌, ◌⊎◌, inl, inr, ℕ, true, false, List, [], ◌++◌, length, take, drop, Option, Some, None, Result, Ok, Err, refl, sym, ap, subst, ◌∙◌, append_assoc, append-nil, take-append-drop, take_at}
use Rattle.std.specs.Prelude.{IfSome, IsErrAnd, IsSomeAnd}
use Rattle.pid_moderation.specs.declared.command.Reply.{Reply}
use Rattle.pid_moderation.specs.declared.refusal.Refusal.{Refusal}
use Rattle.pid_moderation.specs.History.{Asked, History}
use Rattle.pid_moderation.specs.Judgement.{after, answer, judge}
use Rattle.pid_moderation.specs.Views.{views_of}
use Rattle.pid_service_laws.specs.Outcomes.{IsMemoryOrStore, is_outcome}
use Rattle.pid_service_laws.specs.Registries.{CommandLeaves}
use Rattle.pid_service_laws.specs.declared.registry_calls.RegistryCalls.{Ghosts}
use Rattle.pid_journal.specs.declared.file.JournalFile as files
use Rattle.pid_journal.specs.declared.journaled.Journaled.{Journaled}
use Rattle.pid_journal.specs.Journals.{counts_held, IsEntry, JournalLeads}
use Rattle.pid_journal.specs.Doubts.{IsInDoubt, LeavesPart}
use Rattle.pid_journal.specs.Pairs.{PairFailsBetween, PairShows, pair_showing}
use Rattle.pid_journal.specs.Steps.Parts.{IsCutBack, MayBeMarked, pair_showing_from}
use Rattle.pid_journal.specs.Steps.Segments.{KeepsShown}
use Rattle.pid_journal.specs.Steps.Notes.{IsMark}
use Rattle.pid_journal.proofs.Appending.{appended, is_kept, kept, marked}

-- a part of some bytes is some first ones of them
pub leaves_part : (now : Option (List ℕ)) (front behind part gone : List ℕ) → behind ≡ part ++ gone → now ≡ Some (front ++ part) → LeavesPart now front behind
leaves_part now front behind part gone parts left = (length part, left ∙ ap (λ (l : List ℕ). Some (front ++ l)) (sym (ap (take (length part)) parts ∙ take_at part gone (length part) refl)))

-- a part of an entry after the text of a journal
in_doubt : (start h : History) (safe : Option (List ℕ)) (text entry part gone : List ℕ) (c : Asked) → JournalLeads start text h → IsEntry entry (counts_held h) c → entry ≡ part ++ gone → safe ≡ Some (text ++ part) → IsInDoubt start safe h (after h c)
in_doubt start h safe text entry part gone c leads is parts left = record {
  text = text;
  leads = leads;
  more = entry;
  last = inl (c, is, refl);
  left = leaves_part safe text entry part gone parts left;
}

-- a judgement is no fault
no_fault : (h : History) (c : Asked) (result : Result Reply Refusal) → is_outcome (answer (judge (views_of h) c)) ≡ true → result ≡ answer (judge (views_of h) c) → IsErrAnd result IsMemoryOrStore → ⊥
no_fault h c (Ok reply) judged is fault = fault
no_fault h c (Err e) judged is (inl same) = let no : is_outcome (Err e) ≡ true = ap is_outcome is ∙ judged in let is-not : is_outcome (Err e) ≡ false = ap (λ (r : Refusal). is_outcome (Err r)) same in cc
no_fault h c (Err e) judged is (inr same) = let no : is_outcome (Err e) ≡ true = ap is_outcome is ∙ judged in let is-not : is_outcome (Err e) ≡ false = ap (λ (r : Refusal). is_outcome (Err r)) same in cc

-- what a `?` hands on
pub is_error : (result : Result Reply Refusal) (e : Refusal) → IsErrAnd result (λ d. d ≡ e) → result ≡ Err e
is_error (Ok x) e h = absurd h
is_error (Err d) e h = ap Err h

pub fault_of : (result : Result Reply Refusal) (e : Refusal) → IsErrAnd result (λ d. d ≡ e) → IsMemoryOrStore e → IsErrAnd result IsMemoryOrStore
fault_of (Ok x) e h fault = absurd h
fault_of (Err d) e h fault = subst IsMemoryOrStore (sym h) fault

-- the count of the bytes that are safe
pub counted : (safe : Option (List ℕ)) (text : List ℕ) (count : ℕ) → safe ≡ Some text → IfSome safe (λ bytes. count ≡ length bytes) → length text ≡ count
counted None text count is counts = absurd (let no : ⊥ = cc in no)
counted (Some bytes) text count is counts = let same : bytes ≡ text = cc in ap length (sym same) ∙ sym counts

-- of a fault nothing was judged, so that the registry shows the history before, or has failed
pub done : {A B : Type 0} (h : History) (c : Asked) (result : Result Reply Refusal) → is_outcome (answer (judge (views_of h) c)) ≡ true → IsErrAnd result IsMemoryOrStore → ((result ≡ answer (judge (views_of h) c)) × A) ⊎ (IsErrAnd result IsMemoryOrStore × B) → B
done h c result outcome fault (inl told) = absurd (no_fault h c result outcome told.0 fault)
done h c result outcome fault (inr left) = left.1

module _ {R J : Type 0} (registry : Ghosts R) (file : files.Ghosts J) where
  -- a registry that has stayed shows what it showed
  pub shows_same : (r s : R) (h : History) → r ≡ s → registry.showing.shows s h → registry.showing.shows r h
  shows_same r s h same shown = subst (λ (x : R). registry.showing.shows x h) (sym same) shown

  -- the entry was cut off again, or a part of it is left
  pub taken_back : (start h : History) (mid new : Journaled R J) (text entry part gone : List ℕ) (c : Asked) → JournalLeads start text h → IsEntry entry (counts_held h) c → entry ≡ part ++ gone → registry.showing.shows new.registry h
      → file.safe mid.journal ≡ Some (text ++ part) → mid.failed ≡ false → IsCutBack file mid new (length text)
      → PairShows registry file start new h ⊎ PairFailsBetween registry file start new h (after h c)
  taken_back start h mid new text entry part gone c leads is parts shown safe settled back =
      elim (back text part safe refl settled) [
        | inl cut ↦ inl (record { shown = shown; settled = cut.0; leads = is_kept start h (file.safe new.journal) text cut.1 leads })
        | inr left ↦ inr (record {
          doubt = in_doubt start h (file.safe new.journal) text entry (take left.1.0 part) (drop left.1.0 part ++ gone) c leads is (parts ∙ ap (λ (l : List ℕ). l ++ gone) (sym (take-append-drop left.1.0 part)) ∙ append_assoc (take left.1.0 part) (drop left.1.0 part) gone) left.1.1;
          fails = inl (left.0, shown);
        })
      ]

  -- the command was judged, and maybe its entry is marked
  pub judged : (start h : History) (r : R) (new : Journaled R J) (text entry : List ℕ) (c : Asked) (mid : Option (List ℕ)) → JournalLeads start text h → IsEntry entry (counts_held h) c → registry.showing.is_clean new.registry → registry.showing.shows r (after h c)
      → KeepsShown registry.showing r new.registry → mid ≡ Some (text ++ entry) → MayBeMarked registry.showing r new.registry mid (file.safe new.journal) → new.failed ≡ false
      → PairShows registry file start new (after h c)
  judged start h r new text entry c mid leads is clean shown kept safe marks settled =
      let longer = appended start h text entry c leads is in
      let still = kept clean (after h c) shown in
      elim (marks (text ++ entry) safe) [
        | inl same ↦ record { shown = still; settled = settled; leads = is_kept start (after h c) (file.safe new.journal) (text ++ entry) same longer }
        | inr (mark, held, says, more, told) ↦ record {
          shown = still;
          settled = settled;
          leads = is_kept start (after h c) (file.safe new.journal) ((text ++ entry) ++ mark) more (marked start (after h c) (text ++ entry) mark longer (subst (IsMark mark) (told clean (after h c) shown) says));
        }
      ]

  -- the registry has failed at the command
  pub fallen : (start h : History) (new : Journaled R J) (text entry : List ℕ) (c : Asked) → JournalLeads start text h → IsEntry entry (counts_held h) c → registry.showing.fails_between new.registry h (after h c)
      → file.safe new.journal ≡ Some (text ++ entry)
      → PairFailsBetween registry file start new h (after h c)
  unfolding in_doubt
  fallen start h new text entry c leads is fails safe =
      record { doubt = in_doubt start h (file.safe new.journal) text entry entry [] c leads is (sym (append-nil entry)) safe; fails = inr (safe, fails) }

  -- the registry has failed at a command that changes nothing, and has no entry
  pub fallen_unnoted : (start h next : History) (new : Journaled R J) (text : List ℕ) → JournalLeads start text h → next ≡ h → registry.showing.fails_between new.registry h next → file.safe new.journal ≡ Some text
      → PairFailsBetween registry file start new h next
  fallen_unnoted start h next new text leads same fails safe =
      let none : file.safe new.journal ≡ Some (text ++ []) = safe ∙ ap (λ (l : List ℕ). Some l) (sym (append-nil text)) in
      record { doubt = record { text = text; leads = leads; more = []; last = inr (inl refl, same); left = (0, none) }; fails = inr (none, fails) }

  -- a command that changes nothing was obeyed without an entry
  pub unnoted : (start h : History) (p : Journaled R J) (r : R) (result : Result Reply Refusal) (c : Asked) → PairShows registry file start p h → after h c ≡ h → CommandLeaves registry.showing result r h c
      → CommandLeaves (pair_showing_from registry file start) result (record p { registry = r }) h c
  unnoted start h p r result c shows same (inl told) =
      inl (told.0, record { shown = told.1; settled = shows.settled; leads = subst (λ (g : History). IsSomeAnd (file.safe p.journal) (λ text. JournalLeads start text g)) (sym same) shows.leads })
  unnoted start h p r result c shows same (inr (fault, inl shown)) =
      inr (fault, inl (record { shown = shown; settled = shows.settled; leads = shows.leads }))
  unnoted start h p r result c shows same (inr (fault, inr fails)) =
      let journal = kept start h (file.safe p.journal) shows.leads in
      inr (fault, inr (fallen_unnoted start h (after h c) (record p { registry = r }) journal.0 journal.2 same fails journal.1))

  -- a command leaves the same wherever the journal begins
  pub anywhere : (start h : History) (new : Journaled R J) (result : Result Reply Refusal) (c : Asked) → CommandLeaves (pair_showing_from registry file start) result new h c → CommandLeaves (pair_showing registry file) result new h c
  anywhere start h new result c (inl done) = inl (done.0, (start, done.1))
  anywhere start h new result c (inr (fault, inl shows)) = inr (fault, inl (start, shows))
  anywhere start h new result c (inr (fault, inr fails)) = inr (fault, inr (start, fails))

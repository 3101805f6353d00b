-- What a walk over items leaves behind a header, by how it ended.
use Rattle.std.proofs.Common.{◌≡◌, ℕ, ◌+◌, List, [], ◌∷◌, ◌++◌, map, Option, None, Some, Result, Ok, Err, reverse, refl, sym, ap, subst, ◌∙◌}
use Rattle.std.proofs.lemmas.List.{map-append, reverse-reverse}
use Rattle.std.specs.Io.KnownBytes.{Appends}
use Rattle.pid_file.proofs.SendingLemmas.{Appends-nil, Appends-then, stopped}
use Rattle.pid_service.proofs.Words.{EachEnd, ended, ExportSink, Fault, header, item_in, Items, lines_of_entry, Numbered, Path, placed_from, PrintsItem, SendsFront, StopsWithin, TableFault, Tables, text_behind, text_of_items, text_or_none, Took, Walks, WalksSome, WriteFault, WritesItems}
use Rattle.pid_service.proofs.ItemLines.{HasPrinted, last_path, text_first, text_joined, took_printed}

pub placed_items : (place : ℕ) (items : Items) → map item_in (placed_from place items) ≡ items
placed_items place [] = refl
placed_items place (item ∷ items) = ap (λ (l : Items). item ∷ l) (placed_items (place + 1) items)

-- the header, the lines of the first items, those of the next, and those behind it
text_parted : (before : List ℕ) (front : Items) (item : List ℕ × List ℕ) (behind : Items) → before ≡ last_path [] front
    → text_of_items (front ++ item ∷ behind) ≡ text_of_items front ++ (text_behind before (item ∷ []) ++ text_behind item.0 behind)
text_parted before front item behind last =
    ap (λ (l : List ℕ). ended (header ∷ []) ++ l)
    (text_joined [] front (item ∷ behind) ∙ ap (λ (l : List ℕ). text_behind [] front ++ l)
    (text_first (last_path [] front) item behind ∙ ap (λ (b : List ℕ). text_behind b (item ∷ []) ++ text_behind item.0 behind) (sym last)))

same_fault : (f g : WriteFault) → ◌≡◌ {A = Result (Unit {0}) (EachEnd WriteFault)} (Err (Fault f)) (Err (Fault g)) → f ≡ g
same_fault f g e = cc

no_fault : (t : TableFault) (f : WriteFault) → ◌≡◌ {A = Result (Unit {0}) (EachEnd WriteFault)} (Err (Tables t)) (Err (Fault f)) → ⊥
no_fault t f e = cc

-- a fault within the header
pub header_stopped : (a b : Option (List ℕ)) (items : Items) → SendsFront a b (ended (header ∷ [])) → SendsFront a b (text_of_items items)
header_stopped a b items front = stopped a a b [] (ended (header ∷ [])) (text_behind [] items) (text_of_items items) (Appends-nil a) front refl

module _ {W : Type 0} (taken : W → Option (List ℕ)) (write_fault : W → Option WriteFault) where
  -- of entries in their order
  front_printed : (old new : ExportSink W) (es : List Numbered) → Took (PrintsItem taken) old (reverse es) new → HasPrinted taken old (map item_in es) new
  front_printed old new es took = subst (λ (l : List Numbered). HasPrinted taken old (map item_in l) new) (reverse-reverse es) (took_printed taken old new (reverse es) took)

  pub walk_same : (r : Result (Unit {0}) (EachEnd WriteFault)) (old new : ExportSink W) → WalksSome (PrintsItem taken) (StopsWithin taken write_fault) r old new → new.out.ghost_name ≡ old.out.ghost_name
  walk_same (Ok x) old new w = (took_printed taken old new (reverse w.items) w.walked).same_reference
  walk_same (Err (Fault f)) old new w = w.walked.faulted.same_reference ∙ (took_printed taken old w.walked.between (reverse w.walked.front) w.walked.took).same_reference
  walk_same (Err (Tables t)) old new w = (took_printed taken old new (reverse w.walked.front) w.walked.took).same_reference

  -- a fault of the writer is the one that it keeps
  pub fault_told : (r : Result (Unit {0}) (EachEnd WriteFault)) (f : WriteFault) (old new : ExportSink W) → r ≡ Err (Fault f) → WalksSome (PrintsItem taken) (StopsWithin taken write_fault) r old new → write_fault new.out.now ≡ Some f
  fault_told (Ok x) f old new is w = absurd (let no : ⊥ = cc in no)
  fault_told (Err (Fault g)) f old new is w = w.walked.faulted.told ∙ ap Some (same_fault g f is)
  fault_told (Err (Tables t)) f old new is w = absurd (no_fault t f is)

  module _ (a : Option (List ℕ)) (old : ExportSink W) (first : old.before ≡ None) (head : Appends a (taken old.out.now) (ended (header ∷ []))) where
    last_printed : (new : ExportSink W) (front : Items) → HasPrinted taken old front new → text_or_none new.before ≡ last_path [] front
    last_printed new front h = subst (λ (b : Option Path). text_or_none new.before ≡ last_path (text_or_none b) front) first h.last

    after_header : (new : ExportSink W) (front : Items) → HasPrinted taken old front new → Appends a (taken new.out.now) (text_of_items front)
    after_header new front h =
        let text = subst (λ (b : Option Path). Appends (taken old.out.now) (taken new.out.now) (text_behind (text_or_none b) front)) first h.printed in
        Appends-then a (taken old.out.now) (taken new.out.now) (ended (header ∷ [])) (text_behind [] front) head text

    -- all items
    all_exported : (new : ExportSink W) (items : Items) → Took (PrintsItem taken) old (reverse (placed_from 1 items)) new → Appends a (taken new.out.now) (text_of_items items)
    all_exported new items took = subst (λ (is : Items). Appends a (taken new.out.now) (text_of_items is)) (placed_items 1 items) (after_header new (map item_in (placed_from 1 items)) (front_printed old new (placed_from 1 items) took))

    stopped_within : (between new : ExportSink W) (front behind : Items) (entry : Numbered) (f : WriteFault) → HasPrinted taken old front between → StopsWithin taken write_fault between entry f new
        → SendsFront a (taken new.out.now) (text_of_items (front ++ item_in entry ∷ behind))
    stopped_within between new front behind entry f h stop =
        stopped a (taken between.out.now) (taken new.out.now) (text_of_items front) (lines_of_entry between entry) (text_behind (item_in entry).0 behind) (text_of_items (front ++ item_in entry ∷ behind)) (after_header between front h) stop.front
        (text_parted (text_or_none between.before) front (item_in entry) behind (last_printed between front h))

    by_end : (e : EachEnd WriteFault) (new : ExportSink W) (items : Items) → Walks (PrintsItem taken) (StopsWithin taken write_fault) {X = Unit {0}} (Err e) (placed_from 1 items) old new
        → WritesItems {X = Unit {0}} (Err e) a (taken new.out.now) items
    by_end (Fault f) new items w =
        let whole : items ≡ map item_in w.front ++ item_in w.item ∷ map item_in w.rest = sym (placed_items 1 items) ∙ ap (map item_in) w.parts ∙ map-append item_in w.front (w.item ∷ w.rest) in
        subst (λ (is : Items). SendsFront a (taken new.out.now) (text_of_items is)) (sym whole) (stopped_within w.between new (map item_in w.front) (map item_in w.rest) w.item f (front_printed old w.between w.front w.took) w.faulted)
    by_end (Tables t) new items w =
        (map item_in w.front, map item_in w.rest, sym (placed_items 1 items) ∙ ap (map item_in) w.parts ∙ map-append item_in w.front w.rest, after_header new (map item_in w.front) (front_printed old new w.front w.took))

    -- the whole text or a part of it, by the end of the walk
    pub exported : (r : Result (Unit {0}) (EachEnd WriteFault)) (new : ExportSink W) (items : Items) → Walks (PrintsItem taken) (StopsWithin taken write_fault) r (placed_from 1 items) old new → WritesItems r a (taken new.out.now) items
    exported (Ok x) new items w = all_exported new items w
    exported (Err e) new items w = by_end e new items w

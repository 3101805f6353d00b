-- What became of a sink at the front of a text, where more of the text comes.
use Rattle.std.proofs.Common.{◌≡◌, inl, inr, ℕ, ◌+◌, ◌-◌, ◌≤◌, arith, length-append, map, length, List, [], ◌∷◌, ◌++◌, Option, Some, None, Result, Ok, Err, refl, sym, ap, subst, ◌∙◌, append_assoc}
use mathlib.Core.List.{reverse_aux}
use Rattle.std.specs.Prelude.{OnOk}
use Rattle.std.specs.Io.KnownBytes.{Consumes, Keeps}
use Rattle.std.proofs.lemmas.List.{append-nil}
use Rattle.pid_file.specs.declared.open_text.OpenText.{OpenText}
use Rattle.pid_file.specs.declared.refusal.ReadRefusal.{ReadRefusal}
use Rattle.pid_file.specs.declared.sink.CutEnd.{CutEnd}
use Rattle.pid_file.specs.declared.sink.CutEnd.TheVariants.{Refused, Fault}
use Rattle.pid_file.specs.OpenTexts.{IsLeftOpen}
use Rattle.pid_file.specs.Lines.{drop_cr, lines_of}
use Rattle.pid_file.specs.Numbered.{Numbered, numbered_back, numbered_of}
use Rattle.pid_file.specs.Reading.{or_else, refused_from, refusal_of, read_from}
use Rattle.pid_file.specs.Steps.LineEnds.{refusal_at}
use Rattle.pid_file.specs.Sinks.{Took, TookSome, FaultedAt, Ends}
use Rattle.pid_file.specs.WholeLines.{whole_lines, ended_pieces, open_part}
use Rattle.pid_file.specs.declared.whole_input.InputEnd.{InputEnd}
use Rattle.pid_file.specs.declared.whole_input.InputEnd.TheVariants as inputs
use Rattle.pid_file.specs.declared.whole_input.SkipEnd.{SkipEnd}
use Rattle.pid_file.specs.declared.whole_input.SkipEnd.TheVariants.{ReadFault, TooLong}
use Rattle.pid_file.specs.WholeInputs.{IsWhole, TookOrFaulted, CutsInput, SkipsInput}
use Rattle.pid_file.specs.Steps.WholeInputs.{IsNoPiece, FailsPiece, as_input_end}
use Rattle.pid_file.proofs.Cuts.{ended_more, map_append, lines_more, lines_split}
use Rattle.pid_file.proofs.Feeding.{read-good}

-- a refusal of lines is that of these lines and more, and the lines before it are the same
record IsRefusedThere (r : ReadRefusal) (earlier lines more : List (List ℕ)) : Type 0 where
  refused : refused_from earlier (lines ++ more) ≡ Some r
  same : read_from earlier (lines ++ more) ≡ read_from earlier lines

refused_longer : (r : ReadRefusal) (earlier lines more : List (List ℕ)) → refused_from earlier lines ≡ Some r → IsRefusedThere r earlier lines more
refused_longer r earlier [] more h = absurd (let no : ⊥ = cc in no)
refused_longer r earlier (line ∷ lines) more h =
    elim (refusal_at earlier line) as (λ o. refusal_at earlier line ≡ o → or_else o (refused_from (line ∷ earlier) lines) ≡ Some r → IsRefusedThere r earlier (line ∷ lines) more) [
      | Some q ↦ λ e told. record { refused = ap (λ o. or_else o (refused_from (line ∷ earlier) (lines ++ more))) e ∙ told; same = rw e refl }
      | None ↦ λ e told.
          let rest = refused_longer r (line ∷ earlier) lines more told in
          record { refused = ap (λ o. or_else o (refused_from (line ∷ earlier) (lines ++ more))) e ∙ rest.refused; same = rw e rest.same }
    ] refl h

some_longer : {S : Type 0} (takes : S → Numbered → S → Type 0) (start sink : S) (lines more : List (List ℕ)) → TookSome takes start lines sink → TookSome takes start (lines ++ more) sink
some_longer takes start sink lines more t =
    record { front = t.front; after = t.after ++ more; parts = ap (λ (l : List (List ℕ)). l ++ more) t.parts ∙ append_assoc t.front t.after more; good = t.good; took = t.took }

faulted_longer : {S F : Type 0} (takes : S → Numbered → S → Type 0) (faults : S → Numbered → F → S → Type 0) (start : S) (lines more : List (List ℕ)) (fault : F) (sink : S) → FaultedAt takes faults start lines fault sink → FaultedAt takes faults start (lines ++ more) fault sink
faulted_longer takes faults start lines more fault sink t =
    record { front = t.front; line = t.line; after = t.after ++ more; parts = ap (λ (l : List (List ℕ)). l ++ more) t.parts ∙ append_assoc t.front (t.line ∷ t.after) more; good = t.good; entry = t.entry; is_its = t.is_its; between = t.between; took = t.took; faulted = t.faulted }

err_longer : {S F : Type 0} (takes : S → Numbered → S → Type 0) (faults : S → Numbered → F → S → Type 0) (e : CutEnd F) (start sink : S) (lines more : List (List ℕ)) → Ends {X = Unit {0}} takes faults (Err e) start lines sink → Ends {X = Unit {0}} takes faults (Err e) start (lines ++ more) sink
err_longer takes faults (Refused r) start sink lines more (inl told) =
    let on = refused_longer r [] lines more told.0 in
    inl (on.refused, subst (λ (ls : List (List ℕ)). Took takes start (numbered_back ls) sink) (sym on.same) told.1)
err_longer takes faults (Refused r) start sink lines more (inr told) = inr (told.0, some_longer takes start sink lines more told.1)
err_longer takes faults (Fault f) start sink lines more told = faulted_longer takes faults start lines more f sink told

whole_more : (a b : List ℕ) → whole_lines (a ++ b) ≡ whole_lines a ++ map drop_cr (ended_pieces (open_part a ++ b))
whole_more a b = ap (map drop_cr) (ended_more a b) ∙ map_append drop_cr (ended_pieces a) (ended_pieces (open_part a ++ b))

-- the end of a text that is given up is its end with one more piece, and as a whole
pub err_more : {S F : Type 0} (takes : S → Numbered → S → Type 0) (faults : S → Numbered → F → S → Type 0) (e : CutEnd F) (start sink : S) (front piece : List ℕ) → Ends {X = Unit {0}} takes faults (Err e) start (whole_lines front) sink → Ends {X = Unit {0}} takes faults (Err e) start (whole_lines (front ++ piece)) sink
err_more takes faults e start sink front piece ends =
    subst (λ (ls : List (List ℕ)). Ends {X = Unit {0}} takes faults (Err e) start ls sink) (sym (whole_more front piece)) (err_longer takes faults e start sink (whole_lines front) _ ends)

pub err_whole : {S F : Type 0} (takes : S → Numbered → S → Type 0) (faults : S → Numbered → F → S → Type 0) (e : CutEnd F) (start sink : S) (text : List ℕ) → Ends {X = Unit {0}} takes faults (Err e) start (whole_lines text) sink → Ends {X = Unit {0}} takes faults (Err e) start (lines_of text) sink
err_whole takes faults e start sink text ends =
    subst (λ (ls : List (List ℕ)). Ends {X = Unit {0}} takes faults (Err e) start ls sink) (sym (lines_split text)) (err_longer takes faults e start sink (whole_lines text) _ ends)

-- the lines before the first that is refused
record IsReadFront (earlier lines : List (List ℕ)) : Type 0 where
  front : List (List ℕ)
  after : List (List ℕ)
  parts : lines ≡ front ++ after
  good : refused_from earlier front ≡ None
  read : read_from earlier lines ≡ reverse_aux front earlier

read_front : (r : ReadRefusal) (earlier lines : List (List ℕ)) → refused_from earlier lines ≡ Some r → IsReadFront earlier lines
read_front r earlier [] h = absurd (let no : ⊥ = cc in no)
read_front r earlier (line ∷ lines) h =
    elim (refusal_at earlier line) as (λ o. refusal_at earlier line ≡ o → or_else o (refused_from (line ∷ earlier) lines) ≡ Some r → IsReadFront earlier (line ∷ lines)) [
      | Some q ↦ λ e told. record { front = []; after = line ∷ lines; parts = refl; good = refl; read = rw e refl }
      | None ↦ λ e told.
          let rest = read_front r (line ∷ earlier) lines told in
          record { front = line ∷ rest.front; after = rest.after; parts = ap (λ (l : List (List ℕ)). line ∷ l) rest.parts; good = ap (λ o. or_else o (refused_from (line ∷ earlier) rest.front)) e ∙ rest.good; read = rw e rest.read }
    ] refl h

took_before : {S : Type 0} (takes : S → Numbered → S → Type 0) (r : ReadRefusal) (start sink : S) (lines : List (List ℕ)) → refusal_of lines ≡ Some r → Took takes start (numbered_of lines) sink → TookSome takes start lines sink
took_before takes r start sink lines h took =
    let p = read_front r [] lines h in
    record { front = p.front; after = p.after; parts = p.parts; good = p.good; took = subst (λ (ls : List (List ℕ)). Took takes start (numbered_back ls) sink) (p.read ∙ sym (read-good [] p.front p.good)) took }

-- whatever the end
took_or_faulted : {S F : Type 0} (takes : S → Numbered → S → Type 0) (faults : S → Numbered → F → S → Type 0) (r : Result (Unit {0}) (CutEnd F)) (start sink : S) (lines more : List (List ℕ)) → Ends takes faults r start lines sink → TookOrFaulted takes faults start (lines ++ more) sink
took_or_faulted takes faults (Ok x) start sink lines more ends = inl (record { front = lines; after = more; parts = refl; good = ends.0; took = ends.1 })
took_or_faulted takes faults (Err (Refused r)) start sink lines more (inl told) = inl (some_longer takes start sink lines more (took_before takes r start sink lines told.0 told.1))
took_or_faulted takes faults (Err (Refused r)) start sink lines more (inr told) = inl (some_longer takes start sink lines more told.1)
took_or_faulted takes faults (Err (Fault f)) start sink lines more told = inr (f, faulted_longer takes faults start lines more f sink told)

pub given_up : {S F : Type 0} (takes : S → Numbered → S → Type 0) (faults : S → Numbered → F → S → Type 0) (r : Result (Unit {0}) (CutEnd F)) (start sink : S) (front more : List ℕ) → Ends takes faults r start (whole_lines front) sink → TookOrFaulted takes faults start (lines_of (front ++ more)) sink
given_up takes faults r start sink front more ends =
    subst (λ (ls : List (List ℕ)). TookOrFaulted takes faults start ls sink) (sym (lines_more front more)) (took_or_faulted takes faults r start sink (whole_lines front) (lines_of (open_part front ++ more)) ends)

-- what was read of the input is the front, and so many bytes may still come
pub record HasRead (old new : Option (List ℕ)) (limit room : ℕ) (front : List ℕ) : Type 0 where
  pub consumed : Consumes old new front
  pub counted : length front + room ≡ limit

-- and the sink has what was made of the front
pub record HasFed {S F : Type 0} (takes : S → Numbered → S → Type 0) (faults : S → Numbered → F → S → Type 0) (kept : OpenText) (outcome : Result (Unit {0}) (CutEnd F)) (start sink : S) (front : List ℕ) : Type 0 where
  pub holds : OnOk outcome (IsLeftOpen kept front)
  pub ends : Ends takes faults outcome start (whole_lines front) sink

pub Consumes-nil : (a : Option (List ℕ)) → Consumes a a []
Consumes-nil None = tt
Consumes-nil (Some x) = refl

pub Consumes-then : (a b c : Option (List ℕ)) (x y : List ℕ) → Consumes a b x → Consumes b c y → Consumes a c (x ++ y)
Consumes-then None b c x y p q = tt
Consumes-then (Some a) None c x y p q = absurd p
Consumes-then (Some a) (Some b) None x y p q = absurd q
Consumes-then (Some a) (Some b) (Some c) x y p q = p ∙ ap (λ (l : List ℕ). x ++ l) q ∙ sym (append_assoc x y c)

pub Consumes-kept : (a b c : Option (List ℕ)) (x : List ℕ) → Consumes a b x → Keeps b c → Consumes a c x
Consumes-kept None b c x p q = tt
Consumes-kept (Some a) None c x p q = absurd p
Consumes-kept (Some a) (Some b) None x p q = absurd q
Consumes-kept (Some a) (Some b) (Some c) x p q = p ∙ ap (λ (l : List ℕ). x ++ l) (sym q)

pub starts_read : (a : Option (List ℕ)) (limit : ℕ) → HasRead a a limit limit []
starts_read a limit = record { consumed = Consumes-nil a; counted = omega arith }

pub reads_on : (old mid new : Option (List ℕ)) (limit room : ℕ) (front piece : List ℕ) → HasRead old mid limit room front → Consumes mid new piece → length piece ≤ room → HasRead old new limit (room - length piece) (front ++ piece)
reads_on old mid new limit room front piece read consumed short =
    record { consumed = Consumes-then old mid new front piece read.consumed consumed; counted = simp length-append (omega (arith, read.counted, short)) }

-- the read that gave no piece
pub record EndsRead (old new : Option (List ℕ)) (limit : ℕ) (front : List ℕ) (end : SkipEnd) : Type 0 where
  pub more : List ℕ
  pub consumed : Consumes old new (front ++ more)
  pub short : length (front ++ more) ≤ limit + 1
  pub skips : SkipsInput {X = Unit {0}} limit (Err end) new (front ++ more)

pub ends_read : (old mid new : Option (List ℕ)) (limit room : ℕ) (front : List ℕ) (end : SkipEnd) → HasRead old mid limit room front → FailsPiece room mid new end → EndsRead old new limit front end
ends_read old mid new limit room front TooLong read last =
    let all : length (front ++ last.0) ≡ limit + 1 = simp length-append (omega (arith, read.counted, last.2)) in
    record { more = last.0; consumed = Consumes-then old mid new front last.0 read.consumed last.1; short = omega (arith, all); skips = all }
ends_read old mid new limit room front ReadFault read kept =
    let same : front ++ [] ≡ front = append-nil front in
    let all : length (front ++ []) ≤ limit = rw same (omega (arith, read.counted)) in
    record { more = []; consumed = rw same (Consumes-kept old mid new front read.consumed kept); short = omega (arith, all); skips = all }

pub cuts_by : {S F : Type 0} (takes : S → Numbered → S → Type 0) (faults : S → Numbered → F → S → Type 0) (limit : ℕ) (end : SkipEnd) (rest : Option (List ℕ)) (text : List ℕ) (start sink : S) → SkipsInput {X = Unit {0}} limit (Err end) rest text → TookOrFaulted takes faults start (lines_of text) sink → CutsInput {X = Unit {0}} takes faults limit (Err (as_input_end end)) rest text start sink
cuts_by takes faults limit ReadFault rest text start sink skips took = (skips, took)
cuts_by takes faults limit TooLong rest text start sink skips took = (skips, took)

-- all was read
pub record EndsWhole (old new : Option (List ℕ)) (limit : ℕ) (front : List ℕ) : Type 0 where
  pub consumed : Consumes old new front
  pub whole : IsWhole limit new front
  pub short : length front ≤ limit + 1

pub whole_read : (old mid new : Option (List ℕ)) (limit room : ℕ) (front : List ℕ) → HasRead old mid limit room front → IsNoPiece mid new → EndsWhole old new limit front
whole_read old mid new limit room front read none = record {
  consumed = subst (λ (l : List ℕ). Consumes old new l) (append-nil front) (Consumes-then old mid new front [] read.consumed none.consumed);
  whole = record { at_end = none.at_end; short = omega (arith, read.counted) };
  short = omega (arith, read.counted);
}

-- whether the end is a fault of the reader
pub same_end : {Y : Type 0} (r : Result Y SkipEnd) (end : SkipEnd) → r ≡ Err end → r ≡ Err ReadFault → end ≡ ReadFault
same_end r ReadFault is h = refl
same_end r TooLong is h = absurd (let no : ⊥ = cc in no)

pub fault_cause : {X F : Type 0} (r : Result X (InputEnd F)) (end : SkipEnd) → r ≡ Err (as_input_end end) → r ≡ Err inputs.ReadFault → end ≡ ReadFault
fault_cause r ReadFault is h = refl
fault_cause r TooLong is h = absurd (let no : ⊥ = cc in no)

pub cause_fault : {X F : Type 0} (r : Result X (InputEnd F)) (end : SkipEnd) → r ≡ Err (as_input_end end) → end ≡ ReadFault → r ≡ Err inputs.ReadFault
cause_fault r end is e = is ∙ ap (λ (s : SkipEnd). Err (as_input_end s)) e

pub cut_no_fault : {X F : Type 0} (r : Result X (InputEnd F)) (end : CutEnd F) → r ≡ Err (inputs.Cut end) → r ≡ Err inputs.ReadFault → ⊥
cut_no_fault r end is h = cc

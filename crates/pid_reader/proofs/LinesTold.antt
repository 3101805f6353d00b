-- One more line of a text that is told line by line.
use Rattle.std.proofs.Common.{◌≡◌, ℕ, ◌+◌, List, [], ◌∷◌, ◌++◌, length, map, Some, None, Result, Ok, Err, refl, sym, ap, ◌∙◌, arith}
use Rattle.pid_file.specs.declared.fault_kind.LineKind.{LineKind}
use Rattle.pid_reader.specs.declared.line_fault.LineFault.{LineFault}
use Rattle.pid_reader.specs.declared.lines.Lines.{Lines}
use Rattle.pid_file.specs.declared.open_levels.LineContent.{LineContent}
use Rattle.pid_file.specs.declared.open_levels.LineContent.TheVariants as said
use Rattle.pid_file.specs.declared.entry_line.NamedPath.{NamedPath}
use Rattle.pid_file.specs.Lines.{lines_of, pieces_of, drop_cr}
use Rattle.pid_file.specs.LookingBack.{Item}
use Rattle.pid_file.specs.Numbered.{Numbered, at_line, numbered_at}
use Rattle.pid_file.specs.Faults.{line_fault_of}
use Rattle.pid_file.specs.OpenLevels.{IsOpenAt}
use Rattle.pid_file.specs.Steps.OpenLevels.{Says, items_of, open_after}
use Rattle.pid_reader.specs.LinesLeft.{as_ok, told_at, told_from, StandsAfter, HasLeft, IsAtEnd, GivesFirst}

-- what is told where a line has no fault
told_step : (earlier : List (List ℕ)) (line : List ℕ) (lines : List (List ℕ)) → line_fault_of earlier line ≡ None → told_from earlier (line ∷ lines) ≡ map as_ok (numbered_at earlier line) ++ told_from (line ∷ earlier) lines
told_step earlier line lines h = ap (λ o. told_at earlier line o (told_from (line ∷ earlier) lines)) h

told_stop : (earlier : List (List ℕ)) (line : List ℕ) (lines : List (List ℕ)) (k : LineKind) → line_fault_of earlier line ≡ Some k → told_from earlier (line ∷ lines) ≡ Err (record { line = length earlier + 1; kind = k }) ∷ []
told_stop earlier line lines k h = ap (λ o. told_at earlier line o (told_from (line ∷ earlier) lines)) h

next_lines : (text piece rest line : List ℕ) → pieces_of text ≡ piece ∷ pieces_of rest → line ≡ drop_cr piece → lines_of text ≡ line ∷ lines_of rest
next_lines text piece rest line parts is = ap (map drop_cr) parts ∙ ap (λ (l : List ℕ). l ∷ lines_of rest) (sym is)

stands_on : (l m : Lines) (earlier : List (List ℕ)) (line : List ℕ) (s : LineContent) → StandsAfter l earlier → Says l.levels earlier line s → m.levels ≡ open_after l.levels s → m.number ≡ l.number + 1 → StandsAfter m (line ∷ earlier)
stands_on l m earlier line s at says levels number = record { levels = rw levels says.after; number = omega (arith, at.number, number) }

-- a line that is no entry
pub left_quiet : (l m : Lines) (items : List (Result Numbered LineFault)) (piece line : List ℕ) (s : LineContent) → HasLeft l items → pieces_of l.rest.now ≡ piece ∷ pieces_of m.rest.now → line ≡ drop_cr piece → ((earlier : List (List ℕ)) → IsOpenAt l.levels earlier → Says l.levels earlier line s) → items_of s ≡ [] → m.levels ≡ open_after l.levels s → m.number ≡ l.number + 1 → HasLeft m items
left_quiet l m items piece line s left parts is says none levels number =
    let earlier = left.earlier in
    let here = says earlier left.stands.levels in
    let step : told_from earlier (lines_of l.rest.now) ≡ told_from (line ∷ earlier) (lines_of m.rest.now) = ap (told_from earlier) (next_lines l.rest.now piece m.rest.now line parts is) ∙ told_step earlier line (lines_of m.rest.now) here.good ∙ ap (λ (es : List Item). map as_ok (map (at_line (length earlier + 1)) es) ++ told_from (line ∷ earlier) (lines_of m.rest.now)) (sym here.entry ∙ none) in
    record { earlier = line ∷ earlier; stands = stands_on l m earlier line s left.stands here levels number; are = left.are ∙ step }

-- an entry
pub left_entry : (l m : Lines) (items : List (Result Numbered LineFault)) (piece line : List ℕ) (s : LineContent) (e : Item) (n : ℕ) → HasLeft l items → pieces_of l.rest.now ≡ piece ∷ pieces_of m.rest.now → line ≡ drop_cr piece → ((earlier : List (List ℕ)) → IsOpenAt l.levels earlier → Says l.levels earlier line s) → items_of s ≡ e ∷ [] → m.levels ≡ open_after l.levels s → m.number ≡ l.number + 1 → n ≡ l.number + 1 → GivesFirst items (Ok (n, e)) m
left_entry l m items piece line s e n left parts is says one levels number n_is =
    let earlier = left.earlier in
    let here = says earlier left.stands.levels in
    let behind = told_from (line ∷ earlier) (lines_of m.rest.now) in
    let count : length earlier + 1 ≡ n = omega (arith, left.stands.number, n_is) in
    let step : told_from earlier (lines_of l.rest.now) ≡ as_ok (n, e) ∷ behind = ap (told_from earlier) (next_lines l.rest.now piece m.rest.now line parts is) ∙ told_step earlier line (lines_of m.rest.now) here.good ∙ (λ i. map as_ok (map (at_line (count i)) ((sym here.entry ∙ one) i)) ++ behind) in
    record { after = behind; are = left.are ∙ step; left = record { earlier = line ∷ earlier; stands = stands_on l m earlier line s left.stands here levels number; are = refl } }

-- a fault
pub left_fault : (l m : Lines) (items : List (Result Numbered LineFault)) (piece rest line : List ℕ) (k : LineKind) (n : ℕ) → HasLeft l items → pieces_of l.rest.now ≡ piece ∷ pieces_of rest → line ≡ drop_cr piece → ((earlier : List (List ℕ)) → IsOpenAt l.levels earlier → line_fault_of earlier line ≡ Some k) → m.rest.now ≡ [] → m.levels ≡ l.levels → m.number ≡ l.number → n ≡ l.number + 1 → GivesFirst items (Err (record { line = n; kind = k })) m
left_fault l m items piece rest line k n left parts is fault none levels number n_is =
    let earlier = left.earlier in
    let count : length earlier + 1 ≡ n = omega (arith, left.stands.number, n_is) in
    let fault_at : ℕ → Result Numbered LineFault = λ c. Err (record { line = c; kind = k }) in
    let step : told_from earlier (lines_of l.rest.now) ≡ fault_at n ∷ [] = ap (told_from earlier) (next_lines l.rest.now piece rest line parts is) ∙ told_stop earlier line (lines_of rest) k (fault earlier left.stands.levels) ∙ ap (λ c. fault_at c ∷ []) count in
    record { after = []; are = left.are ∙ step; left = record { earlier = earlier; stands = record { levels = rw levels left.stands.levels; number = number ∙ left.stands.number }; are = ap (λ (t : List ℕ). told_from earlier (lines_of t)) (sym none) } }

-- the end
pub left_none : (l : Lines) (items : List (Result Numbered LineFault)) → HasLeft l items → l.rest.now ≡ [] → IsAtEnd items l
left_none l items left none =
    let same : told_from left.earlier (lines_of l.rest.now) ≡ [] = ap (λ (t : List ℕ). told_from left.earlier (lines_of t)) none in
    record { none = left.are ∙ same; left = record { earlier = left.earlier; stands = left.stands; are = sym same } }

-- what is no entry says none
pub no_items : (s : LineContent) → ((n : NamedPath) → s ≡ said.Entry n → ⊥) → items_of s ≡ []
no_items said.Nothing h = refl
no_items said.Unknown h = refl
no_items (said.Block v) h = refl
no_items (said.Entry n) h = absurd (h n refl)

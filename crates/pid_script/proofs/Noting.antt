-- The moments that the reads of a script note.
use Rattle.std.proofs.Common.{◌≡◌, ℕ, ◌+◌, ◌<◌, List, [], ◌∷◌, ◌++◌, length, Option, Some, None, refl, sym, ap, ◌∙◌, append_assoc, arith}
use Rattle.std.proofs.lemmas.List.{append-nil, length-append}
use Rattle.std.specs.List.{AllByRecursion}
use Rattle.std.specs.Io.KnownBytes.{Consumes}
use Rattle.pid_ident.specs.Moments.{Moment}
use Rattle.pid_ident.specs.Steps.Moments.{IsNoted}
use Rattle.pid_script.specs.Scripts.{AllButLast, HasMore, Notes}
use Rattle.pid_script.proofs.LineReplies.{all_but_last, but_one}

-- nothing was read
pub none_noted : (ms : Option (List Moment)) → Notes 0 (AllByRecursion HasMore) ms ms
none_noted None = tt
none_noted (Some ms) = ([], sym (append-nil ms), refl, tt)

-- one read more
one_noted : (P Q : List Moment → Type 0) (made : ℕ) (come taken : Option (List ℕ)) (ms ns os : Option (List Moment)) → ((later : List Moment) → P later → Q (later ++ (record { to_come = come; taken = taken }) ∷ [])) → Notes made P ms ns → IsNoted come taken ns os → Notes (made + 1) Q ms os
one_noted P Q made come taken ms ns None so past noted = tt
one_noted P Q made come taken ms None (Some now) so past noted = absurd noted
one_noted P Q made come taken None (Some ns) (Some now) so past noted = absurd past
one_noted P Q made come taken (Some first) (Some ns) (Some now) so (later, is, many, all) noted =
    let m : Moment = record { to_come = come; taken = taken } in (
      later ++ m ∷ [],
      noted ∙ ap (λ (l : List Moment). l ++ m ∷ []) is ∙ append_assoc first later (m ∷ []),
      length-append later (m ∷ []) ∙ ap (λ (n : ℕ). n + 1) many,
      so later all,
    )

and_one : (P : Moment → Type 0) (ms : List Moment) (m : Moment) → P m → AllByRecursion P ms → AllByRecursion P (ms ++ m ∷ [])
and_one P [] m last all = (last, tt)
and_one P (x ∷ ms) m last all = (all.0, and_one P ms m last all.1)

-- a read that took some found something to come
has_more : (now next taken : Option (List ℕ)) (piece : List ℕ) → Consumes now next piece → 0 < length piece → HasMore (record { to_come = now; taken = taken })
has_more None next taken piece read some none = absurd cc
has_more (Some xs) None taken piece read some none = absurd read
has_more (Some xs) (Some ys) taken piece read some none =
    let empty : xs ≡ [] = cc none in
    let all : length xs ≡ length piece + length ys = ap length read ∙ length-append piece ys in
    let nothing : length xs ≡ 0 = ap length empty in
    absurd (omega (arith, all, nothing, some))

-- such a read more
pub more_noted : (made : ℕ) (now next taken : Option (List ℕ)) (piece : List ℕ) (ms ns os : Option (List Moment)) → Consumes now next piece → 0 < length piece → Notes made (AllByRecursion HasMore) ms ns → IsNoted now taken ns os → Notes (made + 1) (AllByRecursion HasMore) ms os
more_noted made now next taken piece ms ns os read some past noted =
    one_noted (AllByRecursion HasMore) (AllByRecursion HasMore) made now taken ms ns os (λ later all. and_one HasMore later (record { to_come = now; taken = taken }) (has_more now next taken piece read some) all) past noted

-- the last read, whatever it took
pub last_noted : (made : ℕ) (now taken : Option (List ℕ)) (ms ns os : Option (List Moment)) → Notes made (AllByRecursion HasMore) ms ns → IsNoted now taken ns os → Notes (made + 1) (AllButLast HasMore) ms os
last_noted made now taken ms ns os past noted =
    one_noted (AllByRecursion HasMore) (AllButLast HasMore) made now taken ms ns os (λ later all. but_one HasMore later (record { to_come = now; taken = taken }) all) past noted

-- all reads took some
pub all_noted : (made : ℕ) (ms ns : Option (List Moment)) → Notes made (AllByRecursion HasMore) ms ns → Notes made (AllButLast HasMore) ms ns
all_noted made ms None past = tt
all_noted made None (Some ns) past = absurd past
all_noted made (Some first) (Some ns) (later, is, many, all) = (later, is, many, all_but_last HasMore later all)

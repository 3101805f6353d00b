-- The numbers of submissions in lists by their texts: more of them.
use Rattle.std.proofs.Common.{◌≡◌, ℕ, suc, ◌+◌, ◌-◌, ◌<◌, ◌≤◌, List, [], ◌∷◌, ◌++◌, length, map, take, drop, true, false, cond, Option, None, Some, refl, sym, ap, subst, ◌∙◌, arith}
use Rattle.std.specs.Prelude.{if◌then◌else◌, min}
use Rattle.std.specs.Str.{bytes_eq}
use Rattle.std.proofs.lemmas.List.{length-drop, length-map, length-take, length-take-le, map-append, append-nil, take_all}
use Rattle.std.proofs.Math.Seq.{take-add}
use Rattle.pid_moderation.specs.declared.change.Change.{Change}
use Rattle.pid_moderation.specs.declared.change.Receipt.{Receipt}
use Rattle.pid_moderation.specs.Changes.{affected, changed, keeping}
use Rattle.pid_moderation.specs.Views.{Views, Submitted}
use Rattle.pid_tables.specs.Searches.Filings.{filed_as, filings_in}
use Rattle.pid_tables.specs.Searches.KeptNumbers.{AreKeptFor, HoldsNumbers, numbers_named}
use Rattle.pid_tables.specs.declared.searches.numbers.Kept.{Kept as Lists}
use Rattle.pid_tables.specs.declared.searches.numbers.Searches.{Searches}
use Rattle.pid_tables.specs.declared.searches.numbers.Searches.TheVariants.{Unread, Lacking, Kept}

-- one text more
pub one_more : (wanted : List ℕ) (first : ℕ) (texts : List (List ℕ)) (text : List ℕ) → numbers_named wanted first (texts ++ text ∷ []) ≡ numbers_named wanted first texts ++ (if bytes_eq text wanted then (first + length texts) ∷ [] else [])
one_more wanted first [] text = elim (bytes_eq text wanted) as (λ b. cond b (first ∷ []) [] ≡ cond b ((first + 0) ∷ []) []) [
  | true ↦ let same : first ≡ first + 0 = omega arith in ap (λ n. n ∷ []) same
  | false ↦ refl
]
one_more wanted first (t ∷ texts) text =
    let count : first + 1 + length texts ≡ first + suc (length texts) = omega arith in
    let rest = one_more wanted (first + 1) texts text ∙ ap (λ n. numbers_named wanted (first + 1) texts ++ (if bytes_eq text wanted then n ∷ [] else [])) count in
    elim (bytes_eq t wanted) as (λ b. cond b (first ∷ numbers_named wanted (first + 1) (texts ++ text ∷ [])) (numbers_named wanted (first + 1) (texts ++ text ∷ [])) ≡ cond b (first ∷ numbers_named wanted (first + 1) texts) (numbers_named wanted (first + 1) texts) ++ (if bytes_eq text wanted then (first + suc (length texts)) ∷ [] else [])) [
      | true ↦ ap (λ l. first ∷ l) rest
      | false ↦ rest
    ]

pub of_this : (wanted text : List ℕ) (number : ℕ) (texts : List (List ℕ)) → bytes_eq text wanted ≡ true → number ≡ length texts + 1 → numbers_named wanted 1 (texts ++ text ∷ []) ≡ numbers_named wanted 1 texts ++ number ∷ []
of_this wanted text number texts is count =
    let same : 1 + length texts ≡ number = omega (arith, count) in
    one_more wanted 1 texts text ∙ ap (λ b. numbers_named wanted 1 texts ++ (if b then (1 + length texts) ∷ [] else [])) is ∙ ap (λ n. numbers_named wanted 1 texts ++ n ∷ []) same

pub of_others : (wanted text : List ℕ) (texts : List (List ℕ)) → bytes_eq text wanted ≡ false → numbers_named wanted 1 (texts ++ text ∷ []) ≡ numbers_named wanted 1 texts
of_others wanted text texts other = one_more wanted 1 texts text ∙ ap (λ b. numbers_named wanted 1 texts ++ (if b then (1 + length texts) ∷ [] else [])) other ∙ append-nil (numbers_named wanted 1 texts)

-- so many submissions that were read
pub taken_count : (i : ℕ) (all : List Submitted) → i < length all → length (map filed_as (take i all)) ≡ i
taken_count i all low = length-map (take i all) filed_as ∙ length-take-le i all (omega (arith, low))

pub rows_before : (v : Views) (after : ℕ) → after ≤ length v.submits → after ≡ length (map filed_as (take after v.submits))
rows_before v after few = sym (length-map (take after v.submits) filed_as ∙ length-take-le after v.submits few)

module _ (v : Views) (after count : ℕ) (new : Lists) (many : count ≡ length (take 1000 (drop after v.submits))) (has : AreKeptFor new (map filed_as (take after v.submits) ++ map filed_as (take 1000 (drop after v.submits)))) where
  joined : map filed_as (take after v.submits) ++ map filed_as (take 1000 (drop after v.submits)) ≡ map filed_as (take (after + 1000) v.submits)
  joined = sym (ap (map filed_as) (take-add after 1000 v.submits) ∙ map-append filed_as (take after v.submits) (take 1000 (drop after v.submits)))

  left : count ≡ min 1000 (length v.submits - after)
  left = many ∙ length-take 1000 (drop after v.submits) ∙ ap (min 1000) (length-drop after v.submits)

  -- a page that is full
  pub more_rows : (next : ℕ) → next ≡ after + 1000 → (count < 1000 → ⊥) → (next ≤ length v.submits) × AreKeptFor new (map filed_as (take next v.submits))
  more_rows next is full = (omega (arith, left, full, is), subst (λ l. AreKeptFor new l) (joined ∙ ap (λ n. map filed_as (take n v.submits)) (sym is)) has)

  -- and the last one
  pub last_rows : count < 1000 → AreKeptFor new (filings_in v)
  last_rows short = subst (λ l. AreKeptFor new l) (joined ∙ ap (map filed_as) (take_all (after + 1000) v.submits (omega (arith, left, short)))) has

-- ---- a receipt changes none of it

kept_filings : (r : Option Receipt) (v : Views) → filings_in (keeping r v) ≡ filings_in v
kept_filings None v = refl
kept_filings (Some r) v = refl

pub still_numbers : (change : Change) (v : Views) (numbers : Searches) → HoldsNumbers numbers (affected change.revision change.effect v) → HoldsNumbers numbers (changed change v)
still_numbers change v Unread holds = tt
still_numbers change v Lacking holds = tt
still_numbers change v (Kept kept) holds = subst (AreKeptFor kept) (sym (kept_filings change.receipt (affected change.revision change.effect v))) holds

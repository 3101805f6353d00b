-- The loop that writes the items.
use Rattle.std.proofs.Common.{◌≡◌, ℕ, true, false, List, [], ◌∷◌, ◌++◌, map, Option, Result, refl, sym, ap, subst, ◌∙◌, append_assoc}
use Rattle.std.specs.Prelude.{codes, if◌then◌else◌}
use Rattle.std.proofs.lemmas.List.{append-nil}
use Rattle.std.specs.Io.KnownBytes.{Appends}
use Rattle.pid_file.specs.Sending.{Sends, SendsFront}
use Rattle.pid_file.specs.declared.path.Path.{Path}
use Rattle.pid_file.specs.PathTexts.{path_text}
use Rattle.pid_file.proofs.SendingLemmas.{Appends-nil, Appends-then, Sends-then, stopped}
use Rattle.pid_file.specs.Items.{item_of}
use Rattle.pid_file.specs.Printing.{block_line, ended, item_line, label_of, lines_after, opens_block}

abbrev pub Items : Type 0
Items = List (Path × List ℕ)

pub ended-append : (xs ys : List (List ℕ)) → ended (xs ++ ys) ≡ ended xs ++ ended ys
ended-append [] ys = refl
ended-append (x ∷ xs) ys = ap (λ (l : List ℕ). x ++ 10 ∷ l) (ended-append xs ys) ∙ sym (append_assoc x (10 ∷ ended xs) (ended ys))

-- the lines of the first item, and then those after it
pub lines-first : (before : List ℕ) (item : List ℕ × List ℕ) (items : List (List ℕ × List ℕ)) → lines_after before (item ∷ items) ≡ lines_after before (item ∷ []) ++ lines_after item.0 items
lines-first before item items = elim (opens_block before item.0) as (λ b. (if b then block_line item.0 ∷ [] else []) ++ item_line item ∷ lines_after item.0 items ≡ ((if b then block_line item.0 ∷ [] else []) ++ item_line item ∷ []) ++ lines_after item.0 items) [ true ↦ refl | false ↦ refl ]

-- of all, what is sent, and the lines of the items that are left
abbrev pub IsWritten : Option (List ℕ) → Option (List ℕ) → List ℕ → List ℕ → Items → Type 0
IsWritten a b all before left = (sent : List ℕ) × (all ≡ sent ++ ended (lines_after before (map item_of left))) × Appends a b sent

split_first : (before : List ℕ) (s u : Items) (e : Path × List ℕ) → s ≡ e ∷ u → ended (lines_after before (map item_of s)) ≡ ended (lines_after before (item_of e ∷ [])) ++ ended (lines_after (path_text e.0) (map item_of u))
split_first before s u e first =
    ap (λ (x : Items). ended (lines_after before (map item_of x))) first
    ∙ ap ended (lines-first before (item_of e) (map item_of u))
    ∙ ended-append (lines_after before (item_of e ∷ [])) (lines_after (path_text e.0) (map item_of u))

pub written_more : (a b c : Option (List ℕ)) (all before : List ℕ) (s u : Items) (e : Path × List ℕ) → IsWritten a b all before s → s ≡ e ∷ u → Appends b c (ended (lines_after before (item_of e ∷ []))) → IsWritten a c all (path_text e.0) u
written_more a b c all before s u e (sent, whole, sent_before) first now =
    let line = ended (lines_after before (item_of e ∷ [])) in
    let rest = ended (lines_after (path_text e.0) (map item_of u)) in (
      sent ++ line,
      whole ∙ ap (λ (l : List ℕ). sent ++ l) (split_first before s u e first) ∙ sym (append_assoc sent line rest),
      Appends-then a b c sent line sent_before now,
    )

pub written_stop : (a b c : Option (List ℕ)) (all before : List ℕ) (s u : Items) (e : Path × List ℕ) → IsWritten a b all before s → s ≡ e ∷ u → SendsFront b c (ended (lines_after before (item_of e ∷ []))) → SendsFront a c all
written_stop a b c all before s u e (sent, whole, sent_before) first now =
    let line = ended (lines_after before (item_of e ∷ [])) in
    let rest = ended (lines_after (path_text e.0) (map item_of u)) in
    stopped a b c sent line rest all sent_before now (whole ∙ ap (λ (l : List ℕ). sent ++ l) (split_first before s u e first))

pub written_all : (a b : Option (List ℕ)) (all before : List ℕ) (s : Items) → IsWritten a b all before s → s ≡ [] → Appends a b all
written_all a b all before s (sent, whole, sent_before) none = subst (Appends a b) (sym (whole ∙ ap (λ (x : Items). sent ++ ended (lines_after before (map item_of x))) none ∙ append-nil sent)) sent_before

lines_opened : (before : List ℕ) (item : List ℕ × List ℕ) (block : List ℕ) → opens_block before item.0 ≡ true → block_line item.0 ≡ block → ended (lines_after before (item ∷ [])) ≡ ended (block ∷ []) ++ ended (item_line item ∷ [])
lines_opened before item block opens same =
    ap (λ b. ended ((if b then block_line item.0 ∷ [] else []) ++ item_line item ∷ [])) opens
    ∙ ap (λ (l : List ℕ). ended (l ∷ item_line item ∷ [])) same
    ∙ ended-append (block ∷ []) (item_line item ∷ [])

lines_bare : (before : List ℕ) (item : List ℕ × List ℕ) → opens_block before item.0 ≡ false → ended (lines_after before (item ∷ [])) ≡ ended (item_line item ∷ [])
lines_bare before item closed = ap (λ b. ended ((if b then block_line item.0 ∷ [] else []) ++ item_line item ∷ [])) closed

-- the block's line, and then that of the item
pub block_and_item : {E : Type 0} (r : Result (Unit {0}) E) (a b c : Option (List ℕ)) (before : List ℕ) (item : List ℕ × List ℕ) (block : List ℕ) → opens_block before item.0 ≡ true → block_line item.0 ≡ block → Appends a b (ended (block ∷ [])) → Sends r b c (ended (item_line item ∷ [])) → Sends r a c (ended (lines_after before (item ∷ [])))
block_and_item r a b c before item block opens same first after =
    subst (Sends r a c) (sym (lines_opened before item block opens same)) (Sends-then r a b c _ _ first after)

-- a fault in the block's line
pub block_stopped : (a c : Option (List ℕ)) (before : List ℕ) (item : List ℕ × List ℕ) (block : List ℕ) → opens_block before item.0 ≡ true → block_line item.0 ≡ block → SendsFront a c (ended (block ∷ [])) → SendsFront a c (ended (lines_after before (item ∷ [])))
block_stopped a c before item block opens same now =
    stopped a a c [] (ended (block ∷ [])) (ended (item_line item ∷ [])) _ (Appends-nil a) now (lines_opened before item block opens same)

-- the item's line alone
pub item_alone : {E : Type 0} (r : Result (Unit {0}) E) (a c : Option (List ℕ)) (before : List ℕ) (item : List ℕ × List ℕ) → opens_block before item.0 ≡ false → Sends r a c (ended (item_line item ∷ [])) → Sends r a c (ended (lines_after before (item ∷ [])))
item_alone r a c before item closed now = subst (Sends r a c) (sym (lines_bare before item closed)) now

-- the parts of an item's line
pub item_parts : (front text : List ℕ) (item : List ℕ × List ℕ) → front ≡ label_of item.0 ++ codes "  " → text ≡ item.1 → front ++ (text ++ 10 ∷ []) ≡ item_line item ++ 10 ∷ []
item_parts front text item is same = (λ i. is i ++ (same i ++ 10 ∷ [])) ∙ sym (append_assoc (label_of item.0 ++ codes "  ") item.1 (10 ∷ []))

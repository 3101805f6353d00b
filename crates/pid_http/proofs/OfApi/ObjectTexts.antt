-- The text of an object whose members come in two parts.
use Rattle.std.proofs.Common.{◌≡◌, ◌<◌, ◌-◌, ◌+◌, List, [], ◌∷◌, ◌++◌, ℕ, Bool, true, false, length, take, slice_index, refl, codes, sym, ap, ◌∙◌, append_assoc, length-append, arith}
use Rattle.std.proofs.lemmas.List.{append_cancel_right}
use Rattle.std.proofs.Math.Seq.{get_or-append_seam, take-append_seam}
use Rattle.serde_json.specs.Data.{Members, string, object, member, no_members}
use Rattle.serde_json.specs.Written.{comma_if, compact_text, members_text}

-- the members, and others behind them
abbrev pub behind : Members → Members → Members
behind no_members ns = ns
behind (member k d ms) ns = member k d (behind ms ns)

-- the text of members, without the closing brace
abbrev open_text : Bool → Members → List ℕ
open_text later no_members = []
open_text later (member k d ms) = comma_if later ++ (compact_text (string k) ++ 58 ∷ (compact_text d ++ open_text true ms))

regrouped : (a b c d e : List ℕ) → a ++ (b ++ 58 ∷ (c ++ (d ++ e))) ≡ (a ++ (b ++ 58 ∷ (c ++ d))) ++ e
regrouped a b c d e = simp append_assoc refl

closed_text : (later : Bool) (ms : Members) → members_text later ms ≡ open_text later ms ++ codes "}"
closed_text later no_members = refl
closed_text later (member k d ms) = rw (closed_text true ms) (regrouped (comma_if later) (compact_text (string k)) (compact_text d) (open_text true ms) (codes "}"))

joined_later : (ms ns : Members) → members_text true (behind ms ns) ≡ open_text true ms ++ members_text true ns
joined_later no_members ns = refl
joined_later (member k d ms) ns = rw (joined_later ms ns) (regrouped (44 ∷ []) (compact_text (string k)) (compact_text d) (open_text true ms) (members_text true ns))

abbrev pub has_members : Members → Bool
has_members no_members = false
has_members (member k d ms) = true

joined_text : (ms ns : Members) → members_text false (behind ms ns) ≡ open_text false ms ++ members_text (has_members ms) ns
joined_text no_members ns = refl
joined_text (member k d ms) ns = rw (joined_later ms ns) (regrouped [] (compact_text (string k)) (compact_text d) (open_text true ms) (members_text true ns))

-- the text without its closing brace, and other members behind it
pub extended : (ms ns : Members) (text : List ℕ) → text ++ codes "}" ≡ compact_text (object ms)
    → text ++ members_text (has_members ms) ns ≡ compact_text (object (behind ms ns))
extended ms ns text is =
    let front : text ≡ 123 ∷ open_text false ms = append_cancel_right text (123 ∷ open_text false ms) (codes "}") (is ∙ ap (λ t. 123 ∷ t) (closed_text false ms))
    in rw front (ap (λ t. 123 ∷ t) (sym (joined_text ms ns)))

-- the closing brace taken away
pub popped : (n : ℕ) (old new : List ℕ) (ms : Members) → n ≡ length old → old ≡ compact_text (object ms)
    → (0 < n → slice_index old (n - 1) < 128 → new ≡ take (n - 1) old) → new ++ codes "}" ≡ old
popped n old new ms len is cut =
    let front : List ℕ = 123 ∷ open_text false ms in
    let parts : old ≡ front ++ codes "}" = is ∙ ap (λ t. 123 ∷ t) (closed_text false ms) in
    let count : n ≡ length front + 1 = len ∙ (ap length parts ∙ length-append front (codes "}")) in
    let at : n - 1 ≡ length front = omega (arith, count) in
    let low : slice_index old (n - 1) ≡ 125 = rw (parts, at) (get_or-append_seam front 125 [] 0) in
    let kept : take (n - 1) old ≡ front = rw (parts, at) (take-append_seam front (codes "}")) in
    rw (cut (omega (arith, count)) (omega (arith, low)), kept, parts) refl

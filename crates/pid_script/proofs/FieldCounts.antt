-- A form of more fields than a command or a path has says none.
use Rattle.std.proofs.Common.{◌≡◌, ℕ, zero, suc, ◌<◌, ◌≤◌, ◌+◌, ◌&&◌, ◌==◌, Bool, true, false, List, [], ◌∷◌, length, Err, refl, sym, subst, arith}
use Rattle.std.specs.Prelude.{codes, nat_le, nat_lt}
use Rattle.std.specs.List.{position_or_len, remove}
use Rattle.std.proofs.lemmas.Bool.{leb-true, ltb-true, ne_eqb}
use Rattle.std.proofs.lemmas.List.{length-map}
use Rattle.form_urlencoded.specs.Form.{raw_pairs}
use Rattle.pid_form.specs.FormFields.{field, fields_in}
use Rattle.pid_moderation.specs.Fields.{Fields, is_once, times}
use Rattle.pid_moderation.specs.Forms.{has_fields}
use Rattle.pid_moderation.specs.declared.refusal.Refusal.TheVariants.{BadText}
use Rattle.pid_moderation.specs.declared.verb.Verb.{Verb}
use Rattle.pid_moderation.specs.declared.verb.Verb.TheVariants.{Account, Submit, Comment, Withdraw, Approve, Confirm, Reject, Import}
use Rattle.pid_script.specs.Asking.{command_in_form, is_key_field, other_fields, path_asked}

none_and : (a b : Bool) → b ≡ false → (a && b) ≡ false
none_and true b e = e
none_and false b e = refl

not_so_many : (n m : ℕ) → m < n → (n == m) ≡ false
not_so_many n m h = ne_eqb n m (λ e. omega arith)

with_note : (others : Bool) (n notes : ℕ) → 3 < n → (others && nat_le notes 1 && n == 2 + notes) ≡ false
with_note false n notes h = refl
with_note true n notes h = by_notes (nat_le notes 1) refl
  where
    by_notes : (few : Bool) → nat_le notes 1 ≡ few → (few && n == 2 + notes) ≡ false
    by_notes false e = refl
    by_notes true e = ne_eqb n (2 + notes) (λ same. let most : notes ≤ 1 = leb-true notes 1 e in omega arith)

too_many : (verb : Verb) (fields : Fields) → 3 < length fields → has_fields verb fields ≡ false
too_many Account fields h = none_and _ _ (not_so_many (length fields) 2 (omega arith))
too_many Submit fields h = with_note _ (length fields) (times (codes "note") fields) h
too_many Comment fields h = none_and _ _ (not_so_many (length fields) 2 (omega arith))
too_many Withdraw fields h = none_and _ _ (not_so_many (length fields) 1 (omega arith))
too_many Approve fields h = none_and _ _ (not_so_many (length fields) 1 (omega arith))
too_many Confirm fields h = none_and _ _ (not_so_many (length fields) 2 (omega arith))
too_many Reject fields h = none_and _ _ (not_so_many (length fields) 2 (omega arith))
too_many Import fields h = none_and _ _ (not_so_many (length fields) 1 (omega arith))

-- one is taken out at most
one_less : {X : Type 0} (xs : List X) (i : ℕ) → length xs ≤ length (remove xs i) + 1
one_less [] zero = omega arith
one_less [] (suc i) = omega arith
one_less (x ∷ xs) zero = omega arith
one_less (x ∷ xs) (suc i) = let less = one_less xs i in omega arith

-- the fields of a form are as many as its pairs
pub as_many : (most : ℕ) (form : List ℕ) → true ≡ nat_lt most (length (raw_pairs form)) → most < length (fields_in form)
as_many most form h = subst (λ n. most < n) (sym (length-map (raw_pairs form) field)) (ltb-true most (length (raw_pairs form)) (sym h))

pub no_command : (verb : Verb) (account form : List ℕ) → true ≡ nat_lt 4 (length (raw_pairs form)) → command_in_form verb account form ≡ Err BadText
unfolding command_in_form
no_command verb account form h =
    let many : 4 < length (fields_in form) = as_many 4 form h in
    let less = one_less (fields_in form) (position_or_len is_key_field (fields_in form)) in
    let e : has_fields verb (other_fields (fields_in form)) ≡ false = too_many verb (other_fields (fields_in form)) (omega arith) in
    rw e refl

pub no_path : (form : List ℕ) → true ≡ nat_lt 1 (length (raw_pairs form)) → path_asked form ≡ Err BadText
unfolding path_asked
no_path form h =
    let e : (is_once (codes "path") (fields_in form) && length (fields_in form) == 1) ≡ false = none_and _ _ (not_so_many (length (fields_in form)) 1 (as_many 1 form h)) in
    rw e refl

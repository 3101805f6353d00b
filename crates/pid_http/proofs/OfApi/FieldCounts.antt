-- A form of more fields than any command has says none.
use Rattle.std.proofs.Common.{◌≡◌, ℕ, ◌<◌, ◌≤◌, ◌+◌, ◌&&◌, ◌==◌, Bool, true, false, List, length, Err, refl, sym, subst, arith}
use Rattle.std.specs.Prelude.{nat_le, nat_lt, codes}
use Rattle.std.specs.Str.{is_utf8}
use Rattle.std.proofs.lemmas.Bool.{leb-true, ltb-true, ne_eqb}
use Rattle.std.proofs.lemmas.List.{length-map}
use Rattle.form_urlencoded.specs.Form.{raw_pairs}
use Rattle.pid_form.specs.FormFields.{field, fields_in}
use Rattle.pid_moderation.specs.Fields.{Fields, times}
use Rattle.pid_moderation.specs.Forms.{has_fields}
use Rattle.pid_moderation.specs.declared.refusal.Refusal.TheVariants.{BadText}
use Rattle.pid_moderation.specs.declared.verb.Verb.{Verb}
use Rattle.pid_moderation.specs.declared.verb.Verb.TheVariants.{Account, Submit, Comment, Withdraw, Approve, Confirm, Reject, Import}
use Rattle.pid_http.specs.Api.Commands.{command_made}
use Rattle.pid_http.specs.Api.Senders.{Sending}

none_and : (a b : Bool) → b ≡ false → (a && b) ≡ false
none_and true b e = e
none_and false b e = refl

not_so_many : (n m : ℕ) → m < n → (n == m) ≡ false
not_so_many n m h = ne_eqb n m (λ e. omega arith)

with_note : (others : Bool) (n notes : ℕ) → 3 < n → (others && nat_le notes 1 && n == 2 + notes) ≡ false
with_note false n notes h = refl
with_note true n notes h = by_notes (nat_le notes 1) refl
  where
    by_notes : (few : Bool) → nat_le notes 1 ≡ few → (few && n == 2 + notes) ≡ false
    by_notes false e = refl
    by_notes true e = ne_eqb n (2 + notes) (λ same. let most : notes ≤ 1 = leb-true notes 1 e in omega arith)

too_many : (verb : Verb) (fields : Fields) → 3 < length fields → has_fields verb fields ≡ false
too_many Account fields h = none_and _ _ (not_so_many (length fields) 2 (omega arith))
too_many Submit fields h = with_note _ (length fields) (times (codes "note") fields) h
too_many Comment fields h = none_and _ _ (not_so_many (length fields) 2 (omega arith))
too_many Withdraw fields h = none_and _ _ (not_so_many (length fields) 1 (omega arith))
too_many Approve fields h = none_and _ _ (not_so_many (length fields) 1 (omega arith))
too_many Confirm fields h = none_and _ _ (not_so_many (length fields) 2 (omega arith))
too_many Reject fields h = none_and _ _ (not_so_many (length fields) 2 (omega arith))
too_many Import fields h = none_and _ _ (not_so_many (length fields) 1 (omega arith))

pub too_many_said : (verb : Verb) (s : Sending) (form body : List ℕ) → form ≡ body → is_utf8 body ≡ true → true ≡ nat_lt 3 (length (raw_pairs form)) → command_made verb s body ≡ Err BadText
unfolding command_made
too_many_said verb s form body same text h =
    let more : 3 < length (raw_pairs body) = subst (λ (f : List ℕ). 3 < length (raw_pairs f)) same (ltb-true 3 (length (raw_pairs form)) (sym h)) in
    let e : has_fields verb (fields_in body) ≡ false = too_many verb (fields_in body) (subst (λ n. 3 < n) (sym (length-map (raw_pairs body) field)) more) in
    rw (text, e) refl

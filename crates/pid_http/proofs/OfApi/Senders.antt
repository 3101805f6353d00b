-- Who sends a command.
use mathlib.Core.Bool.{true≢false}
use Rattle.std.proofs.Common.{◌≡◌, ℕ, zero, suc, ◌<◌, ◌≤◌, Bool, true, false, ◌&&◌, List, [], ◌∷◌, length, get_or, Option, Some, None, refl, sym, ◌∙◌, arith}
use Rattle.std.specs.Prelude.{if◌then◌else◌, IsUtf8}
use Rattle.std.specs.List.{list_all}
use Rattle.std.specs.Str.{is_utf8}
use Rattle.std.proofs.lemmas.Str.{IsUtf8-from_ascii, is_utf8-from_IsUtf8}
use Rattle.std.proofs.lemmas.Grind.{common_steps}
use Rattle.pid_ident.specs.Words.{is_account, is_account_byte, is_key, is_key_byte}
use Rattle.pid_http_stream.specs.FieldValues.{first_value}
use Rattle.pid_http.specs.Api.Senders.{Sending, sending}

and_right : (x y : Bool) → (x && y) ≡ true → y ≡ true
and_right true y e = e
and_right false y e = cc

and_left : (x y : Bool) → (x && y) ≡ true → x ≡ true
and_left true y e = refl
and_left false y e = cc

ascii_all : (p : ℕ → Bool) → ((b : ℕ) → p b ≡ true → b < 128) → (bytes : List ℕ) → list_all p bytes ≡ true → (i : ℕ) → get_or bytes i 0 < 128
ascii_all p below [] e i = omega arith
ascii_all p below (b ∷ bytes) e zero = below b (and_left (p b) (list_all p bytes) e)
ascii_all p below (b ∷ bytes) e (suc i) = ascii_all p below bytes (and_right (p b) (list_all p bytes) e) i

account_byte : (b : ℕ) → is_account_byte b ≡ true → b < 128
account_byte b e = grind (arith, common_steps, e)

key_byte : (b : ℕ) → is_key_byte b ≡ true → b < 128
key_byte b e = grind (arith, common_steps, e)

account_text : (bytes : List ℕ) → is_account bytes ≡ true → IsUtf8 bytes
account_text bytes e = IsUtf8-from_ascii bytes (ascii_all is_account_byte account_byte bytes (and_right _ _ e))

key_text : (bytes : List ℕ) → is_key bytes ≡ true → IsUtf8 bytes
key_text bytes e = IsUtf8-from_ascii bytes (ascii_all is_key_byte key_byte bytes (and_right _ _ e))

unless : (b : Bool) → (b ≡ true → ⊥) → b ≡ false
unless true never = absurd (never refl)
unless false never = refl

pub no_account : (bytes : List ℕ) → is_utf8 bytes ≡ false → is_account bytes ≡ false
no_account bytes e = unless (is_account bytes) (λ fits. true≢false (sym (is_utf8-from_IsUtf8 bytes (account_text bytes fits)) ∙ e))

pub no_key : (bytes : List ℕ) → is_utf8 bytes ≡ false → is_key bytes ≡ false
no_key bytes e = unless (is_key bytes) (λ fits. true≢false (sym (is_utf8-from_IsUtf8 bytes (key_text bytes fits)) ∙ e))

pub many_accounts : (xs ks : List (List ℕ)) → 1 < length xs → sending xs ks ≡ None
many_accounts [] ks h = refl
many_accounts (a ∷ []) ks h = absurd (omega arith)
many_accounts (a ∷ b ∷ more) ks h = refl

pub many_keys : (xs ks : List (List ℕ)) → 1 < length ks → sending xs ks ≡ None
many_keys [] ks h = refl
many_keys (a ∷ b ∷ more) ks h = refl
many_keys (a ∷ []) [] h = absurd (omega arith)
many_keys (a ∷ []) (k ∷ []) h = absurd (omega arith)
many_keys (a ∷ []) (k ∷ l ∷ more) h = refl

pub nobody : (xs ks : List (List ℕ)) → first_value xs ≡ None → sending xs ks ≡ None
nobody [] ks e = refl
nobody (a ∷ xs) ks e = cc

pub bad_account : (xs ks : List (List ℕ)) (a : List ℕ) → first_value xs ≡ Some a → is_account a ≡ false → sending xs ks ≡ None
bad_account [] ks a e bad = refl
bad_account (b ∷ c ∷ more) ks a e bad = refl
bad_account (b ∷ []) [] a e bad = let same : b ≡ a = cc in rw (same, bad) refl
bad_account (b ∷ []) (k ∷ []) a e bad = let same : b ≡ a = cc in rw (same, bad) refl
bad_account (b ∷ []) (k ∷ l ∷ more) a e bad = refl

pub no_key_sent : (xs ks : List (List ℕ)) (a : List ℕ) → length xs ≤ 1 → first_value xs ≡ Some a → is_account a ≡ true → first_value ks ≡ None → sending xs ks ≡ Some (record { account = a; key = None })
no_key_sent [] ks a h e good n = cc
no_key_sent (b ∷ c ∷ more) ks a h e good n = absurd (omega arith)
no_key_sent (b ∷ []) (k ∷ ks) a h e good n = cc
no_key_sent (b ∷ []) [] a h e good n = let same : b ≡ a = cc in rw (same, good) refl

pub key_sent : (xs ks : List (List ℕ)) (a k : List ℕ) → length xs ≤ 1 → length ks ≤ 1 → first_value xs ≡ Some a → is_account a ≡ true → first_value ks ≡ Some k → is_key k ≡ true → sending xs ks ≡ Some (record { account = a; key = Some k })
key_sent [] ks a k h g e good f fit = cc
key_sent (b ∷ c ∷ more) ks a k h g e good f fit = absurd (omega arith)
key_sent (b ∷ []) [] a k h g e good f fit = cc
key_sent (b ∷ []) (l ∷ m ∷ more) a k h g e good f fit = absurd (omega arith)
key_sent (b ∷ []) (l ∷ []) a k h g e good f fit = let same : b ≡ a = cc in let key : l ≡ k = cc in rw (same, key, good, fit) refl

pub bad_key : (xs ks : List (List ℕ)) (k : List ℕ) → first_value ks ≡ Some k → is_key k ≡ false → sending xs ks ≡ None
bad_key [] ks k e bad = refl
bad_key (b ∷ c ∷ more) ks k e bad = refl
bad_key (b ∷ []) [] k e bad = cc
bad_key (b ∷ []) (l ∷ m ∷ more) k e bad = refl
bad_key (b ∷ []) (l ∷ []) k e bad = let same : l ≡ k = cc in last (is_account b) same
  where
    last : (x : Bool) → l ≡ k → if◌then◌else◌ {A = Option Sending} (x && is_key l) (Some (record { account = b; key = Some l })) None ≡ None
    last true same = rw (same, bad) refl
    last false same = refl

-- A stream has one list of requests.
use Rattle.std.proofs.Common.{◌≡◌, ℕ, true, false, List, [], ◌∷◌, ◌++◌, length, refl, sym, ap, subst, ◌∙◌, arith, length-append, inl, inr}
use Rattle.std.specs.Prelude.{◌⊎◌}
use Rattle.httparse.specs.Grammar.{RequestHead}
use Rattle.pid_http_stream.specs.BodyLengths.{body_length}
use Rattle.pid_http_stream.specs.Requests.{Request, IsRequest, fields_of}
use Rattle.pid_http_stream.specs.Endings.{HasFault, SaysOfBody}
use Rattle.pid_http_stream.specs.Leftovers.{IsLeftover}
use Rattle.pid_http_stream.specs.Streams.{closes, Ending, clean, closed, faulty, EndsStream, Splits}
use Rattle.pid_http_stream.specs.declared.body_length.BodyLength.{BodyLength}
use Rattle.pid_http_stream.specs.declared.body_length.BodyLength.TheVariants.{Encoded, Bad, TooLong, Bytes}
use Rattle.pid_http_stream.specs.declared.refusal.StreamFault.{StreamFault}
use Rattle.pid_http_stream.specs.declared.refusal.StreamFault.TheVariants.{BadHead, Encoding, BodyTooLong, BodyShort}
use Rattle.pid_http_stream.proofs.Heads.{IsNoHead, HasHead-unique, IsRequest-unique, leftover_has_no_head}

same_said : (s : List ℕ) (said : BodyLength) (r : Request) (behind : List ℕ) → SaysOfBody s said → IsRequest s r behind → said ≡ Bytes (length r.body)
same_said s said r behind says is = sym says.says ∙ ap (λ (h : RequestHead). body_length (fields_of h)) (HasHead-unique s says.head r.head says.rest (r.body ++ behind) says.has is.head).0 ∙ is.sized

-- where a stream ends there is no request
ends_without : (s : List ℕ) (e : Ending) (r : Request) (behind : List ℕ) → EndsStream s e → IsRequest s r behind → ⊥
ends_without s clean r behind left is = leftover_has_no_head s left r.head (r.body ++ behind) is.head
ends_without s closed r behind ends is = ends
ends_without s (faulty BadHead) r behind (inl none) is = none.0 r.head (r.body ++ behind) is.head
ends_without s (faulty BadHead) r behind (inr says) is = cc (same_said s Bad r behind says is)
ends_without s (faulty Encoding) r behind says is = cc (same_said s Encoded r behind says is)
ends_without s (faulty BodyTooLong) r behind says is = cc (same_said s TooLong r behind says is)
ends_without s (faulty BodyShort) r behind short is =
    let heads = HasHead-unique s short.head r.head short.rest (r.body ++ behind) short.has is.head in
    let size = bytes_same short.wanted (length r.body) (sym short.says ∙ ap (λ (h : RequestHead). body_length (fields_of h)) heads.0 ∙ is.sized) in
    let lengths = ap length heads.1 ∙ length-append r.body behind in
    let less = short.short in
    omega arith
  where
    bytes_same : (m n : ℕ) → Bytes m ≡ Bytes n → m ≡ n
    bytes_same m n e = cc

-- behind a request that does not close, or behind none
stays_or_ends : (r q : Request) → closes r ≡ true → closes q ≡ false → r ≡ q → ⊥
stays_or_ends r q a b e = cc (ap closes e)

pub one_split : (s : List ℕ) (rs qs : List Request) (e f : Ending) → Splits s rs e → Splits s qs f → rs ≡ qs
one_split s [] [] e f x y = refl
one_split s [] (q ∷ qs) e f x (behind, is, rest) = absurd (ends_without s e q behind x is)
one_split s (r ∷ rs) [] e f (behind, is, rest) y = absurd (ends_without s f r behind y is)
one_split s (r ∷ rs) (q ∷ qs) e f (behind, is, inl (shut, none, last)) (later, was, inl (also, nothing, end)) =
    let same = IsRequest-unique s r q behind later is was in (λ i. same.0 i ∷ (none ∙ sym nothing) i)
one_split s (r ∷ rs) (q ∷ qs) e f (behind, is, inl (shut, none, last)) (later, was, inr (on, more)) =
    absurd (stays_or_ends r q shut on (IsRequest-unique s r q behind later is was).0)
one_split s (r ∷ rs) (q ∷ qs) e f (behind, is, inr (on, more)) (later, was, inl (shut, none, last)) =
    absurd (stays_or_ends q r shut on (sym (IsRequest-unique s r q behind later is was).0))
one_split s (r ∷ rs) (q ∷ qs) e f (behind, is, inr (on, more)) (later, was, inr (also, rest)) =
    let same = IsRequest-unique s r q behind later is was in
    let tails = one_split behind rs qs e f more (subst (λ (l : List ℕ). Splits l qs f) (sym same.1) rest) in
    (λ i. same.0 i ∷ tails i)

-- ---- and one ending

abbrev fault_for : BodyLength → StreamFault
fault_for Encoded = Encoding
fault_for Bad = BadHead
fault_for TooLong = BodyTooLong
fault_for (Bytes n) = BodyShort

-- the fault is for what the head says
record IsFor (s : List ℕ) (fault : StreamFault) : Type 0 where
  said : BodyLength
  says : SaysOfBody s said
  is : fault ≡ fault_for said

fault_says : (s : List ℕ) (fault : StreamFault) → HasFault s fault → (IsNoHead s × (fault ≡ BadHead)) ⊎ IsFor s fault
fault_says s BadHead (inl none) = inl (none, refl)
fault_says s BadHead (inr says) = inr (record { said = Bad; says = says; is = refl })
fault_says s Encoding says = inr (record { said = Encoded; says = says; is = refl })
fault_says s BodyTooLong says = inr (record { said = TooLong; says = says; is = refl })
fault_says s BodyShort short = inr (record { said = Bytes short.wanted; says = record { head = short.head; rest = short.rest; has = short.has; says = short.says }; is = refl })

one_said : (s : List ℕ) (x y : BodyLength) → SaysOfBody s x → SaysOfBody s y → x ≡ y
one_said s x y a b = sym a.says ∙ ap (λ (h : RequestHead). body_length (fields_of h)) (HasHead-unique s a.head b.head a.rest b.rest a.has b.has).0 ∙ b.says

by_what : (s : List ℕ) (x y : StreamFault) → (IsNoHead s × (x ≡ BadHead)) ⊎ IsFor s x → (IsNoHead s × (y ≡ BadHead)) ⊎ IsFor s y → x ≡ y
by_what s x y (inl (none, e)) (inl (also, f)) = e ∙ sym f
by_what s x y (inl (none, e)) (inr for) = absurd (none.0 for.says.head for.says.rest for.says.has)
by_what s x y (inr for) (inl (none, e)) = absurd (none.0 for.says.head for.says.rest for.says.has)
by_what s x y (inr a) (inr b) = a.is ∙ ap fault_for (one_said s a.said b.said a.says b.says) ∙ sym b.is

-- what is refused is no leftover
refused_or_left : (s : List ℕ) (fault : StreamFault) → (IsNoHead s × (fault ≡ BadHead)) ⊎ IsFor s fault → IsLeftover s → ⊥
refused_or_left s fault (inl (none, e)) left = none.1 left
refused_or_left s fault (inr for) left = leftover_has_no_head s left for.says.head for.says.rest for.says.has

one_end : (s : List ℕ) (e f : Ending) → EndsStream s e → EndsStream s f → e ≡ f
one_end s clean clean x y = refl
one_end s clean closed x y = absurd y
one_end s clean (faulty fault) x y = absurd (refused_or_left s fault (fault_says s fault y) x)
one_end s closed f x y = absurd x
one_end s (faulty fault) clean x y = absurd (refused_or_left s fault (fault_says s fault x) y)
one_end s (faulty fault) closed x y = absurd y
one_end s (faulty fault) (faulty other) x y = ap faulty (by_what s fault other (fault_says s fault x) (fault_says s other y))

pub one_ending : (s : List ℕ) (rs qs : List Request) (e f : Ending) → Splits s rs e → Splits s qs f → e ≡ f
one_ending s [] [] e f x y = one_end s e f x y
one_ending s [] (q ∷ qs) e f x (behind, is, rest) = absurd (ends_without s e q behind x is)
one_ending s (r ∷ rs) [] e f (behind, is, rest) y = absurd (ends_without s f r behind y is)
one_ending s (r ∷ rs) (q ∷ qs) e f (behind, is, inl (shut, none, last)) (later, was, inl (also, nothing, end)) = last ∙ sym end
one_ending s (r ∷ rs) (q ∷ qs) e f (behind, is, inl (shut, none, last)) (later, was, inr (on, more)) =
    absurd (stays_or_ends r q shut on (IsRequest-unique s r q behind later is was).0)
one_ending s (r ∷ rs) (q ∷ qs) e f (behind, is, inr (on, more)) (later, was, inl (shut, none, last)) =
    absurd (stays_or_ends q r shut on (sym (IsRequest-unique s r q behind later is was).0))
one_ending s (r ∷ rs) (q ∷ qs) e f (behind, is, inr (on, more)) (later, was, inr (also, rest)) =
    one_ending behind rs qs e f more (subst (λ (l : List ℕ). Splits l qs f) (sym (IsRequest-unique s r q behind later is was).1) rest)

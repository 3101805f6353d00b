-- What bytes behind a head, or behind what is no head, change.
use Rattle.std.proofs.Common.{◌≡◌, ◌≢◌, ℕ, zero, suc, get_or, ◌+◌, ◌<◌, ◌≤◌, Bool, true, false, List, [], ◌∷◌, ◌++◌, length, map, take, drop, refl, sym, ap, subst, ◌∙◌, arith, append_assoc, length-append, inl, inr}
use Rattle.std.specs.Prelude.{All, IsTrue, ◌⊎◌, ◌||◌, ◌==◌, not, ◌&&◌, if◌then◌else◌, codes}
use Rattle.std.specs.List.{flat_map, list_any}
use Rattle.std.proofs.lemmas.Bool.{eqb-true, eq-eqb, cases_lt}
use mathlib.Core.Bool.{false≢true}
use Rattle.std.proofs.lemmas.Str.{IsUtf8-from_ascii}
use Rattle.std.proofs.lemmas.List.Elements.{All-cons, All-nil, All-head, All-tail}
use Rattle.std.proofs.lemmas.List.{length-map, length-take, length-take-le, take-append-drop}
use Rattle.httparse.specs.Ascii.{line_feed}
use Rattle.httparse.specs.Grammar.{is_token_byte, is_uri_byte, LineEnd, crlf, lf, print_blank, print_end, print_field, RequestHead, IsRequestHead, ReadsRequest, HasNoRequest as HasNoRequestHead, print_request}
use Rattle.httparse.specs.Spans.{header_bytes, name_and_value, IsRequestWithin, IsRequestAt, IsRequestOf, RequestOverflows}
use Rattle.httparse.specs.declared.spans.HeaderSpan.{HeaderSpan}
use Rattle.httparse.specs.declared.spans.RequestSpans.{RequestSpans}
use Rattle.httparse.proofs.GrammarLemmas.{request_unique, ReadsRequest-append, print_request-append}
use Rattle.pid_http_stream.specs.BodyLengths.{body_length}
use Rattle.pid_http_stream.specs.Heads.{HasHead, HasNoHead}
use Rattle.pid_http_stream.specs.Leftovers.{AreLineEnds, IsLeftover}
use Rattle.pid_http_stream.specs.Requests.{Request, IsRequest, fields_of}
use Rattle.pid_http_stream.specs.Endings.{SaysOfBody, IsShort}
use Rattle.pid_http_stream.specs.Steps.Intakes.{StandsAt}
use Rattle.pid_http_stream.specs.Unfinished.{IsUnfinished}
use Rattle.pid_http_stream.specs.Steps.LineScans.{blank_after}
use Rattle.pid_http_stream.proofs.EndsOfLines.{all_scanned}
use Rattle.pid_http_stream.specs.declared.body_length.BodyLength.{BodyLength}
use Rattle.pid_http_stream.specs.declared.body_length.BodyLength.TheVariants.{Bytes}

pub HasHead-append : (s : List ℕ) (h : RequestHead) (rest more : List ℕ) → HasHead s h rest → HasHead (s ++ more) h (rest ++ more)
HasHead-append s h rest more x = record { reads = ReadsRequest-append s h rest more x.reads; few = x.few; short = x.short }

-- a stream has at most one head at its front
pub HasHead-unique : (s : List ℕ) (h k : RequestHead) (r q : List ℕ) → HasHead s h r → HasHead s k q → (h ≡ k) × (r ≡ q)
HasHead-unique s h k r q x y = request_unique s h k r q x.reads y.reads

-- a request stays what it is, whatever comes behind it
pub IsRequest-append : (s : List ℕ) (request : Request) (rest more : List ℕ) → IsRequest s request rest → IsRequest (s ++ more) request (rest ++ more)
IsRequest-append s request rest more x = record {
  head = subst (HasHead (s ++ more) request.head) (append_assoc request.body rest more) (HasHead-append s request.head (request.body ++ rest) more x.head);
  sized = x.sized;
}

Bytes-same : (m n : ℕ) → Bytes m ≡ Bytes n → m ≡ n
Bytes-same m n e = cc

front_of : (a b r q : List ℕ) → a ++ r ≡ b ++ q → length a ≡ length b → (a ≡ b) × (r ≡ q)
front_of [] [] r q e l = (refl, e)
front_of [] (y ∷ b) r q e l = absurd (omega arith)
front_of (x ∷ a) [] r q e l = absurd (omega arith)
front_of (x ∷ a) (y ∷ b) r q e l =
    let one : x ≡ y = cc in
    let tails : a ++ r ≡ b ++ q = cc in
    let same = front_of a b r q tails (omega arith) in
    (cc (same.0), same.1)

-- a stream has at most one request at its front
pub IsRequest-unique : (s : List ℕ) (a b : Request) (r q : List ℕ) → IsRequest s a r → IsRequest s b q → (a ≡ b) × (r ≡ q)
IsRequest-unique s a b r q x y =
    let heads = HasHead-unique s a.head b.head (a.body ++ r) (b.body ++ q) x.head y.head in
    let lengths = Bytes-same (length a.body) (length b.body) (sym x.sized ∙ ap (λ (h : RequestHead). body_length (fields_of h)) heads.0 ∙ y.sized) in
    let bodies = front_of a.body b.body r q heads.1 lengths in
    (λ i. record { head = heads.0 i; body = bodies.0 i }, bodies.1)

-- ---- a head that was found

pub has_head : (held : List ℕ) (headers : List HeaderSpan) (spans : RequestSpans) (h : RequestHead) → IsRequestAt held headers spans h
    → spans.len ≤ 16384 → spans.headers ≤ 32 → HasHead held h (drop spans.len held)
has_head held headers spans h at short few = record {
  reads = at.reads;
  few = count_few;
  short = subst (λ (n : ℕ). n ≤ 16384) at.len short;
}
  where
    counted : length h.fields ≡ length (take spans.headers headers)
    counted = sym (length-map h.fields name_and_value) ∙ ap length (sym at.fields) ∙ length-map (take spans.headers headers) (header_bytes held)

    count_few : length h.fields ≤ 32
    count_few = omega (arith, counted, length-take spans.headers headers)

pub same_length : (held : List ℕ) (headers : List HeaderSpan) (spans : RequestSpans) (h : RequestHead) → IsRequestAt held headers spans h
    → body_length (map (header_bytes held) (take spans.headers headers)) ≡ body_length (fields_of h)
same_length held headers spans h at = ap body_length at.fields

pub says : (held : List ℕ) (headers : List HeaderSpan) (spans : RequestSpans) (said : BodyLength) → IsRequestOf held headers spans
    → spans.len ≤ 16384 → spans.headers ≤ 32 → said ≡ body_length (map (header_bytes held) (take spans.headers headers)) → (more : List ℕ) → SaysOfBody (held ++ more) said
says held headers spans said found short few e more = record {
  head = found.0;
  rest = drop spans.len held ++ more;
  has = HasHead-append held found.0 (drop spans.len held) more (has_head held headers spans found.0 found.1 short few);
  says = sym (e ∙ same_length held headers spans found.0 found.1);
}

-- the head that stands at the front of bytes, and what it says
pub head_of : (held : List ℕ) (headers : List HeaderSpan) (spans : RequestSpans) (w : ℕ) (at : StandsAt held headers spans w) → HasHead held at.found.0 (drop spans.len held)
head_of held headers spans w at = has_head held headers spans at.found.0 at.found.1 at.short at.few

pub says_of : (held : List ℕ) (headers : List HeaderSpan) (spans : RequestSpans) (w : ℕ) (at : StandsAt held headers spans w) → body_length (fields_of at.found.0) ≡ Bytes w
says_of held headers spans w at = sym (same_length held headers spans at.found.0 at.found.1) ∙ at.says

-- what came behind a head begins with its body
pub stands_request : (held : List ℕ) (headers : List HeaderSpan) (spans : RequestSpans) (w : ℕ) (at : StandsAt held headers spans w) (came body rest : List ℕ)
    → drop spans.len held ++ came ≡ body ++ rest → length body ≡ w → IsRequest (held ++ came) (record { head = at.found.0; body = body }) rest
stands_request held headers spans w at came body rest e l = record {
  head = subst (HasHead (held ++ came) at.found.0) e (HasHead-append held at.found.0 (drop spans.len held) came (head_of held headers spans w at));
  sized = says_of held headers spans w at ∙ ap Bytes (sym l);
}

-- what came behind a head is less than its body
pub stands_short : (held : List ℕ) (headers : List HeaderSpan) (spans : RequestSpans) (w : ℕ) (at : StandsAt held headers spans w) (came : List ℕ)
    → length (drop spans.len held ++ came) < w → IsShort (held ++ came)
stands_short held headers spans w at came less = record {
  head = at.found.0;
  rest = drop spans.len held ++ came;
  has = HasHead-append held at.found.0 (drop spans.len held) came (head_of held headers spans w at);
  wanted = w;
  says = says_of held headers spans w at;
  short = less;
}

-- a head has bytes
pub some_bytes : (h : RequestHead) → IsRequestHead h → 0 < length (print_request h)
unfolding print_request
some_bytes h is = simp length-append (let method = is.method.0 in omega arith)

pub some_head : (held : List ℕ) (headers : List HeaderSpan) (spans : RequestSpans) → IsRequestOf held headers spans → 0 < spans.len
some_head held headers spans found = let len = found.1.len in let more = some_bytes found.0 found.1.reads.0 in omega arith

-- ---- what is no head

-- there is something, and it is no head
abbrev pub IsNoHead : List ℕ → Type 0
IsNoHead stream = HasNoHead stream × ¬ (IsLeftover stream)

-- no line ends in the bytes
abbrev pub HasNoLineEnd : List ℕ → Type 0
HasNoLineEnd bytes = All (λ b. b ≢ line_feed) bytes

-- a head within so many bytes stands in these bytes already
within_front : (held more : List ℕ) (h : RequestHead) (rest : List ℕ) → ReadsRequest (held ++ more) h rest → length (print_request h) ≤ length held
    → ReadsRequest held h (drop (length (print_request h)) held)
within_front held more h rest x short =
    let n = length (print_request h) in
    let split : (take n held ++ (drop n held ++ more)) ≡ print_request h ++ rest = sym (append_assoc (take n held) (drop n held) more) ∙ ap (λ (l : List ℕ). l ++ more) (take-append-drop n held) ∙ x.1 in
    let same = front_of (take n held) (print_request h) (drop n held ++ more) rest split (length-take-le n held short) in
    (x.0, sym (take-append-drop n held) ∙ ap (λ (l : List ℕ). l ++ drop n held) same.0)

-- what follows a rest of line ends makes it a head without fields
pub record GoesOn (cr : Bool) (s : List ℕ) : Type 0 where
  pub ends : List LineEnd
  pub tail : List ℕ
  pub is : (if cr then 13 ∷ s ++ tail else s ++ tail) ≡ print_blank ends

lf_next : (cr : Bool) (b : ℕ) (s : List ℕ) → b ≡ 10 → GoesOn false s → GoesOn cr (b ∷ s)
lf_next false b s e g = record { ends = lf ∷ g.ends; tail = g.tail; is = ap (λ (x : ℕ). x ∷ (s ++ g.tail)) e ∙ ap (λ (l : List ℕ). 10 ∷ l) g.is }
lf_next true b s e g = record { ends = crlf ∷ g.ends; tail = g.tail; is = ap (λ (x : ℕ). 13 ∷ x ∷ (s ++ g.tail)) e ∙ ap (λ (l : List ℕ). 13 ∷ 10 ∷ l) g.is }

cr_next : (cr : Bool) (b : ℕ) (s : List ℕ) → b ≡ 13 → cr ≡ false → GoesOn true s → GoesOn cr (b ∷ s)
cr_next false b s e n g = record { ends = g.ends; tail = g.tail; is = ap (λ (x : ℕ). x ∷ (s ++ g.tail)) e ∙ g.is }
cr_next true b s e n g = cc

both : (x y : Bool) → (x && y) ≡ true → (x ≡ true) × (y ≡ true)
both true true e = (refl, refl)
both true false e = cc
both false true e = cc
both false false e = cc

not_true : (x : Bool) → not x ≡ true → x ≡ false
not_true true e = cc
not_true false e = refl

goes_next : (cr : Bool) (b : ℕ) (s : List ℕ) → ((c : Bool) → blank_after c s ≡ true → GoesOn c s) → blank_after cr (b ∷ s) ≡ true → GoesOn cr (b ∷ s)
goes_next cr b s on e = first (b == 10) refl
  where
    second : (y : Bool) → (b == 13 && not cr) ≡ y → (if y then blank_after true s else false) ≡ true → GoesOn cr (b ∷ s)
    second true is h = let parts = both (b == 13) (not cr) is in cr_next cr b s (eqb-true b 13 parts.0) (not_true cr parts.1) (on true h)
    second false is h = cc

    first : (x : Bool) → (b == 10) ≡ x → GoesOn cr (b ∷ s)
    first true is = lf_next cr b s (eqb-true b 10 is) (on false (rw is at e))
    first false is = second (b == 13 && not cr) refl (rw is at e)

pub goes_on : (cr : Bool) (s : List ℕ) → blank_after cr s ≡ true → GoesOn cr s
goes_on false [] e = record { ends = []; tail = []; is = refl }
goes_on true [] e = record { ends = crlf ∷ []; tail = 10 ∷ []; is = refl }
goes_on cr (b ∷ s) e = goes_next cr b s (λ c. goes_on c s) e

-- the shortest request line behind these line ends
abbrev shortest : List LineEnd → RequestHead
shortest ends = record { blank = ends; method = 71 ∷ []; target = 47 ∷ []; minor = 1; line_end = lf; fields = []; last = lf }

abbrev shortest_line : List ℕ
shortest_line = codes "G / HTTP/1.1\n\n"

ascii_slash : (i : ℕ) → get_or (47 ∷ []) i 0 < 128
ascii_slash zero = omega arith
ascii_slash (suc i) = omega arith

is_shortest : (ends : List LineEnd) → IsRequestHead (shortest ends)
unfolding is_token_byte
is_shortest ends = record {
  method = (omega arith, All-cons (λ x. IsTrue (is_token_byte x)) 71 [] token (All-nil _));
  target = (omega arith, All-cons (λ x. IsTrue (is_uri_byte x)) 47 [] uri (All-nil _));
  target_text = IsUtf8-from_ascii (47 ∷ []) ascii_slash;
  minor = omega arith;
  fields = All-nil _;
}
  where
    token : is_token_byte 71 ≡ true
    token = refl

    uri : is_uri_byte 47 ≡ true
    uri = refl

reads_shortest : (ends : List LineEnd) (s : List ℕ) → s ≡ print_blank ends → ReadsRequest (s ++ shortest_line) (shortest ends) []
reads_shortest ends s e = (is_shortest ends, ap (λ (l : List ℕ). l ++ shortest_line) e ∙ sym (print_request-append (shortest ends) []))

-- before anything has come each head may come
pub nothing_yet : IsUnfinished []
nothing_yet = inl (record {
  none = λ h rest x. let some = some_bytes h x.0 in let lengths : 0 ≡ length (print_request h) + length rest = ap length x.1 ∙ length-append (print_request h) rest in omega arith;
  begins = record { front = []; line = []; is = refl; may = inl (shortest_line, shortest [], reads_shortest [] [] refl); unended = All-nil (λ (b : ℕ). b ≢ 10) };
  short = omega arith;
})

-- where all heads have too many fields, what is left is no rest of line ends
pub not_leftover : (s more : List ℕ) → RequestOverflows 32 s → ¬ (IsLeftover (s ++ more))
not_leftover s more over left =
    let on = goes_on false (s ++ more) (all_scanned (s ++ more) left.lines) in
    let reads = reads_shortest on.ends ((s ++ more) ++ on.tail) on.is in
    let same : ((s ++ more) ++ on.tail) ++ shortest_line ≡ s ++ (more ++ (on.tail ++ shortest_line)) = simp append_assoc in
    let many : 32 < 0 = over (more ++ (on.tail ++ shortest_line)) (shortest on.ends) [] (subst (λ (l : List ℕ). ReadsRequest l (shortest on.ends) []) same reads) in
    omega arith

pub refused_head : (held more : List ℕ) → RequestOverflows 32 held → IsNoHead (held ++ more)
refused_head held more over = (
  λ h rest has. let many = over more h rest has.reads in let few = has.few in omega arith,
  not_leftover held more over,
)

pub long_head : (held more : List ℕ) (headers : List HeaderSpan) (spans : RequestSpans) → IsRequestWithin held headers spans → IsRequestOf held headers spans → 16384 < spans.len → IsNoHead (held ++ more)
long_head held more headers spans within found long = (
  λ h rest has.
      let same = request_unique (held ++ more) found.0 h (drop spans.len held ++ more) rest (ReadsRequest-append held found.0 (drop spans.len held) more found.1.reads) has.reads in
      let lengths = ap (λ (k : RequestHead). length (print_request k)) same.0 in
      let short = has.short in
      let len = found.1.len in
      omega arith,
  λ left. let short : length held + length more ≤ 16384 = subst (λ (n : ℕ). n ≤ 16384) (length-append held more) left.short in let fits = within.section.len_fits in omega arith,
)

pub no_head_yet : (held more : List ℕ) → HasNoRequestHead held → 16384 < length held → IsNoHead (held ++ more)
no_head_yet held more none long = (
  λ h rest has. none h (drop (length (print_request h)) held) (within_front held more h rest has.reads (let short = has.short in omega arith)),
  λ left. let short : length held + length more ≤ 16384 = subst (λ (n : ℕ). n ≤ 16384) (length-append held more) left.short in omega arith,
)

pub end_within_head : (held : List ℕ) → HasNoRequestHead held → ¬ (AreLineEnds held) → IsNoHead held
end_within_head held none other = (λ h rest has. none h rest has.reads, λ left. other left.lines)

-- a rest of line ends begins no head: with a line behind it it is another one
pub leftover_has_no_head : (s : List ℕ) → IsLeftover s → (h : RequestHead) (rest : List ℕ) → ¬ (HasHead s h rest)
leftover_has_no_head s left h rest has =
    let on = goes_on false s (all_scanned s left.lines) in
    let reads = reads_shortest on.ends (s ++ on.tail) on.is in
    let whole : ReadsRequest (s ++ (on.tail ++ shortest_line)) (shortest on.ends) [] = subst (λ (l : List ℕ). ReadsRequest l (shortest on.ends) []) (append_assoc s on.tail shortest_line) reads in
    let same = request_unique (s ++ (on.tail ++ shortest_line)) h (shortest on.ends) (rest ++ (on.tail ++ shortest_line)) [] (ReadsRequest-append s h rest (on.tail ++ shortest_line) has.reads) whole in
    let none : length rest + (length on.tail + length shortest_line) ≡ 0 = sym (length-append rest (on.tail ++ shortest_line) ∙ ap (λ (n : ℕ). length rest + n) (length-append on.tail shortest_line)) ∙ ap length same.1 in
    omega arith

-- ---- a head ends with a line

ends_in_lf : (last : LineEnd) → (front : List ℕ) × (print_end last ≡ front ++ 10 ∷ [])
ends_in_lf crlf = (13 ∷ [], refl)
ends_in_lf lf = ([], refl)

lf_last : (x f e front : List ℕ) → e ≡ front ++ 10 ∷ [] → (whole : List ℕ) × (x ++ (f ++ e) ≡ whole ++ 10 ∷ [])
lf_last x f e front same = (
  x ++ (f ++ front),
  ap (λ (l : List ℕ). x ++ (f ++ l)) same ∙ ap (λ (l : List ℕ). x ++ l) (sym (append_assoc f front (10 ∷ []))) ∙ sym (append_assoc x (f ++ front) (10 ∷ [])),
)

-- the bytes of a head end with LF
pub last_is_lf : (h : RequestHead) → (front : List ℕ) × (print_request h ≡ front ++ 10 ∷ [])
unfolding print_request
last_is_lf h = let e = ends_in_lf h.last in lf_last _ (flat_map print_field h.fields) (print_end h.last) e.0 e.1

lf_in : (front piece rest : List ℕ) → piece ≡ front ++ 10 ∷ rest → HasNoLineEnd piece → ⊥
lf_in [] [] rest e none = cc
lf_in [] (b ∷ piece) rest e none = All-head (λ (y : ℕ). ¬ (y ≡ 10)) b piece none cc
lf_in (x ∷ front) [] rest e none = cc
lf_in (x ∷ front) (b ∷ piece) rest e none = let tails : piece ≡ front ++ 10 ∷ rest = cc in lf_in front piece rest tails (All-tail (λ (y : ℕ). ¬ (y ≡ 10)) b piece none)

-- an LF behind the bytes held stands in the piece
lf_after : (held front piece rest : List ℕ) → held ++ piece ≡ front ++ 10 ∷ rest → length held ≤ length front → HasNoLineEnd piece → ⊥
lf_after [] front piece rest e l none = lf_in front piece rest e none
lf_after (b ∷ held) [] piece rest e l none = absurd (omega arith)
lf_after (b ∷ held) (x ∷ front) piece rest e l none = let tails : held ++ piece ≡ front ++ 10 ∷ rest = cc in lf_after held front piece rest tails (omega arith) none

-- where no line ends in a piece, no head ends in it
pub no_head_after : (held piece : List ℕ) → HasNoRequestHead held → HasNoLineEnd piece → HasNoRequestHead (held ++ piece)
no_head_after held piece none quiet = λ h rest x.
    let e = last_is_lf h in
    by_length h rest x e.0 e.1 (cases_lt (length held) (length (print_request h)))
  where
    by_length : (h : RequestHead) (rest : List ℕ) → ReadsRequest (held ++ piece) h rest → (front : List ℕ) → print_request h ≡ front ++ 10 ∷ [] → (length held < length (print_request h)) ⊎ (length (print_request h) ≤ length held) → ⊥
    by_length h rest x front e (inr short) = none h (drop (length (print_request h)) held) (within_front held piece h rest x short)
    by_length h rest x front e (inl long) =
        lf_after held front piece rest (x.1 ∙ ap (λ (l : List ℕ). l ++ rest) e ∙ append_assoc front (10 ∷ []) rest) (let n = ap length e ∙ length-append front (10 ∷ []) in omega arith) quiet

neither : (x y : Bool) → (x || y) ≡ false → (x ≡ false) × (y ≡ false)
neither false y e = (refl, e)
neither true y e = cc

-- where no byte is LF, no line ends
pub quiet : (bytes : List ℕ) → list_any (λ b. b == 10) bytes ≡ false → HasNoLineEnd bytes
quiet [] e = All-nil (λ (y : ℕ). ¬ (y ≡ 10))
quiet (b ∷ bytes) e =
    let none = neither (b == 10) (list_any (λ b. b == 10) bytes) e in
    All-cons (λ (y : ℕ). ¬ (y ≡ 10)) b bytes (λ same. false≢true (sym none.0 ∙ eq-eqb b 10 same)) (quiet bytes none.1)

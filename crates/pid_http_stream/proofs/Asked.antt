-- What came of asking the handler over a reader.
use Rattle.std.proofs.Common.{◌≡◌, ℕ, ◌+◌, ◌<◌, ◌≤◌, List, [], ◌∷◌, ◌++◌, length, take, drop, Option, Some, None, refl, sym, ap, subst, ◌∙◌, append_assoc, length-append, arith, inl, inr}
use Rattle.std.specs.Prelude.{option_map, min, IfSome, IfOk, ◌⊎◌, Result, Ok, Err, Bool, true, false, zero, suc, ◌==◌, if◌then◌else◌}
use Rattle.std.specs.Io.KnownBytes.{Consumes, IsAtEnd}
use Rattle.std.proofs.lemmas.Bool.{cases_lt, eqb-true}
use Rattle.std.proofs.lemmas.List.{take_all, drop_all, take-append-drop, append-nil, length-take-le, drop-drop}
use Rattle.httparse.specs.Grammar.{RequestHead}
use Rattle.httparse.specs.Spans.{IsRequestAt}
use Rattle.httparse.specs.declared.spans.HeaderSpan.{HeaderSpan}
use Rattle.httparse.specs.declared.spans.RequestSpans.{RequestSpans}
use Rattle.pid_file.specs.declared.io.ReadFault.{ReadFault}
use Rattle.pid_http_stream.specs.Steps.Bodies.{padded, BodyState, HasBrokenOff, IsWithinBody, HasReadBody, Turns, SpendsTurns, idle_at}
use Rattle.pid_http_stream.specs.declared.limits.TheConstants.{LONGEST_BODY}
use Rattle.pid_http_stream.specs.Conducts.{Conduct, StandsStill, StandsOver}
use Rattle.pid_http_stream.specs.Endings.{IsShort}
use Rattle.pid_http_stream.specs.Handling.{MayReply, IsHandled}
use Rattle.pid_http_stream.specs.Heads.{HasHead}
use Rattle.pid_http_stream.specs.Steps.Intakes.{AskStops, WaitsForRequest, StandsAt, idle_asked}
use Rattle.pid_ident.specs.Steps.MomentLaws.{since_so}
use Rattle.pid_http_stream.specs.Moments.{AllSince}
use Rattle.pid_http_stream.specs.Requests.{Request, IsRequest}
use Rattle.pid_http_stream.specs.Serving.{RunsOut}
use Rattle.pid_http_stream.specs.Steps.Loop.{FrontHead, IsAskedOver, AsksHandler, whole_so, broken_so, asked_so}
use Rattle.pid_http_stream.specs.declared.one_request.Asked.TheVariants as asked
use Rattle.pid_http_stream.specs.declared.body_input.BodyFault.{BodyFault}
use Rattle.pid_http_stream.specs.declared.body_input.BodyFault.TheVariants as faults
use Rattle.pid_http_stream.specs.declared.handler.HttpReply.{HttpReply}
use Rattle.pid_http_stream.proofs.BodyReads.{whole_padded, none_wanted, nothing}
use Rattle.pid_http_stream.proofs.Heads.{HasHead-append, head_of, stands_request, stands_short}

-- the bytes that came with the head and those of the reader, where all that is wanted was used
whole_body : (d came used : List ℕ) (w n : ℕ) → n ≡ min w (length d) → take n d ++ came ≡ used → length used ≡ w → d ++ came ≡ used ++ drop w d
whole_body d came used w n e given sized = by_length (cases_lt (length d) w)
  where
    by_length : (length d < w) ⊎ (w ≤ length d) → d ++ came ≡ used ++ drop w d
    by_length (inl more) =
        let all : n ≡ length d = omega (arith, e, more) in
        ap (λ (l : List ℕ). l ++ came) (sym (ap (λ (k : ℕ). take k d) all ∙ take_all (length d) d (omega arith))) ∙ given ∙ sym (append-nil used) ∙ ap (λ (l : List ℕ). used ++ l) (sym (drop_all w d (omega arith)))
    by_length (inr here) =
        let all : n ≡ w = omega (arith, e, here) in
        let first : length (take n d) ≡ n = length-take-le n d (omega arith) in
        let lengths : length (take n d) + length came ≡ length used = sym (length-append (take n d) came) ∙ ap length given in
        let none = nothing came (omega arith) in
        let same : take n d ≡ used = sym (append-nil (take n d)) ∙ ap (λ (l : List ℕ). take n d ++ l) (sym none) ∙ given in
        ap (λ (l : List ℕ). d ++ l) none ∙ append-nil d ∙ sym (take-append-drop w d) ∙ ap (λ (k : ℕ). take k d ++ drop w d) (sym all) ∙ ap (λ (l : List ℕ). l ++ drop w d) same

-- and where less was used, none is left
short_body : (d came used : List ℕ) (w n : ℕ) → n ≡ min w (length d) → take n d ++ came ≡ used → length used < w → length (d ++ came) < w
short_body d came used w n e given less =
    let first : length (take n d) ≡ n = length-take-le n d (omega arith) in
    let lengths : length (take n d) + length came ≡ length used = sym (length-append (take n d) came) ∙ ap length given in
    let both = length-append d came in
    omega arith

-- a body, its reader before and after, and the head before it
pub record Reading (held : List ℕ) (headers : List HeaderSpan) (spans : RequestSpans) (w : ℕ) (A B : BodyState) : Type 0 where
  pub stands : StandsAt held headers spans w
  pub n : ℕ
  pub n_is : n ≡ min w (length (drop spans.len held))
  pub held_is : A.held ≡ take n (drop spans.len held)
  pub wanted_is : A.wanted ≡ w
  pub no_fault : A.fault ≡ None
  pub read : HasReadBody A B
  pub fits : length B.held ≤ B.wanted

known : (s : List ℕ) (o : Option (List ℕ)) (came : List ℕ) → Consumes (Some s) o came → (more : List ℕ) × (o ≡ Some more) × (s ≡ came ++ more)
known s None came c = absurd c
known s (Some more) came c = (more, refl, c)

-- the body that its reader is to give, where the bytes are known
abbrev body_of : BodyState → List ℕ → List ℕ
body_of A s = padded A.wanted (A.held ++ s)

all_used : (held : List ℕ) (headers : List HeaderSpan) (spans : RequestSpans) (w : ℕ) (A B : BodyState) (r : Reading held headers spans w A B) → B.wanted ≡ 0
    → (B.held ≡ []) × (length r.read.used ≡ w) × (take r.n (drop spans.len held) ++ r.read.came ≡ r.read.used)
all_used held headers spans w A B r none =
    let fits = r.fits in
    let counted = r.read.counted in
    let wanted = r.wanted_is in
    let empty = nothing B.held (omega arith) in
    (empty, omega arith, ap (λ (l : List ℕ). l ++ r.read.came) (sym r.held_is) ∙ r.read.given ∙ ap (λ (l : List ℕ). r.read.used ++ l) empty ∙ append-nil r.read.used)

-- the request whose body was read whole
whole_request : (held : List ℕ) (headers : List HeaderSpan) (spans : RequestSpans) (w : ℕ) (A B : BodyState) (r : Reading held headers spans w A B) (s more : List ℕ) → B.wanted ≡ 0 → s ≡ r.read.came ++ more
    → IsRequest (held ++ r.read.came) (record { head = r.stands.found.0; body = body_of A s }) (drop (spans.len + w) held)
whole_request held headers spans w A B r s more none e =
    let u = all_used held headers spans w A B r none in
    let body : body_of A s ≡ r.read.used =
    ap (padded A.wanted) (ap (λ (l : List ℕ). A.held ++ l) e ∙ sym (append_assoc A.held r.read.came more) ∙ ap (λ (l : List ℕ). l ++ more) (ap (λ (l : List ℕ). l ++ r.read.came) r.held_is ∙ u.2))
    ∙ whole_padded r.read.used more A.wanted (u.1 ∙ sym r.wanted_is) in
    subst (λ (b : List ℕ). IsRequest (held ++ r.read.came) (record { head = r.stands.found.0; body = b }) (drop (spans.len + w) held)) (sym body)
    (stands_request held headers spans w r.stands r.read.came r.read.used (drop (spans.len + w) held)
    (whole_body (drop spans.len held) r.read.came r.read.used w r.n r.n_is u.2 u.1 ∙ ap (λ (l : List ℕ). r.read.used ++ l) (behind held spans.len w)) u.1)
  where
    behind : (xs : List ℕ) (a b : ℕ) → drop b (drop a xs) ≡ drop (a + b) xs
    behind xs a b = drop-drop b a xs

length-padded : (n : ℕ) (bytes : List ℕ) → length (padded n bytes) ≡ n
length-padded zero bytes = refl
length-padded (suc n) [] = ap suc (length-padded n [])
length-padded (suc n) (b ∷ bytes) = ap suc (length-padded n bytes)

-- what holds of each request with this head, and the body that its reader was to give
abbrev OfRequest : (Request → Type 0) → List ℕ → List HeaderSpan → RequestSpans → BodyState → Type 0
OfRequest P held headers spans A = (request : Request) → IsRequestAt held headers spans request.head → option_map (λ s. padded A.wanted (A.held ++ s)) A.turns.reader.come ≡ Some request.body → length request.body ≤ LONGEST_BODY → P request

holds_at : (P : Request → Type 0) (held : List ℕ) (headers : List HeaderSpan) (spans : RequestSpans) (w : ℕ) (A B : BodyState) (r : Reading held headers spans w A B) (s : List ℕ)
    → A.turns.reader.come ≡ Some s → OfRequest P held headers spans A → P (record { head = r.stands.found.0; body = body_of A s })
holds_at P held headers spans w A B r s e holds =
    let sized = length-padded A.wanted (A.held ++ s) in
    let wanted = r.wanted_is in
    let fits = r.stands.fits in
    holds (record { head = r.stands.found.0; body = body_of A s }) r.stands.found.1 (ap (option_map (λ x. padded A.wanted (A.held ++ x))) e) (omega arith)

pub reply_made : {H : Type 0} (conduct : Conduct H) (a b : H) (held : List ℕ) (headers : List HeaderSpan) (spans : RequestSpans) (w : ℕ) (A B : BodyState) → Reading held headers spans w A B → (reply : HttpReply)
    → B.wanted ≡ 0 → OfRequest (λ request. MayReply conduct a request reply b) held headers spans A
    → IfSome A.turns.reader.come (λ _. AsksHandler conduct (record { a = a; b = b; input = A.turns.reader.come; input_after = B.turns.reader.come }) (record { held = held; headers = headers; spans = spans; content_length = w }) (asked.Reply reply))
reply_made conduct a b held headers spans w A B r reply none holds = by_known A.turns.reader.come refl
  where
    by_known : (o : Option (List ℕ)) → A.turns.reader.come ≡ o → IfSome o (λ _. AsksHandler conduct (record { a = a; b = b; input = A.turns.reader.come; input_after = B.turns.reader.come }) (record { held = held; headers = headers; spans = spans; content_length = w }) (asked.Reply reply))
    by_known None e = tt
    by_known (Some s) e =
        let k = known s B.turns.reader.come r.read.came (subst (λ (x : Option (List ℕ)). Consumes x B.turns.reader.come r.read.came) e r.read.consumed) in
        record {
          came = r.read.came;
          more = k.0;
          before = e ∙ ap Some k.2;
          after = k.1;
          is = (record { head = r.stands.found.0; body = body_of A s }, whole_request held headers spans w A B r s k.0 none k.2, r.stands.found.1, holds_at (λ request. MayReply conduct a request reply b) held headers spans w A B r s e holds);
        }

-- it stands still over bytes that begin with that head
stands_over : {H : Type 0} (conduct : Conduct H) (a b : H) (head : RequestHead) (came behind : List ℕ) → HasHead came head behind → StandsStill conduct a head b → StandsOver conduct a came b
stands_over conduct a b head came behind has (inl same) = inl same
stands_over conduct a b head came behind has (inr gives) = inr (head, behind, has, gives)

-- the handler stands still, or lacked memory with the body read to its end
abbrev Lacks : {H : Type 0} → Conduct H → H → H → BodyState → Request → Type 0
Lacks conduct a b B request = StandsStill conduct a request.head b ⊎ (IsAtEnd (option_map (λ y. padded B.wanted (B.held ++ y)) B.turns.reader.come) × conduct.leaves a request b)

pub no_memory : {H : Type 0} (conduct : Conduct H) (a b : H) (held : List ℕ) (headers : List HeaderSpan) (spans : RequestSpans) (w : ℕ) (A B : BodyState) → Reading held headers spans w A B
    → B.wanted ≡ 0 → OfRequest (Lacks conduct a b B) held headers spans A
    → IfSome A.turns.reader.come (λ _. AsksHandler conduct (record { a = a; b = b; input = A.turns.reader.come; input_after = B.turns.reader.come }) (record { held = held; headers = headers; spans = spans; content_length = w }) asked.NoMemory)
no_memory conduct a b held headers spans w A B r none holds = by_known A.turns.reader.come refl
  where
    lacks : (s more : List ℕ) → s ≡ r.read.came ++ more → Lacks conduct a b B (record { head = r.stands.found.0; body = body_of A s }) → RunsOut conduct a (held ++ r.read.came) b
    lacks s more e (inl stands) =
        let is = whole_request held headers spans w A B r s more none e in
        inr (record { head = r.stands.found.0; body = body_of A s }, drop (spans.len + w) held, is, inl (stands_over conduct a b r.stands.found.0 (held ++ r.read.came) _ is.head stands))
    lacks s more e (inr (end, left)) = inr (record { head = r.stands.found.0; body = body_of A s }, drop (spans.len + w) held, whole_request held headers spans w A B r s more none e, inr left)

    by_known : (o : Option (List ℕ)) → A.turns.reader.come ≡ o → IfSome o (λ _. AsksHandler conduct (record { a = a; b = b; input = A.turns.reader.come; input_after = B.turns.reader.come }) (record { held = held; headers = headers; spans = spans; content_length = w }) asked.NoMemory)
    by_known None e = tt
    by_known (Some s) e =
        let k = known s B.turns.reader.come r.read.came (subst (λ (y : Option (List ℕ)). Consumes y B.turns.reader.come r.read.came) e r.read.consumed) in
        record { came = r.read.came; more = k.0; before = e ∙ ap Some k.2; after = k.1; is = lacks s k.0 k.2 (holds_at (Lacks conduct a b B) held headers spans w A B r s e holds) }

-- where bytes are still wanted, their reader is not at its end
not_ended : (B : BodyState) (more : List ℕ) → B.turns.reader.come ≡ Some more → 0 < B.wanted → ¬ (IsAtEnd (option_map (λ y. padded B.wanted (B.held ++ y)) B.turns.reader.come))
not_ended B more e some end =
    let none = none_wanted B.wanted (B.held ++ more) (subst (λ (o : Option (List ℕ)). IsAtEnd (option_map (λ y. padded B.wanted (B.held ++ y)) o)) e end) in
    omega arith

stands_of : {H E : Type 0} (conduct : Conduct H) (a b : H) (request : Request) (result : Result HttpReply E) (left : Option (List ℕ)) → IsHandled conduct a request result left b → IfOk result (λ _. IsAtEnd left) → ¬ (IsAtEnd left) → StandsStill conduct a request.head b
stands_of conduct a b request (Ok reply) left is whole on = absurd (on whole)
stands_of conduct a b request (Err x) left (inl stands) whole on = stands
stands_of conduct a b request (Err x) left (inr (end, leaves)) whole on = absurd (on end)

-- the body was not read to its end
pub record IsLeft {H : Type 0} (conduct : Conduct H) (a b : H) (held came more : List ℕ) (input input_after : Option (List ℕ)) : Type 0 where
  pub before : input ≡ Some (came ++ more)
  pub after : input_after ≡ Some more
  pub stands : StandsOver conduct a (held ++ came) b

is_left : {H E : Type 0} (conduct : Conduct H) (a b : H) (held : List ℕ) (headers : List HeaderSpan) (spans : RequestSpans) (w : ℕ) (A B : BodyState) (r : Reading held headers spans w A B) (result : Result HttpReply E) (s : List ℕ)
    → A.turns.reader.come ≡ Some s → 0 < B.wanted → OfRequest (λ request. IsHandled conduct a request result (option_map (λ y. padded B.wanted (B.held ++ y)) B.turns.reader.come) b) held headers spans A → IfOk result (λ _. IsAtEnd (option_map (λ y. padded B.wanted (B.held ++ y)) B.turns.reader.come))
    → (more : List ℕ) × IsLeft conduct a b held r.read.came more A.turns.reader.come B.turns.reader.come
is_left conduct a b held headers spans w A B r result s e some holds whole =
    let k = known s B.turns.reader.come r.read.came (subst (λ (y : Option (List ℕ)). Consumes y B.turns.reader.come r.read.came) e r.read.consumed) in (
      k.0,
      record {
        before = e ∙ ap Some k.2;
        after = k.1;
        stands = stands_over conduct a b r.stands.found.0 (held ++ r.read.came) _ (HasHead-append held r.stands.found.0 (drop spans.len held) r.read.came (head_of held headers spans w r.stands)) (stands_of conduct a b (record { head = r.stands.found.0; body = body_of A s }) result (option_map (λ y. padded B.wanted (B.held ++ y)) B.turns.reader.come) (holds_at (λ request. IsHandled conduct a request result (option_map (λ y. padded B.wanted (B.held ++ y)) B.turns.reader.come) b) held headers spans w A B r s e holds) whole (not_ended B k.0 k.1 some));
      },
    )

-- what came is a request that has not come whole, or one that has and was not given whole
came_so : {H : Type 0} (conduct : Conduct H) (a b : H) (held : List ℕ) (headers : List HeaderSpan) (spans : RequestSpans) (w : ℕ) (A B : BodyState) (r : Reading held headers spans w A B) → StandsOver conduct a (held ++ r.read.came) b → RunsOut conduct a (held ++ r.read.came) b
came_so conduct a b held headers spans w A B r stands = by_length (cases_lt (length B.held) B.wanted)
  where
    given : take r.n (drop spans.len held) ++ r.read.came ≡ r.read.used ++ B.held
    given = ap (λ (l : List ℕ). l ++ r.read.came) (sym r.held_is) ∙ r.read.given

    by_length : (length B.held < B.wanted) ⊎ (B.wanted ≤ length B.held) → RunsOut conduct a (held ++ r.read.came) b
    by_length (inl less) =
        let counted = r.read.counted in
        let wanted = r.wanted_is in
        let both = length-append r.read.used B.held in
        inl (stands, inr (stands_short held headers spans w r.stands r.read.came (short_body (drop spans.len held) r.read.came (r.read.used ++ B.held) w r.n r.n_is given (omega arith))))
    by_length (inr all) =
        let counted = r.read.counted in
        let wanted = r.wanted_is in
        let fits = r.fits in
        let both = length-append r.read.used B.held in
        let sized : length (r.read.used ++ B.held) ≡ w = omega arith in
        inr (record { head = r.stands.found.0; body = r.read.used ++ B.held }, drop w (drop spans.len held), stands_request held headers spans w r.stands r.read.came (r.read.used ++ B.held) (drop w (drop spans.len held)) (whole_body (drop spans.len held) r.read.came (r.read.used ++ B.held) w r.n r.n_is given sized) sized, inl stands)

pub left_unread : {H E : Type 0} (conduct : Conduct H) (a b : H) (held : List ℕ) (headers : List HeaderSpan) (spans : RequestSpans) (w : ℕ) (A B : BodyState) (r : Reading held headers spans w A B) (result : Result HttpReply E)
    → 0 < B.wanted → OfRequest (λ request. IsHandled conduct a request result (option_map (λ y. padded B.wanted (B.held ++ y)) B.turns.reader.come) b) held headers spans A → IfOk result (λ _. IsAtEnd (option_map (λ y. padded B.wanted (B.held ++ y)) B.turns.reader.come))
    → IfSome A.turns.reader.come (λ _. AsksHandler conduct (record { a = a; b = b; input = A.turns.reader.come; input_after = B.turns.reader.come }) (record { held = held; headers = headers; spans = spans; content_length = w }) asked.NoMemory)
left_unread {H} conduct a b held headers spans w A B r result some holds whole = by_known A.turns.reader.come refl
  where
    by_known : (o : Option (List ℕ)) → A.turns.reader.come ≡ o → IfSome o (λ _. AsksHandler conduct (record { a = a; b = b; input = A.turns.reader.come; input_after = B.turns.reader.come }) (record { held = held; headers = headers; spans = spans; content_length = w }) asked.NoMemory)
    by_known None e = tt
    by_known (Some s) e =
        let l = is_left conduct a b held headers spans w A B r result s e some holds whole in
        record { came = r.read.came; more = l.0; before = l.1.before; after = l.1.after; is = came_so conduct a b held headers spans w A B r l.1.stands }

broken_holds : (held : List ℕ) (headers : List HeaderSpan) (spans : RequestSpans) (w : ℕ) (A B : BodyState) (r : Reading held headers spans w A B) (fault : BodyFault) → B.fault ≡ Some fault → HasBrokenOff B fault
broken_holds held headers spans w A B r fault e =
    subst (λ (f : Option BodyFault). IfSome f (HasBrokenOff B)) e (r.read.caused (subst (λ (f : Option BodyFault). IfSome f (HasBrokenOff A)) (sym r.no_fault) tt))

broken_short : (held : List ℕ) (headers : List HeaderSpan) (spans : RequestSpans) (w : ℕ) (A B : BodyState) (r : Reading held headers spans w A B) (fault : BodyFault) → HasBrokenOff B fault → IsShort (held ++ r.read.came)
broken_short held headers spans w A B r fault off =
    let counted = r.read.counted in
    let wanted = r.wanted_is in
    let wants = off.wants in
    stands_short held headers spans w r.stands r.read.came
    (short_body (drop spans.len held) r.read.came r.read.used w r.n r.n_is
    (ap (λ (l : List ℕ). l ++ r.read.came) (sym r.held_is) ∙ r.read.given ∙ ap (λ (l : List ℕ). r.read.used ++ l) off.none_held ∙ append-nil r.read.used) (omega arith))

broken_as : {H : Type 0} (conduct : Conduct H) (a b : H) (front : FrontHead) (came : List ℕ) (B : BodyState) (fault : BodyFault) (input : Option (List ℕ)) → HasBrokenOff B fault → StandsOver conduct a (front.held ++ came) b → IsShort (front.held ++ came)
    → IsAskedOver conduct (record { a = a; b = b; input = input; input_after = B.turns.reader.come }) (record { front = front; came = came }) (asked.Broken fault)
broken_as conduct a b front came B faults.Short input off stands short = (stands, off.cause, short)
broken_as conduct a b front came B faults.ReadFault input off stands short = (stands, inr short)
broken_as conduct a b front came B faults.TurnsSpent input off stands short = (stands, inr short)

-- the body broke off
pub broken : {H E : Type 0} (conduct : Conduct H) (a b : H) (held : List ℕ) (headers : List HeaderSpan) (spans : RequestSpans) (w : ℕ) (A B : BodyState) (r : Reading held headers spans w A B) (result : Result HttpReply E) (fault : BodyFault)
    → B.fault ≡ Some fault → OfRequest (λ request. IsHandled conduct a request result (option_map (λ y. padded B.wanted (B.held ++ y)) B.turns.reader.come) b) held headers spans A → IfOk result (λ _. IsAtEnd (option_map (λ y. padded B.wanted (B.held ++ y)) B.turns.reader.come))
    → IfSome A.turns.reader.come (λ _. AsksHandler conduct (record { a = a; b = b; input = A.turns.reader.come; input_after = B.turns.reader.come }) (record { held = held; headers = headers; spans = spans; content_length = w }) (asked.Broken fault))
broken {H} conduct a b held headers spans w A B r result fault f holds whole = by_known A.turns.reader.come refl
  where
    by_known : (o : Option (List ℕ)) → A.turns.reader.come ≡ o → IfSome o (λ _. AsksHandler conduct (record { a = a; b = b; input = A.turns.reader.come; input_after = B.turns.reader.come }) (record { held = held; headers = headers; spans = spans; content_length = w }) (asked.Broken fault))
    by_known None e = tt
    by_known (Some s) e =
        let off = broken_holds held headers spans w A B r fault f in
        let l = is_left conduct a b held headers spans w A B r result s e off.wants holds whole in
        record { came = r.read.came; more = l.0; before = l.1.before; after = l.1.after; is = broken_as conduct a b (record { held = held; headers = headers; spans = spans; content_length = w }) r.read.came B fault A.turns.reader.come off l.1.stands (broken_short held headers spans w A B r fault off) }

-- ---- all of it, by what the code tells

asked_whole : {H E : Type 0} (conduct : Conduct H) (a b : H) (held : List ℕ) (headers : List HeaderSpan) (spans : RequestSpans) (w : ℕ) (A B : BodyState) (r : Reading held headers spans w A B) (result : Result HttpReply E)
    → B.wanted ≡ 0 → OfRequest (λ request. IsHandled conduct a request result (option_map (λ y. padded B.wanted (B.held ++ y)) B.turns.reader.come) b) held headers spans A
    → IfSome A.turns.reader.come (λ _. AsksHandler conduct (record { a = a; b = b; input = A.turns.reader.come; input_after = B.turns.reader.come }) (record { held = held; headers = headers; spans = spans; content_length = w }) (whole_so result))
asked_whole conduct a b held headers spans w A B r (Ok reply) none holds = reply_made conduct a b held headers spans w A B r reply none holds
asked_whole conduct a b held headers spans w A B r (Err x) none holds = no_memory conduct a b held headers spans w A B r none holds

asked_broken : {H E : Type 0} (conduct : Conduct H) (a b : H) (held : List ℕ) (headers : List HeaderSpan) (spans : RequestSpans) (w : ℕ) (A B : BodyState) (r : Reading held headers spans w A B) (result : Result HttpReply E) (fault : Option BodyFault)
    → B.fault ≡ fault → 0 < B.wanted → OfRequest (λ request. IsHandled conduct a request result (option_map (λ y. padded B.wanted (B.held ++ y)) B.turns.reader.come) b) held headers spans A → IfOk result (λ _. IsAtEnd (option_map (λ y. padded B.wanted (B.held ++ y)) B.turns.reader.come))
    → IfSome A.turns.reader.come (λ _. AsksHandler conduct (record { a = a; b = b; input = A.turns.reader.come; input_after = B.turns.reader.come }) (record { held = held; headers = headers; spans = spans; content_length = w }) (broken_so fault))
asked_broken conduct a b held headers spans w A B r result None e some holds whole = left_unread conduct a b held headers spans w A B r result some holds whole
asked_broken conduct a b held headers spans w A B r result (Some fault) e some holds whole = broken conduct a b held headers spans w A B r result fault e holds whole

some_left : (n : ℕ) → (n == 0) ≡ false → 0 < n
some_left zero e = cc
some_left (suc n) e = omega arith

pub asked_is : {H E : Type 0} (conduct : Conduct H) (a b : H) (held : List ℕ) (headers : List HeaderSpan) (spans : RequestSpans) (w : ℕ) (A B : BodyState) (r : Reading held headers spans w A B) (result : Result HttpReply E)
    → OfRequest (λ request. IsHandled conduct a request result (option_map (λ y. padded B.wanted (B.held ++ y)) B.turns.reader.come) b) held headers spans A → IfOk result (λ _. IsAtEnd (option_map (λ y. padded B.wanted (B.held ++ y)) B.turns.reader.come))
    → IfSome A.turns.reader.come (λ _. AsksHandler conduct (record { a = a; b = b; input = A.turns.reader.come; input_after = B.turns.reader.come }) (record { held = held; headers = headers; spans = spans; content_length = w }) (asked_so result B.wanted B.fault))
asked_is {H} {E} conduct a b held headers spans w A B r result holds whole = by_test (B.wanted == 0) refl
  where
    by_test : (t : Bool) → (B.wanted == 0) ≡ t → IfSome A.turns.reader.come (λ _. AsksHandler conduct (record { a = a; b = b; input = A.turns.reader.come; input_after = B.turns.reader.come }) (record { held = held; headers = headers; spans = spans; content_length = w }) (if t then whole_so result else broken_so B.fault))
    by_test true e = asked_whole conduct a b held headers spans w A B r result (eqb-true B.wanted 0 e) holds
    by_test false e = asked_broken conduct a b held headers spans w A B r result B.fault refl (some_left B.wanted e) holds whole

-- ---- why it stops

-- the reader failed meanwhile only if that is the fault
unfailed : (P : Type 0) (f : Option BodyFault) → P ⊎ (f ≡ Some faults.ReadFault) → ¬ (f ≡ Some faults.ReadFault) → P
unfailed P f (inl p) other = p
unfailed P f (inr e) other = absurd (other e)

whole_stops : {E : Type 0} (result : Result HttpReply E) (before now : Option ReadFault) (left : ℕ) → now ≡ before → AskStops (whole_so result) before now left
whole_stops (Ok reply) before now left same = same
whole_stops (Err x) before now left same = same

broken_stops : (before : Option ReadFault) (B : BodyState) (fault : BodyFault) → HasBrokenOff B fault → (B.turns.reader.fault ≡ before) ⊎ (Some fault ≡ Some faults.ReadFault) → AskStops (asked.Broken fault) before B.turns.reader.fault B.turns.left
broken_stops before B faults.Short off kept = unfailed _ (Some faults.Short) kept (λ e. cc)
broken_stops before B faults.ReadFault off kept = off.cause
broken_stops before B faults.TurnsSpent off kept = (off.cause, unfailed _ (Some faults.TurnsSpent) kept (λ e. cc))

pub asked_stops : {E : Type 0} (held : List ℕ) (headers : List HeaderSpan) (spans : RequestSpans) (w : ℕ) (A B : BodyState) → Reading held headers spans w A B → (result : Result HttpReply E) → AskStops (asked_so result B.wanted B.fault) A.turns.reader.fault B.turns.reader.fault B.turns.left
asked_stops held headers spans w A B r result = by_test (B.wanted == 0) refl
  where
    by_fault : (f : Option BodyFault) → B.fault ≡ f → (B.turns.reader.fault ≡ A.turns.reader.fault) ⊎ (f ≡ Some faults.ReadFault) → AskStops (broken_so f) A.turns.reader.fault B.turns.reader.fault B.turns.left
    by_fault None e kept = unfailed _ None kept (λ x. cc)
    by_fault (Some fault) e kept = broken_stops A.turns.reader.fault B fault (broken_holds held headers spans w A B r fault e) kept

    by_test : (t : Bool) → (B.wanted == 0) ≡ t → AskStops (if t then whole_so result else broken_so B.fault) A.turns.reader.fault B.turns.reader.fault B.turns.left
    by_test true e = whole_stops result A.turns.reader.fault B.turns.reader.fault B.turns.left (unfailed _ B.fault r.read.failed (λ f.
        let wants = (broken_holds held headers spans w A B r faults.ReadFault f).wants in
        let none : B.wanted ≡ 0 = eqb-true B.wanted 0 e in absurd (omega arith)))
    by_test false e = by_fault B.fault refl r.read.failed

whole_turns : {E : Type 0} (result : Result HttpReply E) (a b : Turns) → SpendsTurns 0 a b → SpendsTurns (idle_asked (whole_so result)) a b
whole_turns (Ok reply) a b spent = spent
whole_turns (Err x) a b spent = spent

broken_turns : (f : Option BodyFault) (a b : Turns) → SpendsTurns (idle_at f) a b → SpendsTurns (idle_asked (broken_so f)) a b
broken_turns None a b spent = spent
broken_turns (Some fault) a b spent = spent

-- where the body is whole each read brought something
pub asked_turns : {E : Type 0} (held : List ℕ) (headers : List HeaderSpan) (spans : RequestSpans) (w : ℕ) (A B : BodyState) → Reading held headers spans w A B → (result : Result HttpReply E) → SpendsTurns (idle_asked (asked_so result B.wanted B.fault)) A.turns B.turns
asked_turns held headers spans w A B r result = by_test (B.wanted == 0) refl
  where
    no_fault : (f : Option BodyFault) → B.fault ≡ f → B.wanted ≡ 0 → SpendsTurns (idle_at f) A.turns B.turns → SpendsTurns 0 A.turns B.turns
    no_fault None e none spent = spent
    no_fault (Some fault) e none spent = let wants = (broken_holds held headers spans w A B r fault e).wants in absurd (omega arith)

    by_test : (t : Bool) → (B.wanted == 0) ≡ t → SpendsTurns (idle_asked (if t then whole_so result else broken_so B.fault)) A.turns B.turns
    by_test true e = whole_turns result A.turns B.turns (no_fault B.fault refl (eqb-true B.wanted 0 e) r.read.turns)
    by_test false e = broken_turns B.fault A.turns B.turns r.read.turns

still_short : (held : List ℕ) (headers : List HeaderSpan) (spans : RequestSpans) (w : ℕ) (A B : BodyState) (r : Reading held headers spans w A B) (came : List ℕ) → length A.held + length came < A.wanted → length (drop spans.len held ++ came) < w
still_short held headers spans w A B r came wants =
    let d = drop spans.len held in
    let n_is = r.n_is in
    let wanted = r.wanted_is in
    let first : length (take r.n d) ≡ r.n = length-take-le r.n d (omega (arith, n_is)) in
    let held_is : length A.held ≡ length (take r.n d) = ap length r.held_is in
    let both = length-append d came in
    omega (arith, wants, held_is, first, n_is, wanted, both)

-- while its body was read the request was not whole
pub body_waits : (held : List ℕ) (headers : List HeaderSpan) (spans : RequestSpans) (w : ℕ) (A B : BodyState) → Reading held headers spans w A B → AllSince (WaitsForRequest held A.turns.reader.come A.taken) A.turns.reader.moments B.turns.reader.moments
body_waits held headers spans w A B r = since_so (IsWithinBody A) (WaitsForRequest held A.turns.reader.come A.taken) A.turns.reader.moments B.turns.reader.moments (λ m x. record {
  rest = held ++ x.came;
  comes = record { piece = x.came; consumed = x.consumed; kept = refl };
  waits = inr (stands_short held headers spans w r.stands x.came (still_short held headers spans w A B r x.came x.wants));
  writer = x.taken;
}) r.read.moments

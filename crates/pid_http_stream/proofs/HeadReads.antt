-- What comes in up to the end of a head.
use Rattle.std.proofs.Common.{◌≡◌, ◌≢◌, ℕ, ◌+◌, List, [], ◌++◌, Option, Some, None, ◌≤◌, length, take, drop, sym, ap, subst, ◌∙◌, append_assoc, length-append, arith, inl, inr}
use Rattle.std.specs.Prelude.{IfSome, ◌⊎◌, Result, Ok}
use Rattle.std.specs.Io.KnownBytes.{Consumes, IsAtEnd}
use Rattle.std.proofs.KnownBytes.{Consumes-nil, Consumes-trans}
use Rattle.std.proofs.lemmas.List.{append-nil, length-take-le, take-append-drop}
use Rattle.std.proofs.lemmas.List.Elements.{All-nil, All-append}
use Rattle.httparse.specs.Ascii.{line_feed}
use Rattle.httparse.specs.Grammar.{HasNoRequest as HasNoRequestHead, MayBecomeRequest as MayBecomeHead}
use Rattle.pid_http_stream.specs.Endings.{HasFault}
use Rattle.pid_file.specs.declared.io.ReadFault.{ReadFault as ReaderFault}
use Rattle.pid_http_stream.specs.Steps.Bodies.{Turns, SpendsTurns, IsCauseOf, idle_at}
use Rattle.pid_http_stream.specs.Steps.Intakes.{ComesIn, FillStops, HeadStops, IsHeadJudged, IsMoment, StandsAt, StaysBut, StopsFor, WaitsForRequest, filled_by, idle_filled}
use Rattle.httparse.specs.declared.spans.HeaderSpan.{HeaderSpan}
use Rattle.pid_http_stream.specs.declared.body_input.BodyFault.{BodyFault}
use Rattle.pid_http_stream.specs.declared.body_input.BodyFault.TheVariants.{Short, ReadFault, TurnsSpent}
use Rattle.pid_http_stream.specs.declared.judging.FoundHead.{FoundHead}
use Rattle.pid_http_stream.specs.declared.intake.Filled.TheVariants as filled
use Rattle.pid_http_stream.specs.declared.intake.HeadRead.{HeadRead}
use Rattle.pid_http_stream.specs.declared.intake.Stop.{Stop}
use Rattle.pid_http_stream.specs.Leftovers.{AreLineEnds}
use Rattle.pid_ident.specs.Steps.MomentLaws.{since_then, since_so}
use Rattle.pid_http_stream.specs.Moments.{Moment, AllSince}
use Rattle.pid_http_stream.specs.Unfinished.{CanBeHead, IsHeadUnfinished, IsUnfinished}
use Rattle.pid_http_stream.specs.declared.refusal.StreamFault.{StreamFault}
use Rattle.pid_http_stream.specs.declared.refusal.StreamFault.TheVariants.{BadHead}
use Rattle.pid_http_stream.proofs.BodyReads.{whole_front}
use Rattle.pid_http_stream.proofs.Heads.{IsNoHead, HasNoLineEnd, end_within_head, no_head_after}

-- what was found of a head
pub judged_none : (held : List ℕ) (headers : List HeaderSpan) (judged : Result (Option FoundHead) StreamFault) (found : Option FoundHead) → judged ≡ Ok found → found ≡ None → IsHeadJudged held headers judged → IsHeadUnfinished held
judged_none held headers judged found e f is = subst (λ (o : Option FoundHead). IsHeadJudged held headers (Ok o)) f (subst (IsHeadJudged held headers) e is)

pub judged_found : (held : List ℕ) (headers : List HeaderSpan) (judged : Result (Option FoundHead) StreamFault) (found : Option FoundHead) (head : FoundHead) → judged ≡ Ok found → found ≡ Some head → IsHeadJudged held headers judged
    → StandsAt held headers head.spans head.body
judged_found held headers judged found head e f is = subst (λ (o : Option FoundHead). IsHeadJudged held headers (Ok o)) f (subst (IsHeadJudged held headers) e is)

pub nothing_came : (held : List ℕ) (input : Option (List ℕ)) → ComesIn held held input input
nothing_came held input = record { piece = []; consumed = Consumes-nil input; kept = sym (append-nil held) }

pub none_came : (held after : List ℕ) (x y : Option (List ℕ)) → after ≡ held → Consumes x y [] → ComesIn held after x y
none_came held after x y e c = record { piece = []; consumed = c; kept = e ∙ sym (append-nil held) }

pub piece_came : (held room after piece : List ℕ) (x y : Option (List ℕ)) → room ≡ held → Consumes x y piece → after ≡ room ++ piece → ComesIn held after x y
piece_came held room after piece x y same c kept = record { piece = piece; consumed = c; kept = kept ∙ ap (λ (l : List ℕ). l ++ piece) same }

pub comes_then : (a b c : List ℕ) (x y z : Option (List ℕ)) → ComesIn a b x y → ComesIn b c y z → ComesIn a c x z
comes_then a b c x y z p q = record {
  piece = p.piece ++ q.piece;
  consumed = Consumes-trans x y z p.piece q.piece p.consumed q.consumed;
  kept = q.kept ∙ ap (λ (l : List ℕ). l ++ q.piece) p.kept ∙ append_assoc a p.piece q.piece;
}

pub end_faulty : (held : List ℕ) → HasNoRequestHead held → ¬ (AreLineEnds held) → (left : Option (List ℕ)) → IsAtEnd left → IfSome left (λ more. HasFault (held ++ more) BadHead)
end_faulty held none other None e = tt
end_faulty held none other (Some more) e = inl (subst IsNoHead (sym (append-nil held) ∙ ap (λ (l : List ℕ). held ++ l) (sym e)) (end_within_head held none other))

pub any_faulty : (held : List ℕ) (fault : StreamFault) → ((more : List ℕ) → HasFault (held ++ more) fault) → (left : Option (List ℕ)) → IfSome left (λ more. HasFault (held ++ more) fault)
any_faulty held fault has None = tt
any_faulty held fault has (Some more) = has more

pub still_none : (after : List ℕ) (n : ℕ) → IsHeadUnfinished (take n after) → HasNoLineEnd (drop n after) → HasNoRequestHead after
still_none after n wants quiet = subst HasNoRequestHead (take-append-drop n after) (no_head_after (take n after) (drop n after) wants.none quiet)

-- where no line ended in the piece, the lines that have ended are those of before
pub still_begins : (after : List ℕ) (n : ℕ) → CanBeHead (take n after) → HasNoLineEnd (drop n after) → CanBeHead after
still_begins after n x quiet = record {
  front = x.front;
  line = x.line ++ drop n after;
  is = sym (take-append-drop n after) ∙ ap (λ (l : List ℕ). l ++ drop n after) x.is ∙ append_assoc x.front x.line (drop n after);
  may = x.may;
  unended = All-append (λ (b : ℕ). b ≢ line_feed) x.line (drop n after) x.unended quiet;
}

-- what was parsed whole
pub begins_whole : (held : List ℕ) → MayBecomeHead held → CanBeHead held
begins_whole held may = record { front = held; line = []; is = sym (append-nil held); may = may; unended = All-nil (λ (b : ℕ). b ≢ line_feed) }

-- what was held before a piece came
pub still_wants : (held after came : List ℕ) (n : ℕ) (x y : Option (List ℕ)) → came ≡ after → ComesIn held after x y → n ≡ length held → IsHeadUnfinished held → IsHeadUnfinished (take n came)
still_wants held after came n x y e c len wants =
    subst IsHeadUnfinished (sym (ap (λ (l : List ℕ). take n l) (e ∙ c.kept) ∙ whole_front held c.piece n (sym len))) wants

pub still_fits : (held after came : List ℕ) (n : ℕ) (x y : Option (List ℕ)) → came ≡ after → ComesIn held after x y → n ≡ length held → n ≤ length came
still_fits held after came n x y e c len = let l = ap length (e ∙ c.kept) ∙ length-append held c.piece in omega (arith, l, len)

-- only a piece is one
pub stopped_is_none : {P : Type 0} (stop : Stop) → filled.Stopped stop ≡ filled.Piece → P
stopped_is_none stop e = cc

pub no_piece : {P : Type 0} (fault : BodyFault) → filled_by fault ≡ filled.Piece → P
no_piece Short e = cc
no_piece ReadFault e = cc
no_piece TurnsSpent e = cc

-- what a fault of one read leaves
pub filled_stays : (fault : BodyFault) (held after : List ℕ) (t : Turns) → IsCauseOf fault t → after ≡ held → StaysBut held after t.reader.come (filled_by fault)
filled_stays Short held after t cause e = (e, cause)
filled_stays ReadFault held after t cause e = e
filled_stays TurnsSpent held after t cause e = e

pub filled_turns : (fault : BodyFault) (a b : Turns) → SpendsTurns (idle_at (Some fault)) a b → SpendsTurns (idle_filled (filled_by fault)) a b
filled_turns Short a b p = p
filled_turns ReadFault a b p = p
filled_turns TurnsSpent a b p = p

pub filled_stops : (fault : BodyFault) (before : Option ReaderFault) (t : Turns) → IsCauseOf fault t → (t.reader.fault ≡ before) ⊎ (fault ≡ ReadFault) → FillStops (filled_by fault) before t.reader.fault t.left
filled_stops Short before t cause (inl e) = e
filled_stops Short before t cause (inr e) = cc
filled_stops ReadFault before t cause same = cause
filled_stops TurnsSpent before t cause (inl e) = (cause, e)
filled_stops TurnsSpent before t cause (inr e) = cc

-- a piece is no longer than the buffer
pub piece_fits : (held room after buffer : List ℕ) (n most : ℕ) → room ≡ held → after ≡ room ++ take n buffer → n ≤ length buffer → length buffer ≡ most → length after ≤ length held + most
piece_fits held room after buffer n most same kept fits sized =
    let whole = ap length kept ∙ length-append room (take n buffer) in
    let piece = length-take-le n buffer fits in
    let before = ap length same in omega (arith, whole, piece, before, fits, sized)

-- the reader had not failed before
pub stops_since : (stop : Stop) (first before now : Option ReaderFault) (left : ℕ) → before ≡ first → StopsFor stop before now left → StopsFor stop first now left
stops_since stop first before now left e x = subst (λ (f : Option ReaderFault). StopsFor stop f now left) e x

pub stops_never : (head : HeadRead) (first before now : Option ReaderFault) (left : ℕ) → ((fault : Option ReaderFault) (n : ℕ) → HeadStops head fault fault n) → now ≡ before → before ≡ first → HeadStops head first now left
stops_never head first before now left f d e = subst (λ (f : Option ReaderFault). HeadStops head f now left) (d ∙ e) (f now left)

-- the reader was read once more, while what had come was a request that was not whole
pub waits_on : (held now : List ℕ) (x y taken : Option (List ℕ)) (a b c : Option (List Moment)) → ComesIn held now x y → IsUnfinished now
    → AllSince (WaitsForRequest held x taken) a b → AllSince (IsMoment y taken) b c → AllSince (WaitsForRequest held x taken) a c
waits_on held now x y taken a b c came waits first next =
    since_then (WaitsForRequest held x taken) a b c first
    (since_so (IsMoment y taken) (WaitsForRequest held x taken) b c (λ m is. record {
      rest = now;
      comes = subst (λ (k : Moment). ComesIn held now x k.to_come) (sym is) came;
      waits = waits;
      writer = ap (λ (k : Moment). k.taken) is;
    }) next)

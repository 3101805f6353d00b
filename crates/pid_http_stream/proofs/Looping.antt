-- The serving loop as it runs: what was served so far, what came for a head, and then the step or the end.
use Rattle.std.proofs.Common.{◌≡◌, ℕ, ◌+◌, ◌*◌, ◌<◌, ◌≤◌, List, ◌++◌, Option, Some, None, length, length-drop, drop, refl, sym, ap, subst, ◌∙◌, arith}
use Rattle.std.specs.Prelude.{IfSome, Ok, Err}
use Rattle.std.specs.Io.KnownBytes.{Consumes, IsAtEnd}
use Rattle.pid_http_stream.specs.Conducts.{Conduct}
use Rattle.pid_http_stream.specs.Endings.{HasFault}
use Rattle.pid_http_stream.specs.Steps.Intakes.{ComesIn, WaitsForRequest}
use Rattle.pid_http_stream.specs.Leftovers.{IsLeftover}
use Rattle.pid_ident.specs.Steps.MomentLaws.{since_none, since_then, since_so}
use Rattle.pid_http_stream.specs.Moments.{Moment, AllSince}
use Rattle.pid_http_stream.specs.Serving.{saturated, IsCaughtUp, IsServed}
use Rattle.pid_http_stream.specs.Steps.Loop.{count_with, WritesRefusal, Steps, stop_end}
use Rattle.pid_http_stream.specs.Unfinished.{IsUnfinished}
use Rattle.pid_http_stream.specs.declared.intake.Stop.{Stop}
use Rattle.pid_http_stream.specs.declared.refusal.StreamFault.{StreamFault}
use Rattle.pid_http_stream.specs.declared.limits.TheConstants.{READ_SIZE}
use Rattle.pid_http_stream.specs.declared.stream.StreamEnd.{StreamEnd}
use Rattle.pid_http_stream.specs.declared.stream.StreamEnd.TheVariants.{Clean}
use Rattle.pid_http_stream.proofs.Serving.{IsServing, if_some, comes, ends_clean, ends_refused, ends_stopped, steps_open, steps_ended}

-- a fact that hangs on known bytes, where they are known
where_known : (o : Option (List ℕ)) (P : Type 0) (s read : List ℕ) → Consumes (Some s) o read → IfSome o (λ _. P) → P
where_known None P s read c p = absurd c
where_known (Some x) P s read c p = p

pub loop_nothing : {H : Type 0} (conduct : Conduct H) (a b : H) (t u input mid left : Option (List ℕ)) (held after : List ℕ) (count : ℕ)
    → IfSome input (λ s. IsServing conduct (record { handler = a; handler_after = b; taken = t; taken_after = u }) s mid held count) → ComesIn held after mid left → IsAtEnd left × IsLeftover after
    → IfSome input (λ s. IsServed conduct (record { handler = a; handler_after = b; taken = t; taken_after = u }) s left Clean count)
loop_nothing conduct a b t u input mid left held after count serving c (end, rest) =
    if_some input _ _ (λ s x. ends_clean conduct a b t u s left after count (comes conduct _ s mid left held after count x c) end rest) serving

pub loop_faulty : {H : Type 0} (conduct : Conduct H) (a b : H) (t u v input mid left : Option (List ℕ)) (held after : List ℕ) (count : ℕ) (fault : StreamFault) (end : StreamEnd)
    → IfSome input (λ s. IsServing conduct (record { handler = a; handler_after = b; taken = t; taken_after = u }) s mid held count) → ComesIn held after mid left
    → IfSome left (λ more. HasFault (after ++ more) fault) → WritesRefusal fault u v end
    → IfSome input (λ s. IsServed conduct (record { handler = a; handler_after = b; taken = t; taken_after = v }) s left end (count_with end count))
loop_faulty conduct a b t u v input mid left held after count fault end serving c has r =
    if_some input _ _ (λ s x. ends_refused conduct a b t u v s left after count fault end (comes conduct _ s mid left held after count x c) has r) serving

pub loop_stopped : {H : Type 0} (conduct : Conduct H) (a b : H) (t u input mid left : Option (List ℕ)) (held after : List ℕ) (count : ℕ) (stop : Stop)
    → IfSome input (λ s. IsServing conduct (record { handler = a; handler_after = b; taken = t; taken_after = u }) s mid held count) → ComesIn held after mid left → IsUnfinished after
    → IfSome input (λ s. IsServed conduct (record { handler = a; handler_after = b; taken = t; taken_after = u }) s left (stop_end stop) count)
loop_stopped conduct a b t u input mid left held after count stop serving c waits =
    if_some input _ _ (λ s x. ends_stopped conduct a b t u s left after count stop (comes conduct _ s mid left held after count x c) waits) serving

pub loop_open : {H : Type 0} (conduct : Conduct H) (a b c : H) (t u v input mid read left : Option (List ℕ)) (held after lent kept : List ℕ) (n count count_after : ℕ)
    → IfSome input (λ s. IsServing conduct (record { handler = a; handler_after = b; taken = t; taken_after = u }) s mid held count) → ComesIn held after mid read → lent ≡ after
    → IfSome read (λ _. Steps conduct (record { handler = b; handler_after = c; taken = u; taken_after = v }) (record { input = read; input_after = left; held = lent; held_after = drop n lent }) (Ok tt)) → count_after ≡ saturated (count + 1) → kept ≡ drop n after
    → IfSome input (λ s. IsServing conduct (record { handler = a; handler_after = c; taken = t; taken_after = v }) s left kept count_after)
loop_open conduct a b c t u v input mid read left held after lent kept n count count_after serving came same step counts rest =
    if_some input _ _ (λ s x.
    let y = subst (λ (l : List ℕ). IsServing conduct (record { handler = a; handler_after = b; taken = t; taken_after = u }) s read l count) (sym same) (comes conduct _ s mid read held after count x came) in
    steps_open conduct a b c t u v s read left lent (drop n lent) kept count count_after y (where_known read _ s y.read y.consumed step) counts (rest ∙ ap (drop n) (sym same))) serving

pub loop_ended : {H : Type 0} (conduct : Conduct H) (a b c : H) (t u v input mid read left : Option (List ℕ)) (held after lent behind : List ℕ) (count : ℕ) (end : StreamEnd)
    → IfSome input (λ s. IsServing conduct (record { handler = a; handler_after = b; taken = t; taken_after = u }) s mid held count) → ComesIn held after mid read → lent ≡ after
    → IfSome read (λ _. Steps conduct (record { handler = b; handler_after = c; taken = u; taken_after = v }) (record { input = read; input_after = left; held = lent; held_after = behind }) (Err end))
    → IfSome input (λ s. IsServed conduct (record { handler = a; handler_after = c; taken = t; taken_after = v }) s left end (count_with end count))
loop_ended conduct a b c t u v input mid read left held after lent behind count end serving came same step =
    if_some input _ _ (λ s x.
    let y = subst (λ (l : List ℕ). IsServing conduct (record { handler = a; handler_after = b; taken = t; taken_after = u }) s read l count) (sym same) (comes conduct _ s mid read held after count x came) in
    steps_ended conduct a b c t u v s read left lent behind count end y (where_known read _ s y.read y.consumed step)) serving

-- ---- the moments at which more was read

caught_up : {H : Type 0} (conduct : Conduct H) (a b : H) (t u mid : Option (List ℕ)) (s held : List ℕ) (count : ℕ) → IsServing conduct (record { handler = a; handler_after = b; taken = t; taken_after = u }) s mid held count
    → (m : Moment) → WaitsForRequest held mid u m → IsCaughtUp conduct a t s m
caught_up conduct a b t u mid s held count serving m x =
    let y = comes conduct (record { handler = a; handler_after = b; taken = t; taken_after = u }) s mid m.to_come held x.rest count serving x.comes in
    (b, count, (y.read, y.consumed, record { rest = x.rest; mid = b; taken = u; before = y.before; next = ((refl, x.waits), x.writer) }))

-- before the first read
pub loop_unread : {H : Type 0} (conduct : Conduct H) (a : H) (t input : Option (List ℕ)) (xs : Option (List Moment)) → IfSome input (λ s. AllSince (IsCaughtUp conduct a t s) xs xs)
loop_unread conduct a t None xs = tt
loop_unread conduct a t (Some s) xs = since_none (IsCaughtUp conduct a t s) xs

-- for a head
pub loop_waits : {H : Type 0} (conduct : Conduct H) (a b : H) (t u input mid : Option (List ℕ)) (held : List ℕ) (count : ℕ) (xs ys zs : Option (List Moment))
    → IfSome input (λ s. IsServing conduct (record { handler = a; handler_after = b; taken = t; taken_after = u }) s mid held count)
    → IfSome input (λ s. AllSince (IsCaughtUp conduct a t s) xs ys) → AllSince (WaitsForRequest held mid u) ys zs
    → IfSome input (λ s. AllSince (IsCaughtUp conduct a t s) xs zs)
loop_waits conduct a b t u None mid held count xs ys zs serving past now = tt
loop_waits conduct a b t u (Some s) mid held count xs ys zs serving past now =
    since_then (IsCaughtUp conduct a t s) xs ys zs past (since_so (WaitsForRequest held mid u) (IsCaughtUp conduct a t s) ys zs (caught_up conduct a b t u mid s held count serving) now)

-- for a head, and then for the body behind it
pub loop_waits_within : {H : Type 0} (conduct : Conduct H) (a b : H) (t u input mid read : Option (List ℕ)) (held after lent : List ℕ) (count : ℕ) (xs ys zs ws : Option (List Moment))
    → IfSome input (λ s. IsServing conduct (record { handler = a; handler_after = b; taken = t; taken_after = u }) s mid held count)
    → IfSome input (λ s. AllSince (IsCaughtUp conduct a t s) xs ys) → AllSince (WaitsForRequest held mid u) ys zs → ComesIn held after mid read → lent ≡ after → AllSince (WaitsForRequest lent read u) zs ws
    → IfSome input (λ s. AllSince (IsCaughtUp conduct a t s) xs ws)
loop_waits_within conduct a b t u input mid read held after lent count xs ys zs ws serving past now came same then =
    loop_waits conduct a b t u input read after count xs zs ws
    (if_some input _ _ (λ s x. comes conduct (record { handler = a; handler_after = b; taken = t; taken_after = u }) s mid read held after count x came) serving)
    (loop_waits conduct a b t u input mid held count xs ys zs serving past now)
    (subst (λ (l : List ℕ). AllSince (WaitsForRequest l read u) zs ws) same then)

-- a request takes some of the bytes held, so that less can follow
pub less_left : (left read now n more : ℕ) (held after kept : List ℕ) → read * READ_SIZE + length after ≤ left * READ_SIZE + length held → now ≤ read → 0 < n → n ≤ length after → kept ≡ drop (n + more) after
    → now * READ_SIZE + length kept < left * READ_SIZE + length held
less_left left read now n more held after kept pace fewer some fits rest =
    let sized : length kept ≡ length (drop (n + more) after) = ap length rest in
    omega (arith, pace, fewer, some, fits, sized, length-drop (n + more) after)

-- What holds at first, and stays with each accepted command, holds after a list of commands.
use Rattle.std.proofs.Common.{◌≡◌, List, [], ◌∷◌, None, refl}
use Rattle.pid_moderation.specs.declared.command.Reply.{Reply}
use Rattle.pid_moderation.specs.FactsOfViews.{kept_in}
use Rattle.pid_moderation.specs.History.{Asked, More, History}
use Rattle.pid_moderation.specs.Judgement.{Outcome, Refused, Repeated, Accepts, judge, added, after, after_all}
use Rattle.pid_moderation.specs.Views.{views_of}
use Rattle.pid_service_laws.proofs.Judging.{entry, new_key}

-- an accepted command, which had no reply kept, keeps it
abbrev pub Stays : (History → Type 0) → Type 0
Stays P = (h : History) (c : Asked) (reply : Reply) → kept_in (views_of h) c.account c.key ≡ None → P h → P (More (entry c reply) h)

one_more : (P : History → Type 0) → Stays P → (h : History) (c : Asked) (o : Outcome) → judge (views_of h) c ≡ o → P h → P (added h c o)
one_more P stays h c (Refused e) is old = old
one_more P stays h c (Repeated reply) is old = old
one_more P stays h c (Accepts reply) is old = stays h c reply (new_key h c reply is) old

pub stay : (P : History → Type 0) → Stays P → (cs : List Asked) (h : History) → P h → P (after_all h cs)
stay P stays [] h old = old
stay P stays (c ∷ cs) h old = stay P stays cs (after h c) (one_more P stays h c (judge (views_of h) c) refl old)

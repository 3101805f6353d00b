-- What holds at first, and stays with each accepted command, holds of every history.
use Rattle.std.proofs.Common.{◌≡◌, ℕ, List, [], ◌∷◌, Option, refl}
use Rattle.pid_moderation.specs.declared.command.Reply.{Reply}
use Rattle.pid_moderation.specs.History.{Deed, Asked, More, History}
use Rattle.pid_moderation.specs.Views.{views_of}
use Rattle.pid_moderation.specs.FactsOfViews.{facts_of}
use Rattle.pid_moderation.specs.Judgement.{Outcome, Refused, Repeated, Accepts, judge, added, after, after_all}
use Rattle.pid_moderation.specs.WellMade.{IsWellMade, AreWellMade}
use Rattle.pid_moderation.proofs.Changing.{asks, entry}
use Rattle.pid_moderation.proofs.Passing.{Passes, accepted_passes}

-- an accepted command keeps it
abbrev pub Stays : (History → Type 0) → Type 0
Stays P = (h : History) (account : List ℕ) (key : Option (List ℕ)) (deed : Deed) (reply : Reply) → IsWellMade (asks account key deed) → Passes (facts_of (views_of h) (asks account key deed)) (asks account key deed) reply → P h → P (More (entry (asks account key deed) reply) h)

one_more : (P : History → Type 0) → Stays P → (h : History) (c : Asked) (o : Outcome) → judge (views_of h) c ≡ o → IsWellMade c → P h → P (added h c o)
one_more P stays h c (Refused e) is made old = old
one_more P stays h c (Repeated reply) is made old = old
one_more P stays h c (Accepts reply) is made old = stays h c.account c.key c.deed reply made (accepted_passes (facts_of (views_of h) c) c reply is) old

pub reached : (P : History → Type 0) → Stays P → (cs : List Asked) (h : History) → AreWellMade cs → P h → P (after_all h cs)
reached P stays [] h made old = old
reached P stays (c ∷ cs) h made old = reached P stays cs (after h c) made.1 (one_more P stays h c (judge (views_of h) c) refl made.0 old)

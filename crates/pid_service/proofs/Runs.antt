-- Commands of a list, obeyed one after another.
use Rattle.std.proofs.Common.{◌≡◌, inl, inr, ℕ, zero, suc, ◌+◌, ◌<◌, ◌≤◌, List, [], ◌∷◌, ◌++◌, length, take, drop, map, get_or, add-one, Option, Some, None, Result, Ok, Err, IfErr, IsErrAnd, is_ok, is_some, true, false, refl, sym, subst, ap, ◌∙◌, arith}
use Rattle.pid_tables.proofs.Refused.{refused_stays}
use Rattle.pid_service_laws.proofs.Joining.{after_more}
use Rattle.pid_moderation.specs.declared.refusal.Refusal.TheVariants.{Memory, Store, Changed}
use Rattle.pid_service.specs.Histories.{IsMemoryOrStore}
use Rattle.pid_service.proofs.Words.{after, after_all, answer, answers, Asked, BadName, BadPath, BadText, Command, EndsRun, EndsTurn, Failed, fault_in, FileFault, Full, Ghosts, HasChildren, History, IsObeyed, judge, NoAccount, NoSubmission, NotAuthor, NothingToDo, NotPending, Obeys, ObeysInTurn, OwnDecision, ParentMissing, RankTooLow, Refusal, Registry, Reply, RunReport, Runs, RunsInTurn, Shows, views_of}

-- one command more

pub answers_then : (cs : List Asked) (h : History) (c : Asked) → answers h (cs ++ c ∷ []) ≡ answers h cs ++ answer (judge (views_of (after_all h cs)) c) ∷ []
answers_then [] h c = refl
answers_then (x ∷ cs) h c = ap (λ rest. answer (judge (views_of h) x) ∷ rest) (answers_then cs (after h x) c)

pub answers_length : (cs : List Asked) (h : History) → length (answers h cs) ≡ length cs
answers_length [] h = refl
answers_length (c ∷ cs) h = ap suc (answers_length cs (after h c))

-- a place in the list

module _ {X : Type 0} (f : X → Asked) where
  placed : (cs : List X) (i : ℕ) (x : X) → i < length cs → get_or cs i x ≡ x → (take (suc i) (map f cs) ≡ take i (map f cs) ++ f x ∷ []) × (drop i (map f cs) ≡ f x ∷ drop (suc i) (map f cs)) × (length (take i (map f cs)) ≡ i)
  placed [] i x low is = absurd (omega (arith, low))
  placed (y ∷ cs) zero x low is = (ap (λ z. f z ∷ []) is, ap (λ z. f z ∷ map f cs) is, refl)
  placed (y ∷ cs) (suc i) x low is = let below = placed cs i x (omega (arith, low)) is in (ap (λ l. f y ∷ l) below.0, below.1, ap suc below.2)

  pub one_more : (cs : List X) (i : ℕ) (x : X) → i < length cs → get_or cs i x ≡ x → take (i + 1) (map f cs) ≡ take i (map f cs) ++ f x ∷ []
  one_more cs i x low is = ap (λ k. take k (map f cs)) (add-one i) ∙ (placed cs i x low is).0

  pub next_is : (cs : List X) (i : ℕ) (x : X) → i < length cs → get_or cs i x ≡ x → drop i (map f cs) ≡ f x ∷ drop (suc i) (map f cs)
  next_is cs i x low is = (placed cs i x low is).1

  pub none_next : (cs : List X) (i : ℕ) → length cs ≤ i → drop i (map f cs) ≡ []
  none_next [] zero past = refl
  none_next [] (suc i) past = refl
  none_next (y ∷ cs) zero past = absurd (omega (arith, past))
  none_next (y ∷ cs) (suc i) past = none_next cs i (omega (arith, past))

  pub so_many : (cs : List X) (i : ℕ) (x : X) (h : History) → i < length cs → get_or cs i x ≡ x → length (answers h (take i (map f cs))) ≡ i
  so_many cs i x h low is = answers_length (take i (map f cs)) h ∙ (placed cs i x low is).2

-- a push that failed had no room

pub no_room : {X E : Type 0} (r : Result X E) (Says : Type 0) → is_ok r ≡ false → IfErr r (λ _. Says) → Says
no_room (Ok x) Says bad full = absurd (let no : ⊥ = cc in no)
no_room (Err e) Says bad full = full

-- an answer is a fault

pub told_fault : (r : Result Reply Refusal) (e : Refusal) → fault_in r ≡ Some e → (r ≡ Err e) × IsMemoryOrStore e
told_fault (Err Memory) e is = let same : Memory ≡ e = cc in (ap Err same, inl (sym same))
told_fault (Err Store) e is = let same : Store ≡ e = cc in (ap Err same, inr (sym same))
told_fault (Ok reply) e is = absurd (let no : ⊥ = cc in no)
told_fault (Err BadPath) e is = absurd (let no : ⊥ = cc in no)
told_fault (Err BadName) e is = absurd (let no : ⊥ = cc in no)
told_fault (Err BadText) e is = absurd (let no : ⊥ = cc in no)
told_fault (Err NoAccount) e is = absurd (let no : ⊥ = cc in no)
told_fault (Err RankTooLow) e is = absurd (let no : ⊥ = cc in no)
told_fault (Err NoSubmission) e is = absurd (let no : ⊥ = cc in no)
told_fault (Err NotPending) e is = absurd (let no : ⊥ = cc in no)
told_fault (Err NotAuthor) e is = absurd (let no : ⊥ = cc in no)
told_fault (Err OwnDecision) e is = absurd (let no : ⊥ = cc in no)
told_fault (Err ParentMissing) e is = absurd (let no : ⊥ = cc in no)
told_fault (Err HasChildren) e is = absurd (let no : ⊥ = cc in no)
told_fault (Err NothingToDo) e is = absurd (let no : ⊥ = cc in no)
told_fault (Err (FileFault f)) e is = absurd (let no : ⊥ = cc in no)
told_fault (Err Full) e is = absurd (let no : ⊥ = cc in no)
told_fault (Err Failed) e is = absurd (let no : ⊥ = cc in no)
told_fault (Err Changed) e is = absurd (let no : ⊥ = cc in no)

pub some_not : {X : Type 0} (o : Option X) → is_some o ≡ true → o ≡ None → ⊥
some_not None some none = let no : ⊥ = cc in no
some_not (Some x) some none = let no : ⊥ = cc in no

pub none_of : {X : Type 0} (o : Option X) → is_some o ≡ false → o ≡ None
none_of None off = refl
none_of (Some x) off = absurd (let no : ⊥ = cc in no)

pub no_fault : (r : Result Reply Refusal) → fault_in r ≡ None → IsErrAnd r IsMemoryOrStore → ⊥
no_fault (Err e) is (inl memory) = let no : ⊥ = let bad : Some Memory ≡ None = subst (λ x. fault_in (Err x) ≡ None) memory is in cc in no
no_fault (Err e) is (inr store) = let no : ⊥ = let bad : Some Store ≡ None = subst (λ x. fault_in (Err x) ≡ None) store is in cc in no
no_fault (Ok reply) is bad = absurd bad

module _ {S : Type 0} (database : Ghosts S) where
  -- it goes on
  pub goes_on : (r : Result Reply Refusal) (new : Registry S database) (h : History) (c : Asked) → Obeys database r new h c → fault_in r ≡ None → (r ≡ answer (judge (views_of h) c)) × Shows database new (after h c)
  goes_on r new h c (inl told) none = told
  goes_on r new h c (inr fault) none = absurd (no_fault r none fault.0)

  -- it stops
  pub stops : (r : Result Reply Refusal) (e : Refusal) (new : Registry S database) (h : History) (c : Asked) (rest : List Asked) → Obeys database r new h c → fault_in r ≡ Some e → EndsRun database (Some e) (c ∷ rest) new h
  stops r e new h c rest (inl told) is =
      let fault = told_fault r e is in
      (fault.1, inl (subst (Shows database new) (refused_stays h c e (sym told.0 ∙ fault.0)) told.1))
  stops r e new h c rest (inr fault) is = ((told_fault r e is).1, fault.1)

  -- one command more was obeyed
  pub obeyed_more : (r : Result Reply Refusal) (old new : Registry S database) (h : History) (cs more : List Asked) (c : Asked) (replies : List (Result Reply Refusal))
      → more ≡ cs ++ c ∷ [] → (replies ≡ answers h cs) × Shows database old (after_all h cs) → (Shows database old (after_all h cs) → Obeys database r new (after_all h cs) c) → fault_in r ≡ None
      → (replies ++ r ∷ [] ≡ answers h more) × Shows database new (after_all h more)
  obeyed_more r old new h cs more c replies is so obeys none =
      let on = goes_on r new (after_all h cs) c (obeys so.1) none in (
        ap (λ l. l ++ r ∷ []) so.0 ∙ ap (λ x. answers h cs ++ x ∷ []) on.0 ∙ sym (answers_then cs h c) ∙ ap (answers h) (sym is),
        subst (Shows database new) (sym (after_more cs h (c ∷ [])) ∙ ap (after_all h) (sym is)) on.1,
      )

  -- the list ends at a fault
  by_fault : (r : Result Reply Refusal) (fault : Option Refusal) (new : Registry S database) (h : History) (c : Asked) (rest : List Asked) → Obeys database r new h c → fault ≡ fault_in r → is_some fault ≡ true → EndsRun database fault (c ∷ rest) new h
  by_fault r None new h c rest obeys same some = absurd (let no : ⊥ = cc in no)
  by_fault r (Some e) new h c rest obeys same some = stops r e new h c rest obeys (sym same)

  pub ends_at : (r : Result Reply Refusal) (report : RunReport) (old new : Registry S database) (h : History) (i : ℕ) (all rest : List Asked) (c : Asked)
      → drop i all ≡ c ∷ rest → length (answers h (take i all)) ≡ i → (report.replies.items ≡ answers h (take i all)) × Shows database old (after_all h (take i all))
      → (Shows database old (after_all h (take i all)) → Obeys database r new (after_all h (take i all)) c) → report.fault ≡ fault_in r → is_some report.fault ≡ true → Runs database report new h all
  ends_at r report old new h i all rest c is many so obeys same some =
      let count : length report.replies.items ≡ i = ap length so.0 ∙ many in
      record {
        replied = so.0 ∙ ap (λ n. answers h (take n all)) (sym count);
        ends = subst (λ n. EndsRun database report.fault (drop n all) new (after_all h (take n all))) (sym count)
            (subst (λ l. EndsRun database report.fault l new (after_all h (take i all))) (sym is) (by_fault r report.fault new (after_all h (take i all)) c rest (obeys so.1) same some));
      }

  -- all were obeyed
  pub runs_all : (report : RunReport) (r : Registry S database) (h : History) (i : ℕ) (all : List Asked) → drop i all ≡ [] → length report.replies.items ≡ i → report.fault ≡ None
      → (report.replies.items ≡ answers h (take i all)) × Shows database r (after_all h (take i all)) → Runs database report r h all
  runs_all report r h i all is count none so = record {
    replied = so.0 ∙ ap (λ n. answers h (take n all)) (sym count);
    ends = subst (λ n. EndsRun database report.fault (drop n all) r (after_all h (take n all))) (sym count)
        (subst (λ l. EndsRun database report.fault l r (after_all h (take i all))) (sym is) (subst (λ (f : Option Refusal). EndsRun database f [] r (after_all h (take i all))) (sym none) so.1));
  }

-- none was obeyed, for want of memory or of the store
module _ {S : Type 0} (database : Ghosts S) {X : Type 0} (f : X → Asked) where
  at_first : (r : Registry S database) (h : History) (cs : List X) (e : Refusal) → IsMemoryOrStore e → 0 < length cs → Shows database r h → EndsRun database (Some e) (map f cs) r h
  at_first r h [] e fault less shows = absurd (omega (arith, less))
  at_first r h (c ∷ cs) e fault less shows = (fault, inl shows)

  pub runs_none : (report : RunReport) (r : Registry S database) (h : History) (cs : List X) (e : Refusal) → report.replies.items ≡ [] → report.fault ≡ Some e → IsMemoryOrStore e → length report.replies.items < length cs → Shows database r h
      → Runs database report r h (map f cs)
  runs_none report r h cs e none is fault less shows =
      let count : length report.replies.items ≡ 0 = ap length none in
      record {
        replied = none ∙ ap (λ n. answers h (take n (map f cs))) (sym count);
        ends = subst (λ n. EndsRun database report.fault (drop n (map f cs)) r (after_all h (take n (map f cs)))) (sym count)
            (subst (λ (x : Option Refusal). EndsRun database x (map f cs) r h) (sym is) (at_first r h cs e fault (omega (arith, count, less)) shows));
      }

-- ---- one after another

at_place : {X : Type 0} (cs : List X) (i : ℕ) (x : X) → i < length cs → get_or cs i x ≡ x → (take (suc i) cs ≡ take i cs ++ x ∷ []) × (drop i cs ≡ x ∷ drop (suc i) cs)
at_place [] i x low is = absurd (omega (arith, low))
at_place (y ∷ cs) zero x low is = (ap (λ z. z ∷ []) is, ap (λ z. z ∷ cs) is)
at_place (y ∷ cs) (suc i) x low is = let below = at_place cs i x (omega (arith, low)) is in (ap (λ l. y ∷ l) below.0, below.1)

module _ {S : Type 0} (database : Ghosts S) where
  -- at the start
  pub turn_none : (rs : List (Result Reply Refusal)) (r : Registry S database) → rs ≡ [] → ObeysInTurn database [] rs r r
  turn_none rs r none = subst (λ (l : List (Result Reply Refusal)). ObeysInTurn database [] l r r) (sym none) refl

  turn_then : (cs : List Command) (rs : List (Result Reply Refusal)) (old mid new : Registry S database) (c : Command) (r : Result Reply Refusal) → ObeysInTurn database cs rs old mid → IsObeyed database mid new c r
      → ObeysInTurn database (cs ++ c ∷ []) (rs ++ r ∷ []) old new
  turn_then [] [] old mid new c r same one = (new, subst (λ (k : Registry S database). IsObeyed database k new c r) same one, refl)
  turn_then [] (s ∷ rs) old mid new c r turn one = absurd turn
  turn_then (x ∷ cs) [] old mid new c r turn one = absurd turn
  turn_then (x ∷ cs) (s ∷ rs) old mid new c r turn one = (turn.0, turn.1, turn_then cs rs turn.0 mid new c r turn.2 one)

  -- one command more
  pub turn_more : (cs : List Command) (i : ℕ) (rs : List (Result Reply Refusal)) (old mid new : Registry S database) (c : Command) (r : Result Reply Refusal) → i < length cs → get_or cs i c ≡ c → ObeysInTurn database (take i cs) rs old mid
      → IsObeyed database mid new c r → ObeysInTurn database (take (i + 1) cs) (rs ++ r ∷ []) old new
  turn_more cs i rs old mid new c r low is turn one =
      subst (λ (l : List Command). ObeysInTurn database l (rs ++ r ∷ []) old new) (sym (ap (λ k. take k cs) (add-one i) ∙ (at_place cs i c low is).0)) (turn_then (take i cs) rs old mid new c r turn one)

  stops_with : (fault : Option Refusal) (mid new : Registry S database) (c : Command) (rest : List Command) (r : Result Reply Refusal) → IsObeyed database mid new c r → fault ≡ fault_in r → is_some fault ≡ true → EndsTurn database fault (c ∷ rest) mid new
  stops_with None mid new c rest r one same some = absurd (let no : ⊥ = cc in no)
  stops_with (Some e) mid new c rest r one same some = inl (subst (λ (k : Result Reply Refusal). IsObeyed database mid new c k) (told_fault r e (sym same)).0 one)

  -- so many were obeyed, and it stops there
  in_turn : (report : RunReport) (cs : List Command) (i : ℕ) (old mid new : Registry S database) → length report.replies.items ≡ i → ObeysInTurn database (take i cs) report.replies.items old mid → EndsTurn database report.fault (drop i cs) mid new
      → RunsInTurn database old new cs report
  in_turn report cs i old mid new many turn stops = record {
    reached = mid;
    obeyed = subst (λ n. ObeysInTurn database (take n cs) report.replies.items old mid) (sym many) turn;
    stops = subst (λ n. EndsTurn database report.fault (drop n cs) mid new) (sym many) stops;
  }

  -- at the fault of the next command
  pub turn_stops : (report : RunReport) (cs : List Command) (i : ℕ) (old mid new : Registry S database) (c : Command) (r : Result Reply Refusal) → i < length cs → get_or cs i c ≡ c → length report.replies.items ≡ i
      → ObeysInTurn database (take i cs) report.replies.items old mid → IsObeyed database mid new c r → report.fault ≡ fault_in r → is_some report.fault ≡ true → RunsInTurn database old new cs report
  turn_stops report cs i old mid new c r low is many turn one same some =
      in_turn report cs i old mid new many turn
      (subst (λ (l : List Command). EndsTurn database report.fault l mid new) (sym (at_place cs i c low is).1) (stops_with report.fault mid new c (drop (suc i) cs) r one same some))

  -- at the end of the list
  pub turn_ends : (report : RunReport) (cs : List Command) (i : ℕ) (old new : Registry S database) → length report.replies.items ≡ i → ObeysInTurn database (take i cs) report.replies.items old new → report.fault ≡ None → RunsInTurn database old new cs report
  turn_ends report cs i old new many turn none =
      in_turn report cs i old new new many turn (subst (λ (f : Option Refusal). EndsTurn database f (drop i cs) new new) (sym none) refl)

  at_once : (cs : List Command) (r : Registry S database) → 0 < length cs → EndsTurn database (Some Memory) cs r r
  at_once [] r less = absurd (omega (arith, less))
  at_once (c ∷ cs) r less = inr (refl, refl)

  -- no memory for the replies
  pub turn_short : (report : RunReport) (cs : List Command) (r : Registry S database) → report.replies.items ≡ [] → report.fault ≡ Some Memory → length report.replies.items < length cs → RunsInTurn database r r cs report
  turn_short report cs r none is less =
      let many : length report.replies.items ≡ 0 = ap length none in
      in_turn report cs 0 r r r many (turn_none report.replies.items r none)
      (subst (λ (f : Option Refusal). EndsTurn database f cs r r) (sym is) (at_once cs r (omega (arith, many, less))))

use Rattle.std.proofs.Common.{◌≡◌, ℕ, ◌+◌, ◌<◌, ◌≤◌, List, [], ◌∷◌, Some, length, vec_capacity, vec_len, length-append, take, drop, map, suc, not, true, false, is_ok, is_some, inl, refl, rules, sym, ap, subst, ◌∙◌, arith}
use Rattle.pid_moderation.specs.declared.refusal.Refusal.TheVariants.{Memory}
use Rattle.std.specs.List.{AllByRecursion}
use Rattle.pid_service.proofs.Words.{after_all, Asked, asks, Failed, ObeysInTurn, ReplyIsNotFailed}
use Rattle.pid_service.proofs.Keeping.{true_not}
use Rattle.pid_service.proofs.Lasting.{given_live, on_after, some_fault}
use Rattle.pid_service.proofs.Runs.{ends_at, next_is, no_room, none_next, none_of, obeyed_more, one_more, runs_all, runs_none, so_many, some_not, turn_ends, turn_more, turn_none, turn_short, turn_stops}
use Rattle.pid_tables.proofs.OfRows.SetLemmas.{all_with}
use Rattle.pid_service.proofs.registry.Registry.run.Goals as goal

-- ---- a registry that has failed

pub returns-then-not-self : goal.returns-then-not-self
returns-then-not-self g c =
    let none : c.new.result.items ≡ [] = search rules in
    record {
      failed = λ still. (none, refl, refl);
      clean = λ clean. clean;
      fault = record { alive = λ on. true_not c.args.self.now.live on c.if-not-self.true; failed = λ still. refl };
      complete = λ is. absurd (some_not (Some Failed) refl is);
      cut = λ on. true_not c.args.self.now.live on c.if-not-self.true;
      most = let few : length c.new.result.items ≡ 0 = ap length none in omega (arith, few);
      ran = λ clean h shows. true_not c.args.self.now.live shows.lives c.if-not-self.true;
      in_turn = λ on. true_not c.args.self.now.live on c.if-not-self.true;
      stays = λ on. true_not c.args.self.now.live on c.if-not-self.true;
      fails = λ on. true_not c.args.self.now.live on c.if-not-self.true;
      alive = λ on. true_not c.args.self.now.live on c.if-not-self.true;
      limit = refl;
    }

-- ---- no memory for the replies

pub returns-in_default : goal.returns-in_default
returns-in_default g c =
    let none : c.new-in_default.result.items ≡ [] = search rules in
    let less : length c.new-in_default.result.items < length c.args.commands.now = search rules in
    record {
      failed = true_not c.args.self.now.live c.if-not-self.false;
      clean = λ clean. clean;
      fault = record { alive = λ on. inl refl; failed = true_not c.args.self.now.live c.if-not-self.false };
      complete = λ is. absurd (some_not (Some Memory) refl is);
      cut = λ on some. less;
      most = omega (arith, less);
      ran = λ clean h shows. runs_none g.C.Database asks _ _ h c.args.commands.now Memory none refl (inl refl) less shows;
      in_turn = λ on. turn_short g.C.Database _ c.args.commands.now c.args.self.now none refl less;
      stays = λ on fine. on;
      fails = λ on off. inl refl;
      alive = λ on. subst (AllByRecursion ReplyIsNotFailed) (sym none) tt;
      limit = refl;
    }

-- ---- there is room for each reply

pub returns-then-is_err : goal.returns-then-is_err
returns-then-is_err g c =
    let bad : is_ok c.push.result ≡ false = c.is_err.ensures.negation ∙ ap not c.if-is_err.true in
    let full : vec_capacity c.loop-command.replies ≤ vec_len c.loop-command.replies = no_room c.push.result _ bad c.push.ensures.full in
    absurd (omega (arith, full, c.loop-command.invariant.0, c.loop-command.invariant.2, c.loop-command-test.true))

pub loop-command-init : goal.loop-command-init
loop-command-init g c =
    let none : c.in-Ok.replies.items ≡ [] = search rules in
    let len : vec_len c.in-Ok.replies ≡ 0 = search rules in
    let room : length c.args.commands.now ≤ vec_capacity c.in-Ok.replies = search rules in (
      len,
      ap length none,
      room,
      λ clean. clean,
      λ clean h shows. (none, shows),
      λ on. on,
      λ on. subst (AllByRecursion ReplyIsNotFailed) (sym none) tt,
      refl,
      turn_none g.C.Database _ _ none,
    )

pub loop-command-preserved : goal.loop-command-preserved
loop-command-preserved g c =
    let i : ℕ = c.loop-command.command-index in
    let all : List Asked = map asks c.args.commands.now in
    let good : is_ok c.push.result ≡ true = c.is_err.ensures.negation ∙ ap not c.if-is_err.false in
    let none = sym c.fault_of-fault.ensures.told ∙ none_of c.fault_of-fault.result (sym c.is_some.ensures ∙ c.if-is_some.false) in (
      rw good at c.push.ensures.len ∙ ap (λ n. n + 1) c.loop-command.invariant.0,
      ap length (rw good at c.push.ensures.items) ∙ length-append c.loop-command.replies.items (c.obey_lent-outcome.result ∷ []) ∙ ap (λ n. n + 1) c.loop-command.invariant.1,
      omega (arith, c.loop-command.invariant.2, c.push.ensures.capacity),
      λ clean. c.loop-command.invariant.3 (c.obey_lent-outcome.ensures.clean clean),
      λ clean h shows.
          let more = obeyed_more g.C.Database c.obey_lent-outcome.result c.loop-command.self c.obey_lent-outcome.new.self h (take i all) (take (i + 1) all) (asks c.command-item.result) c.loop-command.replies.items
          (one_more asks c.args.commands.now i c.command-item.result (omega (arith, c.loop-command-test.true)) (sym c.command-item.is))
          (c.loop-command.invariant.4 (c.obey_lent-outcome.ensures.clean clean) h shows)
          (λ so. c.obey_lent-outcome.ensures.obeyed clean (after_all h (take i all)) so)
          none in
          (rw good at c.push.ensures.items ∙ more.0, more.1),
      λ on. on_after c.obey_lent-outcome.result c.obey_lent-outcome.new.self.live none (λ off. c.obey_lent-outcome.ensures.lasts.fails (c.loop-command.invariant.5 on) off),
      λ on.
          subst (AllByRecursion ReplyIsNotFailed) (sym (rw good at c.push.ensures.items))
          (all_with ReplyIsNotFailed c.loop-command.replies.items c.obey_lent-outcome.result (c.loop-command.invariant.6 on) (c.obey_lent-outcome.ensures.lasts.alive (c.loop-command.invariant.5 on))),
      c.obey_lent-outcome.ensures.lasts.limit ∙ c.loop-command.invariant.7,
      subst (λ l. ObeysInTurn g.C.Database (take (i + 1) c.args.commands.now) l c.args.self.now c.obey_lent-outcome.new.self) (sym (rw good at c.push.ensures.items))
          (turn_more g.C.Database c.args.commands.now i c.loop-command.replies.items c.args.self.now c.loop-command.self c.obey_lent-outcome.new.self c.command-item.result c.obey_lent-outcome.result
          (omega (arith, c.loop-command-test.true)) (sym c.command-item.is) c.loop-command.invariant.8 c.obey_lent-outcome.ensures),
    )

-- ---- at the fault of a command

pub returns-then-is_some : goal.returns-then-is_some
returns-then-is_some g c =
    let i : ℕ = c.loop-command.command-index in
    let all : List Asked = map asks c.args.commands.now in
    let does = c.obey_lent-outcome.ensures in
    let some : is_some c.fault_of-fault.result ≡ true = sym c.is_some.ensures ∙ c.if-is_some.true in
    record {
      failed = true_not c.args.self.now.live c.if-not-self.false;
      clean = λ clean. c.loop-command.invariant.3 (does.clean clean);
      fault = given_live c.fault_of-fault.result c.args.self.now.live c.if-not-self.false c.fault_of-fault.ensures.fault;
      complete = λ none. absurd (some_not c.fault_of-fault.result some none);
      cut = λ on is. omega (arith, c.loop-command.invariant.1, c.loop-command-test.true);
      most = omega (arith, c.loop-command.invariant.1, c.loop-command-test.true);
      ran = λ clean h shows.
          ends_at g.C.Database c.obey_lent-outcome.result _ c.loop-command.self c.obey_lent-outcome.new.self h i all (drop (suc i) all) (asks c.command-item.result)
          (next_is asks c.args.commands.now i c.command-item.result (omega (arith, c.loop-command-test.true)) (sym c.command-item.is))
          (so_many asks c.args.commands.now i c.command-item.result h (omega (arith, c.loop-command-test.true)) (sym c.command-item.is))
          (c.loop-command.invariant.4 (does.clean clean) h shows)
          (λ so. does.obeyed clean (after_all h (take i all)) so)
          c.fault_of-fault.ensures.told
          some;
      in_turn = λ on.
          turn_stops g.C.Database _ c.args.commands.now i c.args.self.now c.loop-command.self c.obey_lent-outcome.new.self c.command-item.result c.obey_lent-outcome.result
          (omega (arith, c.loop-command-test.true)) (sym c.command-item.is) c.loop-command.invariant.1 c.loop-command.invariant.8 does c.fault_of-fault.ensures.told some;
      stays = λ on none. absurd (some_not c.fault_of-fault.result some none);
      fails = λ on off. some_fault c.fault_of-fault.result some c.fault_of-fault.ensures.fault;
      alive = c.loop-command.invariant.6;
      limit = does.lasts.limit ∙ c.loop-command.invariant.7;
    }

-- ---- all were obeyed

pub returns : goal.returns
returns g c =
    let end = none_next asks c.args.commands.now c.loop-command.command-index c.loop-command-test.false in
    record {
      failed = true_not c.args.self.now.live c.if-not-self.false;
      clean = c.loop-command.invariant.3;
      fault = tt;
      complete = λ none. omega arith;
      cut = λ on some. absurd (let no : ⊥ = cc in no);
      most = omega arith;
      ran = λ clean h shows. runs_all g.C.Database _ c.loop-command.self h c.loop-command.command-index (map asks c.args.commands.now) end c.loop-command.invariant.1 refl (c.loop-command.invariant.4 clean h shows);
      in_turn = λ on. turn_ends g.C.Database _ c.args.commands.now c.loop-command.command-index c.args.self.now c.loop-command.self c.loop-command.invariant.1 c.loop-command.invariant.8 refl;
      stays = λ on none. c.loop-command.invariant.5 on;
      fails = λ on. true_not c.loop-command.self.live (c.loop-command.invariant.5 on);
      alive = c.loop-command.invariant.6;
      limit = c.loop-command.invariant.7;
    }

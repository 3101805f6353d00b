use Rattle.std.proofs.Common.{inl}
use Rattle.pid_tables.proofs.OfRows.LeaveLemmas.{rests_in_two}
use Rattle.pid_tables.proofs.OfRows.OnlyReading.{reads_then}
use Rattle.pid_tables.proofs.StandLemmas.{outside}
use Rattle.pid_service.proofs.Words.{Explains, IsNotNewerSchema, seen, views_of}
use Rattle.pid_service.proofs.Opened.{back_after, brought_reads, committed_then_reads, explained_now, explains_now, judged_now, judged_ready, kept_ok, made_then_reads, moved_then_reads, once_then_reads, refused_reads, step_shown, step_rests, still_views, told_then}
use Rattle.pid_service.proofs.Reached.{reached_sound}
use Rattle.pid_service.proofs.opening.make_ready.Goals as goal

-- ---- a migration that failed

pub returns-in-Err : goal.returns-in-Err
returns-in-Err g c = record {
  at_once = record {
    settled = c.migrate.ensures.at_once.settled;
    clean = c.migrate.ensures.at_once.clean;
    once = c.migrate.ensures.at_once.once;
    back = inl c.in-Err.ensures.at_once.back;
    made = c.migrate.ensures.none.made;
    done = λ clean none. tt;
    moved = c.migrate.ensures.judged.moved;
    raised = λ clean some. tt;
  };
  ready = λ clean h reached shown.
      let old = g.C.Database.state c.args.tables.now.conn in
      let sound = reached_sound h reached in
      step_shown old (g.C.Database.state c.migrate.new.self.conn) h c.in-Err.fault shown
      (record {
        created = λ bare. c.in-Err.ensures.shown.created clean bare;
        moved = λ older. c.in-Err.ensures.shown.moved clean h sound older;
        already = λ rest. let so = c.in-Err.ensures.shown.already clean (views_of h) (rests_in_two old (views_of h) rest) in (so.0, so.1.kept (views_of h) rest);
      });
  kept = record { judged = λ clean. tt; kept = λ clean. tt };
  explains = record {
    told = λ clean some. inl (c.in-Err.ensures.judged.found clean some);
    only_read = λ clean some none. refused_reads (g.C.Database.state c.args.tables.now.conn) (g.C.Database.state c.migrate.new.self.conn) c.in-Err.fault (c.in-Err.ensures.judged.found clean some) none;
    explained = λ clean v rest. inl (c.in-Err.ensures.shown.told clean v rest);
    bare = λ clean none. inl (c.in-Err.ensures.none.bare clean none);
    met = λ clean none met. c.in-Err.ensures.none.met clean none met;
    shut = λ clean closed. c.in-Err.ensures.none.shut clean closed;
  };
}

-- ---- one after which the tables were judged

pub returns-in-Ok : goal.returns-in-Ok
returns-in-Ok g c = record {
  at_once =
      let old = g.C.Database.state c.args.tables.now.conn in
      let mid = g.C.Database.state c.migrate.new.self.conn in
      let new = g.C.Database.state c.judge_tables.new.tables.conn in
      record {
        settled = c.judge_tables.ensures.rests.settled;
        clean = λ clean. c.migrate.ensures.at_once.clean (c.judge_tables.ensures.rests.clean clean);
        once = once_then_reads old mid new c.in-Ok.ensures.at_once.once c.judge_tables.ensures.rests;
        back = back_after g.C.Database c.args.tables.now.conn c.migrate.new.self.conn c.judge_tables.new.tables.conn c.judge_tables.ensures.rests (λ clean version v rest. c.in-Ok.ensures.shown.kept clean version v rest) c.in-Ok.field-0 c.judge_tables.result
            c.in-Ok.ensures.judged.only_read c.in-Ok.ensures.judged.found (λ clean. explains_now mid new c.judge_tables.result c.judge_tables.ensures.same (c.judge_tables.ensures.told clean));
        made = λ none. made_then_reads _ old mid new (c.migrate.ensures.none.made none) c.judge_tables.ensures.rests;
        done = λ clean none.
            committed_then_reads g.C.Database _ c.migrate.new.self.conn c.judge_tables.new.tables.conn c.judge_tables.result (c.in-Ok.ensures.none.done (c.judge_tables.ensures.rests.clean clean) none)
            c.judge_tables.ensures.rests c.judge_tables.ensures.same clean;
        moved = λ some. made_then_reads _ old mid new (c.migrate.ensures.judged.moved some) c.judge_tables.ensures.rests;
        raised = λ clean some.
            let first = c.judge_tables.ensures.rests.clean clean in
            moved_then_reads g.C.Database _ c.args.tables.now.conn c.migrate.new.self.conn c.judge_tables.new.tables.conn c.judge_tables.result c.in-Ok.field-0 (c.in-Ok.ensures.judged.found first some) (c.in-Ok.ensures.judged.done first)
            c.judge_tables.ensures.rests c.judge_tables.ensures.same clean;
      };
  ready = λ clean h reached shown.
      let old = g.C.Database.state c.args.tables.now.conn in
      let sound = reached_sound h reached in
      let mid = c.judge_tables.ensures.rests.clean clean in
      let rest = step_rests old (g.C.Database.state c.migrate.new.self.conn) h c.in-Ok.field-0 shown
      (record {
        created = λ bare. c.in-Ok.ensures.shown.created mid bare;
        moved = λ older. c.in-Ok.ensures.shown.moved mid h sound older;
        already = λ rest. let so = c.in-Ok.ensures.shown.already mid (views_of h) (rests_in_two old (views_of h) rest) in (so.0, so.1.kept (views_of h) rest);
      }) in
      judged_ready (g.C.Database.state c.migrate.new.self.conn) (g.C.Database.state c.judge_tables.new.tables.conn) h c.judge_tables.result c.judge_tables.ensures.rests rest (c.judge_tables.ensures.good clean h reached rest);
  kept = record {
    judged = λ clean. judged_now (g.C.Database.state c.migrate.new.self.conn) (g.C.Database.state c.judge_tables.new.tables.conn) c.judge_tables.result c.judge_tables.ensures.same (c.judge_tables.ensures.told clean);
    kept = λ clean. kept_ok c.judge_tables.result (still_views g.C.Database c.args.tables.now.conn c.migrate.new.self.conn c.judge_tables.new.tables.conn c.judge_tables.ensures.rests
        (λ version v rest. c.in-Ok.ensures.shown.kept (c.judge_tables.ensures.rests.clean clean) version v rest));
  };
  explains =
      let old = g.C.Database.state c.args.tables.now.conn in
      let mid = g.C.Database.state c.migrate.new.self.conn in
      let new = g.C.Database.state c.judge_tables.new.tables.conn in
      record {
        told = λ clean some.
            told_then old mid new c.judge_tables.result c.in-Ok.field-0 (c.is_autocommit-outside.ensures.settled (outside _ _ c.args.tables.now.settled c.is_autocommit-outside.ensures.value)) c.judge_tables.ensures.rests c.judge_tables.ensures.same
            (c.judge_tables.ensures.shut clean) (c.judge_tables.ensures.told clean) (c.in-Ok.ensures.judged.found (c.judge_tables.ensures.rests.clean clean) some);
        only_read = λ clean some none. reads_then old mid new (brought_reads old mid c.in-Ok.field-0 (c.in-Ok.ensures.judged.found (c.judge_tables.ensures.rests.clean clean) some) none) c.judge_tables.ensures.rests;
        explained = λ clean v rest. explained_now (Explains (seen g.C.Database.state c.args.tables.now.conn)) mid new c.judge_tables.result c.judge_tables.ensures.same (c.judge_tables.ensures.told clean);
        bare = λ clean none. explained_now IsNotNewerSchema mid new c.judge_tables.result c.judge_tables.ensures.same (c.judge_tables.ensures.told clean);
        met = λ clean none met. absurd (c.in-Ok.ensures.none.met (c.judge_tables.ensures.rests.clean clean) none met);
        shut = λ clean closed. absurd (c.in-Ok.ensures.none.shut (c.judge_tables.ensures.rests.clean clean) closed);
      };
}

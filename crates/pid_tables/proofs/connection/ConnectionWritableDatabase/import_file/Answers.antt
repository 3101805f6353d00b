use Rattle.std.proofs.Common.{◌≡◌, false, Ok, Err, refl, subst, sym, ap, ◌∙◌}
use Rattle.sqlite.specs.Held.{state}
use Rattle.sqlite.specs.State.{HasCleanDisk}
use Rattle.pid_moderation.specs.History.{asked}
use Rattle.pid_moderation.specs.Judgement.{after as after_of}
use Rattle.pid_moderation.specs.Views.{views_of}
use Rattle.pid_tables.specs.Rows.Leaves.{AtRest, LeavesEither}
use Rattle.pid_tables.specs.Rows.Shows.{counts_of}
use Rattle.pid_tables.proofs.OfRows.GoingLemmas.{earlier}
use Rattle.pid_moderation.specs.Files.{file_reading}
use Rattle.pid_tables.specs.Steps.PutFiles.{PutsFile}
use Rattle.sqlite.specs.declared.transaction.Transaction.{Transaction}
use Rattle.sqlite_trees.specs.declared.store.Store.{Ghosts}
use Rattle.pid_tables.specs.Rows.Steps.Batches.{Batches}
use Rattle.pid_tables.proofs.PutInto.{puts, gives_up, shown, put_name, put_clean, put_limit, put_holds, put_within, put_tally}
use Rattle.pid_tables.proofs.BringIn.{next_of, ok_apart, failed_apart, left_read, left_stops, stop_live, body_end, end_body, applied_stops, applied_read, err_is, end_is}
use Rattle.pid_tables.proofs.connection.ConnectionWritableDatabase.import_file.Given.{Over}
use Rattle.pid_tables.proofs.connection.ConnectionWritableDatabase.import_file.Goals as goal

abbrev within : {S : Type 0} → Ghosts S → Batches (Transaction S)
within store = record { state = λ t. state store t.conn.now; reference = λ t. t.conn.ghost_name }

-- ---- the connection is what the transaction leaves, which is rolled back or committed

same_unput : (g : Over) (c : goal.After-stop_of g) → c.roll_back.new.batch.0 ≡ c.self-1.given.0
same_unput g c =
    let read = c.put_file.ensures.puts in
    let name : c.put_file.new.batch.conn.ghost_name ≡ c.begin-batch.result.conn.ghost_name = put_name (within g.S.Store) c.saturating_add-revision.result c.put_file.result _ read.0 c.begin-batch.result c.put_file.new.batch read.2 in
    sym (c.self-1.given.1 (sym (name ∙ c.begin-batch.ensures.same_reference)))

same_unapplied : (g : Over) (c : goal.After-self-in-Err-apply_file-1 g) → c.roll_back-in-Err-apply_file.new.batch.0 ≡ c.self-in-Err-apply_file-1.given.0
same_unapplied g c =
    let read = c.put_file.ensures.puts in
    let name : c.put_file.new.batch.conn.ghost_name ≡ c.begin-batch.result.conn.ghost_name = put_name (within g.S.Store) c.saturating_add-revision.result c.put_file.result _ read.0 c.begin-batch.result c.put_file.new.batch read.2 in
    sym (c.self-in-Err-apply_file-1.given.1 (sym (c.apply_file.ensures.same_reference ∙ (name ∙ c.begin-batch.ensures.same_reference))))

same_kept : (g : Over) (c : goal.In-Ok-commit g) → c.commit.new.batch.0 ≡ c.self-in-Ok-apply_file-1.given.0
same_kept g c =
    let read = c.put_file.ensures.puts in
    let name : c.put_file.new.batch.conn.ghost_name ≡ c.begin-batch.result.conn.ghost_name = put_name (within g.S.Store) c.saturating_add-revision.result c.put_file.result _ read.0 c.begin-batch.result c.put_file.new.batch read.2 in
    sym (c.self-in-Ok-apply_file-1.given.1 (sym (c.apply_file.ensures.same_reference ∙ (name ∙ c.begin-batch.ensures.same_reference))))

same_unkept : (g : Over) (c : goal.After-refusal_of g) → c.commit.new.batch.0 ≡ c.self-in-Ok-apply_file-1.given.0
same_unkept g c =
    let read = c.put_file.ensures.puts in
    let name : c.put_file.new.batch.conn.ghost_name ≡ c.begin-batch.result.conn.ghost_name = put_name (within g.S.Store) c.saturating_add-revision.result c.put_file.result _ read.0 c.begin-batch.result c.put_file.new.batch read.2 in
    sym (c.self-in-Ok-apply_file-1.given.1 (sym (c.apply_file.ensures.same_reference ∙ (name ∙ c.begin-batch.ensures.same_reference))))

-- ---- the file was not put, the import was not applied, or it was committed

pub returns-in-Err-clause-ends : goal.returns-in-Err-clause-ends
returns-in-Err-clause-ends g c =
    let n = c.saturating_add-revision.result in
    let start = c.begin-batch.result in
    let end = c.put_file.new.batch in
    let read = c.put_file.ensures.puts in
    let same = same_unput g c in
    let began : HasCleanDisk (shown (within g.S.Store) end) → HasCleanDisk (state g.S.Store c.args.self.now) = λ clean. subst (λ h. HasCleanDisk (state g.S.Store h)) c.begin-batch.ensures.unchanged (put_clean (within g.S.Store) n c.put_file.result _ read.0 start end read.2 clean) in
    let begun : start.conn.now.step_limit ≡ c.args.self.now.step_limit = subst (λ h. h.step_limit ≡ c.args.self.now.step_limit) (sym c.begin-batch.ensures.unchanged) refl in
    let put : end.conn.now.step_limit ≡ start.conn.now.step_limit = put_limit (within g.S.Store) n c.put_file.result _ read.0 start end read.2 in
    record {
      settled = subst (λ h. h.in_transaction ≡ false) same c.roll_back.ensures.ended;
      clean = λ clean. began (earlier (shown (within g.S.Store) end) (state g.S.Store c.roll_back.new.batch.0) c.roll_back.ensures.survives (subst (λ h. HasCleanDisk (state g.S.Store h)) (sym same) clean));
      limit = subst (λ h. h.step_limit ≡ c.args.self.now.step_limit) same (c.roll_back.ensures.survives.limit ∙ put ∙ begun);
    }

pub returns-in-Err-clause-stops : goal.returns-in-Err-clause-stops
returns-in-Err-clause-stops g c =
    let n = c.saturating_add-revision.result in
    let start = c.begin-batch.result in
    let end = c.put_file.new.batch in
    let read = c.put_file.ensures.puts in
    let same = same_unput g c in
    let put : PutsFile (puts (within g.S.Store) n) (gives_up (within g.S.Store)) (Err c.in-Err.end) (g.I.Input.to_come c.put_file.new.input) read.0 start end = subst (λ r. PutsFile (puts (within g.S.Store) n) (gives_up (within g.S.Store)) r (g.I.Input.to_come c.put_file.new.input) read.0 start end) c.in-Err.is read.2 in (
      read.0,
      read.1,
      left_read (puts (within g.S.Store) n) (gives_up (within g.S.Store)) _ read.0 start end c.in-Err.end c.stop_of.result c.stop_of.ensures put,
      λ clean h rest marked import open_ many.
          let v = views_of h in
          let back : AtRest (state g.S.Store c.roll_back.new.batch.0) v = c.roll_back.ensures.given_back v (put_holds (within g.S.Store) n c.put_file.result _ read.0 start end read.2 (counts_of v) v v (c.begin-batch.ensures.begun v rest)) in
          left_stops (puts (within g.S.Store) n) (gives_up (within g.S.Store)) _ read.0 start end c.in-Err.end c.stop_of.result _ h c.args.command.now c.args.facts.now c.stop_of.ensures put import open_ (subst (λ x. AtRest (state g.S.Store x) v) same back),
    )

pub returns-in-Err-clause-read_fault : goal.returns-in-Err-clause-read_fault
returns-in-Err-clause-read_fault g c = record {
  told = λ is. c.put_file.ensures.fault (c.in-Err.is ∙ ap (λ e. Err e) (body_end c.in-Err.end c.stop_of.result c.stop_of.ensures (err_is _ _ is)));
  first = λ fault.
      let failed = sym c.in-Err.is ∙ c.put_file.ensures.fault_first fault in
      ap (λ e. Err e) (end_body c.in-Err.end c.stop_of.result c.stop_of.ensures (end_is _ _ failed));
}

pub returns-in-Err-apply_file-clause-ends : goal.returns-in-Err-apply_file-clause-ends
returns-in-Err-apply_file-clause-ends g c =
    let n = c.saturating_add-revision.result in
    let start = c.begin-batch.result in
    let end = c.put_file.new.batch in
    let read = c.put_file.ensures.puts in
    let after = c.apply_file.new.batch in
    let same = same_unapplied g c in
    let began : HasCleanDisk (shown (within g.S.Store) end) → HasCleanDisk (state g.S.Store c.args.self.now) = λ clean. subst (λ h. HasCleanDisk (state g.S.Store h)) c.begin-batch.ensures.unchanged (put_clean (within g.S.Store) n c.put_file.result _ read.0 start end read.2 clean) in
    let begun : start.conn.now.step_limit ≡ c.args.self.now.step_limit = subst (λ h. h.step_limit ≡ c.args.self.now.step_limit) (sym c.begin-batch.ensures.unchanged) refl in
    let put : end.conn.now.step_limit ≡ start.conn.now.step_limit = put_limit (within g.S.Store) n c.put_file.result _ read.0 start end read.2 in
    record {
      settled = subst (λ h. h.in_transaction ≡ false) same c.roll_back-in-Err-apply_file.ensures.ended;
      clean = λ clean. began (c.apply_file.ensures.clean (earlier (shown (within g.S.Store) after) (state g.S.Store c.roll_back-in-Err-apply_file.new.batch.0) c.roll_back-in-Err-apply_file.ensures.survives (subst (λ h. HasCleanDisk (state g.S.Store h)) (sym same) clean)));
      limit = subst (λ h. h.step_limit ≡ c.args.self.now.step_limit) same (c.roll_back-in-Err-apply_file.ensures.survives.limit ∙ c.apply_file.ensures.limit ∙ put ∙ begun);
    }

pub returns-in-Err-apply_file-clause-stops : goal.returns-in-Err-apply_file-clause-stops
returns-in-Err-apply_file-clause-stops g c =
    let n = c.saturating_add-revision.result in
    let start = c.begin-batch.result in
    let end = c.put_file.new.batch in
    let read = c.put_file.ensures.puts in
    let after = c.apply_file.new.batch in
    let same = same_unapplied g c in
    let put : PutsFile (puts (within g.S.Store) n) (gives_up (within g.S.Store)) (Ok c.in-Ok.tally) (g.I.Input.to_come c.put_file.new.input) read.0 start end = subst (λ r. PutsFile (puts (within g.S.Store) n) (gives_up (within g.S.Store)) r (g.I.Input.to_come c.put_file.new.input) read.0 start end) c.in-Ok.is read.2 in (
      read.0,
      read.1,
      applied_read c.in-Err-apply_file.stop _ read.0 put.ends.0,
      λ clean h rest marked import open_ many.
          let v = views_of h in
          let w = views_of (after_of h (asked c.args.command.now (file_reading read.0))) in
          let begun = put_within (within g.S.Store) n c.in-Ok.tally _ read.0 start end put v (c.begin-batch.ensures.begun v rest) in
          let clean_end : HasCleanDisk (shown (within g.S.Store) end) = c.apply_file.ensures.clean (earlier (shown (within g.S.Store) after) (state g.S.Store c.roll_back-in-Err-apply_file.new.batch.0) c.roll_back-in-Err-apply_file.ensures.survives (subst (λ h. HasCleanDisk (state g.S.Store h)) (sym same) clean)) in
          let counted = put_tally (within g.S.Store) n c.in-Ok.tally _ read.0 start end put v (c.begin-batch.ensures.begun v rest) clean_end in
          let applied = c.in-Err-apply_file.ensures.applied h read.0 n marked import open_ many (record { short = put.ends.0.short; good = put.ends.1; tally = counted }) (next_of _ _ c.saturating_add-revision.ensures) begun in
          let back : AtRest (state g.S.Store c.roll_back-in-Err-apply_file.new.batch.0) v = c.roll_back-in-Err-apply_file.ensures.given_back v (c.apply_file.ensures.holds (counts_of v) v _ begun) in
          applied_stops c.in-Err-apply_file.stop _ (shown (within g.S.Store) after) h _ applied (subst (λ x. AtRest (state g.S.Store x) v) same back),
    )

pub returns-in-Err-apply_file-clause-read_fault : goal.returns-in-Err-apply_file-clause-read_fault
returns-in-Err-apply_file-clause-read_fault g c = record {
  told = λ is. absurd (c.in-Err-apply_file.ensures.reads (err_is _ _ is));
  first = λ fault. absurd (ok_apart _ _ (sym c.in-Ok.is ∙ c.put_file.ensures.fault_first fault));
}

pub returns-in-Ok-commit-clause-ends : goal.returns-in-Ok-commit-clause-ends
returns-in-Ok-commit-clause-ends g c =
    let n = c.saturating_add-revision.result in
    let start = c.begin-batch.result in
    let end = c.put_file.new.batch in
    let read = c.put_file.ensures.puts in
    let after = c.apply_file.new.batch in
    let same = same_kept g c in
    let began : HasCleanDisk (shown (within g.S.Store) end) → HasCleanDisk (state g.S.Store c.args.self.now) = λ clean. subst (λ h. HasCleanDisk (state g.S.Store h)) c.begin-batch.ensures.unchanged (put_clean (within g.S.Store) n c.put_file.result _ read.0 start end read.2 clean) in
    let begun : start.conn.now.step_limit ≡ c.args.self.now.step_limit = subst (λ h. h.step_limit ≡ c.args.self.now.step_limit) (sym c.begin-batch.ensures.unchanged) refl in
    let put : end.conn.now.step_limit ≡ start.conn.now.step_limit = put_limit (within g.S.Store) n c.put_file.result _ read.0 start end read.2 in
    record {
      settled = subst (λ h. h.in_transaction ≡ false) same c.commit.ensures.ended;
      clean = λ clean. began (c.apply_file.ensures.clean (earlier (shown (within g.S.Store) after) (state g.S.Store c.commit.new.batch.0) c.commit.ensures.survives (subst (λ h. HasCleanDisk (state g.S.Store h)) (sym same) clean)));
      limit = subst (λ h. h.step_limit ≡ c.args.self.now.step_limit) same (c.commit.ensures.survives.limit ∙ c.apply_file.ensures.limit ∙ put ∙ begun);
    }

pub returns-in-Ok-commit-clause-stops : goal.returns-in-Ok-commit-clause-stops
returns-in-Ok-commit-clause-stops g c =
    let n = c.saturating_add-revision.result in
    let start = c.begin-batch.result in
    let end = c.put_file.new.batch in
    let read = c.put_file.ensures.puts in
    let after = c.apply_file.new.batch in
    let same = same_kept g c in
    let put : PutsFile (puts (within g.S.Store) n) (gives_up (within g.S.Store)) (Ok c.in-Ok.tally) (g.I.Input.to_come c.put_file.new.input) read.0 start end = subst (λ r. PutsFile (puts (within g.S.Store) n) (gives_up (within g.S.Store)) r (g.I.Input.to_come c.put_file.new.input) read.0 start end) c.in-Ok.is read.2 in (
      read.0,
      read.1,
      put.ends.0,
      λ clean h rest marked import open_ many.
          let v = views_of h in
          let w = views_of (after_of h (asked c.args.command.now (file_reading read.0))) in
          let begun = put_within (within g.S.Store) n c.in-Ok.tally _ read.0 start end put v (c.begin-batch.ensures.begun v rest) in
          let clean_end : HasCleanDisk (shown (within g.S.Store) end) = c.apply_file.ensures.clean (earlier (shown (within g.S.Store) after) (state g.S.Store c.commit.new.batch.0) c.commit.ensures.survives (subst (λ h. HasCleanDisk (state g.S.Store h)) (sym same) clean)) in
          let counted = put_tally (within g.S.Store) n c.in-Ok.tally _ read.0 start end put v (c.begin-batch.ensures.begun v rest) clean_end in
          let applied = c.in-Ok-apply_file.ensures.applied h read.0 n marked import open_ many (record { short = put.ends.0.short; good = put.ends.1; tally = counted }) (next_of _ _ c.saturating_add-revision.ensures) begun in
          (applied.0, subst (λ x. AtRest (state g.S.Store x) w) same (c.in-Ok-commit.ensures.stands w (λ clean. (applied.1.opened clean, applied.1.within.shows (applied.1.opened clean))))),
    )

pub returns-in-Err-commit-clause-ends : goal.returns-in-Err-commit-clause-ends
returns-in-Err-commit-clause-ends g c =
    let n = c.saturating_add-revision.result in
    let start = c.begin-batch.result in
    let end = c.put_file.new.batch in
    let read = c.put_file.ensures.puts in
    let after = c.apply_file.new.batch in
    let same = same_unkept g c in
    let began : HasCleanDisk (shown (within g.S.Store) end) → HasCleanDisk (state g.S.Store c.args.self.now) = λ clean. subst (λ h. HasCleanDisk (state g.S.Store h)) c.begin-batch.ensures.unchanged (put_clean (within g.S.Store) n c.put_file.result _ read.0 start end read.2 clean) in
    let begun : start.conn.now.step_limit ≡ c.args.self.now.step_limit = subst (λ h. h.step_limit ≡ c.args.self.now.step_limit) (sym c.begin-batch.ensures.unchanged) refl in
    let put : end.conn.now.step_limit ≡ start.conn.now.step_limit = put_limit (within g.S.Store) n c.put_file.result _ read.0 start end read.2 in
    record {
      settled = subst (λ h. h.in_transaction ≡ false) same c.commit.ensures.ended;
      clean = λ clean. began (c.apply_file.ensures.clean (earlier (shown (within g.S.Store) after) (state g.S.Store c.commit.new.batch.0) c.commit.ensures.survives (subst (λ h. HasCleanDisk (state g.S.Store h)) (sym same) clean)));
      limit = subst (λ h. h.step_limit ≡ c.args.self.now.step_limit) same (c.commit.ensures.survives.limit ∙ c.apply_file.ensures.limit ∙ put ∙ begun);
    }

pub returns-in-Err-commit-clause-stops : goal.returns-in-Err-commit-clause-stops
returns-in-Err-commit-clause-stops g c =
    let n = c.saturating_add-revision.result in
    let start = c.begin-batch.result in
    let end = c.put_file.new.batch in
    let read = c.put_file.ensures.puts in
    let after = c.apply_file.new.batch in
    let same = same_unkept g c in
    let put : PutsFile (puts (within g.S.Store) n) (gives_up (within g.S.Store)) (Ok c.in-Ok.tally) (g.I.Input.to_come c.put_file.new.input) read.0 start end = subst (λ r. PutsFile (puts (within g.S.Store) n) (gives_up (within g.S.Store)) r (g.I.Input.to_come c.put_file.new.input) read.0 start end) c.in-Ok.is read.2 in (
      read.0,
      read.1,
      put.ends.0,
      λ clean h rest marked import open_ many.
          let v = views_of h in
          let w = views_of (after_of h (asked c.args.command.now (file_reading read.0))) in
          let begun = put_within (within g.S.Store) n c.in-Ok.tally _ read.0 start end put v (c.begin-batch.ensures.begun v rest) in
          let clean_end : HasCleanDisk (shown (within g.S.Store) end) = c.apply_file.ensures.clean (earlier (shown (within g.S.Store) after) (state g.S.Store c.commit.new.batch.0) c.commit.ensures.survives (subst (λ h. HasCleanDisk (state g.S.Store h)) (sym same) clean)) in
          let counted = put_tally (within g.S.Store) n c.in-Ok.tally _ read.0 start end put v (c.begin-batch.ensures.begun v rest) clean_end in
          let applied = c.in-Ok-apply_file.ensures.applied h read.0 n marked import open_ many (record { short = put.ends.0.short; good = put.ends.1; tally = counted }) (next_of _ _ c.saturating_add-revision.ensures) begun in
          (subst (λ x. LeavesEither (state g.S.Store x) v w) same (c.commit.ensures.either v w applied.1), c.refusal_of.ensures.fault),
    )

pub returns-in-Err-clause-alive : goal.returns-in-Err-clause-alive
returns-in-Err-clause-alive g c = stop_live c.in-Err.end c.stop_of.result c.stop_of.ensures

pub returns-in-Err-apply_file-clause-alive : goal.returns-in-Err-apply_file-clause-alive
returns-in-Err-apply_file-clause-alive g c = c.in-Err-apply_file.ensures.alive

pub returns-in-Err-commit-clause-alive : goal.returns-in-Err-commit-clause-alive
returns-in-Err-commit-clause-alive g c = c.refusal_of.ensures.alive

pub returns-in-Ok-commit-clause-read_fault : goal.returns-in-Ok-commit-clause-read_fault
returns-in-Ok-commit-clause-read_fault g c = record {
  told = λ is. absurd (ok_apart _ _ is);
  first = λ fault. absurd (ok_apart _ _ (sym c.in-Ok.is ∙ c.put_file.ensures.fault_first fault));
}

pub returns-in-Err-commit-clause-read_fault : goal.returns-in-Err-commit-clause-read_fault
returns-in-Err-commit-clause-read_fault g c = record {
  told = λ is. absurd (failed_apart _ (err_is _ _ is));
  first = λ fault. absurd (ok_apart _ _ (sym c.in-Ok.is ∙ c.put_file.ensures.fault_first fault));
}

-- ---- the input

pub returns-in-Err-clause-goes : goal.returns-in-Err-clause-goes
returns-in-Err-clause-goes g c = c.put_file.ensures.goes

pub returns-in-Err-apply_file-clause-goes : goal.returns-in-Err-apply_file-clause-goes
returns-in-Err-apply_file-clause-goes g c = c.put_file.ensures.goes

pub returns-in-Ok-commit-clause-goes : goal.returns-in-Ok-commit-clause-goes
returns-in-Ok-commit-clause-goes g c = c.put_file.ensures.goes

pub returns-in-Err-commit-clause-goes : goal.returns-in-Err-commit-clause-goes
returns-in-Err-commit-clause-goes g c = c.put_file.ensures.goes

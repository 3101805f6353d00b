-- An import whose file is read as it comes, over a body that is known.
use Rattle.std.proofs.Common.{◌≡◌, ℕ, false, ◌+◌, ◌≤◌, List, [], ◌∷◌, ◌++◌, Option, Some, None, Result, Ok, Err, IfOk, length, refl, sym, ap, subst, ◌∙◌, inl, inr, arith, length-append}
use Rattle.std.specs.Prelude.{◌⊎◌}
use Rattle.std.specs.Io.KnownBytes.{Consumes, IsAtEnd}
use Rattle.std.proofs.lemmas.List.{append-nil}
use Rattle.pid_service_laws.specs.declared.registry_calls.RegistryCalls.{Ghosts}
use Rattle.pid_moderation.specs.Files.{file_reading}
use Rattle.pid_moderation.specs.BeforeFile.{import_of}
use Rattle.pid_moderation.specs.CheckTables.{most_file_bytes}
use Rattle.pid_moderation.specs.History.{Asked}
use Rattle.pid_moderation.specs.Judgement.{after}
use Rattle.pid_moderation.specs.declared.command.Reply.{Reply as Outcome}
use Rattle.pid_moderation.specs.declared.refusal.Refusal.{Refusal}
use Rattle.pid_moderation.specs.declared.refusal.Refusal.TheVariants as refusals
use Rattle.pid_file.specs.WholeInputs.{IsWhole}
use Rattle.pid_service_laws.specs.Imports.{HasRead, ObeysFile, import_sent}
use Rattle.pid_service_laws.specs.declared.faults.ImportEnd.{ImportEnd}
use Rattle.pid_service_laws.specs.declared.faults.ImportEnd.TheVariants.{Refused, Body}
use Rattle.pid_http_stream.specs.Replies.{Answer}
use Rattle.pid_http_stream.specs.declared.limits.TheConstants.{LONGEST_BODY}
use Rattle.pid_http_stream.specs.declared.handler.HttpReply.{HttpReply}
use Rattle.pid_http.specs.declared.api.format.Format.{Format}
use Rattle.pid_http.specs.Api.Outcomes.{outcome_answer}
use Rattle.pid_http.specs.Api.Replying.{IsReplyOf}
use Rattle.pid_service_laws.specs.Calls.{Call, obeyed}
use Rattle.pid_http.specs.Answering.{RequestMeaning, Obeys}
use Rattle.pid_http.specs.Known.{Known, Live, Between, Down, IsKnownOf, LivesOn}
use Rattle.pid_http.specs.Steps.Going.{Goes}
use Rattle.pid_http.specs.Steps.Replying.{IsCommandMet, IsMetAfter}
use Rattle.pid_http.specs.Serving.{AreQuestions, IsMeaningMet, most_questions}
use Rattle.pid_http.proofs.Meeting.{Lives, body_met, no_call, not_asked, obeyed_met, obeys_so, one_call, one_question, turned}

-- what was read of a known body to its end is all of it
whole : (file text : List ℕ) (left : Option (List ℕ)) → Consumes (Some file) left text → IsAtEnd left → (text ≡ file) × (left ≡ Some [])
whole file text None consumed end = absurd consumed
whole file text (Some more) consumed end = (sym (consumed ∙ ap (λ (l : List ℕ). text ++ l) end ∙ append-nil text), ap Some end)

-- and no more can be read of it than it has
no_longer : (file text : List ℕ) (left : Option (List ℕ)) → Consumes (Some file) left text → length text ≤ length file
no_longer file text None consumed = absurd consumed
no_longer file text (Some more) consumed = let e = ap length consumed ∙ length-append text more in omega arith

refused_whole : {Why : Type 0} (file text : List ℕ) (left : Option (List ℕ)) → length file ≤ LONGEST_BODY → Consumes (Some file) left text → IsWhole most_file_bytes left text ⊎ (Why × (length text ≡ most_file_bytes + 1)) → (text ≡ file) × (left ≡ Some [])
refused_whole file text left fits consumed (inl read) = whole file text left consumed read.at_end
refused_whole file text left fits consumed (inr (why, long)) = let most = no_longer file text left consumed in absurd (omega arith)

-- the reply to an import of this text is one to an import of the file
behind : {E : Type 0} (account : List ℕ) (key : Option (List ℕ)) (format : Format) (file text : List ℕ) (outcome : Result Outcome Refusal) (r : Result HttpReply E) (left : Option (List ℕ)) (k : Known) (calls : List Call) (now : Known)
    → text ≡ file → IsAtEnd left → IfOk r (λ reply. IsReplyOf reply (outcome_answer format outcome)) → IsCommandMet (import_of account key (file_reading text)) k outcome calls now
    → IsMetAfter k (Obeys (import_of account key (file_reading file)) format) r left calls now
behind {E} account key format file text outcome r left k calls now same end is obeys =
    by_reply r is (subst (λ (x : List ℕ). IsMeaningMet k (Obeys (import_of account key (file_reading x)) format) (outcome_answer format outcome) calls now) same (obeyed_met (import_of account key (file_reading text)) format k now outcome calls obeys))
  where
    by_reply : (r : Result HttpReply E) → IfOk r (λ reply. IsReplyOf reply (outcome_answer format outcome)) → IsMeaningMet k (Obeys (import_of account key (file_reading file)) format) (outcome_answer format outcome) calls now
        → IsMetAfter k (Obeys (import_of account key (file_reading file)) format) r left calls now
    by_reply (Ok reply) is met = body_met k now (Obeys (import_of account key (file_reading file)) format) reply.head reply.body (outcome_answer format outcome) calls is met
    by_reply (Err e) is met = inr (end, (outcome_answer format outcome, met))

-- the import ended so
abbrev IsEnd : ImportEnd → ImportEnd → Type 0
IsEnd a b = ◌≡◌ {A = Result Outcome ImportEnd} (Err a) (Err b)

by_cause : (end : ImportEnd) (refusal : Refusal) → end ≡ Refused refusal → IsEnd end (Refused refusals.Failed) ⊎ IsEnd end Body → ◌≡◌ {A = Result Outcome Refusal} (Err refusal) (Err refusals.Failed)
by_cause end refusal is (inl e) = cc
by_cause end refusal is (inr e) = absurd (never end refusal is e)
  where
    never : (end : ImportEnd) (refusal : Refusal) → end ≡ Refused refusal → IsEnd end Body → ⊥
    never end refusal is e = cc

module _ {R : Type 0} (registry : Ghosts R) where
  -- what is said of a call that obeys an import, by the text that it read
  abbrev Holds : R → R → Result Outcome ImportEnd → List ℕ → Option (List ℕ) → List ℕ → Type 0
  Holds old new result account key text = ObeysFile registry.showing registry.is_live old new result (import_of account key (file_reading text))

  abbrev imports_on : (old new : R) (result : Result Outcome ImportEnd) (account : List ℕ) (key : Option (List ℕ)) (to_come left : Option (List ℕ))
      → (registry.is_live old ≡ false → ((result ≡ Err (Refused refusals.Failed)) ⊎ (result ≡ Err Body)) × (new ≡ old)) → HasRead result to_come left (Holds old new result account key) → LivesOn registry old new
  imports_on old new result account key to_come left failed read =
      one_call registry old new (import_sent (import_of account key (file_reading read.text)) result (registry.is_live new)) read.holds.calls (λ off. (failed off).1)

  -- it was accepted
  pub accepted : {E : Type 0} → Lives registry → (old new : R) (reply : Outcome) (account : List ℕ) (key : Option (List ℕ)) (format : Format) (to_come left : Option (List ℕ)) (r : Result HttpReply E)
      → (registry.is_live old ≡ false → ((Ok reply ≡ Err (Refused refusals.Failed)) ⊎ (Ok reply ≡ Err Body)) × (new ≡ old))
      → HasRead (Ok reply) to_come left (Holds old new (Ok reply) account key) → IfOk r (λ x. IsReplyOf x (outcome_answer format (Ok reply)))
      → Goes registry old new (λ k calls now. (file : List ℕ) → to_come ≡ Some file → length file ≤ LONGEST_BODY → IsMetAfter k (Obeys (import_of account key (file_reading file)) format) r left calls now)
  accepted alive old new reply account key format to_come left r failed read is =
      let lives = imports_on old new (Ok reply) account key to_come left failed read in
      turned registry old new
      (λ k calls now obeys file e fits. let w = whole file read.text left (subst (λ x. Consumes x left read.text) e read.consumed) read.read.at_end in behind account key format file read.text (Ok reply) r left k calls now w.0 read.read.at_end is obeys)
      (obeys_so registry alive old new (Ok reply) (import_of account key (file_reading read.text)) lives refl read.holds.calls.clean (λ off. let f = failed off in (never f.0, f.1)) read.holds.leaves)
    where
      never : (Ok reply ≡ Err (Refused refusals.Failed)) ⊎ (Ok reply ≡ Err Body) → Ok reply ≡ Err refusals.Failed
      never (inl e) = absurd cc
      never (inr e) = absurd cc

  -- it was refused, and nothing was left of a body that is short enough
  refused_so : {E : Type 0} → Lives registry → (old new : R) (refusal : Refusal) (account : List ℕ) (key : Option (List ℕ)) (format : Format) (to_come left last : Option (List ℕ)) (r : Result HttpReply E) (lives : LivesOn registry old new)
      → (registry.is_live old ≡ false → (◌≡◌ {A = Result Outcome Refusal} (Err refusal) (Err refusals.Failed)) × (new ≡ old))
      → (read : HasRead (Err (Refused refusal)) to_come left (Holds old new (Err (Refused refusal)) account key)) → lives.calls ≡ obeyed (import_of account key (file_reading read.text)) (Err refusal) (registry.is_live new) ∷ [] → (left ≡ Some [] → last ≡ Some []) → IfOk r (λ x. IsReplyOf x (outcome_answer format (Err refusal)))
      → Goes registry old new (λ k calls now. (file : List ℕ) → to_come ≡ Some file → length file ≤ LONGEST_BODY → IsMetAfter k (Obeys (import_of account key (file_reading file)) format) r last calls now)
  refused_so alive old new refusal account key format to_come left last r lives failed read by ended is =
      turned registry old new
      (λ k calls now obeys file e fits.
      let w = refused_whole file read.text left fits (subst (λ x. Consumes x left read.text) e read.consumed) read.read in
      behind account key format file read.text (Err refusal) r last k calls now w.0 (subst IsAtEnd (sym (ended w.1)) refl) is obeys)
      (obeys_so registry alive old new (Err refusal) (import_of account key (file_reading read.text)) lives by read.holds.calls.clean failed read.holds.leaves)

  pub refused : {E : Type 0} → Lives registry → (old new : R) (end : ImportEnd) (refusal : Refusal) (account : List ℕ) (key : Option (List ℕ)) (format : Format) (to_come left last : Option (List ℕ)) (r : Result HttpReply E)
      → end ≡ Refused refusal → (registry.is_live old ≡ false → (IsEnd end (Refused refusals.Failed) ⊎ IsEnd end Body) × (new ≡ old))
      → HasRead (Err end) to_come left (Holds old new (Err end) account key) → (left ≡ Some [] → last ≡ Some []) → IfOk r (λ x. IsReplyOf x (outcome_answer format (Err refusal)))
      → Goes registry old new (λ k calls now. (file : List ℕ) → to_come ≡ Some file → length file ≤ LONGEST_BODY → IsMetAfter k (Obeys (import_of account key (file_reading file)) format) r last calls now)
  refused {E} alive old new end refusal account key format to_come left last r is_end failed read ended is =
      subst By (sym is_end)
      (λ failed read.
      refused_so alive old new refusal account key format to_come left last r (imports_on old new (Err (Refused refusal)) account key to_come left failed read)
      (λ off. let f = failed off in (by_cause (Refused refusal) refusal refl f.0, f.1)) read refl ended is)
      failed read
    where
      By : ImportEnd → Type 0
      By x = (registry.is_live old ≡ false → (IsEnd x (Refused refusals.Failed) ⊎ IsEnd x Body) × (new ≡ old)) → HasRead (Err x) to_come left (Holds old new (Err x) account key)
          → Goes registry old new (λ k calls now. (file : List ℕ) → to_come ≡ Some file → length file ≤ LONGEST_BODY → IsMetAfter k (Obeys (import_of account key (file_reading file)) format) r last calls now)

  -- it was not asked for, and the body was read to its end, or given up
  pub denied_after : {E : Type 0} (r : R) (meaning : List ℕ → RequestMeaning) (given : Answer) (result : Result HttpReply E) (to_come left : Option (List ℕ)) → IfOk result (λ _. IsAtEnd left) → IfOk result (λ reply. IsReplyOf reply given)
      → ((file : List ℕ) (k : Known) → IsMeaningMet k (meaning file) given [] k) → Goes registry r r (λ k calls now. (file : List ℕ) → to_come ≡ Some file → length file ≤ LONGEST_BODY → IsMetAfter k (meaning file) result left calls now)
  denied_after {E} r meaning given result to_come left end is met = no_call registry r _ (λ k file known fits. by_reply result is k file)
    where
      by_reply : (result : Result HttpReply E) → IfOk result (λ reply. IsReplyOf reply given) → (k : Known) (file : List ℕ) → IsMetAfter k (meaning file) result left [] k
      by_reply (Ok reply) is k file = body_met k k (meaning file) reply.head reply.body given [] is (met file k)
      by_reply (Err e) is k file = inl (not_asked (most_questions (meaning file)), refl)

  -- by the words of the sender
  pub of_owner : {E : Type 0} (old new : R) (account said : List ℕ) (key named : Option (List ℕ)) (format : Format) (result : Result HttpReply E) (to_come left : Option (List ℕ)) → account ≡ said → key ≡ named
      → Goes registry old new (λ k calls now. (file : List ℕ) → to_come ≡ Some file → length file ≤ LONGEST_BODY → IsMetAfter k (Obeys (import_of account key (file_reading file)) format) result left calls now)
      → Goes registry old new (λ k calls now. (file : List ℕ) → to_come ≡ Some file → length file ≤ LONGEST_BODY → IsMetAfter k (Obeys (import_of said named (file_reading file)) format) result left calls now)
  of_owner old new account said key named format result to_come left e f goes =
      turned registry old new (λ k calls now behind file known fits. subst (λ (c : Asked). IsMetAfter k (Obeys c format) result left calls now) (λ i. import_of (e i) (f i) (file_reading file)) (behind file known fits)) goes

  -- the input failed
  pub gave_up : Lives registry → (old new : R) (end : ImportEnd) (account : List ℕ) (key : Option (List ℕ)) (to_come left : Option (List ℕ)) (meaning : List ℕ → RequestMeaning)
      → ((file : List ℕ) → 1 ≤ most_questions (meaning file)) → end ≡ Body → (registry.is_live old ≡ false → (IsEnd end (Refused refusals.Failed) ⊎ IsEnd end Body) × (new ≡ old)) → HasRead (Err end) to_come left (Holds old new (Err end) account key)
      → Goes registry old new (λ k calls now. (file : List ℕ) → to_come ≡ Some file → length file ≤ LONGEST_BODY → (AreQuestions (most_questions (meaning file)) calls × (k ≡ now)) ⊎ (IsAtEnd left × ((given : Answer) × IsMeaningMet k (meaning file) given calls now)))
  gave_up alive old new end account key to_come left meaning takes is failed read = record {
    lives = imports_on old new (Err end) account key to_come left failed read;
    served = record {
      good = read.holds.calls.clean;
      leads = λ good k known. (k, still (subst (λ x. HasRead (Err x) to_come left (Holds old new (Err x) account key)) is read) good k known, λ file comes fits. inl (subst (λ x. AreQuestions (most_questions (meaning file)) (import_sent (import_of account key (file_reading read.text)) (Err x) (registry.is_live new) ∷ [])) (sym is) (one_question.0, takes file), refl));
    };
  }
    where
      still : HasRead (Err Body) to_come left (Holds old new (Err Body) account key) → registry.showing.is_clean new → (k : Known) → IsKnownOf registry old k → IsKnownOf registry new k
      still was good (Live h) shows = was.holds.leaves good h shows
      still was good (Between before after) fails = subst (λ r. registry.showing.fails_between r before after) (sym (failed (alive.fallen old before after fails)).1) fails
      still was good Down off = subst (λ r. registry.is_live r ≡ false) (sym (failed off).1) off

after_none : (text more : List ℕ) → [] ≡ text ++ more → more ≡ []
after_none [] more e = sym e
after_none (b ∷ text) more e = absurd cc

-- behind the end of a body nothing comes
pub ended : (old new : Option (List ℕ)) (text : List ℕ) → Consumes old new text → old ≡ Some [] → new ≡ Some []
ended old new text consumed e = from_end new (subst (λ (k : Option (List ℕ)). Consumes k new text) e consumed)
  where
    from_end : (new : Option (List ℕ)) → Consumes (Some []) new text → new ≡ Some []
    from_end None c = absurd c
    from_end (Some more) c = ap Some (after_none text more c)

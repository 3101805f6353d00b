use Rattle.std.proofs.Common.{◌≡◌, ◌⊎◌, ℕ, Bool, true, false, sym, ◌∙◌, List, Option, Err, IfErr, Result, inl, inr, refl, rules, ap, subst}
use Rattle.pid_file.specs.declared.whole_input.SkipEnd.TheVariants as skips
use Rattle.pid_service_laws.specs.declared.faults.ImportEnd.TheVariants.{Refused}
use Rattle.pid_service.proofs.Words.{BadText, Body, Failed, ImportEnd, long_refusal, Refusal, Reply, SkipEnd, SkipsInput}
use Rattle.pid_service.proofs.Keeping.{ok_not}
use Rattle.pid_service.proofs.importing.answer_past.Goals as goal

ended_so : (limit : ℕ) (rest : Option (List ℕ)) (text : List ℕ) (end so : SkipEnd) → end ≡ so → SkipsInput {X = Unit {0}} limit (Err end) rest text → SkipsInput {X = Unit {0}} limit (Err so) rest text
ended_so limit rest text end so is skips = subst (λ (e : SkipEnd). SkipsInput {X = Unit {0}} limit (Err e) rest text) is skips

long_told : (live : Bool) (e : Refusal) → e ≡ long_refusal live → (e ≡ BadText) ⊎ (e ≡ Failed)
long_told true e is = inl is
long_told false e is = inr is

long_lives : (live : Bool) (e : Refusal) → e ≡ long_refusal live → live ≡ true → e ≡ Failed → ⊥
long_lives true e is on failed = let bad : BadText ≡ Failed = sym is ∙ failed in cc
long_lives false e is on failed = cc

no_body : (e : Refusal) → ◌≡◌ {A = Result Reply ImportEnd} (Err (Refused e)) (Err Body) → ⊥
no_body e is = cc

not_read : (end : SkipEnd) → end ≡ skips.TooLong → ◌≡◌ {A = Result (Unit {0}) SkipEnd} (Err end) (Err skips.ReadFault) → ⊥
not_read end is fault = cc

pub returns-in-Err-ReadFault : goal.returns-in-Err-ReadFault
returns-in-Err-ReadFault g c = record {
  past =
      let r = c.in-Err-ReadFault.ensures.read in
      let is : c.in-Err-ReadFault.field-0 ≡ skips.ReadFault = search rules in
      record { text = r.0; consumed = r.1; read = ended_so 4194304 _ r.0 c.in-Err-ReadFault.field-0 skips.ReadFault is r.2; holds = tt };
  reads = record {
    goes = c.in-Err-ReadFault.ensures.goes;
    fault = λ is. c.in-Err-ReadFault.ensures.fault (ap Err c.in-Err-ReadFault.field-0-is);
    fault_first = λ some. refl;
  };
  alive = λ on answer. tt;
}

pub returns-in-Err-TooLong : goal.returns-in-Err-TooLong
returns-in-Err-TooLong g c = record {
  past =
      let r = c.in-Err-TooLong.ensures.read in
      let is : c.in-Err-TooLong.field-0 ≡ skips.TooLong = search rules in
      let long = ended_so 4194304 _ r.0 c.in-Err-TooLong.field-0 skips.TooLong is r.2 in
      record { text = r.0; consumed = r.1; read = inr (long_told c.args.live c.refusal_of_long.result c.refusal_of_long.ensures, long); holds = inr (c.refusal_of_long.ensures, long) };
  reads = record {
    goes = c.in-Err-TooLong.ensures.goes;
    fault = λ is. absurd (no_body c.refusal_of_long.result is);
    fault_first = λ some. absurd (not_read c.in-Err-TooLong.field-0 c.in-Err-TooLong.field-0-is (c.in-Err-TooLong.ensures.fault_first some));
  };
  alive = λ on answer. long_lives c.args.live c.refusal_of_long.result c.refusal_of_long.ensures on;
}

pub returns-in-Ok-answer : goal.returns-in-Ok-answer
returns-in-Ok-answer g c = record {
  past =
      let r = c.in-Ok.ensures.read in
      record { text = r.0; consumed = r.1; read = r.2; holds = (c.in-Ok-answer.is, r.2.short) };
  reads = record {
    goes = c.in-Ok.ensures.goes;
    fault = ok_not c.in-Ok-answer.reply Body;
    fault_first = λ some. ok_not tt skips.ReadFault (c.in-Ok.ensures.fault_first some);
  };
  alive = λ on answer. tt;
}

pub returns-in-Err : goal.returns-in-Err
returns-in-Err g c = record {
  past =
      let r = c.in-Ok.ensures.read in
      record { text = r.0; consumed = r.1; read = inl r.2; holds = inl (c.in-Err.is, r.2.short) };
  reads = record {
    goes = c.in-Ok.ensures.goes;
    fault = λ is. absurd (no_body c.in-Err.refusal is);
    fault_first = λ some. ok_not tt skips.ReadFault (c.in-Ok.ensures.fault_first some);
  };
  alive = λ on answer. subst (λ (r : Result Reply Refusal). IfErr r (λ e. e ≡ Failed → ⊥)) c.in-Err.is answer;
}

use Rattle.std.proofs.Common.{[], refl}
use Rattle.std.specs.Io.KnownBytes.{Appends}
use Rattle.pid_http_stream.specs.Serving.{WritesFront}
use Rattle.pid_service_laws.specs.Calls.{nothing_sent}
use Rattle.pid_http.proofs.Exports.{exported_front, exported_lines, not_all, nothing_written, written}
use Rattle.pid_http.proofs.Meeting.{one_call, one_question}
use Rattle.pid_http.proofs.handling.ServiceHandler.write_body.Goals as goal

pub returns-in-Ok-clause-written : goal.returns-in-Ok-clause-written
returns-in-Ok-clause-written g c =
    let e = c.in-Ok.ensures in
    let taken = g.W.Output.taken c.args.out.now in
    let after = g.W.Output.taken c.export.new.out in
    let lives = one_call g.R.RegistryCalls c.args.self.now.registry.now c.export.new.self nothing_sent e.calls (λ off. (e.failed off).1) in
    let l = written g.R.RegistryCalls g.met.R.RegistryCalls.lives c.args.self.now.registry.now c.export.new.self (λ b. Appends taken after b) lives one_question e.calls.clean e.kept.shown e.told
    (λ off. not_all (Appends taken after []) _ (e.failed off).0) in
    record { good = l.good; leads = λ good t is. l.leads good t is }

pub returns-in-Err-Write-clause-written : goal.returns-in-Err-Write-clause-written
returns-in-Err-Write-clause-written g c =
    let e = c.in-Err-Write.ensures in
    let taken = g.W.Output.taken c.args.out.now in
    let after = g.W.Output.taken c.export.new.out in
    let lives = one_call g.R.RegistryCalls c.args.self.now.registry.now c.export.new.self nothing_sent e.calls (λ off. (e.failed off).1) in
    let l = written g.R.RegistryCalls g.met.R.RegistryCalls.lives c.args.self.now.registry.now c.export.new.self (λ b. WritesFront taken after b) lives one_question e.calls.clean e.kept.shown
    (λ good h shows. exported_front (Unit {0}) taken after _ c.in-Err-Write.field-0 c.in-Err-Write.field-0-0 c.in-Err-Write.field-0-is (e.told good h shows)) (λ off. nothing_written taken after (e.failed off).2) in
    record { good = l.good; leads = λ good t is. l.leads good t is }

pub returns-in-Err-Refused-clause-written : goal.returns-in-Err-Refused-clause-written
returns-in-Err-Refused-clause-written g c =
    let e = c.in-Err-Refused.ensures in
    let taken = g.W.Output.taken c.args.out.now in
    let after = g.W.Output.taken c.export.new.out in
    let lives = one_call g.R.RegistryCalls c.args.self.now.registry.now c.export.new.self nothing_sent e.calls (λ off. (e.failed off).1) in
    let l = written g.R.RegistryCalls g.met.R.RegistryCalls.lives c.args.self.now.registry.now c.export.new.self (λ b. WritesFront taken after b) lives one_question e.calls.clean e.kept.shown
    (λ good h shows. exported_lines (Unit {0}) taken after _ c.in-Err-Refused.field-0 c.in-Err-Refused.field-0-0 c.in-Err-Refused.field-0-is (e.told good h shows)) (λ off. nothing_written taken after (e.failed off).2) in
    record { good = l.good; leads = λ good t is. l.leads good t is }

pub returns-in-Ok-clause-becomes : goal.returns-in-Ok-clause-becomes
returns-in-Ok-clause-becomes g c =
    let e = c.in-Ok.ensures in
    (refl, one_call _ _ _ nothing_sent e.calls (λ off. (e.failed off).1))

pub returns-in-Err-Write-clause-becomes : goal.returns-in-Err-Write-clause-becomes
returns-in-Err-Write-clause-becomes g c =
    let e = c.in-Err-Write.ensures in
    (refl, one_call _ _ _ nothing_sent e.calls (λ off. (e.failed off).1))

pub returns-in-Err-Refused-clause-becomes : goal.returns-in-Err-Refused-clause-becomes
returns-in-Err-Refused-clause-becomes g c =
    let e = c.in-Err-Refused.ensures in
    (refl, one_call _ _ _ nothing_sent e.calls (λ off. (e.failed off).1))

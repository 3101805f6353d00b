use Rattle.pid_service.proofs.Finding.{opening_finds, session_finds}
use Rattle.pid_service.proofs.Prefixes.{prefixes_shown}
use Rattle.pid_service.proofs.sessions.openings_tell_prefixes.Goals as goal

pub returns : goal.returns
returns g c opened ended start runs calls shows lead conn after next opens clean =
    let leaves = session_finds g.C.Database g.D.Database (λ conn. g.met.D.Database.durable conn) ended conn after in
    let again = opening_finds g.C.Database g.D.Database ended conn next leaves opens in
    let found = (prefixes_shown g.C.Database g.D.Database).more opened ended next start runs calls shows lead again clean in
    record {
      again = found;
      exports = λ exported before after export still. export.printed still found.history found.shown;
      looks_up = λ asked flags size args answer look still. (look.answer still found.history found.shown).1;
    }

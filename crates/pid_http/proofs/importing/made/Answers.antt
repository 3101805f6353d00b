use Rattle.pid_http.proofs.importing.made.Goals as goal

pub returns-in-Ok : goal.returns-in-Ok
returns-in-Ok c = λ given is. rw c.in-Ok.is at is

pub returns-in-Err : goal.returns-in-Err
returns-in-Err c = λ given is. tt

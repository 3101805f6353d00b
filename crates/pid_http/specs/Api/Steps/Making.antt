-- What the functions that read a query say of what they make.
use Rattle.std.specs.Prelude.{◌≡◌, Result, Ok, Err}
use Rattle.pid_http.specs.Api.Questions.{Said}
use Rattle.pid_http.specs.declared.api.early.Unasked.{Unasked}
use Rattle.pid_http.specs.declared.api.early.Unasked.TheVariants as unasked

-- this was made of it, unless memory ran out
abbrev pub MakesSaid : {X : Type 0} → Result X Unasked → Said X → Type 0
MakesSaid (Ok x) said = said ≡ Ok x
MakesSaid (Err (unasked.Early early)) said = said ≡ Err early
MakesSaid (Err unasked.Memory) said = Unit {0}

use Rattle.std.proofs.Common.{rules, refl, sym, ◌∙◌}
use Rattle.std.proofs.lemmas.List.{drop_all}
use Rattle.pid_http.proofs.OfApi.RouteRows.{finish, first_new, inserted, lacks_memory, more_new, next}
use Rattle.pid_http.proofs.api.router.insert_all.Goals as goal

pub loop-place-init : goal.loop-place-init
loop-place-init c = (refl, λ new. new)

pub loop-place-preserved : goal.loop-place-preserved
loop-place-preserved c =
    rw (inserted _ _ _ _ _ c.in-Ok.ensures) (
      sym (next _ _ _ _ c.loop-place-test.true) ∙ c.loop-place.invariant.0,
      λ new. more_new _ _ _ _ c.loop-place-test.true (c.loop-place.invariant.1 new),
    )

pub returns-clause-inserted : goal.returns-clause-inserted
returns-clause-inserted c = finish _ _ _ _ _ (drop_all c.loop-place.place c.args.rows.now (search rules)) c.loop-place.invariant.0

pub returns-in-Err-clause-refused : goal.returns-in-Err-clause-refused
returns-in-Err-clause-refused c = λ new. lacks_memory _ _ _ _ _ c.in-Err.ensures (first_new _ _ _ _ c.loop-place-test.true (c.loop-place.invariant.1 new))

use Rattle.std.proofs.Common.{◌≡◌, ℕ, List, Option, ap, refl, ◌∙◌}
use Rattle.pid_service.proofs.Words.{History, Rank, rank_of}
use Rattle.pid_service.proofs.QueriesMet.{promised}
use Rattle.pid_service.proofs.Questions.{answers_read, failed_here}
use Rattle.pid_service.proofs.Reached.{reached_readable}
use Rattle.pid_service.proofs.registry_queries.RegistryRegistryQueries.rank.Goals as goal

pub returns-then-not-self : goal.returns-then-not-self
returns-then-not-self g c =
    promised g.C.Database c.args.self.now _ _ _
    (failed_here g.C.Database c.args.self.now _ c.if-not-self.true c.args.self.now.tables.settled)

pub returns : goal.returns
returns g c =
    let Says : History → Option Rank → Type 0 = λ h rank. rank ≡ rank_of c.args.who.now h in
    promised g.C.Database c.args.self.now _ c.fault_as_refusal.result Says
    (answers_read g.C.Database c.args.self.now _ c.rank.result c.fault_as_refusal.result _ Says c.if-not-self.false refl refl c.rank.ensures c.fault_as_refusal.ensures reached_readable (λ h rank shows clean told. told ∙ ap (λ (a : List ℕ). rank_of a h) c.as_str.ensures.text))

use Rattle.std.proofs.Common.{◌≡◌, refl, ℕ, List, Option}
use Rattle.pid_moderation.specs.Views.{rank_of}
use Rattle.pid_moderation.specs.declared.rank.Rank.{Rank}
use Rattle.pid_http.specs.declared.api.format.Format.{Format}
use Rattle.pid_http.specs.Api.RankAnswers.{rank_answer}
use Rattle.pid_http.specs.Answering.{Asks}
use Rattle.pid_http.specs.declared.api.question.Question.TheVariants as questions
use Rattle.pid_http.proofs.Meeting.{IsQuestion, question_met, replied, shows}
use Rattle.pid_http.proofs.dispatch.rank.Goals as goal

question : (who : List ℕ) (format : Format) → IsQuestion format (λ (rank : Option Rank). rank_answer format who rank) (λ h (rank : Option Rank). rank ≡ rank_of who h) (Asks (questions.Rank who) format)
question who format = shows format (rank_answer format who) (λ rank. rank) (rank_of who) (questions.Rank who) (λ h. refl) refl

pub returns-in-Ok : goal.returns-in-Ok
returns-in-Ok g c = replied _ _ _ _ _ _ c.rank_reply.ensures (question_met _ g.met.R.RegistryCalls.lives _ _ _ _ _ _ _ (question c.args.who.now c.args.format) c.in-Ok.ensures)

pub returns-in-Err : goal.returns-in-Err
returns-in-Err g c = replied _ _ _ _ _ _ c.refusal_reply.ensures (question_met _ g.met.R.RegistryCalls.lives _ _ _ _ _ _ _ (question c.args.who.now c.args.format) c.in-Err.ensures)

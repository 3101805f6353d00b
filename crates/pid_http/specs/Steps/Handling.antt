-- What the service says of itself as a handler.
use Rattle.std.specs.Prelude.{◌≡◌, ◌+◌, ℕ, List, [], ◌∷◌, ◌++◌}
use Rattle.std.proofs.Common.{sym, ap, arith, subst, ◌∙◌, append_assoc, length-append}
use Rattle.pid_service_laws.specs.declared.registry_calls.RegistryCalls.{Ghosts}
use Rattle.pid_service_laws.specs.Calls.{AreNothing, Call}
use Rattle.pid_moderation.specs.History.{History}
use Rattle.pid_moderation.specs.Writes.{tree_of}
use Rattle.pid_file.specs.Printing.{print}
use Rattle.pid_http_stream.specs.Replies.{answer_after, answer_with}
use Rattle.pid_http_stream.specs.Requests.{Request}
use Rattle.pid_http_stream.specs.declared.reply_head.Content.TheVariants.{Text}
use Rattle.pid_http_stream.specs.declared.reply_head.ReplyHead.{ReplyHead}
use Rattle.pid_http.specs.Answering.{answer_over, RequestMeaning, meaning_of}
use Rattle.pid_http.specs.Known.{Known, Live, Between, Down, SessionState, ByCalls}
use Rattle.pid_http.specs.Serving.{AreQuestions, IsMeaningMet, AnsweredOver, IsPromised}
use Rattle.pid_http.specs.Serving.{IsTextHead, serving}

-- the text of the history that is shown
abbrev pub WritesOver : Known → List ℕ → Known → Type 0
WritesOver (Live h) body k = (body ≡ print (tree_of h)) × (k ≡ Live h)
WritesOver (Between before behind) body k = k ≡ Between before behind
WritesOver Down body k = k ≡ Down

-- and nothing is sent for it, by one call
abbrev pub WritesText : {R : Type 0} (registry : Ghosts R) → SessionState registry → List ℕ
    → SessionState registry → Type 0
WritesText registry t body u = ByCalls registry t u
    (λ calls. AreQuestions 1 calls × WritesOver t.known body u.known)

same_answer : (h : History) (head : ReplyHead) (content_length : ℕ) (body : List ℕ) → IsTextHead h head content_length
    → body ≡ print (tree_of h)
    → answer_after head content_length body ≡ answer_with 200 Text (print (tree_of h))
same_answer h head content_length body t e = λ i. record {
  status = t.status i;
  content = t.content i;
  content_length = t.length_is i;
  body = e i;
}

pub nothing_then : (calls more : List Call) → AreNothing calls → AreNothing more
    → AreNothing (calls ++ more)
nothing_then [] more p q = q
nothing_then (call ∷ calls) more (is, p) q = (is, nothing_then calls more p q)

pub questions_then : (m n : ℕ) (calls more : List Call) → AreQuestions m calls
    → AreQuestions n more → AreQuestions (m + n) (calls ++ more)
questions_then m n calls more p q = (
  nothing_then calls more p.0 q.0,
  omega (arith, p.1, q.1, length-append calls more),
)

text_met : (a : Known) (meaning : RequestMeaning) (head : ReplyHead) (content_length : ℕ) (calls : List Call)
    (b : Known) (body : List ℕ) (more : List Call) (c : Known)
    → IsPromised a meaning head content_length calls b → AreQuestions 1 more → WritesOver b body c
    → IsMeaningMet a meaning (answer_after head content_length body) (calls ++ more) c
unfolding answer_over
text_met (Live h) meaning head content_length calls b body more c (asked, is, none, same) none_more writes =
    let w : WritesOver (Live h) body c = subst (λ k. WritesOver k body c) same writes in
    subst (λ x. IsMeaningMet (Live h) x (answer_after head content_length body) (calls ++ more) c)
    (sym asked.1)
    (AnsweredOver (same_answer h head content_length body is w.0)
    (questions_then 1 1 calls more none none_more) w.1)
text_met (Between before behind) meaning head content_length calls b body more c promised none_more writes =
    absurd promised
text_met Down meaning head content_length calls b body more c promised none_more writes = absurd promised

-- what was promised and then written is the answer
pub exports_text : {R : Type 0} {registry : Ghosts R} (a : SessionState registry) (request : Request)
    (head : ReplyHead) (content_length : ℕ) (b : SessionState registry) (body : List ℕ) (c : SessionState registry)
    → (serving registry).promises a request head content_length b → WritesText registry b body c
    → (serving registry).answers a request (answer_after head content_length body) c
exports_text a request head content_length b body c p w = record {
  same_session = w.same_session ∙ p.same_session;
  more = p.more ++ w.more;
  joined = w.joined ∙ ap (λ (l : List Call). l
      ++ w.more) p.joined ∙ append_assoc a.calls p.more w.more;
  holds = text_met a.known
      (meaning_of request) head content_length p.more b.known body w.more c.known p.holds w.holds.0 w.holds.1;
}

-- what stayed the same twice stayed the same
pub same_on : {X : Type 0} (a b c : X) → b ≡ a → c ≡ b → c ≡ a
same_on a b c p q = q ∙ p

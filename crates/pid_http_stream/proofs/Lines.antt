-- The parts of a reply in one list.
use Rattle.std.proofs.Common.{◌≡◌, ◌∙◌, ℕ, zero, suc, List, [], ◌++◌, ◌+◌, take, Option, None, Some, Result, Ok, Err, sym, append_assoc, length-append, subst, arith}
use Rattle.std.proofs.lemmas.List.{append-nil}
use Rattle.std.specs.Prelude.{Bool, length, codes, decimal, unwrap_or}
use Rattle.pid_ident.specs.Sending.{Sends, SendsFront}
use Rattle.std.specs.Io.KnownBytes.{Appends, Keeps, WriteAppends}
use Rattle.std.proofs.KnownBytes.{Appends-trans}
use Rattle.std.proofs.Math.Seq.{take-append-add}
use Rattle.http.specs.StatusCode.{code_digits, reason_phrase}
use Rattle.pid_http_stream.specs.Conducts.{Conduct}
use Rattle.pid_http_stream.specs.Replies.{Answer, answer_after, type_line, allow_line, close_line, reply_head, reply_bytes}
use Rattle.pid_http_stream.specs.Requests.{Request}
use Rattle.pid_http_stream.specs.Serving.{WritesFront, IsCutInBody}
use Rattle.pid_http_stream.specs.Streams.{closes}
use Rattle.pid_http_stream.specs.declared.reply_head.ReplyHead.{ReplyHead}

in_one_list : (s p a b c d e f g h i j k : List ℕ) → s ++ (a ++ (p ++ (b ++ (c ++ (d ++ (e ++ (f ++ (g ++ (h ++ (i ++ (j ++ (k ++ []))))))))))))
    ≡ s ++ a ++ p ++ b ++ c ++ d ++ e ++ f ++ g ++ h ++ i ++ j ++ k
in_one_list s p a b c d e f g h i j k = simp (append_assoc, append-nil)

pub in_one : {X E : Type 0} (r : Result X E) (old new : Option (List ℕ)) (s p a b c d e f g h i j k : List ℕ) → Sends r old new (s ++ (a ++ (p ++ (b ++ (c ++ (d ++ (e ++ (f ++ (g ++ (h ++ (i ++ (j ++ (k ++ [])))))))))))))
    → Sends r old new (s ++ a ++ p ++ b ++ c ++ d ++ e ++ f ++ g ++ h ++ i ++ j ++ k)
in_one r old new s p a b c d e f g h i j k x = subst (Sends r old new) (in_one_list s p a b c d e f g h i j k) x

pub reply_is : {X E : Type 0} (r : Result X E) (old new : Option (List ℕ)) (answer : Answer) (closes : Bool) (digits phrase content len allow close : List ℕ) → digits ≡ code_digits answer.status → phrase ≡ unwrap_or (reason_phrase answer.status) []
    → content ≡ type_line answer.content → len ≡ decimal answer.content_length → allow ≡ allow_line answer.content → close ≡ close_line closes
    → Sends r old new (codes "HTTP/1.1 " ++ digits ++ codes " " ++ phrase ++ codes "\r\n" ++ content ++ codes "Content-Length: " ++ len ++ codes "\r\n" ++ allow ++ close ++ codes "\r\n" ++ answer.body)
    → Sends r old new (reply_bytes answer closes)
unfolding reply_bytes
reply_is r old new answer closes digits phrase content len allow close p x q l a k s = subst (Sends r old new)
    (λ i. codes "HTTP/1.1 " ++ p i ++ codes " " ++ x i ++ codes "\r\n" ++ q i ++ codes "Content-Length: " ++ l i ++ codes "\r\n" ++ a i ++ k i ++ codes "\r\n" ++ answer.body) s

-- ---- a reply whose body is written by itself

-- the reply with no body is its head
head_only : (head : ReplyHead) (content_length : ℕ) (closes : Bool) → reply_bytes (record { status = head.status; content = head.content; content_length = content_length; body = [] }) closes ≡ reply_head head.status head.content content_length closes
unfolding reply_bytes
head_only head content_length closes = append-nil (reply_head head.status head.content content_length closes)

pub headed : (head : ReplyHead) (content_length : ℕ) (closes : Bool) (t u : Option (List ℕ)) → Appends t u (reply_bytes (answer_after head content_length []) closes) → Appends t u (reply_head head.status head.content content_length closes)
headed head content_length closes t u p = subst (Appends t u) (head_only head content_length closes) p

pub head_front : (head : ReplyHead) (content_length : ℕ) (closes : Bool) (t u : Option (List ℕ)) → SendsFront t u (reply_bytes (answer_after head content_length []) closes) → WritesFront t u (reply_head head.status head.content content_length closes)
head_front head content_length closes t u (n, less, p) =
    subst (WritesFront t u) (head_only head content_length closes) (n, omega arith, p)

pub head_then_body : (head : ReplyHead) (content_length : ℕ) (closes : Bool) (t u v : Option (List ℕ)) (body : List ℕ) → Appends t u (reply_head head.status head.content content_length closes) → Appends u v body
    → Appends t v (reply_bytes (record { status = head.status; content = head.content; content_length = content_length; body = body }) closes)
unfolding reply_bytes
head_then_body head content_length closes t u v body p q = Appends-trans t u v (reply_head head.status head.content content_length closes) body p q

pub head_then_front : (head : ReplyHead) (content_length : ℕ) (closes : Bool) (t u v : Option (List ℕ)) (body : List ℕ) → Appends t u (reply_head head.status head.content content_length closes) → WritesFront u v body
    → WritesFront t v (reply_bytes (record { status = head.status; content = head.content; content_length = content_length; body = body }) closes)
unfolding reply_bytes
head_then_front head content_length closes t u v body p (n, less, q) =
    let front = reply_head head.status head.content content_length closes in (
      length front + n,
      (let both = length-append front body in omega arith),
      subst (Appends t v) (sym (take-append-add front body n)) (Appends-trans t u v front (take n body) p q),
    )

kept_none : (t u : Option (List ℕ)) → Keeps t u → Appends t u []
kept_none None u same = tt
kept_none (Some x) None same = absurd same
kept_none (Some x) (Some y) same = same ∙ sym (append-nil x)

-- a write of nothing writes nothing
pub wrote_none : {E : Type 0} (r : Result ℕ E) (t u : Option (List ℕ)) → WriteAppends t u r [] → Appends t u []
wrote_none (Ok zero) t u w = w
wrote_none (Ok (suc n)) t u w = w
wrote_none (Err e) t u w = kept_none t u w

-- nothing more was written
pub front_then_nothing : (t u v : Option (List ℕ)) (bytes : List ℕ) → WritesFront t u bytes → Appends u v [] → WritesFront t v bytes
front_then_nothing t u v bytes (n, less, p) q = (n, less, subst (Appends t v) (append-nil (take n bytes)) (Appends-trans t u v (take n bytes) [] p q))

-- ---- a reply that was cut within its body

pub cut_in_body : {H : Type 0} (conduct : Conduct H) (a b c : H) (request : Request) (head : ReplyHead) (content_length : ℕ) (body : List ℕ) (closing : Bool) (t u v w : Option (List ℕ)) → conduct.promises a request head content_length b
    → conduct.answers a request (answer_after head content_length body) c → Appends t u (reply_head head.status head.content content_length closing) → WritesFront u v body → Appends v w [] → closes request ≡ closing
    → IsCutInBody conduct request (record { handler = a; handler_after = c; taken = t; taken_after = w })
cut_in_body conduct a b c request head content_length body closing t u v w promised answered p q none e =
    let front = front_then_nothing u v w body q none in record {
      head = head;
      content_length = content_length;
      middle = b;
      promised = promised;
      body = body;
      answered = answered;
      count = front.0;
      front = front.1;
      written = subst (λ (x : Bool). Appends t w (reply_head head.status head.content content_length x ++ take front.0 body)) (sym e) (Appends-trans t u w (reply_head head.status head.content content_length closing) (take front.0 body) p front.2);
    }

-- What an output holds once the buffer before it is flushed.
use Rattle.std.proofs.Common.{◌≡◌, ◌≢◌, ℕ, List, [], ◌∷◌, ◌++◌, Option, Some, None, IfSome, inl, inr, refl, arith, sym, ap, subst, ◌∙◌}
use Rattle.std.specs.Io.KnownBytes.{Appends, Keeps, append_known}
use Rattle.std.specs.declared.io.buffered.BufWriter.{BufWriter}
use Rattle.pid_file.specs.declared.text_end.TextEnd.{TextEnd}
use Rattle.pid_file.specs.declared.text_end.TextEnd.TheVariants.{Done, Line, TooManyEntries, TooLarge, Memory, ReadFault, WriteFault}
use Rattle.pid_file.specs.declared.watched.Watched.{Watched}
use Rattle.pid_file.specs.declared.refusal.ReadRefusal.{ReadRefusal}
use Rattle.pid_file.specs.Checked.{IsChecked, count_of, ok_line}
use Rattle.pid_file.specs.Judgements.{IsFaultOf, IsGood}
use Rattle.pid_file.specs.Printing.{print}
use Rattle.pid_file.specs.Reading.{refused}
use Rattle.pid_file.specs.ExitStatuses.{GotChecked, GotTidied, IsStatusFor}
use Rattle.pid_file.specs.TextEnds.{fault_line, status_of}
use Rattle.pid_file.specs.Tidied.{IsTidied, Writers}
use Rattle.pid_file.specs.Reports.{ReportsFault}

nothing_more : (xs : List ℕ) → xs ++ [] ≡ xs
nothing_more [] = refl
nothing_more (x ∷ xs) = ap (λ (l : List ℕ). x ∷ l) (nothing_more xs)

all_out : (old buffered new : Option (List ℕ)) (bs : List ℕ) → Appends (append_known old []) buffered bs → Keeps buffered (append_known new []) → Appends old new bs
all_out None k new bs p q = tt
all_out (Some xs) None new bs p q = absurd p
all_out (Some xs) (Some ys) None bs p q = absurd q
all_out (Some xs) (Some ys) (Some zs) bs p q = sym (nothing_more zs) ∙ q ∙ p ∙ ap (λ (l : List ℕ). l ++ bs) (nothing_more xs)

pub map_some : {X : Type 0} {P Q : X → Type 0} (o : Option X) → ((x : X) → P x → Q x) → IfSome o P → IfSome o Q
map_some None f h = tt
map_some (Some x) f h = f x h

pub all_some : {X : Type 0} {Q : X → Type 0} (o : Option X) → ((x : X) → Q x) → IfSome o Q
all_some None f = tt
all_some (Some x) f = f x

-- what a writer got, once the buffer before it is flushed and empty
pub through : {W A : Type 0} (contents : W → Option (List ℕ)) (out new : W) (first last : Watched W) (b0 b b1 c1 b2 : BufWriter (Watched W) A)
    → b0 ≡ b → b.inner ≡ first → b.buf.items ≡ [] → first.inner ≡ out
    → c1 ≡ b1 → b2.buf.items ≡ [] → last ≡ b2.inner → new ≡ last.inner
    → Keeps (append_known (contents c1.inner.inner) c1.buf.items) (append_known (contents b2.inner.inner) b2.buf.items)
    → (bs : List ℕ) → Appends (append_known (contents b0.inner.inner) b0.buf.items) (append_known (contents b1.inner.inner) b1.buf.items) bs
    → Appends (contents out) (contents new) bs
through {W} {A} contents out new first last b0 b b1 c1 b2 is inner empty first_is same flushed last_is new_is kept bs sent =
    let start : b0.inner.inner ≡ out = ap (λ (x : BufWriter (Watched W) A). x.inner.inner) is ∙ ap (λ (w : Watched W). w.inner) inner ∙ first_is in
    let no_bytes : b0.buf.items ≡ [] = ap (λ (x : BufWriter (Watched W) A). x.buf.items) is ∙ empty in
    let end : b2.inner.inner ≡ new = sym (new_is ∙ ap (λ (w : Watched W). w.inner) last_is) in
    let sent_on : Appends (append_known (contents out) []) (append_known (contents b1.inner.inner) b1.buf.items) bs =
    subst (λ (k : Option (List ℕ)). Appends k (append_known (contents b1.inner.inner) b1.buf.items) bs) (λ i. append_known (contents (start i)) (no_bytes i)) sent in
    let kept_at : Keeps (append_known (contents b1.inner.inner) b1.buf.items) (append_known (contents b2.inner.inner) b2.buf.items) =
    subst (λ (x : BufWriter (Watched W) A). Keeps (append_known (contents x.inner.inner) x.buf.items) (append_known (contents b2.inner.inner) b2.buf.items)) same kept in
    let kept_to : Keeps (append_known (contents b1.inner.inner) b1.buf.items) (append_known (contents new) []) =
    subst (λ (k : Option (List ℕ)). Keeps (append_known (contents b1.inner.inner) b1.buf.items) k) (λ i. append_known (contents (end i)) (flushed i)) kept_at in
    all_out (contents out) (append_known (contents b1.inner.inner) b1.buf.items) (contents new) bs sent_on kept_to

appends_none : (a b : Option (List ℕ)) → Keeps a b → Appends a b []
appends_none None b kept = tt
appends_none (Some x) None kept = kept
appends_none (Some x) (Some y) kept = kept ∙ sym (nothing_more x)

none_appended : (a b : Option (List ℕ)) → Appends a b [] → Keeps a b
none_appended None b sent = tt
none_appended (Some x) None sent = sent
none_appended (Some x) (Some y) sent = sent ∙ nothing_more x

-- what one writer got, the other got
abbrev pub GotToo : Option (List ℕ) → Option (List ℕ) → Option (List ℕ) → Option (List ℕ) → Type 0
GotToo old new out out_new = (bs : List ℕ) → Appends old new bs → Appends out out_new bs

pub got_same : (old new out out_new : Option (List ℕ)) → out ≡ old → out_new ≡ new → GotToo old new out out_new
got_same old new out out_new before after bs sent =
    subst (λ (k : Option (List ℕ)). Appends k out_new bs) (sym before) (subst (λ (k : Option (List ℕ)). Appends old k bs) (sym after) sent)

kept_too : (old new out out_new : Option (List ℕ)) → GotToo old new out out_new → Keeps old new → Keeps out out_new
kept_too old new out out_new got kept = none_appended out out_new (got [] (appends_none old new kept))

some_refused : (r : ReadRefusal) (o : Option ReadRefusal) → o ≡ Some r → o ≡ None → ⊥
some_refused r o some none = cc

-- by any end with status 3
pub failed_status : (text : List ℕ) (status : ℕ) → status ≡ 3 → IsStatusFor text status
failed_status text status three = record { of_three = inr (inr three); good = λ h. absurd cc; refused = λ h. absurd cc }

pub got_nothing : (text : List ℕ) (status : ℕ) (w : Writers) → status ≡ 3 → GotTidied text status w
got_nothing text status w three = record { judged = failed_status text status three; good = λ h. absurd cc; refused = λ h. absurd cc }

-- what a good text and a faulty one have as their status
good_status : (text : List ℕ) → IsGood text → IsStatusFor text 0
good_status text good = record { of_three = inl refl; good = λ h. good; refused = λ h. absurd cc }

fault_not_good : (end : TextEnd) (text : List ℕ) → status_of end ≡ 1 → IsFaultOf end text → IsGood text → ⊥
fault_not_good Done text one fault good = fault
fault_not_good (Line line kind) text one fault good = some_refused _ (refused text) fault.1 good.good
fault_not_good TooManyEntries text one fault good = some_refused _ (refused text) fault.1 good.good
fault_not_good TooLarge text one fault good = let short = good.short in omega (arith, fault, short)
fault_not_good Memory text one fault good = absurd cc
fault_not_good ReadFault text one fault good = fault
fault_not_good WriteFault text one fault good = fault

faulty_status : (end : TextEnd) (text : List ℕ) → status_of end ≡ 1 → IsFaultOf end text → IsStatusFor text (status_of end)
faulty_status end text one fault = record { of_three = inr (inl one); good = λ h. absurd cc; refused = λ h good. fault_not_good end text one fault good }

refused_got : (end : TextEnd) (text : List ℕ) (k w : Writers) → status_of end ≡ 1
    → Keeps k.output k.output_after → ReportsFault end text k.faults k.faults_after
    → GotToo k.output k.output_after w.output w.output_after
    → (status_of end ≢ 3 → GotToo k.faults k.faults_after w.faults w.faults_after)
    → GotTidied text (status_of end) w
refused_got end text k w one kept tells sent told = record {
  judged = faulty_status end text one tells.is_fault;
  good = λ h. absurd cc;
  refused = λ h. (
    kept_too k.output k.output_after w.output w.output_after sent kept,
    record { end = end; refused = one; is_fault = tells.is_fault; told = told (λ three. absurd cc) (fault_line end) tells.told },
  );
}

-- what the streams got, by what `tidy` wrote to what stands before them
pub got_tidied : (end : TextEnd) (text : List ℕ) (k w : Writers) → IsTidied end text k
    → GotToo k.output k.output_after w.output w.output_after
    → (status_of end ≢ 3 → GotToo k.faults k.faults_after w.faults w.faults_after)
    → GotTidied text (status_of end) w
got_tidied Done text k w t sent told = record {
  judged = good_status text (record { short = t.reads.short; good = t.reads.good });
  good = λ h. record {
    tree = t.tree;
    reads = t.reads;
    printed = sent (print t.tree) t.printed;
    nothing_reported = kept_too k.faults k.faults_after w.faults w.faults_after (told (λ three. absurd cc)) t.nothing_reported;
  };
  refused = λ h. absurd cc;
}
got_tidied (Line line kind) text k w t sent told = refused_got (Line line kind) text k w refl t.0 t.1 sent told
got_tidied TooManyEntries text k w t sent told = refused_got TooManyEntries text k w refl t.0 t.1 sent told
got_tidied TooLarge text k w t sent told = refused_got TooLarge text k w refl t.0 t.1 sent told
got_tidied Memory text k w t sent told = got_nothing text 3 w refl
got_tidied ReadFault text k w t sent told = got_nothing text 3 w refl
got_tidied WriteFault text k w t sent told = got_nothing text 3 w refl

-- what `check` wrote, which nothing stands before; nothing was written to the other stream
refused_counted : (end : TextEnd) (text : List ℕ) (w : Writers) → status_of end ≡ 1 → ReportsFault end text w.output w.output_after → (status_of end ≢ 3 → Keeps w.faults w.faults_after) → GotChecked text (status_of end) w
refused_counted end text w one tells silent = record {
  judged = faulty_status end text one tells.is_fault;
  good = λ h. absurd cc;
  refused = λ h. (record { end = end; refused = one; is_fault = tells.is_fault; told = tells.told }, silent (λ three. absurd cc));
}

counted_nothing : (text : List ℕ) (w : Writers) → GotChecked text 3 w
counted_nothing text w = record { judged = failed_status text 3 refl; good = λ h. absurd cc; refused = λ h. absurd cc }

pub got_checked : (end : TextEnd) (text : List ℕ) (w : Writers) → IsChecked end text w.output w.output_after → (status_of end ≢ 3 → Keeps w.faults w.faults_after) → GotChecked text (status_of end) w
got_checked Done text w t silent = record {
  judged = good_status text t.0;
  good = λ h. (t.1, silent (λ three. absurd cc));
  refused = λ h. absurd cc;
}
got_checked (Line line kind) text w t silent = refused_counted (Line line kind) text w refl t silent
got_checked TooManyEntries text w t silent = refused_counted TooManyEntries text w refl t silent
got_checked TooLarge text w t silent = refused_counted TooLarge text w refl t silent
got_checked Memory text w t silent = counted_nothing text w
got_checked ReadFault text w t silent = counted_nothing text w
got_checked WriteFault text w t silent = counted_nothing text w

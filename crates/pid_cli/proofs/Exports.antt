-- What a writer holds once the buffer before it is flushed.
use Rattle.std.proofs.Common.{◌≡◌, ℕ, List, [], ◌∷◌, ◌++◌, Option, Some, None, refl, sym, ap, subst, ◌∙◌}
use Rattle.std.specs.Io.KnownBytes.{Keeps, append_known}
use Rattle.std.specs.declared.io.buffered.BufWriter.{BufWriter}
use Rattle.pid_cli_jobs.specs.declared.job_end.JobEnd.TheVariants.{Exited, FileFailed}

nothing_more : (xs : List ℕ) → xs ++ [] ≡ xs
nothing_more [] = refl
nothing_more (x ∷ xs) = ap (λ (l : List ℕ). x ∷ l) (nothing_more xs)

all_kept : (old new : Option (List ℕ)) → Keeps old (append_known new []) → Keeps old new
all_kept None new kept = tt
all_kept (Some xs) None kept = kept
all_kept (Some xs) (Some ys) kept = sym (nothing_more ys) ∙ kept

-- the buffer that was filled, once it is flushed and empty
pub kept_through : {W A : Type 0} (contents : W → Option (List ℕ)) (filled given flushed : BufWriter W A) (out : W)
    → given ≡ filled → flushed.buf.items ≡ [] → out ≡ flushed.inner
    → Keeps (append_known (contents given.inner) given.buf.items) (append_known (contents flushed.inner) flushed.buf.items)
    → Keeps (append_known (contents filled.inner) filled.buf.items) (contents out)
kept_through {W} {A} contents filled given flushed out same empty is kept =
    let end : flushed.inner ≡ out = sym is in
    let from : Keeps (append_known (contents filled.inner) filled.buf.items) (append_known (contents flushed.inner) flushed.buf.items) =
    subst (λ (x : BufWriter W A). Keeps (append_known (contents x.inner) x.buf.items) (append_known (contents flushed.inner) flushed.buf.items)) same kept in
    let to : Keeps (append_known (contents filled.inner) filled.buf.items) (append_known (contents out) []) =
    subst (λ (k : Option (List ℕ)). Keeps (append_known (contents filled.inner) filled.buf.items) k) (λ i. append_known (contents (end i)) (empty i)) from in
    all_kept (append_known (contents filled.inner) filled.buf.items) (contents out) to

-- a file that failed is no status
pub not_exited : (status : ℕ) → FileFailed ≡ Exited status → ⊥
not_exited status same = let no : ⊥ = cc same in no

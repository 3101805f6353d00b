-- Rows that read to values are those of the values alone.
use Rattle.std.proofs.Common.{◌≡◌, ℕ, zero, suc, List, [], ◌∷◌, None, Some, Option, slice_get, refl, sym, ap, subst, ◌∙◌}
use Rattle.std.specs.Prelude.{option_map, ◌↔◌}
use Rattle.std.specs.List.{AllByRecursion}
use Rattle.sqlite.specs.declared.types.Value.TheVariants.{Text}
use Rattle.sqlite.specs.Order.{Row, column}
use Rattle.pid_file.specs.declared.path.Path.{Path}
use Rattle.pid_ident.specs.PathTexts.{IsPath, IsTextOf, path_text}
use Rattle.pid_ident.specs.PathReading.{path_of}
use Rattle.pid_moderation.specs.declared.command.Proposal.{Proposal}
use Rattle.pid_moderation.specs.declared.command.Proposal.TheVariants.{Name, Removal}
use Rattle.pid_moderation.specs.declared.command.Reply.{Reply}
use Rattle.pid_moderation.specs.declared.command.Reply.TheVariants.{Done, Numbered, Counts}
use Rattle.pid_moderation.specs.declared.rank.Rank.{Rank}
use Rattle.pid_moderation.specs.declared.rank.Rank.TheVariants.{Contributor, Moderator, Senior, Administrator}
use Rattle.pid_moderation.specs.Ranks.{rank_number}
use Rattle.pid_moderation.specs.declared.facts.State.{State}
use Rattle.pid_moderation.specs.declared.facts.State.TheVariants.{Pending, Approved, Rejected, Withdrawn}
use Rattle.pid_moderation.specs.Views.{Views, Submitted, submission_at}
use Rattle.pid_moderation.specs.declared.lists.Submission.{Submission}
use Rattle.pid_tables.specs.Rows.TableRows.{number, form_of, name_of, state_number, reply_kind, first_number, second_number, third_number}
use Rattle.pid_moderation.specs.Submissions.{Standing, decider_of, reason_of, standing_in, standing_of}
use Rattle.pid_tables.specs.Rows.Answers.{standing_row}
use Rattle.pid_tables.specs.Rows.Steps.Answers.{name_row, rank_row, reply_row}
use Rattle.pid_tables.specs.Rows.Steps.Unread.{IsReplyIn}
use Rattle.pid_tables.specs.Rows.Shows.{AreViews}
use Rattle.pid_tables.specs.Rows.Steps.Standings.{ReadsTo}

pub number_same : (m n : ℕ) → number m ≡ number n → m ≡ n
number_same m n e = cc

pub text_same : (s t : List ℕ) → Text s ≡ Text t → s ≡ t
text_same s t e = cc

pub some_row : {X : Type 0} (row_of : X → Row) (o : Option X) (row : Row) → Some row ≡ option_map row_of o → (x : X) × (o ≡ Some x) × (row ≡ row_of x)
some_row row_of None row e = absurd (let bad : ⊥ = cc in bad)
some_row row_of (Some x) row e = (x, refl, cc)

pub no_row : {X : Type 0} (row_of : X → Row) (o : Option X) → None ≡ option_map row_of o → None ≡ o
no_row row_of None h = refl
no_row row_of (Some x) h = cc

-- ---- names

pub name_read : (o : Option (List ℕ)) (row : Row) (name : List ℕ) → Some row ≡ option_map name_row o → column row 0 ≡ Text name → Some name ≡ o
name_read o row name first is =
    let it = some_row name_row o row first in
    ap Some (text_same _ _ (sym is ∙ ap (λ r. column r 0) it.2)) ∙ sym it.1

-- ---- ranks

ranked : ℕ → Rank
ranked zero = Contributor
ranked (suc zero) = Moderator
ranked (suc (suc zero)) = Senior
ranked (suc (suc (suc n))) = Administrator

same_rank : (r : Rank) → ranked (rank_number r) ≡ r
unfolding ranked
same_rank Contributor = refl
same_rank Moderator = refl
same_rank Senior = refl
same_rank Administrator = refl

pub rank_read : (o : Option Rank) (row : Row) (rank : Rank) → Some row ≡ option_map rank_row o → column row 0 ≡ number (rank_number rank) → Some rank ≡ o
rank_read o row rank first is =
    let it = some_row rank_row o row first in
    let same = number_same _ _ (sym is ∙ ap (λ r. column r 0) it.2) in
    ap Some (sym (same_rank rank) ∙ ap ranked same ∙ same_rank it.0) ∙ sym it.1

-- ---- replies

pub replies_same : (r s : Reply) → reply_kind r ≡ reply_kind s → first_number r ≡ first_number s → second_number r ≡ second_number s → third_number r ≡ third_number s → r ≡ s
replies_same Done Done k a b c = refl
replies_same Done (Numbered n) k a b c = absurd (let bad : ⊥ = cc in bad)
replies_same Done (Counts x y z) k a b c = absurd (let bad : ⊥ = cc in bad)
replies_same (Numbered n) Done k a b c = absurd (let bad : ⊥ = cc in bad)
replies_same (Numbered m) (Numbered n) k a b c = ap Numbered a
replies_same (Numbered n) (Counts x y z) k a b c = absurd (let bad : ⊥ = cc in bad)
replies_same (Counts x y z) Done k a b c = absurd (let bad : ⊥ = cc in bad)
replies_same (Counts x y z) (Numbered n) k a b c = absurd (let bad : ⊥ = cc in bad)
replies_same (Counts x y z) (Counts p q r) k a b c = λ i. Counts (a i) (b i) (c i)

pub reply_read : (o : Option Reply) (row : Row) (reply : Reply) → Some row ≡ option_map reply_row o → IsReplyIn row reply → Some reply ≡ o
reply_read o row reply first (kind, a, b, c) =
    let it = some_row reply_row o row first in
    let at = λ (i : ℕ). ap (λ r. column r i) (sym it.2) in
    ap Some (replies_same reply it.0 (sym (number_same _ _ (at 0 ∙ kind))) (sym (number_same _ _ (at 1 ∙ a))) (sym (number_same _ _ (at 2 ∙ b))) (sym (number_same _ _ (at 3 ∙ c)))) ∙ sym it.1

-- ---- submissions

-- a text is that of one path: the law of pid_ident, as a call of it gives it
abbrev pub HaveOnePath : Type 0
HaveOnePath = (text : List ℕ) (path : Path) → (path_of text ≡ Some path) ↔ IsTextOf text path

paths_same : HaveOnePath → (p q : Path) → IsPath p → IsPath q → path_text p ≡ path_text q → p ≡ q
paths_same one p q a b same =
    let is : Some p ≡ Some q = sym ((one (path_text p) p).1 (record { in_range = a; same = refl })) ∙ (one (path_text p) q).1 (record { in_range = b; same = same }) in
    cc

proposals_same : (p q : Proposal) → form_of p ≡ form_of q → name_of p ≡ name_of q → p ≡ q
proposals_same (Name m) (Name n) f e = ap Name e
proposals_same (Name m) Removal f e = absurd (let bad : ⊥ = cc in bad)
proposals_same Removal (Name n) f e = absurd (let bad : ⊥ = cc in bad)
proposals_same Removal Removal f e = refl

states_same : (author : List ℕ) (s t : State) → state_number s ≡ state_number t → decider_of author s ≡ decider_of author t → reason_of s ≡ reason_of t → s ≡ t
states_same author Pending Pending n d r = refl
states_same author (Approved x) (Approved y) n d r = ap Approved d
states_same author (Rejected x a) (Rejected y b) n d r = λ i. Rejected (d i) (r i)
states_same author Withdrawn Withdrawn n d r = refl
states_same author Pending (Approved y) n d r = absurd (let bad : ⊥ = cc in bad)
states_same author Pending (Rejected y b) n d r = absurd (let bad : ⊥ = cc in bad)
states_same author Pending Withdrawn n d r = absurd (let bad : ⊥ = cc in bad)
states_same author (Approved x) Pending n d r = absurd (let bad : ⊥ = cc in bad)
states_same author (Approved x) (Rejected y b) n d r = absurd (let bad : ⊥ = cc in bad)
states_same author (Approved x) Withdrawn n d r = absurd (let bad : ⊥ = cc in bad)
states_same author (Rejected x a) Pending n d r = absurd (let bad : ⊥ = cc in bad)
states_same author (Rejected x a) (Approved y) n d r = absurd (let bad : ⊥ = cc in bad)
states_same author (Rejected x a) Withdrawn n d r = absurd (let bad : ⊥ = cc in bad)
states_same author Withdrawn Pending n d r = absurd (let bad : ⊥ = cc in bad)
states_same author Withdrawn (Approved y) n d r = absurd (let bad : ⊥ = cc in bad)
states_same author Withdrawn (Rejected y b) n d r = absurd (let bad : ⊥ = cc in bad)

-- a row that reads to a submission is the row of no other standing
row_is : HaveOnePath → (s : Submission) (t : Standing) → ReadsTo (standing_row t) s → IsPath t.submitted.path → standing_of s ≡ t
row_is one s t reads in_range =
    let author = text_same _ _ (sym reads.author) in
    let path = paths_same one s.path t.submitted.path reads.in_range in_range (text_same _ _ (sym reads.path)) in
    let proposal = proposals_same s.proposal t.submitted.proposal (number_same _ _ (sym reads.form)) (text_same _ _ (sym reads.name)) in
    let note = text_same _ _ (sym reads.note) in
    let decider : decider_of s.author s.state ≡ decider_of s.author t.state = text_same _ _ (sym reads.decider) ∙ ap (λ a. decider_of a t.state) (sym author) in
    let state = states_same s.author s.state t.state (number_same _ _ (sym reads.state)) decider (text_same _ _ (sym reads.reason)) in
    λ i. record { submitted = record { author = author i; path = path i; proposal = proposal i; note = note i }; state = state i }

pub all_at : {X : Type 0} (P : X → Type 0) (xs : List X) (i : ℕ) (x : X) → AllByRecursion P xs → slice_get xs i ≡ Some x → P x
all_at P [] i x all e = absurd (let bad : ⊥ = cc in bad)
all_at P (y ∷ xs) zero x all e = let same : y ≡ x = cc in subst P same all.0
all_at P (y ∷ xs) (suc i) x all e = all_at P xs i x all.1 e

submitted_path : (v : Views) (n : ℕ) (s : Submitted) → AreViews v → submission_at n v.submits ≡ Some s → IsPath s.path
submitted_path v zero s views e = absurd (let bad : ⊥ = cc in bad)
submitted_path v (suc n) s views e = all_at (λ (s : Submitted). IsPath s.path) v.submits n s views.paths e

pub mapped_some : {X Y : Type 0} (f : X → Y) (o : Option X) (y : Y) → option_map f o ≡ Some y → (x : X) × (o ≡ Some x) × (f x ≡ y)
mapped_some f None y e = absurd (let bad : ⊥ = cc in bad)
mapped_some f (Some x) y e = (x, refl, cc)

pub standing_path : (v : Views) (n : ℕ) (t : Standing) → AreViews v → standing_in v n ≡ Some t → IsPath t.submitted.path
standing_path v n t views e =
    let it = mapped_some _ (submission_at n v.submits) t e in
    subst (λ (x : Standing). IsPath x.submitted.path) it.2 (submitted_path v n it.0 views it.1)

pub standing_read : HaveOnePath → (v : Views) (n : ℕ) (row : Row) (s : Submission) → AreViews v → Some row ≡ option_map standing_row (standing_in v n) → ReadsTo row s → Some (standing_of s) ≡ standing_in v n
standing_read one v n row s views first reads =
    let it = some_row standing_row (standing_in v n) row first in
    ap Some (row_is one s it.0 (subst (λ r. ReadsTo r s) it.2 reads) (standing_path v n it.0 views it.1)) ∙ sym it.1

-- The judgement of an import, by what its file reads to.
use Rattle.std.proofs.Common.{◌≡◌, ◌≢◌, inl, ℕ, ◌+◌, ◌<◌, Bool, true, false, cond, List, [], ◌∷◌, ◌++◌, length, Option, Some, None, Result, Ok, Err, IfOk, IfErr, is_none, not, refl, sym, ap, subst, ◌∙◌, arith, T}
use Rattle.std.specs.FinMap.Entries.{is_sorted}
use Rattle.std.specs.Option.{option_map}
use Rattle.std.specs.Prelude.{find, nat_le}
use Rattle.std.proofs.lemmas.Bool.Decides.{nat_tests}
use Rattle.pid_ident.specs.Trees.{text_cmp}
use Rattle.pid_reader.specs.Lines.{lines_of}
use Rattle.pid_reader.specs.Reading.{entries_of}
use Rattle.pid_moderation.specs.declared.change.Change.{Change}
use Rattle.pid_moderation.specs.declared.command.Act.{Act}
use Rattle.pid_moderation.specs.declared.command.Act.TheVariants.{Account, Submit, Comment, Withdraw, Approve, Reject, Import}
use Rattle.pid_moderation.specs.declared.command.Command.{Command}
use Rattle.pid_moderation.specs.declared.command.Reply.{Reply}
use Rattle.pid_moderation.specs.declared.facts.Facts.{Facts}
use Rattle.pid_moderation.specs.declared.facts.Verdict.TheVariants as verdicts
use Rattle.pid_moderation.specs.declared.rank.Rank.TheVariants.{Senior}
use Rattle.pid_moderation.specs.declared.refusal.FileFault.{FileFault}
use Rattle.pid_moderation.specs.declared.refusal.Refusal.{Refusal}
use Rattle.pid_moderation.specs.declared.refusal.Refusal.TheVariants as refusals
use Rattle.pid_moderation.specs.BeforeFile.{import_of}
use Rattle.pid_moderation.specs.Changes.{changed, with_pairs, FitsViews}
use Rattle.pid_moderation.specs.CheckTables.{Checks, checks, command_checks, revision_checks, first_failing, reply_by_facts, most_file_bytes, most_revision}
use Rattle.pid_moderation.specs.Effects.{Decides, LeadsOn, FitsHistory, new_pairs, change_by}
use Rattle.pid_moderation.specs.FactsOfViews.{NoRows, facts_at, facts_of, kept_in}
use Rattle.pid_moderation.specs.History.{Reading, TooLong, Faulty, Good, Imports, Asked, History, asked, Deed, deed_of, is_import}
use Rattle.pid_moderation.specs.Items.{Items, imported, count_new, count_renamed, count_same}
use Rattle.pid_moderation.specs.Judgement.{Accepts, unless, unless_kept, judge, judged, answer, after}
use Rattle.pid_moderation.specs.Ranks.{has_rank}
use Rattle.pid_moderation.specs.Views.{Views, views_of, items_of}
use Rattle.pid_moderation.specs.WellMade.{AreApart}
use Rattle.pid_tables.specs.Rows.Shows.{counts_of}
use Rattle.pid_tables.specs.Steps.Fits.{CountsFit}
use Rattle.pid_tables.specs.declared.tally.Tally.{Tally}
use Rattle.pid_moderation.specs.Files.{file_reading}
use Rattle.pid_tables.specs.Importing.{RefusesImport}
use Rattle.pid_tables.specs.Steps.ImportParts.{IsNext, IsPut, JudgesFile}
use Rattle.pid_tables.specs.Judging.{IsOpen}
use Rattle.pid_tables.specs.Steps.Tallies.{tally_of}
use Rattle.pid_tables.proofs.Counting.{counted_apart, items_then}
use Rattle.pid_tables.proofs.Readings.{good_reading, long_reading}
use Rattle.pid_tables.proofs.Refused.{refused_stays, refusal_told}

import_deed : (act : Act) (reading : Reading) → is_import act ≡ true → deed_of act reading ≡ Imports reading
import_deed (Account who rank) reading is = absurd (let no : ⊥ = cc in no)
import_deed (Submit path proposal note) reading is = absurd (let no : ⊥ = cc in no)
import_deed (Comment number text) reading is = absurd (let no : ⊥ = cc in no)
import_deed (Withdraw number) reading is = absurd (let no : ⊥ = cc in no)
import_deed (Approve number expected) reading is = absurd (let no : ⊥ = cc in no)
import_deed (Reject number reason) reading is = absurd (let no : ⊥ = cc in no)
import_deed (Import file) reading is = refl

pub asks_import : (command : Command) (reading : Reading) → is_import command.act ≡ true → asked command reading ≡ import_of command.account command.key reading
asks_import command reading is = ap (λ (d : Deed). record { account = command.account; key = command.key; deed = d }) (import_deed command.act reading is)

-- A FILE THAT IS TOO LONG

pub long_refused : (h : History) (command : Command) (text : List ℕ) → is_import command.act ≡ true → most_file_bytes < length text
    → (answer (judge (views_of h) (asked command (file_reading text))) ≡ Err refusals.BadText) × (after h (asked command (file_reading text)) ≡ h)
long_refused h command text is long =
    let v = views_of h in
    let told : answer (judge v (import_of command.account command.key TooLong)) ≡ Err refusals.BadText = refl in
    let same = asks_import command (file_reading text) is ∙ ap (import_of command.account command.key) (long_reading text long) in
    let refuses = subst (λ (c : Asked). answer (judge v c) ≡ Err refusals.BadText) (sym same) told in
    (refuses, refused_stays h (asked command (file_reading text)) refusals.BadText refuses)

-- A FAULTY FILE

none_kept : (h : History) (command : Command) (f : Facts) → IsOpen h command f → kept_in (views_of h) command.account command.key ≡ None
none_kept h command f open_ = sym (ap (λ (x : Facts). x.kept) open_.facts) ∙ open_.waits.new

allowed : (h : History) (command : Command) (f : Facts) → IsOpen h command f
    → first_failing ((is_none ((views_of h).rank command.account), refusals.NoAccount) ∷ (not (has_rank Senior ((views_of h).rank command.account)), refusals.RankTooLow) ∷ []) ≡ None
allowed h command f open_ = subst (λ (x : Facts). first_failing ((is_none x.rank, refusals.NoAccount) ∷ (not (has_rank Senior x.rank), refusals.RankTooLow) ∷ []) ≡ None) open_.facts open_.waits.allowed

faulty_by : (kept : Option Reply) (unknown low last : Bool) (reply : Reply) (f : FileFault) → kept ≡ None → first_failing ((unknown, refusals.NoAccount) ∷ (low, refusals.RankTooLow) ∷ []) ≡ None
    → answer (unless_kept kept (unless (first_failing ((unknown, refusals.NoAccount) ∷ (low, refusals.RankTooLow) ∷ (true, refusals.FileFault f) ∷ (last, refusals.Full) ∷ [])) reply)) ≡ Err (refusals.FileFault f)
faulty_by (Some r) unknown low last reply f none passes = absurd (let no : ⊥ = cc in no)
faulty_by None true low last reply f none passes = absurd (let no : ⊥ = cc in no)
faulty_by None false true last reply f none passes = absurd (let no : ⊥ = cc in no)
faulty_by None false false last reply f none passes = refl

pub faulty : (h : History) (command : Command) (g : Facts) (reading : Reading) (f : FileFault) → is_import command.act ≡ true → IsOpen h command g → reading ≡ Faulty f → RefusesImport h (asked command reading) (refusals.FileFault f)
faulty h command g reading f is open_ faulty_is =
    let v = views_of h in
    let a = command.account in
    let k = command.key in
    let told : answer (judge v (import_of a k (Faulty f))) ≡ Err (refusals.FileFault f) =
    faulty_by (kept_in v a k) (is_none (v.rank a)) (not (has_rank Senior (v.rank a))) (nat_le most_revision v.revision) _ f (none_kept h command g open_) (allowed h command g open_) in
    let here = subst (λ (c : Asked). answer (judge v c) ≡ Err (refusals.FileFault f)) (sym (asks_import command reading is ∙ ap (import_of a k) faulty_is)) told in
    inl (here, refused_stays h (asked command reading) (refusals.FileFault f) here)

-- THE FACTS OF A GOOD FILE

facts_good : (v : Views) (account : List ℕ) (key : Option (List ℕ)) (f : Facts) (pairs : Items) (t : Tally) (n : ℕ) → f ≡ facts_at v account key NoRows
    → t ≡ record { added = count_new v.items pairs; renamed = count_renamed v.items pairs; same = count_same v.items pairs } → n ≡ length (imported pairs v.items)
    → record f { file = Some (verdicts.Good t.added t.renamed t.same n) } ≡ facts_of v (import_of account key (Good pairs))
facts_good v account key f pairs t n is counts many =
    ap (λ (g : Facts). record g { file = Some (verdicts.Good t.added t.renamed t.same n) }) is
    ∙ ap (λ (u : Tally). record (facts_at v account key NoRows) { file = Some (verdicts.Good u.added u.renamed u.same n) }) counts
    ∙ ap (λ (m : ℕ). record (facts_at v account key NoRows) { file = Some (verdicts.Good (count_new v.items pairs) (count_renamed v.items pairs) (count_same v.items pairs) m) }) many

pub facts_put : (h : History) (command : Command) (f : Facts) (items sum : ℕ) (text : List ℕ) (t : Tally) → AreApart (entries_of (lines_of text)) → T (is_sorted text_cmp (items_of h))
    → is_import command.act ≡ true → IsOpen h command f → items ≡ length (items_of h) → sum ≡ items + t.added → IsPut h text t
    → record f { file = Some (verdicts.Good t.added t.renamed t.same sum) } ≡ facts_of (views_of h) (asked command (file_reading text))
facts_put h command f items sum text t apart sorted is open_ many added was =
    let pairs = entries_of (lines_of text) in
    let counts = was.tally ∙ counted_apart (items_of h) pairs apart in
    let sum_is : length (imported pairs (items_of h)) ≡ length (items_of h) + (tally_of (items_of h) pairs).added = items_then pairs (items_of h) sorted in
    let same : t.added ≡ (tally_of (items_of h) pairs).added = ap (λ (u : Tally). u.added) was.tally in
    let n : sum ≡ length (imported pairs (items_of h)) = omega (arith, sum_is, same, added, many) in
    facts_good (views_of h) command.account command.key f pairs t sum open_.facts counts n
    ∙ ap (facts_of (views_of h)) (sym (asks_import command (file_reading text) is ∙ ap (import_of command.account command.key) (good_reading text was.short was.good)))

-- THE JUDGEMENT OF A GOOD FILE

accepted_parts : (kept : Option Reply) (failing : Option Refusal) (to d : Reply) (pairs : Items) → kept ≡ None → answer (unless_kept kept (unless failing to)) ≡ Ok d
    → (new_pairs (unless_kept kept (unless failing to)) (Imports (Good pairs)) ≡ pairs) × (unless_kept kept (unless failing to) ≡ Accepts to) × (failing ≡ None)
accepted_parts None None to d pairs none told = (refl, refl, refl)
accepted_parts None (Some e) to d pairs none told = absurd (let no : ⊥ = cc in no)
accepted_parts (Some r) failing to d pairs none told = absurd (let no : ⊥ = cc in no)

-- where no check fails, the last one does not

one_passes : (b : Bool) (c : Bool × Refusal) (cs : Checks) → option_map (λ (x : Bool × Refusal). x.1) (cond b (Some c) (find (λ x. x.0) cs)) ≡ None → (b ≡ false) × (first_failing cs ≡ None)
one_passes true c cs none = absurd (let no : ⊥ = cc in no)
one_passes false c cs none = (refl, none)

later_pass : (cs ds : Checks) → first_failing (cs ++ ds) ≡ None → first_failing ds ≡ None
later_pass [] ds none = none
later_pass (c ∷ cs) ds none = later_pass cs ds (one_passes c.0 c (cs ++ ds) none).1

counted : (v : Views) (account : List ℕ) (key : Option (List ℕ)) (pairs : Items) → first_failing (checks (facts_of v (import_of account key (Good pairs))) (import_of account key (Good pairs))) ≡ None → v.revision < most_revision
counted v account key pairs none =
    let c = import_of account key (Good pairs) in
    let last = later_pass (command_checks (facts_of v c) c) (revision_checks (facts_of v c)) none in
    below v.revision (one_passes (nat_le most_revision v.revision) (nat_le most_revision v.revision, refusals.Full) [] last).0
  where
    below : (n : ℕ) → nat_le most_revision n ≡ false → n < most_revision
    below n low = grind (arith, nat_tests)

-- what decide tells of a file
abbrev pub Told : History → Asked → Facts → Result (Change × Reply) Refusal → Type 0
Told h c f result = IfOk result (λ d. answer (judge (views_of h) c) ≡ Ok d.1) × IfErr result (λ e. e ≢ refusals.Memory → answer (judge (views_of h) c) ≡ Err e)
    × IfOk result (λ d. LeadsOn h c d.0) × IfOk result (λ d. FitsHistory h c d.0) × Decides f c result

judged_good : (h : History) (account : List ℕ) (key : Option (List ℕ)) (pairs : Items) (f : Facts) (result : Result (Change × Reply) Refusal) → kept_in (views_of h) account key ≡ None
    → f ≡ facts_of (views_of h) (import_of account key (Good pairs)) → Told h (import_of account key (Good pairs)) f result → JudgesFile h (import_of account key (Good pairs)) pairs result
judged_good h account key pairs f (Err e) none is told = refusal_told h (import_of account key (Good pairs)) e told.1
judged_good h account key pairs f (Ok d) none is told =
    let v = views_of h in
    let c = import_of account key (Good pairs) in
    let g = facts_of v c in
    let parts = accepted_parts g.kept (first_failing (checks g c)) (reply_by_facts g c.deed) d.1 pairs none told.0 in
    let change : d.0 ≡ change_by g c (judge v c) = told.4.1 ∙ ap (λ (x : Facts). change_by x c (judged x c)) is in
    let whole : d.0 ≡ change_by g c (Accepts (reply_by_facts g c.deed)) = change ∙ ap (change_by g c) parts.1 in (
      counted v account key pairs parts.2,
      told.0,
      subst (λ (ps : Items). views_of (after h c) ≡ changed d.0 (with_pairs ps v)) parts.0 told.2,
      subst (λ (ps : Items). FitsViews d.0 (with_pairs ps v)) parts.0 told.3,
      subst (λ (x : Change). CountsFit x.effect (counts_of v) (with_pairs pairs v)) (sym whole) refl,
    )

pub judged_file : (h : History) (command : Command) (text : List ℕ) (f : Facts) (t : Tally) (g : Facts) (result : Result (Change × Reply) Refusal) → is_import command.act ≡ true → IsOpen h command g → IsPut h text t
    → f ≡ facts_of (views_of h) (asked command (file_reading text)) → Told h (asked command (file_reading text)) f result → JudgesFile h (asked command (file_reading text)) (entries_of (lines_of text)) result
judged_file h command text f t g result is open_ was facts told =
    let pairs = entries_of (lines_of text) in
    let same : import_of command.account command.key (Good pairs) ≡ asked command (file_reading text) = sym (asks_import command (file_reading text) is ∙ ap (import_of command.account command.key) (good_reading text was.short was.good)) in
    subst (λ (c : Asked). f ≡ facts_of (views_of h) c → Told h c f result → JudgesFile h c pairs result) same (judged_good h command.account command.key pairs f result (none_kept h command g open_)) facts told

-- the number that its pairs were put with is that of an import that can be counted
pub next_is : (h : History) (command : Command) (f : Facts) (n : ℕ) → IsOpen h command f → IsNext f.revision n → (views_of h).revision < most_revision → n ≡ (views_of h).revision + 1
next_is h command f n open_ next low = subst (λ (m : ℕ). IsNext m n) (ap (λ (x : Facts). x.revision) open_.facts) next low

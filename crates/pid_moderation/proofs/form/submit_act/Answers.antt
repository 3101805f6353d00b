use Rattle.std.proofs.Common.{◌≡◌, ℕ, Bool, true, false, List, [], ◌∷◌, Some, None, refl, sym, ◌∙◌, ap, Err}
use Rattle.std.specs.Prelude.{codes, not, ◌&&◌}
use Rattle.std.specs.Option.{option_map}
use Rattle.std.specs.Str.{bytes_eq}
use Rattle.std.proofs.lemmas.Result.{err_from_is_err_and}
use Rattle.pid_file.specs.Words.{is_name, is_text}
use Rattle.pid_file.specs.declared.path.Path.{Path}
use Rattle.pid_ident.specs.PathReading.{path_of}
use Rattle.pid_moderation.specs.declared.command.Act.TheVariants as acts
use Rattle.pid_moderation.specs.declared.command.Proposal.{Proposal}
use Rattle.pid_moderation.specs.declared.refusal.Refusal.TheVariants.{BadPath, BadName, BadText}
use Rattle.pid_moderation.specs.declared.verb.Verb.TheVariants.{Submit}
use Rattle.pid_moderation.specs.CheckTables.{first_failing}
use Rattle.pid_moderation.specs.Fields.{Fields, texts_of, text_at, value}
use Rattle.pid_moderation.specs.Forms.{value_checks, act_said, is_none_or, proposal_in, submission_said}
use Rattle.pid_moderation.proofs.FormLemmas.{said_so}
use Rattle.pid_moderation.proofs.form.submit_act.Goals as goal

no_path : (fields : Fields) → path_of (text_at (codes "path") fields) ≡ None → first_failing (value_checks Submit fields) ≡ Some BadPath
no_path fields none = rw none refl

no_name : (fields : Fields) (path : Path) → path_of (text_at (codes "path") fields) ≡ Some path → is_none_or is_name (value (codes "name") fields) ≡ false
    → first_failing (value_checks Submit fields) ≡ Some BadName
no_name fields path is bad = rw (is, bad) refl

one_bad : (a b : Bool) → (a && b) ≡ false → first_failing ((not a, BadText) ∷ (not b, BadText) ∷ []) ≡ Some BadText
one_bad true true bad = absurd cc
one_bad true false bad = refl
one_bad false b bad = refl

no_note : (fields : Fields) (path : Path) → path_of (text_at (codes "path") fields) ≡ Some path → is_none_or is_name (value (codes "name") fields) ≡ true
    → (is_none_or (bytes_eq (codes "yes")) (value (codes "remove") fields) && is_text (text_at (codes "note") fields)) ≡ false → first_failing (value_checks Submit fields) ≡ Some BadText
no_note fields path is named bad = rw (is, named) (one_bad (is_none_or (bytes_eq (codes "yes")) (value (codes "remove") fields)) (is_text (text_at (codes "note") fields)) bad)

all_pass : (fields : Fields) (path : Path) → path_of (text_at (codes "path") fields) ≡ Some path → is_none_or is_name (value (codes "name") fields) ≡ true
    → is_none_or (bytes_eq (codes "yes")) (value (codes "remove") fields) ≡ true → is_text (text_at (codes "note") fields) ≡ true → first_failing (value_checks Submit fields) ≡ None
all_pass fields path is named told noted = rw (is, named, told, noted) refl

submits : (fields : Fields) (path : Path) (proposal : Proposal) (note : List ℕ) → path_of (text_at (codes "path") fields) ≡ Some path → proposal ≡ proposal_in (value (codes "name") fields) → note ≡ text_at (codes "note") fields
    → act_said Submit fields ≡ Some (acts.Submit path proposal note)
submits fields path proposal note is proposes notes =
    ap (option_map (submission_said fields)) is ∙ (ap (λ (p : Proposal). Some (acts.Submit path p (text_at (codes "note") fields))) (sym proposes) ∙ ap (λ (n : List ℕ). Some (acts.Submit path proposal n)) (sym notes))

pub returns-in_default : goal.returns-in_default
returns-in_default c = λ m. no_path (texts_of c.args.fields.now) (sym (c.parse.ensures.computed ∙ ap path_of c.text_at.ensures) ∙ c.in_default.is)

pub returns-in_err-proposal : goal.returns-in_err-proposal
returns-in_err-proposal c =
    let p = err_from_is_err_and c.from_residual.result c.from_residual.ensures.1 in
    let fields = texts_of c.args.fields.now in
    said_so (value_checks Submit fields) (act_said Submit fields) _ _ (p.1 ∙ ap Err p.2)
    (λ m. let bad = c.in_err-proposal.ensures.err m in no_name fields c.in-Some.path (sym (c.parse.ensures.computed ∙ ap path_of c.text_at.ensures) ∙ c.in-Some.is) bad.1 ∙ ap Some (sym bad.0))

pub returns-in_err-note : goal.returns-in_err-note
returns-in_err-note c =
    let p = err_from_is_err_and c.from_residual-in_err-note.result c.from_residual-in_err-note.ensures.1 in
    let fields = texts_of c.args.fields.now in
    said_so (value_checks Submit fields) (act_said Submit fields) _ _ (p.1 ∙ ap Err p.2)
    (λ m. let bad = c.in_err-note.ensures.err m in no_note fields c.in-Some.path (sym (c.parse.ensures.computed ∙ ap path_of c.text_at.ensures) ∙ c.in-Some.is) c.in_ok-proposal.ensures.ok.1 bad.1 ∙ ap Some (sym bad.0))

pub returns : goal.returns
returns c =
    let fields = texts_of c.args.fields.now in
    let is = sym (c.parse.ensures.computed ∙ ap path_of c.text_at.ensures) ∙ c.in-Some.is in
    let noted = c.in_ok-note.ensures.ok in
    (all_pass fields c.in-Some.path is c.in_ok-proposal.ensures.ok.1 noted.1.0 noted.1.1, submits fields c.in-Some.path c.in_ok-proposal.proposal c.in_ok-note.note is c.in_ok-proposal.ensures.ok.0 noted.0)

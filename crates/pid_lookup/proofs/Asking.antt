-- Names that agree at some paths.
use Rattle.std.proofs.Common.{◌≡◌, ℕ, cond, List, [], ◌∷◌, map, Some, None, sym, ap, subst, ◌∙◌, reverse}
use mathlib.Core.Bool.{false≢true}
use Rattle.std.specs.Prelude.{is_some}
use Rattle.std.specs.FinMap.{empty, from_entries, insert, get-empty, get-insert}
use Rattle.std.specs.List.{slice_index_or}
use Rattle.std.specs.Ordering.{eq_by_cmp}
use Rattle.std.proofs.lemmas.Cmp.{nat_list_cmp_total}
use Rattle.pid_file.specs.declared.path.Path.{Path}
use Rattle.pid_file.specs.PathTexts.{path_text}
use Rattle.pid_file.specs.Trees.{TreeMap, text_cmp}
use Rattle.pid_lookup.specs.Asked.{AgreeOn}
use Rattle.pid_lookup.specs.Found.{name_in_map}
use Rattle.pid_lookup.specs.declared.args.Args.{Args}
use Rattle.pid_file.specs.Lines.{lines_of}
use Rattle.pid_file.specs.Numbered.{Numbered, item_in, numbered_of}
use Rattle.pid_file.specs.Reading.{refused}
use Rattle.pid_file.specs.Sinks.{Took}
use Rattle.pid_file.proofs.Feeding.{numbered-good, items_in_numbered}
use Rattle.pid_lookup.specs.Steps.AskedNames.{HasAsked, HasOnly, TakesAsked, asked_paths}
use Rattle.pid_lookup.specs.Steps.Kept.{kept_map}
use Rattle.pid_lookup.specs.declared.asked_names.AskedNames.{AskedNames}

-- one more name in both of two maps
inserted : (a b : TreeMap) (key name : List ℕ) (path : Path) → name_in_map a path ≡ name_in_map b path → name_in_map (insert a key name) path ≡ name_in_map (insert b key name) path
inserted a b key name path same =
    get-insert nat_list_cmp_total a key name (path_text path) ∙ ap (cond (eq_by_cmp text_cmp (path_text path) key) (Some name)) same ∙ sym (get-insert nat_list_cmp_total b key name (path_text path))

pub took_asked : (start sink : AskedNames) (items : List Numbered) → kept_map start ≡ empty → Took TakesAsked start items sink
    → AgreeOn start.asked (from_entries (map item_in items)) (kept_map sink) × (sink.asked ≡ start.asked)
took_asked start sink [] none took =
    (λ k d lt. ap (λ (m : TreeMap). name_in_map m (slice_index_or start.asked k d)) (sym (ap kept_map took ∙ none)), ap (λ (s : AskedNames). s.asked) took)
took_asked start sink (x ∷ xs) none took =
    let before = took_asked start took.0 xs none took.1 in
    let names = subst (λ (ps : List Path). AgreeOn ps (insert (kept_map took.0) (item_in x).0 (item_in x).1) (kept_map sink)) before.1 took.2.names in
    (λ k d lt. inserted (from_entries (map item_in xs)) (kept_map took.0) (item_in x).0 (item_in x).1 (slice_index_or start.asked k d) (before.0 k d lt) ∙ names k d lt, took.2.asked ∙ before.1)

none_empty : (asked : List Path) → HasOnly asked empty
none_empty asked text some = absurd (false≢true (sym (ap is_some (get-empty text_cmp text)) ∙ some))

took_only : (start sink : AskedNames) (items : List Numbered) → kept_map start ≡ empty → Took TakesAsked start items sink
    → HasOnly start.asked (kept_map sink) × (sink.asked ≡ start.asked)
took_only start sink [] none took =
    (subst (λ (m : TreeMap). HasOnly start.asked m) (sym (ap kept_map took ∙ none)) (none_empty start.asked), ap (λ (s : AskedNames). s.asked) took)
took_only start sink (x ∷ xs) none took =
    let before = took_only start took.0 xs none took.1 in
    let only = subst (λ (ps : List Path). HasOnly ps (kept_map took.0) → HasOnly ps (kept_map sink)) before.1 took.2.no_others in
    (only before.0, took.2.asked ∙ before.1)

pub has_only : (a : Args) (start sink : AskedNames) (items : List Numbered) → start.asked ≡ asked_paths a → kept_map start ≡ empty → Took TakesAsked start items sink
    → HasOnly (asked_paths a) (kept_map sink)
has_only a start sink items asked none took = subst (λ (ps : List Path). HasOnly ps (kept_map sink)) asked (took_only start sink items none took).0

pub has_asked : (a : Args) (text : List ℕ) (start sink : AskedNames) → start.asked ≡ asked_paths a → kept_map start ≡ empty
    → (refused text ≡ None) × Took TakesAsked start (numbered_of (lines_of text)) sink → HasAsked a text sink
has_asked a text start sink asked none h t reads =
    let took = took_asked start sink (numbered_of (lines_of text)) none h.1 in
    let same : from_entries (map item_in (numbered_of (lines_of text))) ≡ t =
    ap from_entries (ap (map item_in) (numbered-good (lines_of text) h.0) ∙ items_in_numbered (reverse (lines_of text))) ∙ sym reads.tree in
    subst (λ (ps : List Path). AgreeOn ps t (kept_map sink)) asked (λ k d lt. ap (λ (m : TreeMap). name_in_map m (slice_index_or start.asked k d)) (sym same) ∙ took.0 k d lt)

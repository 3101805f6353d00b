-- The parts of a target.
use Rattle.std.proofs.Common.{◌≡◌, ◌≤◌, ◌<◌, ℕ, Bool, true, false, List, [], length, drop, get_or, map, Option, Some, None, Result, Ok, Err, refl, sym, ap, subst, ◌∙◌}
use Rattle.std.specs.Prelude.{MatchOption, MatchResult, IsUtf8, if◌then◌else◌, option_map, unwrap_or}
use Rattle.std.specs.List.{slice_get}
use Rattle.std.proofs.lemmas.Option.{slice_get-get_or, slice_get-map, slice_get_past}
use Rattle.std.specs.Result.{result_ok}
use Rattle.std.specs.Borrow.{Bor}
use Rattle.std.specs.Str.{IsCharBoundary, is_utf8}
use Rattle.std.proofs.lemmas.Str.{is_utf8-from_IsUtf8, IsUtf8-from_is_utf8}
use Rattle.std.specs.Str.Pattern.{FindsTextPrefix, StripsPrefix}
use Rattle.std.proofs.lemmas.Str.Pattern.{starts_text}
use Rattle.matchit.specs.Rows.{RowsOf}
use Rattle.matchit.specs.Router.{RouteOf}
use Rattle.matchit.specs.Seek.{first}
use Rattle.pid_http.specs.Api.Questions.{rest_after}
use Rattle.pid_http.specs.Api.Routes.{all_routes, paths, Route, route_at, route_found, with_all}
use Rattle.pid_http.specs.Api.Steps.Inserting.{Entry, row_of}

-- the route of a path, by what a router answers
pub at_path : (path : List ℕ) (routes : RowsOf (RouteOf ℕ)) → routes ≡ with_all (paths all_routes) 0 [] → (found : Option (RouteOf ℕ)) → first routes path ≡ found → route_found found ≡ route_at path
unfolding route_at
at_path path routes same found is =
    ap route_found (sym is) ∙ ap (λ (rows : RowsOf (RouteOf ℕ)). route_found (first rows path)) same

-- and the row of the table at its place
pub row_found : (rows : List Entry) (place : ℕ) (found : Option (Bor Entry)) → map row_of rows ≡ all_routes → MatchOption found (length rows ≤ place) (λ x. (place < length rows) × ((d : Entry) → x.now ≡ get_or rows place d))
    → option_map (λ row. row_of row.now) found ≡ slice_get all_routes place
row_found rows place None all past =
    sym (ap (λ (l : List Route). slice_get l place) (sym all) ∙ slice_get-map row_of rows place ∙ ap (option_map row_of) (slice_get_past rows place past))
row_found rows place (Some x) all (within, is) =
    sym (ap (λ (l : List Route). slice_get l place) (sym all) ∙ slice_get-map row_of rows place ∙ ap (option_map row_of) (slice_get-get_or rows place x.now within) ∙ ap (λ (row : Entry). Some (row_of row)) (sym (is x.now)))

-- what stands behind a front
pub rest_found : (front path : List ℕ) (rest : Option (Bor (List ℕ))) (other : Bor (List ℕ)) → other.now ≡ [] → MatchOption rest (FindsTextPrefix front path None) (λ x. StripsPrefix (FindsTextPrefix front) path x.now)
    → (unwrap_or rest other).now ≡ rest_after front path
rest_found front path None other e none = e ∙ ap (λ b. if b then drop (length front) path else []) (starts_text false front path none)
rest_found front path (Some x) other e (n, found, is, more) =
    is ∙ ap (λ k. drop k path) found.0 ∙ ap (λ b. if b then drop (length front) path else []) (starts_text true front path (n, found, subst (IsCharBoundary path) (sym found.0) found.2))

-- bytes as text
pub text_found : {E : Type 0} (More : E → Type 0) (bytes : List ℕ) (read : Result (Bor (List ℕ)) E) → MatchResult read (λ text. (text.now ≡ bytes) × IsUtf8 bytes) (λ e. (¬ (IsUtf8 bytes)) × More e)
    → MatchOption (result_ok read) (is_utf8 bytes ≡ false) (λ text. (text.now ≡ bytes) × (is_utf8 bytes ≡ true))
text_found More bytes (Ok text) h = (h.0, is_utf8-from_IsUtf8 bytes h.1)
text_found More bytes (Err e) h = unless (is_utf8 bytes) (λ is. h.0 (IsUtf8-from_is_utf8 bytes is))
  where
    unless : (b : Bool) → (b ≡ true → ⊥) → b ≡ false
    unless true never = absurd (never refl)
    unless false never = refl

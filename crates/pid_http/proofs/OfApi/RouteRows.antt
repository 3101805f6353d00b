-- The rows of a router, as paths come into it one by one.
use Rattle.std.proofs.Common.{List, [], Result, Ok, Err, Some, ◌≡◌, ℕ, ◌+◌, ◌<◌, length, drop, get_or, map, ap, inl, inr, refl, subst, ◌∙◌, sym, Bool, true, false}
use Rattle.std.specs.Prelude.{◌&&◌, is_none}
use Rattle.std.proofs.lemmas.List.{drop_more}
use Rattle.matchit.specs.Rows.{RowsOf}
use Rattle.matchit.specs.Route.{Scan, parse_route}
use Rattle.matchit.specs.Router.{RouteOf, InsertsRead}
use Rattle.matchit.specs.declared.error.InsertError.{InsertError}
use Rattle.matchit.specs.declared.error.InsertError.TheVariants.{Conflict, InvalidParam, InvalidParamSegment, InvalidCatchAll, OutOfMemory}
use Rattle.matchit.proofs.OnLiterals.{matchit_on_literals}
use Rattle.pid_http.specs.Api.Routes.{all_routes, paths, with_all, with_read}
use Rattle.pid_http.specs.Api.Steps.Inserting.{Entry, all_new, paths_of, reads_new, row_of}

-- what `insert` does where it does not fail
pub inserted : (read : Result Scan InsertError) (place : ℕ) (old new : RowsOf (RouteOf ℕ)) (u : Unit {0}) → InsertsRead read place old new (Ok u) → new ≡ with_read read place old
inserted (Ok scan) place old new u h = h.1
inserted (Err error) place old new u h = absurd (elim h.1 [ inl e ↦ cc | inr e ↦ cc ])

-- one route more
pub next : (all : List Entry) (rows : RowsOf (RouteOf ℕ)) (i : ℕ) (entry : Entry) → i < length all → with_all (paths_of (drop i all)) i rows ≡ with_all (paths_of (drop (i + 1) all)) (i + 1) (with_read (parse_route (get_or all i entry).0.now) i rows)
unfolding with_all
next all rows i entry below = ap (λ rest. with_all (paths_of rest) i rows) (drop_more all i entry below)

-- then nothing but memory is refused
pub lacks_memory : (read : Result Scan InsertError) (place : ℕ) (old new : RowsOf (RouteOf ℕ)) (e : InsertError) → InsertsRead read place old new (Err e) → reads_new read old ≡ true → e ≡ OutOfMemory
lacks_memory (Ok scan) place old new (Conflict with) (same, (n, near, text)) is = let never : is_none (Some n) ≡ true = subst (λ o. is_none o ≡ true) near is in absurd cc
lacks_memory (Ok scan) place old new OutOfMemory h is = refl
lacks_memory (Ok scan) place old new InvalidParamSegment h is = absurd h.1
lacks_memory (Ok scan) place old new InvalidParam h is = absurd h.1
lacks_memory (Ok scan) place old new InvalidCatchAll h is = absurd h.1
lacks_memory (Err error) place old new e h is = absurd cc

both_first : (a b : Bool) → a && b ≡ true → a ≡ true
both_first true b h = refl
both_first false b h = absurd cc

both_second : (a b : Bool) → a && b ≡ true → b ≡ true
both_second true b h = h
both_second false b h = absurd cc

one_new : (all : List Entry) (rows : RowsOf (RouteOf ℕ)) (i : ℕ) (entry : Entry) → i < length all → all_new (paths_of (drop i all)) i rows ≡ (reads_new (parse_route (get_or all i entry).0.now) rows && all_new (paths_of (drop (i + 1) all)) (i + 1) (with_read (parse_route (get_or all i entry).0.now) i rows))
unfolding all_new
one_new all rows i entry below = ap (λ rest. all_new (paths_of rest) i rows) (drop_more all i entry below)

pub first_new : (all : List Entry) (rows : RowsOf (RouteOf ℕ)) (i : ℕ) (entry : Entry) → i < length all → all_new (paths_of (drop i all)) i rows ≡ true → reads_new (parse_route (get_or all i entry).0.now) rows ≡ true
first_new all rows i entry below is = both_first _ _ (sym (one_new all rows i entry below) ∙ is)

pub more_new : (all : List Entry) (rows : RowsOf (RouteOf ℕ)) (i : ℕ) (entry : Entry) → i < length all → all_new (paths_of (drop i all)) i rows ≡ true → all_new (paths_of (drop (i + 1) all)) (i + 1) (with_read (parse_route (get_or all i entry).0.now) i rows) ≡ true
more_new all rows i entry below is = both_second _ _ (sym (one_new all rows i entry below) ∙ is)

-- all routes come in
all_come : all_new (paths all_routes) 0 [] ≡ true
unfolding all_new with_all matchit_on_literals
all_come = refl

pub all_fit : (table : List Entry) (rows : RowsOf (RouteOf ℕ)) → map row_of table ≡ all_routes → rows ≡ [] → all_new (paths_of table) 0 rows ≡ true
all_fit table rows is none = (λ i. all_new (paths (is i)) 0 (none i)) ∙ all_come

-- after all rows of the table
pub whole : (table : List Entry) (first last : RowsOf (RouteOf ℕ)) → last ≡ with_all (paths_of table) 0 first → map row_of table ≡ all_routes → first ≡ [] → last ≡ with_all (paths all_routes) 0 []
whole table first last all is none = all ∙ (λ i. with_all (paths (is i)) 0 (none i))

-- and after all of some rows
pub finish : (all left : List Entry) (place : ℕ) (first last : RowsOf (RouteOf ℕ)) → left ≡ [] → with_all (paths_of left) place last ≡ with_all (paths_of all) 0 first → last ≡ with_all (paths_of all) 0 first
unfolding with_all
finish all left place first last none same = sym (ap (λ (l : List Entry). with_all (paths_of l) place last) none) ∙ same

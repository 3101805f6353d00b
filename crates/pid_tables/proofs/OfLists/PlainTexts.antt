-- A text that is a query shows nothing of a write, under any schema.
use Rattle.std.proofs.Common.{◌≡◌, ℕ, ◌+◌, List, Bool, true, false, cond, None, Option, Ok, Err, IsSome, refl, sym, ap, subst, ◌∙◌}
use Rattle.sqlite_syntax.specs.declared.statement.Parsed.{Parsed}
use Rattle.sqlite_schema.specs.declared.schema.Schema.{Schema}
use Rattle.sqlite_schema.specs.declared.command.Command.{Command}
use Rattle.sqlite_schema.specs.declared.command.Returning.{Returning}
use Rattle.sqlite_resolve.specs.declared.error.CompileError.TheVariants.{NoSuchTable}
use Rattle.sqlite_resolve.specs.declared.compiled.Compiled.{Compiled}
use Rattle.sqlite_resolve.specs.Lowering.{Checked, and_then}
use Rattle.sqlite_resolve.specs.Compile.{first, planned, meaning, compiled, command, timed, returning, small, with_command}
use Rattle.sqlite.specs.Order.{Row}
use Rattle.sqlite.specs.Tree.{Trees}
use Rattle.sqlite.specs.Given.{Returns}
use Rattle.sqlite.specs.State.{State, CommitsShowing}
use Rattle.sqlite.specs.Listing.{understood, listing_schema, reads_listing, is_select, if_select}

-- the statement has no RETURNING, whatever the schema
abbrev pub ShowsNothing : Checked Parsed → Type 0
ShowsNothing (Ok p) = (schema : Schema) (base : ℕ) → returning schema base p.statement ≡ Ok None
ShowsNothing (Err e) = Unit {0}

gave : {A B : Type 0} (r : Checked A) (f : A → Checked B) (b : B) → and_then r f ≡ Ok b → (a : A) × (r ≡ Ok a) × (f a ≡ Ok b)
gave (Ok a) f b h = (a, refl, h)
gave (Err e) f b h = absurd (let bad : ⊥ = cc in bad)

snd_same : {A B : Type 0} (a c : A × B) → ◌≡◌ {A = Checked (A × B)} (Ok a) (Ok c) → a.1 ≡ c.1
snd_same a c e = let same : a ≡ c = cc in ap (λ (p : _ × _). p.1) same

meaning_plain : (schema : Schema) (p : Parsed) (base : ℕ) (found : Command × Option Returning) → returning schema base p.statement ≡ Ok None → meaning schema p base ≡ Ok found → found.1 ≡ None
unfolding meaning
meaning_plain schema p base found plain h = let made = gave (command schema p.formats base p.statement) (λ c. Ok (c, None)) found (rw plain at h) in sym (snd_same (made.0, None) found made.2)

planned_plain : (schema : Schema) (p : Parsed) (plan : List (List ℕ) × (Command × Option Returning)) → ((base : ℕ) → returning schema base p.statement ≡ Ok None) → planned schema p ≡ Ok plan → plan.1.1 ≡ None
unfolding planned
planned_plain schema p plan plain h =
    let found = gave (meaning schema p (small p.names + small (timed schema p.formats p.statement))) (λ c. Ok (timed schema p.formats p.statement, c)) plan h in
    ap (λ (f : Command × Option Returning). f.1) (sym (snd_same (timed schema p.formats p.statement, found.0) plan found.2)) ∙ meaning_plain schema p _ found.0 (plain _) found.1

shown_same : (a b : Compiled) → ◌≡◌ {A = Checked Compiled} (Ok a) (Ok b) → a.returning ≡ b.returning
shown_same a b e = let is : a ≡ b = cc in ap (λ (x : Compiled). x.returning) is

compiled_plain : (schema : Schema) (sql : List ℕ) (c : Compiled) → ShowsNothing (first sql) → compiled schema sql ≡ Ok c → c.returning ≡ None
unfolding compiled
compiled_plain schema sql c plain h = go (first sql) plain h
  where
    go : (r : Checked Parsed) → ShowsNothing r → and_then r (λ p. and_then (planned schema p) (λ plan. Ok (with_command p plan))) ≡ Ok c → c.returning ≡ None
    go (Err e) plain h = absurd (let bad : ⊥ = cc in bad)
    go (Ok p) plain h =
        let plan = gave (planned schema p) (λ plan. Ok (with_command p plan)) c h in
        sym (shown_same (with_command p plan.0) c plan.2) ∙ planned_plain schema p plan.0 (plain schema) plan.1

of_select : (r : Checked Compiled) (c : Compiled) → if_select r ≡ Ok c → r ≡ Ok c
of_select (Ok d) c h = go (is_select d.command) h
  where
    go : (b : Bool) → cond b (Ok d) (Err NoSuchTable) ≡ Ok c → ◌≡◌ {A = Checked Compiled} (Ok d) (Ok c)
    go true h = h
    go false h = absurd (let bad : ⊥ = cc in bad)
of_select (Err e) c h = absurd (let bad : ⊥ = cc in bad)

pub understood_plain : (schema : Schema) (sql : List ℕ) (c : Compiled) → ShowsNothing (first sql) → understood schema sql ≡ Ok c → c.returning ≡ None
unfolding understood
understood_plain schema sql c plain h = go (reads_listing schema sql) h
  where
    go : (b : Bool) → cond b (if_select (compiled listing_schema sql)) (compiled schema sql) ≡ Ok c → c.returning ≡ None
    go true h = compiled_plain listing_schema sql c plain (of_select _ c h)
    go false h = compiled_plain schema sql c plain h

pub commits_nothing : (sql : List ℕ) (params : Row) (s : State) (db : Trees) → ShowsNothing (first sql) → CommitsShowing sql params s db → ⊥
unfolding CommitsShowing
commits_nothing sql params s db plain h = let bad = subst IsSome (understood_plain s.now.schema sql h.0 plain h.1.is) h.2 in let none : ⊥ = cc in none

pub returns_nothing : (sql : List ℕ) (schema : Schema) → ShowsNothing (first sql) → Returns (understood schema sql) → ⊥
returns_nothing sql schema plain h = go (understood schema sql) refl h
  where
    go : (r : Checked Compiled) → understood schema sql ≡ r → Returns r → ⊥
    go (Ok c) is some = let bad = subst IsSome (understood_plain schema sql c plain is) some in let none : ⊥ = cc in none
    go (Err e) is some = some

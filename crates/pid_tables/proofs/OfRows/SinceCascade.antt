-- DELETE FROM item: the row of item_since that refers to the item goes with it.
use Rattle.std.proofs.Common.{◌≡◌, ◌⊎◌, inl, inr, ℕ, zero, suc, ℤ, List, [], ◌∷◌, ◌++◌, Bool, true, false, cond, None, Some, Ok, refl, sym, ap, subst, arith, length, length-append}
use Rattle.std.specs.List.{list_any, cons_option}
use Rattle.sqlite.specs.Tree.{Trees}
use Rattle.sqlite.specs.Order.{Row}
use Rattle.sqlite.specs.Edit.{edit_of, taken_by, Applies}
use Rattle.sqlite_schema.specs.declared.schema.Keys.TheVariants.{Enforced}
use Rattle.sqlite_value.specs.Keys.{plain, joined}
use Rattle.sqlite_schema.specs.Names.{same_name}
use Rattle.sqlite_rules.specs.declared.error.Rowids.TheVariants.{Given}
use Rattle.sqlite_rules.specs.declared.action.Deed.TheVariants.{Delete}
use Rattle.sqlite_rules.specs.Action.{Work, pairs, loses, works, AreChildren, Leads, ActsOn, Acts, Writes}
use Rattle.pid_tables.specs.declared.rows.schema_version.Version.TheVariants.{Two}
use Rattle.pid_tables.specs.Rows.Schema.{schema_of, item, item_since, to_item}

-- what is to be done for item_since where these items go
abbrev pub work_of : List (Row × Row) → Work
work_of moves = record { depth = 0; child = item_since; ref = to_item; places = 1 ∷ []; order = plain; deed = Delete; moves = moves }

abbrev pub lost : List Row → Bool
lost olds = list_any (loses plain (1 ∷ [])) (pairs olds [])

one_or_none : (b : Bool) (w : Work) → cons_option (cond b (Some w) None) [] ++ [] ≡ cond b (w ∷ []) []
one_or_none true w = refl
one_or_none false w = refl

works_item : (olds : List Row) → works (schema_of Two) Enforced 0 4 olds [] ≡ cond (lost olds) (work_of (pairs olds []) ∷ []) []
unfolding same_name joined
works_item olds = one_or_none (lost olds) (work_of (pairs olds []))

works_none : (olds news : List Row) → works (schema_of Two) Enforced 1 11 olds [] ≡ []
unfolding same_name joined
works_none olds news = refl

-- nothing is lost, or the children of what is lost go
abbrev pub Cascaded : Trees → List Row → Trees → Type 0
Cascaded mid olds next = ((lost olds ≡ false) × (next ≡ mid))
    ⊎ ((ids : List ℤ) × AreChildren mid (work_of (pairs olds [])) ids × (((ids ≡ []) × (next ≡ mid)) ⊎ Applies (schema_of Two) Enforced mid (edit_of mid item_since ids Given 0 []) next))

ended : (n : ℕ) (now next : Trees) → Leads (schema_of Two) Enforced n now [] (Ok next) → next ≡ now
ended zero now next h = let e = h.1 in cc
ended (suc n) now next h = absurd (omega (arith, ap length h.2, length-append h.0 (h.1 ∷ [])))

one_left : (below : List Work) (w x : Work) → x ∷ [] ≡ below ++ w ∷ [] → (below ≡ []) × (w ≡ x)
one_left [] w x e = (refl, cc)
one_left (b ∷ below) w x e = absurd (omega (arith, ap length e, length-append below (w ∷ [])))

afterwards : (n : ℕ) (mid next : Trees) (olds : List Row) (ids : List ℤ) → AreChildren mid (work_of (pairs olds [])) ids
    → ActsOn (schema_of Two) Enforced (Leads (schema_of Two) Enforced n) mid (work_of (pairs olds [])) [] (Ok next) ids → Cascaded mid olds next
afterwards n mid next olds [] are went = inr ([], are, inl (refl, ended n mid next went))
afterwards n mid next olds (id ∷ ids) are (inl refused) = absurd (let e = refused.2 in cc)
afterwards n mid next olds (id ∷ ids) are (inr (inl big)) = absurd (let e = big.3 in cc)
afterwards n mid next olds (id ∷ ids) are (inr (inr went)) =
    let edit = edit_of mid item_since (id ∷ ids) Given 0 [] in
    let on = subst (λ ws. Leads (schema_of Two) Enforced n went.0 ws (Ok next)) (works_none (taken_by mid edit) []) went.2 in
    inr (id ∷ ids, are, inr (subst (Applies (schema_of Two) Enforced mid edit) (sym (ended n went.0 next on)) went.1))

settled : (n : ℕ) (mid next : Trees) (olds : List Row) → Leads (schema_of Two) Enforced n mid (work_of (pairs olds []) ∷ []) (Ok next) → Cascaded mid olds next
settled zero mid next olds h = absurd (let e = h.0 in cc)
settled (suc n) mid next olds (below, w, is, acts) =
    let one = one_left below w (work_of (pairs olds [])) is in
    let w_is = subst (λ x. Acts (schema_of Two) Enforced (Leads (schema_of Two) Enforced n) mid x below (Ok next)) one.1 acts in
    let b_is = subst (λ b. Acts (schema_of Two) Enforced (Leads (schema_of Two) Enforced n) mid (work_of (pairs olds [])) b (Ok next)) one.0 w_is in
    afterwards n mid next olds b_is.0 b_is.1 b_is.2

by_lost : (b : Bool) (n : ℕ) (mid next : Trees) (olds : List Row) → lost olds ≡ b → Leads (schema_of Two) Enforced n mid (cond b (work_of (pairs olds []) ∷ []) []) (Ok next) → Cascaded mid olds next
by_lost true n mid next olds is h = settled n mid next olds h
by_lost false n mid next olds is h = inl (is, ended n mid next h)

-- the items go in one step, and what refers to them in a second
pub two_steps : (db next : Trees) (ids : List ℤ) → Writes (schema_of Two) Enforced db (edit_of db item ids Given 0 []) (Ok next)
    → (mid : Trees) × Applies (schema_of Two) Enforced db (edit_of db item ids Given 0 []) mid × Cascaded mid (taken_by db (edit_of db item ids Given 0 [])) next
two_steps db next ids (inl refused) = absurd (let e = refused.2 in cc)
two_steps db next ids (inr (inl big)) = absurd (let e = big.3 in cc)
two_steps db next ids (inr (inr went)) =
    let olds = taken_by db (edit_of db item ids Given 0 []) in
    let rest = subst (λ ws. Leads (schema_of Two) Enforced went.2.0 went.0 ws (Ok next)) (works_item olds) went.2.1 in
    (went.0, went.1, by_lost (lost olds) went.2.0 went.0 next olds refl rest)

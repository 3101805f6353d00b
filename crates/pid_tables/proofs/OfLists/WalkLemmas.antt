-- A walk over the items, row by row.
use mathlib.Core.Bool.{false≢true}
use Rattle.std.proofs.Common.{◌≡◌, ◌⊎◌, inl, inr, ℕ, suc, ◌+◌, ◌^◌, ◌≤◌, List, [], ◌∷◌, ◌++◌, length, map, take, drop, true, false, IsTrue, Ok, Err, Result, IfErr, IsErrAnd, OnErr, None, Some, Option, length-append, append-nil, reverse, refl, sym, ap, subst, ◌∙◌, arith, take-append-drop}
use Rattle.std.proofs.lemmas.List.{reverse-append, reverse-reverse, length-map}
use Rattle.std.proofs.Math.Seq.{take-length}
use Rattle.sqlite.specs.Order.{Row}
use Rattle.sqlite.specs.Tree.{Trees}
use Rattle.sqlite.specs.State.{State, HasCleanDisk, IsUnchanged, Survives, FailsToQuery, CommitsShowing, Shown}
use Rattle.sqlite.specs.Held.{Held, state}
use Rattle.sqlite.specs.Given.{HasGiven, HasBegun, IsRefused, FailsToAdvance}
use Rattle.sqlite.specs.declared.error.Error.{Error}
use Rattle.sqlite.proofs.StateLemmas.{survives_then, survives_weaker}
use Rattle.sqlite.proofs.Callers.{given_begin, unchanged_then}
use Rattle.sqlite_trees.specs.declared.store.Store.{Ghosts}
use Rattle.pid_moderation.specs.Items.{Items}
use Rattle.pid_moderation.specs.Views.{Views}
use Rattle.pid_reader.specs.LookingBack.{Item}
use Rattle.pid_reader.specs.Numbered.{Numbered}
use Rattle.pid_reader.specs.Sinks.{Took}
use Rattle.pid_tables.specs.Rows.Steps.Answers.{item_shown}
use Rattle.sqlite.specs.Effect.{Database}
use Rattle.sqlite.specs.Order.{column}
use Rattle.sqlite_rules.specs.Lists.{Has}
use Rattle.pid_tables.specs.declared.rows.fault.TableFault.{TableFault}
use Rattle.pid_tables.specs.Rows.Causes.{IsCaused, IsReadable}
use Rattle.pid_tables.specs.Rows.Steps.Faults.{fault_of_sql}
use Rattle.pid_tables.specs.Rows.Leaves.{AtRest, OnlyReads}
use Rattle.pid_tables.specs.Rows.Schema.{pid_schema}
use Rattle.pid_tables.specs.Rows.Steps.Unread.{IsDamagedRow, ReadsAsItem}
use Rattle.pid_ident.specs.Words.{is_name}
use Rattle.sqlite.specs.declared.types.Value.TheVariants.{Text}
use Rattle.pid_tables.specs.Rows.Steps.Unread.{IsPathText, IsWord}
use Rattle.pid_tables.proofs.OfRows.CauseLemmas.{caused, caused_later}
use Rattle.pid_tables.proofs.OfRows.ReadBack.{among}
use Rattle.pid_tables.proofs.OfRows.UnreadLemmas.{caused_unread, name_utf8}
use Rattle.std.specs.Str.{is_utf8}
use Rattle.pid_tables.specs.Rows.Shows.{counts_of}
use Rattle.pid_tables.proofs.OfRows.GoingLemmas.{earlier}
use Rattle.pid_tables.proofs.OfRows.ReadLemmas.{fails_to_query}
use Rattle.pid_tables.proofs.OfRows.OnlyReading.{Keeps, keeps_same, keeps_back, keeps_then, rests_on}
use Rattle.pid_tables.specs.Lists.EachItem.{Walks, WalksSome, IsCausedEnd, placed_from}
use Rattle.pid_tables.specs.Lists.Steps.EachItem.{TakesOne, IsUnreadEnd}
use Rattle.pid_tables.specs.declared.lists.walk.EachEnd.{EachEnd}
use Rattle.pid_tables.specs.declared.lists.walk.EachEnd.TheVariants.{Tables, Fault}
use Rattle.pid_tables.proofs.OfLists.ItemLists.{select_all, select_all_shows, all_query, all_found, front_found}
use Rattle.pid_tables.proofs.OfLists.PlainTexts.{commits_nothing, returns_nothing}

-- ---- what reads leave

-- a text that shows nothing of a write commits nothing
pub survives_query : (sql : List ℕ) (params : Row) (old new : State) → Survives old new (CommitsShowing sql params old) → ((db : Trees) → CommitsShowing sql params old db → ⊥) → Survives old new (λ _. ⊥)
survives_query sql params old new survives none = survives_weaker old new _ _ (λ _ db h. none db h) survives

keeps_failed : (sql : List ℕ) (params : Row) (old new : State) (e : Error) → FailsToQuery sql params old new e → Keeps old new
keeps_failed sql params old new e h = elim (fails_to_query sql params old new e h) [ inl same ↦ keeps_same old new same | inr back ↦ keeps_back old new back ]

-- a query that did not begin
pub refused : {S X : Type 0} (g : Ghosts S) (old new : Held S) (r : Result X Error) (e : Error) → r ≡ Err e → (IsTrue (state g new).is_open → HasCleanDisk (state g new)) → old.in_transaction ≡ false → OnErr r (IsRefused g select_all [] old r new)
    → OnlyReads (state g old) (state g new)
refused g old new r e is law settled told =
    let h = subst (λ x. OnErr x (IsRefused g select_all [] old r new)) is told in
    rests_on (state g old) (state g new) law (survives_query select_all [] (state g old) (state g new) h.survives (λ db. commits_nothing select_all [] (state g old) db select_all_shows)) (h.mode settled)
    (λ clean. keeps_failed select_all [] (state g old) (state g new) e (subst (λ r. IfErr r (FailsToQuery select_all [] (state g old) (state g new))) is (h.err clean)))

-- and why it did not
pub refused_caused : {S X : Type 0} (g : Ghosts S) (old new : Held S) (v : Views) → AtRest (state g old) v → (r : Result X Error) (e : Error) → r ≡ Err e → HasCleanDisk (state g new) → OnErr r (IsRefused g select_all [] old r new)
    → IsCaused (state g old) (state g new) (fault_of_sql e)
refused_caused g old new v rest r e is clean told =
    let h = subst (λ x. OnErr x (IsRefused g select_all [] old x new)) is told in
    caused select_all [] (state g old) (state g new) (λ opened. (rest.shows opened).schema) all_query e (inl (h.err clean))

-- an end that is passed on
pub end_caused : {X F : Type 0} (old new : State) (r : Result X (EachEnd F)) (y end : EachEnd F) → r ≡ Err y → y ≡ end → IsCausedEnd old new end → IfErr r (IsCausedEnd old new)
end_caused old new r y end is same h = subst (λ r. IfErr r (IsCausedEnd old new)) (sym (is ∙ ap Err same)) h

pub tables_caused : {X F : Type 0} (old new : State) (r : Result X (EachEnd F)) (y : EachEnd F) (fault : TableFault) → r ≡ Err y → y ≡ Tables fault → IsCaused old new fault → IfErr r (IsCausedEnd old new)
tables_caused old new r y fault is same h = end_caused old new r y (Tables fault) is same h

-- ---- the texts of an item's row

pub path_word : (row : Row) → ReadsAsItem row → IsPathText (column row 0)
path_word row good = (good.2.0.0, good.2.0.1.in_range, good.3 ∙ ap Text good.2.0.1.same)

pub name_word : (row : Row) → ReadsAsItem row → IsWord is_utf8 (column row 1)
name_word row good = (good.1, name_utf8 good.1 good.2.1, good.4)

text_same : (s t : List ℕ) → Text s ≡ Text t → s ≡ t
text_same s t e = cc

-- the item of a row is that of its columns
pub shown_is : (row : Row) (item : Item) → row ≡ item_shown item → (path name : List ℕ) → column row 0 ≡ Text path → column row 1 ≡ Text name → (path, name) ≡ item
shown_is row item is path name first second =
    let one : path ≡ item.0 = text_same path item.0 (sym first ∙ ap (λ (r : Row). column r 0) is) in
    let two : name ≡ item.1 = text_same name item.1 (sym second ∙ ap (λ (r : Row). column r 1) is) in
    λ i. (one i, two i)

-- a text that breaks the rule of names is that of no item
pub name_broken : (row : Row) → ReadsAsItem row → (name : List ℕ) → column row 1 ≡ Text name → is_name name ≡ false → ⊥
name_broken row good name at broken =
    let same : name ≡ good.1 = text_same name good.1 (sym at ∙ good.4) in
    false≢true (sym broken ∙ ap is_name same ∙ good.2.1)

-- a row that is not read ends the walk
pub unread_end : {X F : Type 0} (r : Result X (EachEnd F)) (fault : TableFault) (Written : Type 0) → IsErrAnd r (λ y. y ≡ Tables fault) → IsDamagedRow Written fault → IfErr r (IsUnreadEnd Written)
unread_end (Ok x) fault Written h unread = absurd h
unread_end (Err y) fault Written h unread = subst (IsUnreadEnd Written) (sym h) unread

-- ---- lists

head : (a b : Row) (xs ys : List Row) → a ∷ xs ≡ b ∷ ys → a ≡ b
head a b xs ys e = cc

after_head : (a b : Row) (xs ys : List Row) → a ∷ xs ≡ b ∷ ys → xs ≡ ys
after_head a b xs ys e = cc

-- the row of the item behind so many, and that item with its place
pub record IsNext (items : Items) (placed : List Numbered) (row : Row) (n place : ℕ) : Type 0 where
  pub item : Item
  pub is : row ≡ item_shown item
  pub there : Has items item
  pub behind : List Numbered
  pub parts : placed ≡ take n placed ++ (place, item) ∷ behind
  pub more : take (suc n) placed ≡ take n placed ++ (place, item) ∷ []

-- the item of one more row
pub next_item : (first place : ℕ) (given : List Row) (row : Row) (tail : List Row) (items : Items) → place ≡ first + length given → (given ++ row ∷ []) ++ tail ≡ map item_shown items
    → IsNext items (placed_from first items) row (length given) place
next_item first place given row tail [] at is = absurd (let long = ap length is in omega (arith, length-append (given ++ row ∷ []) tail, length-append given (row ∷ [])))
next_item first place [] row tail (i ∷ items) at is =
    let same : place ≡ first = omega (arith, at) in
    record { item = i; is = head row (item_shown i) tail (map item_shown items) is; there = inl refl; behind = placed_from (first + 1) items; parts = ap (λ p. (p, i) ∷ placed_from (first + 1) items) (sym same); more = ap (λ p. (p, i) ∷ []) (sym same) }
next_item first place (r ∷ given) row tail (i ∷ items) at is =
    let later : place ≡ (first + 1) + length given = omega (arith, at) in
    let more = next_item (first + 1) place given row tail items later (after_head r (item_shown i) ((given ++ row ∷ []) ++ tail) (map item_shown items) is) in
    record { item = more.item; is = more.is; there = inr more.there; behind = more.behind; parts = ap (λ l. (first, i) ∷ l) more.parts; more = ap (λ l. (first, i) ∷ l) more.more }

pub placed_count : (first : ℕ) (items : Items) → length (placed_from first items) ≡ length items
placed_count first [] = refl
placed_count first (i ∷ items) = ap suc (placed_count (first + 1) items)

-- ---- the walk

-- so many rows were given, and the sink took the items that they are
pub record HasWalked {S K : Type 0} (g : Ghosts S) (takes : K → Numbered → K → Type 0) (old now : Held S) (before sink : K) (n : ℕ) : Type 0 where
  pub settled : now.in_transaction ≡ false
  pub survives : Survives (state g old) (state g now) (λ _. ⊥)
  pub given : HasCleanDisk (state g now) → (rows : List Row) × (length rows ≡ n) × HasGiven g select_all [] now rows × IsUnchanged (state g old) (state g now)
  pub took : HasCleanDisk (state g now) → (v : Views) → AtRest (state g old) v → Took takes before (reverse (take n (placed_from 1 v.items))) sink

module _ {S K F : Type 0} (g : Ghosts S) (takes : K → Numbered → K → Type 0) (faults : K → Numbered → F → K → Type 0) (old : Held S) (before : K) where
  -- a step on
  pub stepped : (mid new : Held S) (sink : K) (n : ℕ) → HasWalked g takes old mid before sink n → Survives (state g mid) (state g new) (λ _. ⊥) → Survives (state g old) (state g new) (λ _. ⊥)
  stepped mid new sink n w s = survives_then (state g old) (state g mid) (state g new) _ _ (λ _. ⊥) (λ _ db none. none) (λ _ db none. none) w.survives s

  -- and what it leaves
  pub walked_rests : (mid new : Held S) (sink : K) (n : ℕ) → HasWalked g takes old mid before sink n → (IsTrue (state g new).is_open → HasCleanDisk (state g new)) → Survives (state g mid) (state g new) (λ _. ⊥)
      → new.in_transaction ≡ false → (HasCleanDisk (state g new) → Keeps (state g mid) (state g new)) → OnlyReads (state g old) (state g new)
  walked_rests mid new sink n w law s settled keeps = rests_on (state g old) (state g new) law (stepped mid new sink n w s) settled
      (λ clean. keeps_then (state g old) (state g mid) (state g new) (w.given (earlier (state g mid) (state g new) s clean)).3 (keeps clean))

  pub walk_rests : (mid : Held S) (sink : K) (n : ℕ) → HasWalked g takes old mid before sink n → (IsTrue (state g mid).is_open → HasCleanDisk (state g mid)) → OnlyReads (state g old) (state g mid)
  walk_rests mid sink n w law = rests_on (state g old) (state g mid) law w.survives w.settled (λ clean. keeps_same (state g old) (state g mid) (w.given clean).3)

  -- the tables faulted behind some items
  pub faulted : {X : Type 0} (mid new : Held S) (sink : K) (n : ℕ) → HasWalked g takes old mid before sink n → Survives (state g mid) (state g new) (λ _. ⊥) → HasCleanDisk (state g new) → (v : Views) → AtRest (state g old) v
      → (r : Result X (EachEnd F)) (t : _) → r ≡ Err (Tables t) → Walks takes faults r (placed_from 1 v.items) before sink
  faulted mid new sink n w s clean v rest r t is = subst (λ r. Walks takes faults r (placed_from 1 v.items) before sink) (sym is)
      (record { front = take n (placed_from 1 v.items); rest = drop n (placed_from 1 v.items); parts = sym (take-append-drop n (placed_from 1 v.items)); took = w.took (earlier (state g mid) (state g new) s clean) v rest })

  -- the query began
  pub begun : (new : Held S) → old.in_transaction ≡ false → new.in_transaction ≡ false → Survives (state g old) (state g new) (CommitsShowing select_all [] (state g old)) → (HasCleanDisk (state g new) → HasBegun g select_all [] old new)
      → HasWalked g takes old new before before 0
  begun new settled ended survives begins = record {
    settled = ended;
    survives = survives_query select_all [] (state g old) (state g new) survives (λ db. commits_nothing select_all [] (state g old) db select_all_shows);
    given = λ clean. elim (begins clean) [
      | inl h ↦ ([], refl, h.0, h.1)
      | inr h ↦ absurd (returns_nothing select_all old.schema select_all_shows h.0)
    ];
    took = λ clean v rest. refl;
  }

  -- one more row is given
  pub record OneMore (now : Held S) (row : Row) (n : ℕ) : Type 0 where
    pub rows : List Row
    pub count : length rows ≡ n
    pub given : HasGiven g select_all [] now (rows ++ row ∷ [])
    pub same : IsUnchanged (state g old) (state g now)

  -- it is the next item's
  pub its_item : (now : Held S) (row : Row) (n : ℕ) (v : Views) → AtRest (state g old) v → OneMore now row n → IsNext v.items (placed_from 1 v.items) row n (n + 1)
  its_item now row n v rest more =
      let same = more.same.0 in
      let front = front_found (state g old).now (counts_of v) v (rest.shows same.was_open) (state g now) same.now_is (more.rows ++ row ∷ []) (given_begin g select_all [] now (more.rows ++ row ∷ []) more.given) in
      let count = more.count in
      subst (λ k. IsNext v.items (placed_from 1 v.items) row k (n + 1)) count (next_item 1 (n + 1) more.rows row front.0 v.items (omega (arith, count)) front.1)

  one_more : (mid new : Held S) (sink : K) (n : ℕ) (row : Row) → HasWalked g takes old mid before sink n → Survives (state g mid) (state g new) (λ _. ⊥) → (HasCleanDisk (state g new) → IsUnchanged (state g mid) (state g new))
      → (HasCleanDisk (state g new) → (rows : List Row) → HasGiven g select_all [] mid rows → HasGiven g select_all [] new (rows ++ row ∷ [])) → HasCleanDisk (state g new) → OneMore new row n
  one_more mid new sink n row w s same gives clean =
      let was = w.given (earlier (state g mid) (state g new) s clean) in
      record { rows = was.0; count = was.1; given = gives clean was.0 was.2; same = unchanged_then (state g old) (state g mid) (state g new) was.3 (same clean) }

  -- and the sink took it
  pub taken : {X : Type 0} (mid new : Held S) (sink after : K) (n : ℕ) (row : Row) (r : Result X (EachEnd F)) (x : X) → HasWalked g takes old mid before sink n → Survives (state g mid) (state g new) (λ _. ⊥) → new.in_transaction ≡ false
      → (HasCleanDisk (state g new) → IsUnchanged (state g mid) (state g new))
      → (HasCleanDisk (state g new) → (rows : List Row) → HasGiven g select_all [] mid rows → HasGiven g select_all [] new (rows ++ row ∷ []))
      → r ≡ Ok x → ((item : Item) → row ≡ item_shown item → TakesOne takes faults r (n + 1, item) sink after) → HasWalked g takes old new before after (n + 1)
  taken mid new sink after n row r x w s settled same gives is takes_it = record {
    settled = settled;
    survives = stepped mid new sink n w s;
    given = λ clean. let more = one_more mid new sink n row w s same gives clean in (more.rows ++ row ∷ [], length-append more.rows (row ∷ []) ∙ ap (λ k. k + 1) more.count, more.given, more.same);
    took = λ clean v rest.
        let it = its_item new row n v rest (one_more mid new sink n row w s same gives clean) in
        let all = placed_from 1 v.items in
        let next : Numbered = (n + 1, it.item) in
        let back : reverse (take (n + 1) all) ≡ next ∷ reverse (take n all) = ap (λ k. reverse (take k all)) (Rattle.std.proofs.Common.add-one n) ∙ ap reverse it.more ∙ reverse-append (take n all) (next ∷ []) in
        subst (λ l. Took takes before l after) (sym back)
        (sink, w.took (earlier (state g mid) (state g new) s clean) v rest, subst (λ r. TakesOne takes faults r next sink after) is (takes_it it.item it.is));
  }

  -- or it faulted at it, or the tables did
  pub not_taken : {X Y : Type 0} (mid new : Held S) (sink after : K) (n : ℕ) (row : Row) (r : Result X (EachEnd F)) (e : EachEnd F) (end : Result Y (EachEnd F)) → HasWalked g takes old mid before sink n → Survives (state g mid) (state g new) (λ _. ⊥)
      → (HasCleanDisk (state g new) → IsUnchanged (state g mid) (state g new))
      → (HasCleanDisk (state g new) → (rows : List Row) → HasGiven g select_all [] mid rows → HasGiven g select_all [] new (rows ++ row ∷ []))
      → r ≡ Err e → end ≡ Err e → ((item : Item) → row ≡ item_shown item → TakesOne takes faults r (n + 1, item) sink after) → HasCleanDisk (state g new) → (v : Views) → AtRest (state g old) v
      → Walks takes faults end (placed_from 1 v.items) before after
  not_taken {X = X} {Y = Y} mid new sink after n row r e end w s same gives is ended takes_it clean v rest =
      let it = its_item new row n v rest (one_more mid new sink n row w s same gives clean) in
      let took = w.took (earlier (state g mid) (state g new) s clean) v rest in
      subst (λ r. Walks takes faults r all before after) (sym ended)
      (by_end e (n + 1, it.item) it.behind it.parts took (subst (λ r. TakesOne takes faults r (n + 1, it.item) sink after) is (takes_it it.item it.is)))
    where
      all : List Numbered
      all = placed_from 1 v.items

      by_end : (e : EachEnd F) (item : Numbered) (behind : List Numbered) → all ≡ take n all ++ item ∷ behind → Took takes before (reverse (take n all)) sink → TakesOne {X = X} takes faults (Err e) item sink after
          → Walks takes faults {X = Y} (Err e) all before after
      by_end (Fault f) item behind split took h = record { front = take n all; item = item; rest = behind; parts = split; between = sink; took = took; faulted = h }
      by_end (Tables t) item behind split took h = record { front = take n all; rest = item ∷ behind; parts = split; took = subst (Took takes before (reverse (take n all))) (sym h) took }

  -- no row is left
  pub all_taken : (mid new : Held S) (sink : K) (n : ℕ) → HasWalked g takes old mid before sink n → Survives (state g mid) (state g new) (λ _. ⊥)
      → (HasCleanDisk (state g new) → (rows : List Row) → HasGiven g select_all [] mid rows → Shown select_all [] (state g mid) (state g new) rows) → HasCleanDisk (state g new) → (v : Views) → AtRest (state g old) v
      → Took takes before (reverse (placed_from 1 v.items)) sink
  all_taken mid new sink n w s gives clean v rest =
      let early = earlier (state g mid) (state g new) s clean in
      let was = w.given early in
      let same = was.3.0 in
      let whole = all_found (state g old).now (counts_of v) v (rest.shows same.was_open) (state g mid) (state g new) same.now_is was.0 (gives clean was.0 was.2) in
      let all = placed_from 1 v.items in
      let long : length all ≡ n = placed_count 1 v.items ∙ sym (length-map v.items item_shown) ∙ ap length (sym whole) ∙ was.1 in
      subst (λ l. Took takes before (reverse l) sink) (ap (λ k. take k all) (sym long) ∙ take-length all) (w.took early v rest)

  -- ---- why it ended early

  -- the next row did not come
  pub step_caused : (mid new : Held S) (sink : K) (n : ℕ) → HasWalked g takes old mid before sink n → Survives (state g mid) (state g new) (λ _. ⊥) → HasCleanDisk (state g new) → (v : Views) → AtRest (state g old) v
      → (e : Error) → FailsToAdvance g mid new e → IsCaused (state g old) (state g new) (fault_of_sql e)
  step_caused mid new sink n w s clean v rest e fails =
      let early = earlier (state g mid) (state g new) s clean in
      let was = w.given early in
      let same = was.3.0 in
      let has : IsTrue (state g mid).is_open → (state g mid).now.schema ≡ pid_schema = λ opened. ap (λ (d : Database). d.schema) same.now_is ∙ (rest.shows same.was_open).schema in
      caused_later (state g old) (state g mid) (state g new) (λ _. ⊥) (fault_of_sql e) w.survives s.counts early (caused select_all [] (state g mid) (state g new) has all_query e (inl (fails select_all [] was.0 was.2)))

  -- an item was not read
  pub unread_caused : (mid new : Held S) (sink : K) (n : ℕ) (row : Row) → HasWalked g takes old mid before sink n → Survives (state g mid) (state g new) (λ _. ⊥)
      → (HasCleanDisk (state g new) → IsUnchanged (state g mid) (state g new))
      → (HasCleanDisk (state g new) → (rows : List Row) → HasGiven g select_all [] mid rows → HasGiven g select_all [] new (rows ++ row ∷ []))
      → HasCleanDisk (state g new) → (v : Views) → AtRest (state g old) v → IsReadable v → (end : EachEnd F) → IsUnreadEnd (ReadsAsItem row) end → IsCausedEnd (state g old) (state g new) end
  unread_caused mid new sink n row w s same gives clean v rest readable end =
      let it = its_item new row n v rest (one_more mid new sink n row w s same gives clean) in
      by_end end (it.item.0, it.item.1, among v.items it.item readable.items it.there, ap (λ r. column r 0) it.is, ap (λ r. column r 1) it.is)
    where
      by_end : (end : EachEnd F) → ReadsAsItem row → IsUnreadEnd (ReadsAsItem row) end → IsCausedEnd (state g old) (state g new) end
      by_end (Tables t) good h = caused_unread (state g old) (state g new) t good h
      by_end (Fault f) good h = tt

  -- there are not so many items
  pub never_so_many : (mid : Held S) (sink : K) (n : ℕ) → HasWalked g takes old mid before sink n → HasCleanDisk (state g mid) → (v : Views) → AtRest (state g old) v → IsReadable v → 2 ^ 32 ≤ n → ⊥
  never_so_many mid sink n w clean v rest readable many =
      let was = w.given clean in
      let same = was.3.0 in
      let front = front_found (state g old).now (counts_of v) v (rest.shows same.was_open) (state g mid) same.now_is was.0 (given_begin g select_all [] mid was.0 was.2) in
      let long : length (was.0 ++ front.0) ≡ length v.items = ap length front.1 ∙ length-map v.items item_shown in
      let count = was.1 in
      omega (arith, long, length-append was.0 front.0, count, many, readable.item_count)

-- ---- whatever the tables hold and the disk does

module _ {S F : Type 0} (takes : S → Numbered → S → Type 0) (faults : S → Numbered → F → S → Type 0) (old sink after : S) where
  -- one more item
  pub took_more : {X : Type 0} (r : Result X (EachEnd F)) (x : X) → r ≡ Ok x → ((items : List Numbered) × Took takes old items sink) → ((item : Numbered) × TakesOne takes faults r item sink after) → (items : List Numbered) × Took takes old items after
  took_more r x is (items, took) (item, one) = (item ∷ items, (sink, took, subst (λ r. TakesOne takes faults r item sink after) is one))

  -- what was taken, in the order in which it was handed
  some_taken : (items : List Numbered) (sink : S) → Took takes old items sink → Took takes old (reverse (reverse items)) sink
  some_taken items sink took = subst (λ l. Took takes old l sink) (sym (reverse-reverse items)) took

  none_after : (items : List Numbered) → items ≡ items ++ []
  none_after items = sym (append-nil items)

  -- the walk ended at an item
  pub some_stopped : {X Y : Type 0} (r : Result X (EachEnd F)) (e : EachEnd F) (end : Result Y (EachEnd F)) → r ≡ Err e → end ≡ Err e → ((items : List Numbered) × Took takes old items sink) → ((item : Numbered) × TakesOne takes faults r item sink after)
      → WalksSome takes faults end old after
  some_stopped {X = X} {Y = Y} r e end is ended (items, took) (item, one) = subst (λ r. WalksSome takes faults r old after) (sym ended) (by_end e (subst (λ r. TakesOne takes faults r item sink after) is one))
    where
      by_end : (e : EachEnd F) → TakesOne {X = X} takes faults (Err e) item sink after → WalksSome takes faults {X = Y} (Err e) old after
      by_end (Fault f) h = record { items = reverse items ++ item ∷ []; walked = record { front = reverse items; item = item; rest = []; parts = refl; between = sink; took = some_taken items sink took; faulted = h } }
      by_end (Tables t) h = record { items = reverse items; walked = record { front = reverse items; rest = []; parts = none_after (reverse items); took = some_taken items after (subst (Took takes old items) (sym h) took) } }

  -- or between two
  pub some_left : {Y : Type 0} (t : TableFault) (end : Result Y (EachEnd F)) → end ≡ Err (Tables t) → ((items : List Numbered) × Took takes old items sink) → WalksSome takes faults end old sink
  some_left t end ended (items, took) = subst (λ r. WalksSome takes faults r old sink) (sym ended) (record { items = reverse items; walked = record { front = reverse items; rest = []; parts = none_after (reverse items); took = some_taken items sink took } })

  -- or with the last of them
  pub some_all : {Y : Type 0} (x : Y) (end : Result Y (EachEnd F)) → end ≡ Ok x → ((items : List Numbered) × Took takes old items sink) → WalksSome takes faults end old sink
  some_all x end ended (items, took) = subst (λ r. WalksSome takes faults r old sink) (sym ended) (record { items = reverse items; walked = some_taken items sink took })

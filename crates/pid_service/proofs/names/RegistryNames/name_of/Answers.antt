use Rattle.std.proofs.Common.{◌≡◌, ℕ, List, Option, Some, IfSome, inl, refl, rules, sym, ap, subst, ◌∙◌}
use Rattle.std.specs.FinMap.{entries, get, get-entries}
use Rattle.std.specs.FinMap.Entries.{find}
use Rattle.pid_ident.specs.PathTexts.{path_text}
use Rattle.pid_ident.specs.Trees.{text_cmp}
use Rattle.pid_tables.proofs.OfCheck.Asking.{nothing_read}
use Rattle.pid_service.proofs.Words.{connection, History, items_of, name_at, tree_of, views_of}
use Rattle.pid_service.proofs.Causes.{caused_by}
use Rattle.pid_service.proofs.Keeping.{true_not}
use Rattle.pid_service.proofs.Questions.{asked_then, caused_since}
use Rattle.pid_moderation.proofs.WriteLemmas.{tree_entries}
use Rattle.pid_service.proofs.Reached.{reached_readable}
use Rattle.pid_service.proofs.names.RegistryNames.name_of.Goals as goal

in_map : (text : List ℕ) (h : History) → entries (tree_of h) ≡ items_of h → name_at text (items_of h) ≡ get (tree_of h) text
in_map text h same = sym (get-entries (tree_of h) text ∙ ap (find text_cmp text) same)

of_some : (known : Option (Option (List ℕ))) (name is : Option (List ℕ)) → known ≡ Some name → IfSome known (λ n. n ≡ is) → name ≡ is
of_some known name is same told = subst (λ (o : Option (Option (List ℕ))). IfSome o (λ n. n ≡ is)) same told

-- ---- it is kept in memory, or a copy of it is refused

pub returns-in-Ok-Some-clause-found : goal.returns-in-Ok-Some-clause-found
returns-in-Ok-Some-clause-found g c clean h shows =
    of_some c.in-Ok-Some.field-0 c.in-Ok-Some.name _ (search rules) (c.in-Ok-Some.ensures.right (λ path. name_at path (items_of h)) (shows.kept clean).names) ∙ in_map (path_text c.args.path.now) h (tree_entries h)

pub returns-in-Ok-Some-clause-kept : goal.returns-in-Ok-Some-clause-kept
returns-in-Ok-Some-clause-kept g c =
    let on = c.if-not-self.false in
    record {
      shown = λ h shows. record {
        lives = shows.lives;
        history = shows.history;
        tables = shows.tables;
        kept = λ clean. record { names = c.get.ensures.agrees (λ path. name_at path (items_of h)) (shows.kept clean).names; text = (shows.kept clean).text; top = (shows.kept clean).top; changes = (shows.kept clean).changes; pending = (shows.kept clean).pending; numbers = (shows.kept clean).numbers; accounts = (shows.kept clean).accounts };
      };
      was_honest = λ clean. clean;
      faults = λ f. (λ may. may, λ may. may);
      told = (λ may. may, λ may. may);
      asked = λ start asked.
          asked_then g.C.Database start c.args.self.now _ on refl (nothing_read (g.C.Database.state c.args.self.now.tables.conn) c.args.self.now.tables.settled) asked;
    }

pub returns-in-Err-clause-kept : goal.returns-in-Err-clause-kept
returns-in-Err-clause-kept g c =
    let on = c.if-not-self.false in
    record {
      shown = λ h shows. record {
        lives = shows.lives;
        history = shows.history;
        tables = shows.tables;
        kept = λ clean. record { names = c.get.ensures.agrees (λ path. name_at path (items_of h)) (shows.kept clean).names; text = (shows.kept clean).text; top = (shows.kept clean).top; changes = (shows.kept clean).changes; pending = (shows.kept clean).pending; numbers = (shows.kept clean).numbers; accounts = (shows.kept clean).accounts };
      };
      was_honest = λ clean. clean;
      faults = λ f. (λ may. may, λ may. may);
      told = (λ may. may, λ may. may);
      asked = λ start asked.
          asked_then g.C.Database start c.args.self.now _ on refl (nothing_read (g.C.Database.state c.args.self.now.tables.conn) c.args.self.now.tables.settled) asked;
    }

-- ---- the tables are asked

pub returns-in-Ok-clause-found : goal.returns-in-Ok-clause-found
returns-in-Ok-clause-found g c clean h shows =
    c.in-Ok.ensures.told clean (views_of h) shows.tables ∙ in_map (path_text c.args.path.now) h (tree_entries h)

pub returns-in-Ok-clause-kept : goal.returns-in-Ok-clause-kept
returns-in-Ok-clause-kept g c =
    let on = c.if-not-self.false in
    let rests = c.item.ensures.rests in
    record {
      shown = λ h shows. record {
        lives = shows.lives;
        history = shows.history;
        tables = rests.kept (views_of h) shows.tables;
        kept = λ clean.
            let at : List ℕ → Option (List ℕ) = λ path. name_at path (items_of h) in
            let kept = shows.kept (rests.clean clean) in
            record { names = c.put.ensures.agrees at (sym (c.in-Ok.ensures.told clean (views_of h) shows.tables)) (c.get.ensures.agrees at kept.names); text = kept.text; top = kept.top; changes = kept.changes; pending = kept.pending; numbers = kept.numbers; accounts = kept.accounts };
      };
      was_honest = rests.clean;
      faults = λ f. (λ may. may, λ may. may);
      told = (λ may. may, λ may. may);
      asked = λ start asked. asked_then g.C.Database start c.args.self.now _ on refl rests asked;
    }

pub returns-in-Err-item-clause-kept : goal.returns-in-Err-item-clause-kept
returns-in-Err-item-clause-kept g c =
    let on = c.if-not-self.false in
    let rests = c.item.ensures.rests in
    record {
      shown = λ h shows. record {
        lives = shows.lives;
        history = shows.history;
        tables = rests.kept (views_of h) shows.tables;
        kept = λ clean.
            let kept = shows.kept (rests.clean clean) in
            record { names = c.get.ensures.agrees (λ path. name_at path (items_of h)) kept.names; text = kept.text; top = kept.top; changes = kept.changes; pending = kept.pending; numbers = kept.numbers; accounts = kept.accounts };
      };
      was_honest = rests.clean;
      faults = λ f. (λ may. may, λ may. may);
      told = (λ may. may, λ may. may);
      asked = λ start asked. asked_then g.C.Database start c.args.self.now _ on refl rests asked;
    }

-- ---- why a fault came

pub returns-then-not-self-clause-fault : goal.returns-then-not-self-clause-fault
returns-then-not-self-clause-fault g c = record { alive = λ on. true_not c.args.self.now.live on c.if-not-self.true; failed = λ off. refl }

pub returns-then-not-self-clause-caused : goal.returns-then-not-self-clause-caused
returns-then-not-self-clause-caused g c clean h shows = true_not c.args.self.now.live shows.lives c.if-not-self.true

pub returns-in-Err-clause-fault : goal.returns-in-Err-clause-fault
returns-in-Err-clause-fault g c = record { alive = λ on. inl refl; failed = true_not c.args.self.now.live c.if-not-self.false }

pub returns-in-Err-item-clause-fault : goal.returns-in-Err-item-clause-fault
returns-in-Err-item-clause-fault g c = record { alive = λ on. c.refusal_of.ensures.fault; failed = true_not c.args.self.now.live c.if-not-self.false }

pub returns-in-Err-item-clause-caused : goal.returns-in-Err-item-clause-caused
returns-in-Err-item-clause-caused g c clean h shows start asked =
    caused_since g.C.Database (connection start) c.args.self.now.tables.conn c.item.new.self.conn c.refusal_of.result asked.rests c.item.ensures.rests clean
    (caused_by g.C.Database c.args.self.now.tables.conn c.item.new.self.conn c.in-Err-item.fault c.refusal_of.result c.refusal_of.ensures.same
    (c.in-Err-item.ensures.told clean (views_of h) shows.tables (reached_readable h shows.history)))

pub returns-in-Err-clause-caused : goal.returns-in-Err-clause-caused
returns-in-Err-clause-caused g c clean h shows start asked = tt

-- ---- what is left as it is, and who may answer

pub returns-then-not-self-clause-kept : goal.returns-then-not-self-clause-kept
returns-then-not-self-clause-kept g c = record { shown = λ h shows. shows; was_honest = λ clean. clean; faults = λ f. (λ may. may, λ may. may); told = (λ may. may, λ may. may); asked = λ start asked. asked }

pub returns-in-Ok-Some-clause-told : goal.returns-in-Ok-Some-clause-told
returns-in-Ok-Some-clause-told g c = c.if-not-self.false

pub returns-in-Ok-clause-told : goal.returns-in-Ok-clause-told
returns-in-Ok-clause-told g c = c.if-not-self.false

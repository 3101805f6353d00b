use Rattle.std.proofs.Common.{◌≡◌, Some, None, Option, List, ℕ, sym, ap, ◌∙◌}
use Rattle.std.specs.Prelude.{is_some, option_map}
use Rattle.pid_ident.proofs.PathReadingLemmas.{text_of_parent}
use Rattle.pid_ident.specs.PathTexts.{path_text, parent_of}
use Rattle.pid_file.specs.declared.path.Path.{Path}
use Rattle.pid_moderation.specs.Items.{holds_parent}
use Rattle.pid_tables.proofs.OfCheck.Asking.{nothing_read}
use Rattle.pid_tables.proofs.tables.Tables.has_parent.Goals as goal

pub returns-in-None : goal.returns-in-None
returns-in-None g c =
    let none : parent_of c.args.path ≡ None = sym c.parent.ensures.parent ∙ c.in-None.is in
    record {
      rests = nothing_read (g.C.Database.state c.args.self.now.conn) c.args.self.now.settled;
      told = λ clean v rest. sym (ap (λ (o : Option (List ℕ)). holds_parent o v.items) (text_of_parent c.args.path ∙ ap (λ (o : Option Path). option_map path_text o) none));
    }

pub returns-in-Ok : goal.returns-in-Ok
returns-in-Ok g c =
    let some : parent_of c.args.path ≡ Some c.in-Some.parent = sym c.parent.ensures.parent ∙ c.in-Some.is in
    record {
      rests = c.item.ensures.rests;
      told = λ clean v rest.
          c.is_some.ensures ∙ ap is_some (c.in-Ok.ensures.told clean v rest)
          ∙ sym (ap (λ (o : Option (List ℕ)). holds_parent o v.items) (text_of_parent c.args.path ∙ ap (λ (o : Option Path). option_map path_text o) some));
    }

pub returns-in-Err : goal.returns-in-Err
returns-in-Err g c = record { rests = c.item.ensures.rests; told = λ clean v rest. c.in-Err.ensures.told clean v rest }

use Rattle.std.proofs.Common.{[], refl, sym, ap, subst, ◌∙◌, Err}
use Rattle.std.proofs.lemmas.Result.{err_from_is_err_and}
use Rattle.pid_ident.specs.PathTexts.{path_text}
use Rattle.pid_tables.proofs.OfRows.UnreadLemmas.{unread_more}
use Rattle.pid_tables.specs.Lists.Steps.EachItem.{TakesOne}
use Rattle.pid_tables.proofs.OfLists.WalkLemmas.{path_word, name_word, name_broken, shown_is, unread_end}
use Rattle.pid_tables.proofs.lists.walk.hand_on.Goals as goal

pub returns-in_err-path : goal.returns-in_err-path
returns-in_err-path g c =
    let p = err_from_is_err_and c.from_residual.result c.from_residual.ensures.1 in
    let is = sym (p.1 ∙ ap Err p.2) in
    record {
      one = λ item shown. subst (λ r. TakesOne g.K.Sink.takes g.K.Sink.faults r (c.args.line, item) c.args.sink.now c.args.sink.now) is refl;
      some = ((0, ([], [])), subst (λ r. TakesOne g.K.Sink.takes g.K.Sink.faults r (0, ([], [])) c.args.sink.now c.args.sink.now) is refl);
      unread = unread_end c.from_residual.result _ _ c.from_residual.ensures.1 (unread_more c.in_err-path.field-0.0 (path_word c.args.row.now) c.in_err-path.ensures.unread);
    }

pub returns-in_err-name : goal.returns-in_err-name
returns-in_err-name g c =
    let p = err_from_is_err_and c.from_residual-in_err-name.result c.from_residual-in_err-name.ensures.1 in
    let is = sym (p.1 ∙ ap Err p.2) in
    record {
      one = λ item shown. subst (λ r. TakesOne g.K.Sink.takes g.K.Sink.faults r (c.args.line, item) c.args.sink.now c.args.sink.now) is refl;
      some = ((0, ([], [])), subst (λ r. TakesOne g.K.Sink.takes g.K.Sink.faults r (0, ([], [])) c.args.sink.now c.args.sink.now) is refl);
      unread = unread_end c.from_residual-in_err-name.result _ _ c.from_residual-in_err-name.ensures.1 (unread_more c.in_err-name.field-0.0 (name_word c.args.row.now) c.in_err-name.ensures.unread);
    }

pub returns-then-not-is_name : goal.returns-then-not-is_name
returns-then-not-is_name g c = record {
  one = λ item shown. refl;
  some = ((0, ([], [])), refl);
  unread = λ good. name_broken c.args.row.now good _ c.in_ok-name.ensures.read (sym c.is_name.ensures ∙ c.if-not-is_name.true);
}

pub returns-in-Ok : goal.returns-in-Ok
returns-in-Ok g c = record {
  one = λ item shown.
      subst (λ e. g.K.Sink.takes c.args.sink.now (c.args.line, e) c.entry.new.self) (shown_is c.args.row.now item shown (path_text c.in_ok-path.path) c.in_ok-name.name.now c.in_ok-path.ensures.read.1 c.in_ok-name.ensures.read) c.in-Ok.ensures.taken;
  some = (_, c.in-Ok.ensures.taken);
  unread = tt;
}

pub returns-in-Err : goal.returns-in-Err
returns-in-Err g c = record {
  one = λ item shown.
      subst (λ e. g.K.Sink.faults c.args.sink.now (c.args.line, e) c.in-Err.fault c.entry.new.self) (shown_is c.args.row.now item shown (path_text c.in_ok-path.path) c.in_ok-name.name.now c.in_ok-path.ensures.read.1 c.in_ok-name.ensures.read) c.in-Err.ensures.fault;
  some = (_, c.in-Err.ensures.fault);
  unread = tt;
}

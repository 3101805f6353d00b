use Rattle.std.proofs.Common.{◌≡◌, rules}
use Rattle.pid_ident.specs.PathTexts.{path_text}
use Rattle.pid_http.proofs.api.members.with_path.Goals as goal

pub returns : goal.returns
returns c =
    let text : c.as_str.result.now ≡ path_text c.args.path.now = search rules in
    λ ms has. c.with_text.ensures ms (path_text c.args.path.now) has text

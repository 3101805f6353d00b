use Rattle.std.proofs.Common.{sym, ◌∙◌, inr}
use Rattle.pid_http_stream.proofs.FieldWalks.{length_fits}
use Rattle.pid_http_stream.proofs.Heads.{says, some_head}
use Rattle.pid_http_stream.proofs.judging.judge_length.Goals as goal

pub returns-in-Encoded : goal.returns-in-Encoded
returns-in-Encoded c = says _ _ _ _ c.requires.found c.requires.short c.requires.few (sym c.in-Encoded.is ∙ c.length_of.ensures)

pub returns-in-Bad : goal.returns-in-Bad
returns-in-Bad c = λ more. inr (says _ _ _ _ c.requires.found c.requires.short c.requires.few (sym c.in-Bad.is ∙ c.length_of.ensures) more)

pub returns-in-TooLong : goal.returns-in-TooLong
returns-in-TooLong c = says _ _ _ _ c.requires.found c.requires.short c.requires.few (sym c.in-TooLong.is ∙ c.length_of.ensures)

pub returns-in-Bytes : goal.returns-in-Bytes
returns-in-Bytes c = record {
  found = c.requires.found;
  within = c.requires.within;
  short = c.requires.short;
  few = c.requires.few;
  fits = length_fits _ _ (sym c.length_of.ensures ∙ c.in-Bytes.is);
  some = some_head _ _ _ c.requires.found;
  says = sym c.length_of.ensures ∙ c.in-Bytes.is;
}

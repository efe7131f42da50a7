use Rattle.std.proofs.Common.{◌≡◌, ◌⊎◌, sym, ◌∙◌, ap, subst}
use Rattle.fs_trees.specs.declared.ask.ShellAsk.{ShellAsk}
use Rattle.fs_trees.specs.declared.ask.ShellAsk.TheVariants as ask
use Rattle.shell_text.specs.Reading.{ask_of}
use Rattle.shell_text.specs.Grammar.{IsShellLine}
use Rattle.shell_text.proofs.SpelledLaws.{line_is, line_back, ask_of-cut}
use Rattle.shell_text.proofs.parse.parse_shell.Goals as goal

pub returns-clause-spelled : goal.returns-clause-spelled
returns-clause-spelled c = subst (λ (a : ShellAsk). (a ≡ ask.Bad) ⊎ IsShellLine c.args.kind c.args.line.now a) (sym c.read_line.ensures) (line_is c.args.kind c.args.line.now)

pub returns-clause-only : goal.returns-clause-only
returns-clause-only c = λ a h. c.read_line.ensures ∙ line_back c.args.kind c.args.line.now a h

pub returns-clause-cut : goal.returns-clause-cut
returns-clause-cut c = λ whole e. c.read_line.ensures ∙ ap (ask_of c.args.kind) e ∙ ask_of-cut c.args.kind whole

use Rattle.std.proofs.Common.{◌≡◌, ◌⊎◌, sym, ◌∙◌, subst, arith}
use Rattle.fs_trees.specs.declared.ask.ShellAsk.TheVariants as ask
use Rattle.shell_text.specs.declared.file_ask.FileAsk.{FileAsk}
use Rattle.shell_text.specs.declared.file_ask.FileAsk.TheVariants as file
use Rattle.shell_text.specs.FileBodies.{IsAskBody}
use Rattle.shell_text.proofs.AskBodyLaws.{body_is, body_back}
use Rattle.shell_text.proofs.frames.decode_ask.Goals as goal

pub returns-clause-spelled : goal.returns-clause-spelled
returns-clause-spelled c = subst (λ (a : FileAsk). (a ≡ file.Shell ask.Bad) ⊎ IsAskBody c.args.kind c.args.body.now a) (sym c.read_body.ensures) (body_is c.args.kind c.args.body.now (λ i. omega (arith, c.type_inv.body i)))

pub returns-clause-only : goal.returns-clause-only
returns-clause-only c = λ a h. c.read_body.ensures ∙ body_back c.args.kind c.args.body.now a h

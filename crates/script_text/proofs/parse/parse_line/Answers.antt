use Rattle.std.proofs.Common.{◌≡◌, ◌⊎◌, sym, ◌∙◌, ap, subst}
use Rattle.tsd_model.specs.declared.requests.Request.{Request}
use Rattle.tsd_model.specs.declared.requests.Request.TheVariants as ask
use Rattle.script_text.specs.Reading.{request_of}
use Rattle.script_text.specs.Grammar.{IsLine}
use Rattle.script_text.proofs.SpellingLaws.{line_is, line_back, request_of-cut}
use Rattle.script_text.proofs.parse.parse_line.Goals as goal

pub returns-clause-spelled : goal.returns-clause-spelled
returns-clause-spelled c = subst (λ (q : Request). (q ≡ ask.Bad) ⊎ IsLine c.args.line.now q) (sym (c.put_request.ensures ∙ c.read_line.ensures)) (line_is c.args.line.now)

pub returns-clause-only : goal.returns-clause-only
returns-clause-only c = λ q h. (c.put_request.ensures ∙ c.read_line.ensures) ∙ line_back c.args.line.now q h

pub returns-clause-cut : goal.returns-clause-cut
returns-clause-cut c = λ whole e. (c.put_request.ensures ∙ c.read_line.ensures) ∙ ap request_of e ∙ request_of-cut whole

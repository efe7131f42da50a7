use Rattle.std.proofs.Common.{◌≡◌, ◌⊎◌, sym, ◌∙◌, subst, arith}
use Rattle.tsd_model.specs.declared.requests.Request.{Request}
use Rattle.tsd_model.specs.declared.requests.Request.TheVariants as ask
use Rattle.request_frames.specs.Requests.{IsBody}
use Rattle.request_frames.proofs.RequestLaws.{body_is, body_back, long_is_bad}
use Rattle.request_frames.proofs.decoding.decode_body.Goals as goal

pub returns-clause-spelled : goal.returns-clause-spelled
returns-clause-spelled c = subst (λ (q : Request). (q ≡ ask.Bad) ⊎ IsBody c.args.body.now q) (sym (c.put_request.ensures ∙ c.read_body.ensures)) (body_is c.args.body.now (λ i. omega (arith, c.type_inv.body i)))

pub returns-clause-only : goal.returns-clause-only
returns-clause-only c = λ q h. (c.put_request.ensures ∙ c.read_body.ensures) ∙ body_back c.args.body.now q h

pub returns-clause-long : goal.returns-clause-long
returns-clause-long c = λ long. (c.put_request.ensures ∙ c.read_body.ensures) ∙ long_is_bad c.args.body.now (λ i. omega (arith, c.type_inv.body i)) long

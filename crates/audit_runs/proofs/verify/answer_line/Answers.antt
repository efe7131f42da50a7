use Rattle.std.proofs.Common.{inl, inr, subst}
use Rattle.volume_laws.specs.Volume.{told_by}
use Rattle.audit_runs.specs.Taking.{IsReadAs}
use Rattle.audit_runs.proofs.verify.answer_line.Goals as goal

pub returns-in-Some : goal.returns-in-Some
returns-in-Some c lines read =
    let w = told_by c.args.volume.now in
    inl (record {
      fault = c.in-Some.fault;
      first = subst (λ f. IsReadAs w.geometry.blocks lines f c.args.certificate.now.entries) c.in-Some.is read;
      says = c.fault_line.ensures;
    })

pub returns-in-None : goal.returns-in-None
returns-in-None c lines read =
    let w = told_by c.args.volume.now in
    inr (record {
      entries = c.args.certificate.now.entries;
      certificate = subst (λ f. IsReadAs w.geometry.blocks lines f c.args.certificate.now.entries) c.in-None.is read;
      verdict = c.verify.result;
      shown = c.verify.ensures.verdict;
      says = c.verdict_line.ensures;
    })

use Rattle.std.proofs.Common.{sym, ◌∙◌}
use Rattle.audit_runs.proofs.TakingLaws.{taken_next, refused_next}
use Rattle.audit_runs.proofs.taking.take_one.Goals as goal

pub returns-in-Ok-clause-taken : goal.returns-in-Ok-clause-taken
returns-in-Ok-clause-taken c blocks before few was =
    taken_next blocks before c.args.said c.args.fault c.args.certificate.now c.take.new.self (sym c.is_some.ensures ∙ c.if-is_some.false) was c.in-Ok.ensures.taken c.take.ensures.lines few

pub returns-in-Err-clause-taken : goal.returns-in-Err-clause-taken
returns-in-Err-clause-taken c blocks before few was =
    refused_next blocks before c.args.said c.args.fault c.args.certificate.now c.take.new.self c.in-Err.fault (sym c.is_some.ensures ∙ c.if-is_some.false) was c.in-Err.ensures.refused c.in-Err.ensures.line c.take.ensures.lines few

use Rattle.serving.proofs.intake.Intake.last.Goals as goal

pub returns-clause-next : goal.returns-clause-next
returns-clause-next g c = (c.ending.result, c.ending.ensures, c.at_end.ensures.next)

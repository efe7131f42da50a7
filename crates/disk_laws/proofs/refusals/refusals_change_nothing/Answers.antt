use Rattle.disk_laws.proofs.AnswerLaws.{refused_stays, no_memory_stays}
use Rattle.disk_laws.proofs.RunLaws.{run_version, run_geometry}
use Rattle.disk_laws.proofs.refusals.refusals_change_nothing.Goals as goal

pub returns-clause-refused : goal.returns-clause-refused
returns-clause-refused c = refused_stays

pub returns-clause-no_memory : goal.returns-clause-no_memory
returns-clause-no_memory c = no_memory_stays

pub returns-clause-version : goal.returns-clause-version
returns-clause-version c = λ kind s wants qs. (run_version kind s wants qs, run_geometry kind s wants qs)

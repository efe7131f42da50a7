use Rattle.tsd_core.proofs.FormLaws.{refusal_fits, targets_fit}
use Rattle.tsd_core.proofs.seen.replies_have_a_form.Goals as goal

pub returns-clause-refusals : goal.returns-clause-refusals
returns-clause-refusals c = refusal_fits

pub returns-clause-targets : goal.returns-clause-targets
returns-clause-targets c = targets_fit

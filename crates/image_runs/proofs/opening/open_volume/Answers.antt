use Rattle.std.proofs.Common.{◌≡◌, sym, ◌∙◌, ap, subst, arith}
use Rattle.std.specs.Prelude.{Err}
use Rattle.image_runs.proofs.Common.{OpenFault, Status, home, owed, IsJudged, IsUnopened, size_of_image}
use Rattle.tsd_words.specs.declared.status.Status.TheVariants as status
use Rattle.image_runs.proofs.Behind.{behind_kept}
use Rattle.image_runs.proofs.Opened.{flag_of, judged_of, unopened_of, device_of, device_only}
use Rattle.image_runs.proofs.Looking.{opens_alone}
use Rattle.image_runs.proofs.opening.open_volume.Goals as goal

pub returns-in-Err-clause-read : goal.returns-in-Err-clause-read
returns-in-Err-clause-read g c told =
    let old = (g.D.Device.view c.args.dev.now).reads in
    subst (λ (r : Status). IsJudged old r) (sym c.status_of.ensures) (judged_of old c.in-Err.why (c.in-Err.ensures.read told))

pub returns-in-Err-clause-stops : goal.returns-in-Err-clause-stops
returns-in-Err-clause-stops g c = subst (λ (r : Status). IsUnopened r) (sym c.status_of.ensures) (unopened_of c.in-Err.why)

pub returns-in-Err-clause-faults : goal.returns-in-Err-clause-faults
returns-in-Err-clause-faults g c = (
  (λ e. let is : c.status_of.result ≡ status.DeviceFault = cc in c.in-Err.ensures.faults.0 (ap (λ (w : OpenFault). Err w) (device_of c.in-Err.why (sym c.status_of.ensures ∙ is)))),
  (λ other. c.in-Err.ensures.faults.1 (λ e. other (ap (λ (w : Status). Err w) (c.status_of.ensures ∙ device_only c.in-Err.why e)))),
)

pub returns-in-Ok-clause-faults : goal.returns-in-Ok-clause-faults
returns-in-Ok-clause-faults g c = ((λ e. absurd (cc)), (λ other. c.in-Ok.ensures.faults.1 (λ e. cc)))

pub returns-in-Ok-clause-any_debt : goal.returns-in-Ok-clause-any_debt
returns-in-Ok-clause-any_debt g c told firm still = c.open_image.ensures.any_owed told firm (sym (flag_of (home (g.D.Device.view c.args.dev.now).reads)) ∙ still)

pub returns-in-Ok-clause-settled : goal.returns-in-Ok-clause-settled
returns-in-Ok-clause-settled g c told = ap owed (c.in-Ok.ensures.at told).tables ∙ c.in-Ok.ensures.settled

pub returns-in-Ok-clause-unwritten : goal.returns-in-Ok-clause-unwritten
returns-in-Ok-clause-unwritten g c told quiet = omega (arith, (c.open_image.ensures.unwritten told quiet).most)

pub returns-in-Err-clause-any_debt : goal.returns-in-Err-clause-any_debt
returns-in-Err-clause-any_debt g c told firm still = c.open_image.ensures.any_owed told firm (sym (flag_of (home (g.D.Device.view c.args.dev.now).reads)) ∙ still)

pub returns-in-Err-clause-unwritten : goal.returns-in-Err-clause-unwritten
returns-in-Err-clause-unwritten g c told quiet = omega (arith, (c.open_image.ensures.unwritten told quiet).most)

pub returns-in-Ok-clause-behind : goal.returns-in-Ok-clause-behind
returns-in-Ok-clause-behind g c told firm = behind_kept (size_of_image (g.D.Device.view c.args.dev.now).reads) (g.D.Device.view c.args.dev.now) (g.D.Device.view c.open_image.new.dev) (c.open_image.ensures.data_kept told firm)

pub returns-in-Err-clause-behind : goal.returns-in-Err-clause-behind
returns-in-Err-clause-behind g c told firm = behind_kept (size_of_image (g.D.Device.view c.args.dev.now).reads) (g.D.Device.view c.args.dev.now) (g.D.Device.view c.open_image.new.dev) (c.open_image.ensures.data_kept told firm)

pub returns-in-Ok-clause-opens : goal.returns-in-Ok-clause-opens
returns-in-Ok-clause-opens g c =
    let is = c.open_image.ensures in
    opens_alone is.untouched is.spared is.data_kept is.uses is.unwritten is.sent is.any_moment is.works

pub returns-in-Err-clause-opens : goal.returns-in-Err-clause-opens
returns-in-Err-clause-opens g c =
    let is = c.open_image.ensures in
    opens_alone is.untouched is.spared is.data_kept is.uses is.unwritten is.sent is.any_moment is.works

use Rattle.std.proofs.Common.{ℕ, List, ◌++◌, ◌∙◌, ap, subst}
use Rattle.image_runs.specs.Sending.{ProperFrontWasSent}
use Rattle.image_shell.proofs.Common.{spared_put, untouched_put}
use Rattle.image_copy.proofs.PutLaws.{behind_put, ended_still, put_moments, silent_moments, unended_copied, unended_ends}
use Rattle.image_copy.proofs.image.copy_over_image.Goals as goal

pub returns-in-Ok-put_all-clause-copied : goal.returns-in-Ok-put_all-clause-copied
returns-in-Ok-put_all-clause-copied g c told =
    let old = g.P.Device.view c.args.port.now in
    let mid = g.P.Device.view c.carry_out.new.dev in
    let e = c.in-Ok.end in (
      e,
      ended_still c.args.words.now old mid (g.P.Device.view c.put_all.new.port) e (c.in-Ok.ensures.ends told) (c.put_all.ensures.reads told) (c.put_all.ensures.loose told),
      c.in-Ok-put_all.ensures.sent told ∙ ap (λ (b : List ℕ). b ++ c.as_slice.result.now) (c.in-Ok.ensures.sent told) ∙ ap (λ (t : List ℕ). old.sent ++ t) (c.as_slice.ensures.value ∙ c.end_line.ensures),
    )

pub returns-in-Err-put_all-clause-copied : goal.returns-in-Err-put_all-clause-copied
returns-in-Err-put_all-clause-copied g c told =
    let old = g.P.Device.view c.args.port.now in
    let mid = g.P.Device.view c.carry_out.new.dev in
    let new = g.P.Device.view c.put_all.new.port in
    let e = c.in-Ok.end in (
      e,
      ended_still c.args.words.now old mid new e (c.in-Ok.ensures.ends told) (c.put_all.ensures.reads told) (c.put_all.ensures.loose told),
      subst (λ (t : List ℕ). ProperFrontWasSent old.sent t new.sent) (c.as_slice.ensures.value ∙ c.end_line.ensures) (subst (λ (b : List ℕ). ProperFrontWasSent b c.as_slice.result.now new.sent) (c.in-Ok.ensures.sent told) (c.in-Err-put_all.ensures.part told)),
    )

pub returns-in-Ok-put_all-clause-any_moment : goal.returns-in-Ok-put_all-clause-any_moment
returns-in-Ok-put_all-clause-any_moment g c told firm =
    let view = g.P.Device.view in
    put_moments c.args.words.now (view c.args.port.now) (view c.carry_out.new.dev) (view c.put_all.new.port) c.in-Ok.end _ (c.as_slice.ensures.value ∙ c.end_line.ensures) (c.in-Ok.ensures.read told).0 (c.in-Ok.ensures.ends told) (c.in-Ok.ensures.sent told) (c.in-Ok.ensures.any_moment told firm) (c.put_all.ensures.any_moment told)

pub returns-in-Err-put_all-clause-any_moment : goal.returns-in-Err-put_all-clause-any_moment
returns-in-Err-put_all-clause-any_moment g c told firm =
    let view = g.P.Device.view in
    put_moments c.args.words.now (view c.args.port.now) (view c.carry_out.new.dev) (view c.put_all.new.port) c.in-Ok.end _ (c.as_slice.ensures.value ∙ c.end_line.ensures) (c.in-Ok.ensures.read told).0 (c.in-Ok.ensures.ends told) (c.in-Ok.ensures.sent told) (c.in-Ok.ensures.any_moment told firm) (c.put_all.ensures.any_moment told)

pub returns-in-Err-clause-ending : goal.returns-in-Err-clause-ending
returns-in-Err-clause-ending g c = unended_ends c.in-Err.why c.in-Err.ensures.stops

pub returns-in-Err-clause-copied : goal.returns-in-Err-clause-copied
returns-in-Err-clause-copied g c told =
    unended_copied c.args.words.now (g.P.Device.view c.args.port.now) (g.P.Device.view c.carry_out.new.dev) c.in-Err.why c.in-Err.ensures.stops (c.in-Err.ensures.sent told)

pub returns-in-Err-clause-any_moment : goal.returns-in-Err-clause-any_moment
returns-in-Err-clause-any_moment g c told firm =
    silent_moments c.args.words.now (g.P.Device.view c.args.port.now) (g.P.Device.view c.carry_out.new.dev) (c.in-Err.ensures.any_moment told firm)

pub returns-in-Ok-put_all-clause-untouched : goal.returns-in-Ok-put_all-clause-untouched
returns-in-Ok-put_all-clause-untouched g c told foreign =
    untouched_put g.P.Device.told _ (g.P.Device.view c.args.port.now) (g.P.Device.view c.carry_out.new.dev) (g.P.Device.view c.put_all.new.port) c.put_all.result told c.put_all.ensures (c.in-Ok.ensures.untouched told foreign)

pub returns-in-Err-put_all-clause-untouched : goal.returns-in-Err-put_all-clause-untouched
returns-in-Err-put_all-clause-untouched g c told foreign =
    untouched_put g.P.Device.told _ (g.P.Device.view c.args.port.now) (g.P.Device.view c.carry_out.new.dev) (g.P.Device.view c.put_all.new.port) c.put_all.result told c.put_all.ensures (c.in-Ok.ensures.untouched told foreign)

pub returns-in-Ok-put_all-clause-behind : goal.returns-in-Ok-put_all-clause-behind
returns-in-Ok-put_all-clause-behind g c told firm =
    let view = g.P.Device.view in
    behind_put (view c.args.port.now) (view c.carry_out.new.dev) (view c.put_all.new.port) c.as_slice.result.now (g.met.P.Device.sound c.carry_out.new.dev told) (c.in-Ok.ensures.ends told).at_ease.firm (c.in-Ok.ensures.behind told firm) (c.put_all.ensures.any_moment told)

pub returns-in-Err-put_all-clause-behind : goal.returns-in-Err-put_all-clause-behind
returns-in-Err-put_all-clause-behind g c told firm =
    let view = g.P.Device.view in
    behind_put (view c.args.port.now) (view c.carry_out.new.dev) (view c.put_all.new.port) c.as_slice.result.now (g.met.P.Device.sound c.carry_out.new.dev told) (c.in-Ok.ensures.ends told).at_ease.firm (c.in-Ok.ensures.behind told firm) (c.put_all.ensures.any_moment told)

pub returns-in-Err-clause-behind : goal.returns-in-Err-clause-behind
returns-in-Err-clause-behind g c = c.in-Err.ensures.behind

pub returns-in-Ok-put_all-clause-spared : goal.returns-in-Ok-put_all-clause-spared
returns-in-Ok-put_all-clause-spared g c told =
    spared_put g.P.Device.told _ (g.P.Device.view c.args.port.now) (g.P.Device.view c.carry_out.new.dev) (g.P.Device.view c.put_all.new.port) c.put_all.result told
    (g.met.P.Device.sound c.carry_out.new.dev told) c.put_all.ensures (c.in-Ok.ensures.spared told)

pub returns-in-Err-put_all-clause-spared : goal.returns-in-Err-put_all-clause-spared
returns-in-Err-put_all-clause-spared g c told =
    spared_put g.P.Device.told _ (g.P.Device.view c.args.port.now) (g.P.Device.view c.carry_out.new.dev) (g.P.Device.view c.put_all.new.port) c.put_all.result told
    (g.met.P.Device.sound c.carry_out.new.dev told) c.put_all.ensures (c.in-Ok.ensures.spared told)

pub returns-in-Err-clause-spared : goal.returns-in-Err-clause-spared
returns-in-Err-clause-spared g c = c.in-Err.ensures.spared

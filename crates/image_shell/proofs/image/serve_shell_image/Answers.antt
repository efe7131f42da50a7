use Rattle.std.proofs.Common.{refl, sym, ap, subst, arith, append-nil}
use Rattle.image_shell.proofs.Common.{IsOfPort, LeavesPart, State, behind, behind_after, loaded_is_no_fault, mark, not_foreign, size_at, world_of}
use Rattle.image_shell.proofs.FromLaws.{faults_later, prompt_earlier}
use Rattle.tsd_words.specs.declared.status.Status.TheVariants as status
use Rattle.image_shell.proofs.StartLaws.{judged_start, not_served_by, ran_opened, ran_unopened, ran_unstarted, start_here, unopened_faults}
use Rattle.image_shell.proofs.image.serve_shell_image.Goals as goal

pub serve_opened-requires-clause-at : goal.serve_opened-requires-clause-at
serve_opened-requires-clause-at g c = λ t.
    let o = c.in-Ok-open_core.ensures in
    start_here (world_of (g.P.Device.view c.open_core.new.dev).reads) c.in-Ok-open_core.core (g.P.Device.view c.args.port.now) (g.P.Device.view c.open_core.new.dev) (ap (λ (s : State). s.world) (o.state t)) (g.met.P.Device.sound c.args.port.now t) (o.read t) (o.at t) (o.state t) o.none

pub returns-in-Ok-open_core-clause-read : goal.returns-in-Ok-open_core-clause-read
returns-in-Ok-open_core-clause-read g c = λ t.
    let o = c.in-Ok-open_core.ensures in
    judged_start (g.P.Device.view c.args.port.now).reads c.args.root c.args.cap.now (world_of (g.P.Device.view c.open_core.new.dev).reads) c.serve_opened.result (ap (λ (s : State). s.world) (o.state t)) (c.in-Ok-open_core.ensures.read t) (c.serve_opened.ensures.allowed t)

pub returns-in-Ok-open_core-clause-ran : goal.returns-in-Ok-open_core-clause-ran
returns-in-Ok-open_core-clause-ran g c =
    let o = c.in-Ok-open_core.ensures in
    ran_opened c.serve_opened.result g.Y.TreeLayout.layout g.M.Protocol.spelling c.args.root c.args.cap.now c.args.limit _ g.P.Device.told _ _ (world_of (g.P.Device.view c.open_core.new.dev).reads) (g.P.Device.view c.args.port.now) (g.P.Device.view c.open_core.new.dev) (g.P.Device.view c.serve_opened.new.port)
    (λ t. ap (λ (s : State). s.world) (o.state t)) o.read o.sent o.any_moment o.works.clock (g.F.Files.view c.args.files.now) c.requires.files c.serve_opened.ensures.ran

pub returns-in-Ok-open_core-clause-once : goal.returns-in-Ok-open_core-clause-once
returns-in-Ok-open_core-clause-once g c = c.serve_opened.ensures.once

pub returns-in-Ok-open_core-clause-faults : goal.returns-in-Ok-open_core-clause-faults
returns-in-Ok-open_core-clause-faults g c =
    let o = c.in-Ok-open_core.ensures in
    faults_later c.serve_opened.result _ _ _ _ _ (o.faults.1 (loaded_is_no_fault c.in-Ok-open_core.core status.DeviceFault)) o.works.put_faults c.serve_opened.ensures.faults

pub returns-in-Ok-clause-faults : goal.returns-in-Ok-clause-faults
returns-in-Ok-clause-faults g c = unopened_faults c.in-Err-open_core.why _ _ _ c.in-Err-open_core.ensures.stops c.in-Err-open_core.ensures.works.put_faults c.in-Err-open_core.ensures.faults

pub returns-in-Ok-clause-ran : goal.returns-in-Ok-clause-ran
returns-in-Ok-clause-ran g c =
    let o = c.in-Err-open_core.ensures in
    ran_unopened c.in-Err-open_core.why g.Y.TreeLayout.layout g.M.Protocol.spelling c.args.root c.args.cap.now c.args.limit _ g.P.Device.told _ (g.P.Device.view c.args.port.now) (g.P.Device.view c.open_core.new.dev)
    o.stops (record { taken = λ tells. sym (append-nil _); left = λ tells. refl }) refl o.sent o.any_moment

pub returns-in-Ok-open_core-clause-untouched : goal.returns-in-Ok-open_core-clause-untouched
returns-in-Ok-open_core-clause-untouched g c told foreign = absurd (not_foreign _ (c.in-Ok-open_core.ensures.read told) foreign)

pub returns-in-Ok-open_core-clause-spared : goal.returns-in-Ok-open_core-clause-spared
returns-in-Ok-open_core-clause-spared g c told bad = absurd (bad (c.in-Ok-open_core.ensures.read told))

pub returns-in-Ok-clause-untouched : goal.returns-in-Ok-clause-untouched
returns-in-Ok-clause-untouched g c = c.open_core.ensures.untouched

pub returns-in-Ok-clause-spared : goal.returns-in-Ok-clause-spared
returns-in-Ok-clause-spared g c = c.open_core.ensures.spared

pub returns-in-Ok-open_core-clause-behind : goal.returns-in-Ok-open_core-clause-behind
returns-in-Ok-open_core-clause-behind g c told firm =
    let o = c.in-Ok-open_core.ensures in
    let old = g.P.Device.view c.args.port.now in
    let mid = g.P.Device.view c.open_core.new.dev in
    let new = g.P.Device.view c.serve_opened.new.port in
    behind_after old mid new (g.met.P.Device.sound c.open_core.new.dev told) (ap (λ (s : State). s.world) (o.state told)) (c.open_core.ensures.behind told firm)
    (subst (λ size. LeavesPart (behind size) mid new) (size_at c.in-Ok-open_core.core mid (o.at told)) (c.serve_opened.ensures.behind told))

pub returns-in-Ok-clause-behind : goal.returns-in-Ok-clause-behind
returns-in-Ok-clause-behind g c = c.open_core.ensures.behind

pub returns-in-Ok-open_core-clause-prompt : goal.returns-in-Ok-open_core-clause-prompt
returns-in-Ok-open_core-clause-prompt g c told served =
    let o = c.in-Ok-open_core.ensures in
    let view = g.P.Device.view in
    rw (c.requires.files, ap (λ (s : State). s.world) (o.state told)) at
    (prompt_earlier c.serve_opened.result _ (IsOfPort view) g.M.Protocol.spelling c.args.limit (world_of (view c.open_core.new.dev).reads) _ (mark (view c.open_core.new.dev)) (mark (view c.args.port.now)) _ (o.sent told) o.works.clock (c.serve_opened.ensures.prompt told served))

pub returns-in-Ok-clause-prompt : goal.returns-in-Ok-clause-prompt
returns-in-Ok-clause-prompt g c told served = absurd (served (not_served_by c.in-Err-open_core.why c.in-Err-open_core.ensures.stops))

pub returns-in-Ok-open_core-clause-opened : goal.returns-in-Ok-open_core-clause-opened
returns-in-Ok-open_core-clause-opened g c told alone =
    let idle = c.serve_opened.ensures.idle alone in
    let o = c.in-Ok-open_core.ensures in
    record { most = omega (arith, idle, (o.uses told).most); quiet = λ quiet. omega (arith, idle, o.unwritten told quiet) }

pub returns-in-Ok-clause-opened : goal.returns-in-Ok-clause-opened
returns-in-Ok-clause-opened g c told alone =
    let o = c.in-Err-open_core.ensures in
    record { most = omega (arith, (o.uses told).most); quiet = λ quiet. omega (arith, o.unwritten told quiet) }

-- no room was found: nothing was begun
pub returns-clause-ran : goal.returns-clause-ran
returns-clause-ran g c =
    ran_unstarted _ g.M.Protocol.spelling c.args.root c.args.cap.now c.args.limit _ g.P.Device.told _ (g.P.Device.view c.args.port.now) (λ t. g.met.P.Device.sound c.args.port.now t) (record { taken = λ tells. sym (append-nil _); left = λ tells. refl }) refl

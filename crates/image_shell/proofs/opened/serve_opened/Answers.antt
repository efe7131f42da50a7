use Rattle.std.proofs.Common.{◌≡◌, inl, inr, refl, sym, ◌∙◌, subst, append-nil, arith}
use Rattle.image_shell.proofs.Common.{IsLeftOf, Stands, World, behind, behind_then, behind_until, mark, part_stays, resting, shell_state, told_world, world_of}
use Rattle.tsd_model.specs.declared.requests.Level.TheVariants as level
use Rattle.tsd_words.specs.declared.status.Status.TheVariants as status
use Rattle.image_shell.proofs.BeginLaws.{all_closed, start_now}
use Rattle.image_shell.proofs.FromLaws.{allowed_by, alone_no_fault, faults_later, is_write, level_told, moments_of_start, mounted_moments, none_served, not_served, not_write, on_answer, opened_or_served, ran_mounted}
use Rattle.image_shell.proofs.opened.serve_opened.Goals as goal

pub begin_session-requires-clause-all : goal.begin_session-requires-clause-all
begin_session-requires-clause-all g c = all_closed c.args.core.now c.requires.none

pub begin_session-requires-clause-at : goal.begin_session-requires-clause-at
begin_session-requires-clause-at g c = λ t. start_now g.K.Started.start c.args.core.now (g.P.Device.view c.args.port.now) (c.requires.at t)

pub mount_on-mounted-requires-clause-at : goal.mount_on-mounted-requires-clause-at
mount_on-mounted-requires-clause-at g c = λ t. rw (sym (c.requires.at t).world) (c.in-Ok.ensures.at t)

pub serve_shell-requires-clause-ready : goal.serve_shell-requires-clause-ready
serve_shell-requires-clause-ready g c = on_answer c.mount_on-mounted.result c.is_device.result c.is_device.ensures c.if-is_device.false c.mount_on-mounted.ensures.ready

pub serve_shell-requires-clause-at : goal.serve_shell-requires-clause-at
serve_shell-requires-clause-at g c = λ t. on_answer c.mount_on-mounted.result c.is_device.result c.is_device.ensures c.if-is_device.false (c.mount_on-mounted.ensures.at t)

pub returns-then-is_below_write-clause-allowed : goal.returns-then-is_below_write-clause-allowed
returns-then-is_below_write-clause-allowed g c = λ t. (
  c.root_level-attained.ensures ∙ level_told c.args.root c.args.cap.now g.K.Started.start c.args.core.now (g.P.Device.view c.args.port.now) (c.requires.at t),
  not_write c.root_level-attained.result c.is_below_write.result c.is_below_write.ensures c.if-is_below_write.true,
)

pub returns-else-is_device-clause-allowed : goal.returns-else-is_device-clause-allowed
returns-else-is_device-clause-allowed g c = λ t.
    let told = level_told c.args.root c.args.cap.now g.K.Started.start c.args.core.now (g.P.Device.view c.args.port.now) (c.requires.at t) in
    let write : c.root_level-attained.result ≡ level.Write = is_write c.root_level-attained.result c.is_below_write.result c.is_below_write.ensures c.if-is_below_write.false in
    allowed_by c.args.root c.args.cap.now g.K.Started.start c.serve_shell.result _ _ _ _ _ c.serve_shell.ensures.ran.1.these (sym told ∙ sym c.root_level-attained.ensures ∙ write)

pub returns-then-is_below_write-clause-ran : goal.returns-then-is_below_write-clause-ran
returns-then-is_below_write-clause-ran g c =
    let v = g.P.Device.view c.args.port.now in
    none_served (status.RootDenied c.root_level-attained.result) (g.F.Files.view c.args.files.now) g.M.Protocol.spelling c.args.limit _ g.P.Device.told _ g.K.Started.start v v (λ x. Stands x g.K.Started.start) tt (record { taken = λ tells. sym (append-nil _); left = λ tells. refl }) refl
    (λ t. refl) (λ t. moments_of_start g.K.Started.start c.args.core.now v (g.met.P.Device.sound c.args.port.now t) (c.requires.at t)) (λ t x stands. inl stands)

pub returns-in-Err-clause-ran : goal.returns-in-Err-clause-ran
returns-in-Err-clause-ran g c =
    let v = g.P.Device.view c.args.port.now in
    none_served c.in-Err.why (g.F.Files.view c.args.files.now) g.M.Protocol.spelling c.args.limit _ g.P.Device.told _ g.K.Started.start v (g.P.Device.view c.begin_session.new.dev) (λ x. Stands x (world_of v.reads)) (not_served c.in-Err.why c.in-Err.ensures.stops) (record { taken = λ tells. sym (append-nil _); left = λ tells. refl }) refl
    c.in-Err.ensures.sent c.in-Err.ensures.any_moment (λ t x stands. inl (subst (λ (w : World). Stands x w) (c.requires.at t).world stands))

pub returns-then-is_device-clause-ran : goal.returns-then-is_device-clause-ran
returns-then-is_device-clause-ran g c =
    let view = g.P.Device.view in
    let start = g.K.Started.start in
    let f = g.F.Files.view c.args.files.now in
    let b = c.in-Ok.ensures in
    let m = c.mount_on-mounted.ensures in
    none_served status.DeviceFault f g.M.Protocol.spelling c.args.limit _ g.P.Device.told _ start (view c.args.port.now) (view c.mount_on-mounted.new.dev) (IsLeftOf start (resting f start)) tt (record { taken = λ tells. sym (append-nil _); left = λ tells. refl }) refl
    (λ t. m.sent t ∙ b.sent t) (λ t. mounted_moments f start _ (view c.begin_session.new.dev) _ (c.requires.at t).valid (c.requires.at t).world (b.sent t) (b.any_moment t) (m.any_moment t)) (λ t x left. inr (refl, left))

pub returns-else-is_device-clause-ran : goal.returns-else-is_device-clause-ran
returns-else-is_device-clause-ran g c =
    let view = g.P.Device.view in
    let start = g.K.Started.start in
    let f = g.F.Files.view c.args.files.now in
    let b = c.in-Ok.ensures in
    let m = c.mount_on-mounted.ensures in
    let s = c.serve_shell.ensures in
    ran_mounted c.serve_shell.result f (g.F.Files.view c.mount_on-mounted.new.files) g.M.Protocol.spelling c.args.limit _ g.P.Device.told _ _ start c.serve_shell.new.core (view c.args.port.now) (view c.mount_on-mounted.new.dev) (view c.serve_shell.new.port) _
    (λ t. (c.requires.at t).valid) (λ t. m.sent t ∙ b.sent t) (λ t. mounted_moments f start _ (view c.begin_session.new.dev) _ (c.requires.at t).valid (c.requires.at t).world (b.sent t) (b.any_moment t) (m.any_moment t))
    (λ t. on_answer c.mount_on-mounted.result c.is_device.result c.is_device.ensures c.if-is_device.false (m.first t)) s.at s.closed s.still s.ran

pub returns-then-is_below_write-clause-behind : goal.returns-then-is_below_write-clause-behind
returns-then-is_below_write-clause-behind g c told =
    part_stays (behind (told_world c.args.core.now).geometry) (g.P.Device.view c.args.port.now) (g.met.P.Device.sound c.args.port.now told) (c.requires.at told).core.0

pub returns-in-Err-clause-behind : goal.returns-in-Err-clause-behind
returns-in-Err-clause-behind g c = c.in-Err.ensures.behind.any_moment

pub returns-then-is_device-clause-behind : goal.returns-then-is_device-clause-behind
returns-then-is_device-clause-behind g c = (behind_then g.P.Device.told c.args.core.now c.begin_session.new.core c.mount_on-mounted.new.core _ _ _ c.in-Ok.ensures.behind c.mount_on-mounted.ensures.behind).any_moment

pub returns-else-is_device-clause-behind : goal.returns-else-is_device-clause-behind
returns-else-is_device-clause-behind g c =
    let view = g.P.Device.view in
    let told = g.P.Device.told in
    behind_until told c.args.core.now c.mount_on-mounted.new.core (view c.args.port.now) (view c.mount_on-mounted.new.dev) (view c.serve_shell.new.port)
    (behind_then told c.args.core.now c.begin_session.new.core c.mount_on-mounted.new.core _ _ _ c.in-Ok.ensures.behind c.mount_on-mounted.ensures.behind) c.serve_shell.ensures.behind

pub returns-else-is_device-clause-idle : goal.returns-else-is_device-clause-idle
returns-else-is_device-clause-idle g c alone = absurd (opened_or_served c.serve_shell.result _ _ _ _ _ alone c.serve_shell.ensures.ran.1.these)

pub returns-in-Err-clause-idle : goal.returns-in-Err-clause-idle
returns-in-Err-clause-idle g c alone = c.in-Err.ensures.idle (alone_no_fault c.in-Err.why alone _ refl)

pub returns-then-is_below_write-clause-prompt : goal.returns-then-is_below_write-clause-prompt
returns-then-is_below_write-clause-prompt g c told served = absurd (served tt)

pub returns-in-Err-clause-prompt : goal.returns-in-Err-clause-prompt
returns-in-Err-clause-prompt g c told served = absurd (served (not_served c.in-Err.why c.in-Err.ensures.stops))

pub returns-then-is_device-clause-prompt : goal.returns-then-is_device-clause-prompt
returns-then-is_device-clause-prompt g c told served = absurd (served tt)

pub returns-else-is_device-clause-prompt : goal.returns-else-is_device-clause-prompt
returns-else-is_device-clause-prompt g c told served =
    let m = c.mount_on-mounted.ensures in
    let mid = c.mount_on-mounted.new.dev in
    record {
      first = shell_state (g.F.Files.view c.mount_on-mounted.new.files) (g.P.Device.view mid).reads;
      is_first = on_answer c.mount_on-mounted.result c.is_device.result c.is_device.ensures c.if-is_device.false (m.first told);
      mounted = mark (g.P.Device.view mid);
      of_port = (mid, refl);
      not_before = omega (arith, c.in-Ok.ensures.clock, m.clock);
      sent = m.sent told ∙ c.in-Ok.ensures.sent told;
      prompt = c.serve_shell.ensures.prompt told;
    }

pub returns-else-is_device-clause-faults : goal.returns-else-is_device-clause-faults
returns-else-is_device-clause-faults g c =
    let m = c.mount_on-mounted.ensures in
    let b = c.in-Ok.ensures in
    faults_later c.serve_shell.result _ _ _ _ _ (on_answer c.mount_on-mounted.result c.is_device.result c.is_device.ensures c.if-is_device.false m.faultless ∙ b.faults.1 (λ e. cc)) (m.put_faults ∙ b.put_faults) c.serve_shell.ensures.faults

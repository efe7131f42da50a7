use Rattle.std.proofs.Common.{true, refl, inl, inr, ap}
use Rattle.std.proofs.lemmas.Bool.{or_right}
use Rattle.image_shell.proofs.Common.{behind_of_core}
use Rattle.tsd_model.specs.ReplyForm.{is_refusal}
use Rattle.tsd_words.specs.declared.status.Status.TheVariants as status
use Rattle.image_shell.proofs.BeginLaws.{begun_done, not_begun}
use Rattle.image_shell.proofs.opened.begin_session.Goals as goal

pub returns-in-Ok-Done : goal.returns-in-Ok-Done
returns-in-Ok-Done g c =
    let view = g.D.Device.view in
    let e = c.in-Ok-Done.ensures in
    begun_done c.args.session c.requires.some c.requires.few g.D.Device.told (g.L.Placing.kind c.args.placement.now) c.args.core.now c.apply.new.core (view c.args.dev.now) (view c.apply.new.dev) c.requires.all c.requires.at
    e.sent e.any_moment e.works (behind_of_core g.D.Device.told c.args.core.now c.apply.new.core (view c.args.dev.now) (view c.apply.new.dev) (λ told. g.met.D.Device.sound c.apply.new.dev told) e.size e.behind) tt c.in-Ok-Done.field-0 c.in-Ok-Done.field-0-is e.ready e.at e.given e.told e.faults
    (ap (λ d. (view d).writes) (e.asks_nothing (or_right (is_refusal c.in-Ok-Done.field-0) true refl)))

pub returns-in-Ok : goal.returns-in-Ok
returns-in-Ok g c =
    let view = g.D.Device.view in
    let e = c.in-Ok.ensures in
    not_begun c.args.session c.requires.some c.requires.few g.D.Device.told (g.L.Placing.kind c.args.placement.now) c.args.core.now c.apply.new.core (view c.args.dev.now) (view c.apply.new.dev) c.requires.all c.requires.at
    e.sent e.any_moment e.works (behind_of_core g.D.Device.told c.args.core.now c.apply.new.core (view c.args.dev.now) (view c.apply.new.dev) (λ told. g.met.D.Device.sound c.apply.new.dev told) e.size e.behind) status.NoMemory (inr refl) (λ is. absurd (cc), λ ne. e.faults)
    (λ ne. ap (λ d. (view d).writes) (e.asks_nothing (or_right (is_refusal c.in-Ok.field-0) true refl)))

pub returns-in-Err : goal.returns-in-Err
returns-in-Err g c =
    let view = g.D.Device.view in
    let e = c.in-Err.ensures in
    not_begun c.args.session c.requires.some c.requires.few g.D.Device.told (g.L.Placing.kind c.args.placement.now) c.args.core.now c.apply.new.core (view c.args.dev.now) (view c.apply.new.dev) c.requires.all c.requires.at
    e.sent e.any_moment e.works (behind_of_core g.D.Device.told c.args.core.now c.apply.new.core (view c.args.dev.now) (view c.apply.new.dev) (λ told. g.met.D.Device.sound c.apply.new.dev told) e.size e.behind) status.DeviceFault (inl refl) (λ is. e.faults, λ ne. absurd (ne refl)) (λ ne. absurd (ne refl))

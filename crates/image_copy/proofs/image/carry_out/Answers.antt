use Rattle.std.proofs.Common.{ap, Err}
use Rattle.image_shell.proofs.Common.{loaded_is_no_fault}
use Rattle.image_runs.proofs.Looking.{looked}
use Rattle.tsd_words.specs.declared.status.Status.TheVariants as status
use Rattle.image_copy.proofs.ImageLaws.{begins_on, carried_out_by, not_carried_out, refused, shares_on, unopened_judged, unopened_unended}
use Rattle.image_copy.proofs.PutLaws.{nothing_done}
use Rattle.image_copy.proofs.image.carry_out.Goals as goal

pub copy_and_close-requires-clause-start : goal.copy_and_close-requires-clause-start
copy_and_close-requires-clause-start g c =
    begins_on g.D.Device.told c.args.words.now c.in-Ok-open_volume.volume (g.D.Device.view c.open_volume.new.dev) (λ t. g.met.D.Device.sound c.open_volume.new.dev t) c.in-Ok-open_volume.ensures.at c.in-Ok-admit.core c.in-Ok-admit.shared c.in-Ok-admit.ensures.admitted
    (g.A.Files.view c.args.from.now) (g.B.Files.view c.args.into.now) c.requires.source c.requires.target

pub copy_and_close-requires-clause-shared : goal.copy_and_close-requires-clause-shared
copy_and_close-requires-clause-shared g c =
    shares_on g.D.Device.told c.args.words.now c.in-Ok-open_volume.volume (g.D.Device.view c.open_volume.new.dev) (λ t. g.met.D.Device.sound c.open_volume.new.dev t) c.in-Ok-open_volume.ensures.at c.in-Ok-admit.core c.in-Ok-admit.shared c.in-Ok-admit.ensures.admitted
    (g.A.Files.view c.args.from.now) (g.B.Files.view c.args.into.now) c.requires.source c.requires.target

pub returns-in-Ok-admit : goal.returns-in-Ok-admit
returns-in-Ok-admit g c =
    let view = g.D.Device.view in
    let o = c.in-Ok-open_volume.ensures in
    let made = c.copy_and_close in
    carried_out_by g.D.Device.told c.args.words.now (view c.args.dev.now) (view c.open_volume.new.dev) c.in-Ok-open_volume.volume o.at o.read o.done o.sent o.any_moment o.works.put_faults (o.faults.1 (loaded_is_no_fault c.in-Ok-open_volume.volume status.DeviceFault))
    (λ t. g.met.D.Device.sound c.open_volume.new.dev t) c.open_volume.ensures.behind (λ t. looked (view c.args.dev.now) (view c.open_volume.new.dev) (c.open_volume.ensures.uses t) (c.open_volume.ensures.unwritten t))
    (view made.new.dev) made.new.core c.in-Ok-admit.ensures.admitted.both (g.A.Files.view c.args.from.now) (g.B.Files.view c.args.into.now) c.requires.source c.requires.target made.result made.ensures.closed made.ensures.copies

pub returns-in-Ok-open_volume : goal.returns-in-Ok-open_volume
returns-in-Ok-open_volume g c =
    let view = g.D.Device.view in
    let o = c.in-Ok-open_volume.ensures in
    refused g.D.Device.told c.args.words.now (view c.args.dev.now) (view c.open_volume.new.dev) c.in-Ok-open_volume.volume o.at o.read o.done o.sent o.any_moment o.works.put_faults (o.faults.1 (loaded_is_no_fault c.in-Ok-open_volume.volume status.DeviceFault))
    (λ t. g.met.D.Device.sound c.open_volume.new.dev t) c.open_volume.ensures.behind (λ t. looked (view c.args.dev.now) (view c.open_volume.new.dev) (c.open_volume.ensures.uses t) (c.open_volume.ensures.unwritten t))
    c.in-Err-admit.why c.in-Err-admit.ensures.refused

pub returns-in-Ok : goal.returns-in-Ok
returns-in-Ok g c =
    let view = g.D.Device.view in
    let o = c.in-Err-open_volume.ensures in
    let why = c.in-Err-open_volume.why in
    not_carried_out g.D.Device.told c.args.words.now (view c.args.dev.now) (view c.open_volume.new.dev) why (unopened_unended why o.stops) (λ t. unopened_judged c.args.words.now _ why o.stops (o.read t)) o.sent o.any_moment o.untouched o.spared o.works.put_faults
    ((λ is. o.faults.0 (ap Err is)), λ ne. o.faults.1 (λ e. ne (cc))) c.open_volume.ensures.behind (λ t out. looked (view c.args.dev.now) (view c.open_volume.new.dev) (c.open_volume.ensures.uses t) (c.open_volume.ensures.unwritten t))

pub returns : goal.returns
returns g c = nothing_done g.D.Device.told c.args.words.now (g.D.Device.view c.args.dev.now) (λ t. g.met.D.Device.sound c.args.dev.now t)

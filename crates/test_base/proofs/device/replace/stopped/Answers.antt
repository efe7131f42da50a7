use Rattle.std.proofs.Common.{◌∙◌, ap, refl, subst}
use Rattle.image_device.specs.FuseStation.{fuse_sound, fuse_view}
use Rattle.image_device.specs.MemStation.{station_view}
use Rattle.test_base.specs.TwoCopies.{shown, ShowsEither}
use Rattle.image_device.proofs.Moments.{leaves_now}
use Rattle.test_base.proofs.device.replace.stopped.Goals as goal

pub returns : goal.returns
returns c =
    let x = (station_view c.into_image.result).reads in
    let begun = ap (λ m. shown (station_view m).reads) c.new-fuse.ensures.within ∙ ap shown c.new-2.ensures.reads in
    let left = leaves_now (fuse_view c.new-fuse.result) (fuse_view c.replace.new.dev) _ (fuse_sound c.replace.new.dev) (c.replace.ensures.any_moment tt) x (fuse_view c.replace.new.dev).sent (c.into_image.ensures.image, refl) in
    subst (λ old. ShowsEither old c.args.bytes.now x) begun left.0

use Rattle.std.proofs.Common.{ap, length, refl}
use Rattle.image_device.specs.MemStation.{found_in}
use Rattle.image_device.proofs.Images.{settled_agrees, settled_firm, settled_image, settled_new, settled_old, settled_sent, settled_torn, settled_whole}
use Rattle.image_device.proofs.mem.MemStation.into_image.Goals as goal

pub invariant_of-result-clause-whole : goal.invariant_of-result-clause-whole
invariant_of-result-clause-whole c = let m = c.args.self in settled_whole c.args.pick m.synced (found_in m) _ c.settle_all.ensures (length m.log.items) _ c.pick_fits.ensures m.whole

pub invariant_of-result-clause-agrees : goal.invariant_of-result-clause-agrees
invariant_of-result-clause-agrees c = let m = c.args.self in settled_agrees c.args.pick m.synced (found_in m) _ c.settle_all.ensures _ _ c.clear.ensures.items c.clear-2.ensures.items

pub returns-clause-image : goal.returns-clause-image
returns-clause-image c =
    let m = c.args.self in
    settled_image c.args.pick m.synced (found_in m) _ c.settle_all.ensures _ c.clear.ensures.items m.log.items m.sent.items m.agrees (length m.log.items) c.pick_fits.ensures m.whole

pub returns-clause-old : goal.returns-clause-old
returns-clause-old c is = let m = c.args.self in settled_old c.args.pick m.synced (found_in m) _ c.settle_all.ensures _ c.clear.ensures.items m.log.items m.sent.items m.agrees is

pub returns-clause-new : goal.returns-clause-new
returns-clause-new c is = let m = c.args.self in settled_new c.args.pick m.synced (found_in m) _ c.settle_all.ensures _ c.clear.ensures.items m.log.items m.sent.items m.agrees is

pub returns-clause-torn : goal.returns-clause-torn
returns-clause-torn c b is n loose = let m = c.args.self in settled_torn c.args.pick m.synced (found_in m) _ c.settle_all.ensures _ c.clear.ensures.items m.log.items m.sent.items m.agrees b is n loose

pub returns-clause-unused : goal.returns-clause-unused
returns-clause-unused c =
    let m = c.args.self in
    record {
      firm = λ n. settled_firm c.args.pick m.synced (found_in m) _ c.settle_all.ensures _ c.clear.ensures.items n;
      sent = settled_sent c.args.pick m.synced (found_in m) _ c.settle_all.ensures _ c.clear.ensures.items;
      clock = ap length c.clear.ensures.items;
      faults = refl;
      put_faults = refl;
      writes = refl;
      calls = refl;
      short = refl;
    }

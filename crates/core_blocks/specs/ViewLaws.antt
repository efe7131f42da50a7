-- What holds of a core at a device at each moment.
use Rattle.std.proofs.Common.{◌≡◌, inl, inr, ℕ, zero, suc, ◌+◌, ◌≤◌, Option, Some, None, refl, sym, ◌∙◌, ap, subst}
use Rattle.std.proofs.Common.{arith}
use Rattle.tsd_model.specs.World.{World}
use Rattle.tsd_model.specs.declared.requests.PlaceKind.{PlaceKind}
use Rattle.image_device.specs.View.{IsSound as IsDeviceSound, View as DeviceView}
use Rattle.image_device.proofs.Moments.{firm_image}
use Rattle.image_layout.specs.Image.{Image}
use Rattle.image_world.specs.Stands.{Stands, world_of}
use Rattle.fs_port.specs.View.{IsDiskSound}
use Rattle.tsd_core.specs.Core.{Core, IsCoreAt}
use Rattle.tsd_core.proofs.AtLaws.{at_volume, like_at}
use Rattle.core_blocks.specs.CoreView.{IsMoment, SaysWorld, core_view}

-- an image that stands for a world says no other
pub says_one : (x : Image) (w : World) (o : Option World) → Stands x w → SaysWorld x o → o ≡ Some w
says_one x w (Some v) stands says = ap Some (says.world ∙ sym stands.world)
says_one x w None stands says = absurd (says stands.good)

-- ---- moments

-- each moment of the disk is of one of the device
pub moment_of : (t : ℕ) → (since : ℕ) × IsMoment since t
moment_of zero = (0, record { first = omega arith; second = omega arith })
moment_of (suc zero) = (0, record { first = omega arith; second = omega arith })
moment_of (suc (suc t)) =
    let was = moment_of t in
    (suc was.0, record { first = omega (arith, was.1.first); second = omega (arith, was.1.second) })

-- the second moment is of no other, and isn't a first one
pub second_moment_of : (since t : ℕ) → IsMoment since (t + t + 1) → since ≡ t
second_moment_of since t m = omega (arith, m.first, m.second)

pub no_first : (since t : ℕ) → t + t + 1 ≡ since + since → ⊥
no_first since t e = omega (arith, e)

-- the first is of no other
pub first_moment_of : (since t : ℕ) → IsMoment since (t + t) → since ≡ t
first_moment_of since t m = omega (arith, m.first, m.second)

-- ---- a disk

pub core_sound : (lenders : ℕ × ℕ) (kind : PlaceKind) (c : Core) (v : DeviceView) → IsDeviceSound v → IsCoreAt c v
    → IsDiskSound (core_view lenders kind c v)
core_sound lenders kind c v sound at =
    let like = like_at c.volume v (at_volume c v at) in
    record {
      geometry = sym like.geometry;
      version = sym like.version;
      records = sym like.records;
      counts_now = λ t le.
          let m = moment_of t in
          let before : m.0 ≤ v.clock = omega (arith, le, m.1.first) in (
            record { image = v.reads; world = Some (world_of v.reads) },
            refl,
            inl (record {
              since = m.0;
              moment = m.1;
              was_left = sound.counts_now m.0 v.reads v.sent before (sound.own, refl);
              says = here;
            }),
          );
      only_now = λ x f left. elim left [
        | inl h ↦
            let since = second_moment_of h.since v.clock h.moment in
            let now = sound.only_now x.image f (subst (λ t. v.left t x.image f) since h.was_left) in (
              says_one v.reads (world_of v.reads) x.world here
                  (subst (λ y. SaysWorld y x.world) (firm_image v at.0 x.image f now) h.says),
              now.1,
            )
        | inr e ↦ absurd (no_first e.since v.clock e.moment)
      ];
    }
  where
    here : Stands v.reads (world_of v.reads)
    here = record { good = at.1.good; world = refl }

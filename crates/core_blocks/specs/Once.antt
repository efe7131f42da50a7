-- There is one proof at most that a core is at a device, so that a type may keep it beside its fields.
use Rattle.std.proofs.Common.{◌≡◌, ℕ, arith, List, false}
use Rattle.std.proofs.Props.{props}
use Rattle.std.specs.Prelude.{Ok}
use Rattle.std.specs.Coded.{Coded-set, coded_ℕ}
use Rattle.image_device.specs.View.{View}
use Rattle.image_layout.specs.Header.{IsVersion, IsHeaderReading}
use Rattle.image_layout.specs.Image.{Image}
use Rattle.image_layout.specs.Lawful.{IsLawful-prop, either_prop}
use Rattle.image_layout.specs.declared.header.Header.{Header}
use Rattle.image_world.specs.Faults.{IsGood}
use Rattle.tsd_core.specs.Core.{Core, FitsReads, IsCoreAt, IsCoreReady}

version_prop : (n : ℕ) → IsProp (IsVersion n)
version_prop n = either_prop (Coded-set coded_ℕ n 1) (Coded-set coded_ℕ n 2) (λ one two. omega arith)

reading_prop : (bytes : List ℕ) (h : Header) → IsProp (IsHeaderReading bytes (Ok h))
reading_prop bytes h = hlevel (props, version_prop, IsLawful-prop)

pub good_prop : (x : Image) → IsProp (IsGood x)
good_prop x = hlevel (props, reading_prop)

pub holds_prop : (c : Core) (x : Image) → IsProp (FitsReads c x)
holds_prop c x = hlevel (props, good_prop)

pub at_prop : (told : Type 0) (c : Core) (v : View) → IsProp (told → c.volume.is_spent ≡ false → IsCoreAt c v)
at_prop told c v = hlevel (props, holds_prop)

pub ready_prop : (c : Core) → IsProp (c.volume.is_spent ≡ false → IsCoreReady c)
ready_prop c = hlevel props

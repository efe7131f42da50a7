-- What a disk that doesn't tell its world says of itself.
use Rattle.std.specs.Prelude.{ℕ, Bool, [], ◌∷◌, Some}
use Rattle.tsd_model.specs.Records.{kept}
use Rattle.tsd_model.specs.Run.{fresh_world}
use Rattle.tsd_model.specs.declared.caps.CapPair.{CapPair}
use Rattle.tsd_model.specs.declared.geometry.Geometry.{Geometry}
use Rattle.tsd_model.specs.declared.requests.PlaceKind.TheVariants.{Near}
use Rattle.fs_port.specs.View.{DiskView}
use Rattle.fixtures_fs.specs.Ours.{cap_of_byte}

-- what is shown for reading and for writing
abbrev pub caps : CapPair
caps = record { read = cap_of_byte 170; write = cap_of_byte 187 }

-- Session 1 is open, and of version 1 is what is kept of the capabilities. The world counts for nothing, as it isn't
-- told.
abbrev pub untold_view : Geometry → ℕ → Bool → DiskView
untold_view g faults spent = record {
  geometry = g;
  version = 1;
  records = kept 1 caps ∷ [];
  sessions = Some [] ∷ [];
  kind = Near;
  world = fresh_world g (caps ∷ []);
  sent = [];
  clock = 0;
  left = λ t x f. Unit {0};
  faults = faults;
  put_faults = 0;
  lenders = (0, 0);
  spent = spent;
}

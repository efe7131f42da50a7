-- A core at a device, and its volume there.
use Rattle.std.proofs.Common.{refl, subst}
use Rattle.tsd_core.proofs.Common.{View, Tables, Stands, world_of, AreLike, Volume, told_by, world_on, IsVolumeAt, Core, IsCoreAt}
use Rattle.image_world.specs.Raw.{blank_of}
use Rattle.image_world.proofs.WorldLaws.{told_like}

pub at_volume : (c : Core) (v : View) → IsCoreAt c v → IsVolumeAt c.volume v
at_volume c v at = record {
  firm = at.0;
  ring = record { shows = at.1.shows; others_closed = at.1.others_closed; journal_firm = λ n e. at.0 n };
  good = at.1.good;
  tables = at.1.tables;
}

pub at_core : (c : Core) (v : View) → IsVolumeAt c.volume v → IsCoreAt c v
at_core c v at = (at.firm, record { shows = at.ring.shows; others_closed = at.ring.others_closed; good = at.good; tables = at.tables })

-- what is told is like the disk
pub like_at : (vol : Volume) (v : View) → IsVolumeAt vol v → AreLike (told_by vol) (world_on v)
like_at vol v at = subst (λ (t : Tables). AreLike (blank_of t) (world_of v.reads)) at.tables (told_like v.reads)

pub stands_at : (vol : Volume) (v : View) → IsVolumeAt vol v → Stands v.reads (world_on v)
stands_at vol v at = record { good = at.good; world = refl }

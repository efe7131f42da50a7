-- Disks with closed journals that agree outside them.
use Rattle.std.proofs.Common.{◌≡◌, ℕ, sym, ◌∙◌, subst}
use Rattle.tsd_model.specs.World.{World}
use Rattle.image_device.specs.Image.{Image}
use Rattle.intent_journal.specs.Home.{home, is_journal, AgreeBut}
use Rattle.intent_journal.specs.Records.{AreClosed}
use Rattle.image_world.specs.Faults.{IsGood}
use Rattle.image_world.specs.Stands.{Stands}
use Rattle.image_world.proofs.AgreeLaws.{alike_outside, old_stands, same_owe}
use Rattle.image_world.proofs.AlikeLaws.{alike_tables}
use Rattle.gathering.specs.Left.{IsHomeOf}
use Rattle.gathering.proofs.Closed.{closed_home, closed_ring, closed_valid}
use Rattle.gathering_laws.specs.Standing.{CarriesOver}

-- an image with the same home stands for the same world
pub stands_alike : (image x : Image) (w : World) → Stands image w → IsHomeOf (home image) x → Stands x w
stands_alike image x w stands has = subst (λ (v : World). Stands x v) (sym stands.world) (old_stands image x stands.good has.stands has.valid)

-- so does one whose home is a disk with a closed journal
pub closed_alike : (sectors x : Image) (w : World) → Stands sectors w → AreClosed sectors → IsHomeOf sectors x → Stands x w
closed_alike sectors x w stands closed has = stands_alike sectors x w stands (record { valid = has.valid; stands = λ n out. has.stands n out ∙ (λ i. sym (closed_home sectors closed) i n) })

-- what was held in memory over one of two such disks fits the other
pub carries_over : (x y : Image) → IsGood x → AreClosed x → AreClosed y → AgreeBut is_journal x y → CarriesOver x y
carries_over x y good closed shut agrees =
    let homes : AgreeBut is_journal (home x) (home y) = λ n out. (λ i. closed_home y shut i n) ∙ agrees n out ∙ (λ i. sym (closed_home x closed) i n) in
    let stands = old_stands x y good homes (closed_valid y shut) in
    record {
      ring = (closed_ring y shut).shows;
      closed = shut;
      good = stands.good;
      world = sym stands.world;
      tables = alike_tables (home x) (home y) good.header (alike_outside (home x) (home y) homes);
      owes = same_owe x y good.header (record { valid = closed_valid y shut ∙ sym (closed_valid x closed); stands = homes });
    }

-- What a core holds in memory, from the disk of one group to that of the next.
use Rattle.std.specs.Prelude.{◌≡◌, ◌+◌, []}
use Rattle.std.proofs.Common.{sym, ◌∙◌, ap, arith}
use Rattle.tsd_model.specs.Step.{State}
use Rattle.tsd_model.specs.World.{World}
use Rattle.tsd_model.specs.declared.geometry.Geometry.{Geometry}
use Rattle.tsd_model.specs.declared.requests.PlaceKind.{PlaceKind}
use Rattle.image_layout.specs.Areas.{total}
use Rattle.image_layout.specs.Image.{Image}
use Rattle.intent_journal.specs.Home.{home, is_journal, AgreeBut}
use Rattle.intent_journal.specs.Records.{open_records, AreClosed}
use Rattle.image_world.specs.Behind.{behind}
use Rattle.image_world.specs.Stands.{Stands}
use Rattle.image_world.proofs.WrittenLaws.{above_journal}
use Rattle.gathering.specs.Left.{IsHomeOf}
use Rattle.gathering.proofs.Closed.{closed_ring}
use Rattle.gathering_laws.proofs.Alike.{carries_over, stands_alike}
use Rattle.serving.specs.ModelRules.{Placed}
use Rattle.tsd_core.specs.Core.{Core, FitsReads, sessions_of}
use Rattle.image_runs.specs.Server.{placed_on}

-- it fits each disk with a closed journal that reads the same outside it, and the state is the same
pub core_carried : (kind : PlaceKind) (c : Core) (x y : Image) → FitsReads c x → AreClosed x → AreClosed y
    → AgreeBut is_journal x y → FitsReads c y × (placed_on kind c y ≡ placed_on kind c x)
core_carried kind c x y held closed shut agrees =
    let over = carries_over x y held.good closed shut agrees in
    let none : open_records x ≡ [] = (closed_ring x closed).shows in (
      record {
        shows = over.ring ∙ sym none ∙ held.shows;
        others_closed = λ index from less. shut index less;
        good = over.good;
        tables = over.tables ∙ held.tables;
      },
      ap (λ (w : World). let s : State = record { world = w; sessions = sessions_of c } in
          let p : Placed = record { kind = kind; state = s } in p) over.world,
    )

-- an image whose home is that of another one stands for the same states
pub worlds_alike : (s : Placed) (x y : Image) → IsHomeOf (home x) y → Stands x s.state.world → Stands y s.state.world
worlds_alike s x y same stands = stands_alike x y s.state.world stands same

-- and what lies behind it is the same
pub behind_alike : (g : Geometry) (x y : Image) → IsHomeOf (home x) y → behind g y ≡ behind g x
behind_alike g x y same i n = same.stands (total g + n) (above_journal (total g + n) (omega arith)) i

-- The disk of blocks on which all that an ask changes is one commit: what it tells.
use Rattle.std.specs.Prelude.{◌≡◌, ◌⊎◌, ℕ, zero, suc, ◌+◌, ◌≤◌, false, List, [], ◌∷◌, length, Option, Some, None}
use Rattle.tsd_model.specs.World.{World}
use Rattle.tsd_model.specs.Step.{State}
use Rattle.tsd_model.specs.declared.requests.PlaceKind.{PlaceKind}
use Rattle.image_device.specs.View.{View}
use Rattle.image_device.specs.Runs.{LeavesOnly, LeavesPart}
use Rattle.image_world.specs.Behind.{behind}
use Rattle.image_world.specs.Stands.{world_of}
use Rattle.gathering.specs.Gathered.{HasRested, gone_on}
use Rattle.fs_port.specs.View.{DiskView, Left}
use Rattle.tsd_core.specs.Core.{Core, sessions_of, told_world}
use Rattle.tsd_core.specs.Applying.{next_world}
use Rattle.tsd_core.specs.Work.{SameSize}
use Rattle.gathered_tasks.specs.Held.{StandsForAny, held_state}
use Rattle.gathered_tasks.specs.Bounds.{HasRoomFor, room_for}
use Rattle.gathered_tasks.specs.Carried.{IsAmong}
use Rattle.gathered_tasks.specs.Rooms.{gathered}
use Rattle.gathered_tasks.specs.declared.asked.Before.{Before}
use Rattle.gathered_tasks.specs.declared.room.AskRoom.{AskRoom}

-- what there is: a core, its room, and the device
pub record There (P : Type 0) : Type 0 where
  pub core : Core
  pub room : AskRoom
  pub dev : P

-- what there was as a request came
abbrev pub there : {P : Type 0} → Before P → There P
there b = record { core = b.core; room = b.room; dev = b.dev }

module _ {P : Type 0} (view : P → View) where
  -- ---- worlds

  -- the world in memory
  abbrev pub held_world : AskRoom → P → World
  held_world room dev = world_of (gone_on (gathered room) (view dev).reads)

  -- the world on the device
  abbrev pub world_below : P → World
  world_below dev = world_of (view dev).reads

  -- the state that a request came to
  abbrev pub state_before : Before P → State
  state_before b = held_state b.core (gathered b.room) (view b.dev)

  -- the world that it leads to
  abbrev pub world_after : PlaceKind → Before P → World
  world_after kind b = next_world kind (state_before b) b.request

  -- the world that a request came to, or the one that it leads to
  abbrev pub IsOfRequest : PlaceKind → Before P → World → Type 0
  IsOfRequest kind b u = (u ≡ held_world b.room b.dev) ⊎ (u ≡ world_after kind b)

  -- the same of one of these requests, before which at least so many came; the newest stands first
  abbrev pub IsOfSince : PlaceKind → ℕ → List (Before P) → World → Type 0
  IsOfSince kind t [] u = ⊥
  IsOfSince kind t (b ∷ bs) u = ((t ≤ length bs) × IsOfRequest kind b u) ⊎ IsOfSince kind t bs u

  -- A world that it had since so many requests: of one of the requests since then, or the world now, where no call
  -- failed.
  abbrev pub WasWorld : PlaceKind → ℕ → There P → List (Before P) → World → Type 0
  WasWorld kind t here bs u = ((here.core.volume.is_spent ≡ false) × (u ≡ held_world here.room here.dev))
      ⊎ IsOfSince kind t bs u

  -- ---- the device below

  -- What a request did to the device: a crash inside leaves the world that was on it, the one in memory, or the next
  -- one, and what lies behind the image as it was. On it stands then what was there, what was in memory, or what is in
  -- memory now. Where what was gathered has room for the request, it isn't written, and what was gathered grows by that
  -- room at most.
  pub record WentBelow (kind : PlaceKind) (b : Before P) (here : There P) : Type 0 where
    pub unspent : b.core.volume.is_spent ≡ false
    pub size : SameSize b.core here.core
    pub sent : (view here.dev).sent ≡ (view b.dev).sent
    pub leaves : LeavesOnly (view b.dev) (view here.dev)
        (λ x f. StandsForAny (world_below b.dev) (held_world b.room b.dev) (world_after kind b) x
        × (f ≡ (view b.dev).sent))
    pub behind : LeavesPart (behind b.core.volume.tables.geometry) (view b.dev) (view here.dev)
    pub base : here.core.volume.is_spent ≡ false → IsAmong (world_below b.dev) (held_world b.room b.dev)
        (held_world here.room here.dev) (world_below here.dev)
    pub quiet : HasRoomFor b.core (gathered b.room) b.request → (view here.dev).writes ≡ (view b.dev).writes
    pub grows : HasRoomFor b.core (gathered b.room) b.request → length (gathered here.room)
        ≤ length (gathered b.room) + room_for b.core.volume.tables.geometry b.request

  -- Before the first request the device has only been read since this start, and the world in memory is the one on the
  -- device.
  pub record IsBegun (start : View) (here : There P) : Type 0 where
    pub unspent : here.core.volume.is_spent ≡ false
    pub rested : HasRested start (view here.dev)
    pub writes : (view here.dev).writes ≡ start.writes
    pub same : world_below here.dev ≡ held_world here.room here.dev

  -- what each request did since this start, the newest first
  abbrev pub AllWentBelow : PlaceKind → View → List (Before P) → There P → Type 0
  AllWentBelow kind start [] here = IsBegun start here
  AllWentBelow kind start (b ∷ bs) here = WentBelow kind b here × AllWentBelow kind start bs (there b)

  -- what was gathered had room for each of these requests
  abbrev pub AllHaveRoom : List (Before P) → Type 0
  AllHaveRoom [] = Unit {0}
  AllHaveRoom (b ∷ bs) = HasRoomFor b.core (gathered b.room) b.request × AllHaveRoom bs

  -- ---- the disk

  -- At the first moment stands, with a world, what it had since the first request, and without one, what the requests
  -- did to the device below. What calls of a file system hand on is handed on so.
  abbrev pub AtFirst : PlaceKind → View → There P → List (Before P) → Option World → List ℕ → Type 0
  AtFirst kind start here bs None f = AllWentBelow kind start bs here
  AtFirst kind start here bs (Some u) f = WasWorld kind 0 here bs u × (f ≡ (view here.dev).sent)

  -- each request is one moment more
  abbrev pub HasLeft : PlaceKind → View → There P → List (Before P) → ℕ → Left → List ℕ → Type 0
  HasLeft kind start here bs zero x f = AtFirst kind start here bs x.world f
  HasLeft kind start here bs (suc t) x f =
      (u : World) × (x.world ≡ Some u) × WasWorld kind t here bs u × (f ≡ (view here.dev).sent)

  -- What memory tells, also where the device tells nothing, and beside it the world in memory. What a crash leaves, it
  -- tells of the disk in memory; of the device that stands at the first moment, for an ask that is begun.
  abbrev pub blocks_view : ℕ × ℕ → PlaceKind → View → There P → List (Before P) → DiskView
  blocks_view lenders kind start here bs = record {
    geometry = (told_world here.core).geometry;
    version = (told_world here.core).version;
    records = (told_world here.core).records;
    sessions = sessions_of here.core;
    kind = kind;
    world = held_world here.room here.dev;
    sent = (view here.dev).sent;
    clock = suc (length bs);
    left = HasLeft kind start here bs;
    faults = (view here.dev).faults;
    put_faults = (view here.dev).put_faults;
    spent = here.core.volume.is_spent;
    lenders = lenders;
  }

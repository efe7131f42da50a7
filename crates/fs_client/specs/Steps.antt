-- A request that changes the world, of a client that may write there.
use Rattle.std.specs.Prelude.{◌≡◌, ◌≢◌, ◌<◌, ◌⊎◌, ℕ, true, false, length, Option, Result, IfErr, OnOk, IsTrue}
use Rattle.image_device.specs.Counts.{Rose}
use Rattle.tsd_model.specs.World.{World, is_live, free_count}
use Rattle.tsd_model.specs.Doomed.{settle}
use Rattle.tsd_model.specs.Placing.{chosen}
use Rattle.tsd_model.specs.Step.{with_pointer, without_pointer, with_new_blocks}
use Rattle.tsd_model.specs.declared.requests.Hint.TheVariants.{At}
use Rattle.tsd_model.specs.Valid.{IsValid}
use Rattle.tsd_model.specs.declared.requests.Request.{Request}
use Rattle.fs_trees.specs.Layouts.{Named}
use Rattle.fs_trees.specs.Outside.{OthersStay}
use Rattle.fs_trees.specs.Needs.{need}
use Rattle.fs_trees.specs.Refusals.{first_of, no_room}
use Rattle.fs_trees.specs.declared.refusal.FsRefusal.{FsRefusal}
use Rattle.fs_trees.specs.declared.refusal.FsRefusal.TheVariants as no
use Rattle.fs_laws.specs.Outside.{is_inside}
use Rattle.fs_laws.specs.Stays.{IsUnder, Keeps, spares}
use Rattle.fs_laws.specs.Ways.{HoldsWrite}
use Rattle.fs_port.specs.View.{DiskView, state_of}
use Rattle.fs_port.specs.Calls.{Counts, IsLedTo, IsValidNow, LeavesWorldsOnly, Stays}
use Rattle.fs_port.specs.Files.{OnAnswer}
use Rattle.fs_client.specs.declared.client.Client.{Client}

-- ---- the worlds after them

abbrev pub pointed : World → ℕ → ℕ → World
pointed w a b = with_pointer w a b

-- without the pointer, and what nothing leads to any more
abbrev pub dropped : World → ℕ → ℕ → World
dropped w a b = settle (without_pointer w a b)

-- with so many new blocks, which the disk chooses
abbrev pub taken : DiskView → ℕ → ℕ → World
taken v a count = with_new_blocks v.world a (chosen v.kind v.world (At a) count)

-- there is no room for so many blocks and pairs more
abbrev pub no_room_in : World → ℕ → ℕ → Option FsRefusal
no_room_in w blocks pairs = first_of (no_room w.geometry (free_count w) (length w.pairs) (need blocks pairs))

-- ---- what holds of a step

-- What a request that is granted there leads to: a valid world of the same size. Inside a root it leaves what is
-- outside, and what is named under a root stays where the request spares it.
pub record Leads (w : World) (q : Request) (after : World) : Type 0 where
  pub valid : IsValid after
  pub geometry : after.geometry ≡ w.geometry
  pub others : (root : ℕ) → root < w.geometry.primaries → IsTrue (is_inside w root q) → OthersStay root w after
  pub keeps : (root : ℕ) (n : Named) → IsUnder w root n → IsTrue (spares n q) → Keeps w after n

-- The world is the one after, and what was held for writing, or attained where it was asked, is held where the block is
-- live.
pub record Went (c : Client) (old new : DiskView) (q : Request) (a : ℕ) (after : World) : Type 0 where
  pub world : new.world ≡ after
  pub leads : Leads old.world q after
  pub valid : IsValidNow new
  pub ways : (s b : ℕ) → HoldsWrite (state_of old) s b → IsTrue (is_live after b) → HoldsWrite (state_of new) s b
  pub held : IsTrue (is_live after a) → HoldsWrite (state_of new) c.session a
  pub led : IsLedTo old new

-- A request at block a that was asked once, of a disk that may tell its world: what holds whatever came of it.
pub record Steps {X : Type 0} (told : Type 0) (c : Client) (old new : DiskView) (q : Request) (a : ℕ) (after : World)
    (result : Result X FsRefusal) : Type 0 where
  pub went : told → OnOk result (Went c old new q a after)
  -- it was refused, and nothing has changed
  pub same : told → IfErr result (λ e. e ≢ no.Device → state_of new ≡ state_of old)
  -- a stop leaves the world before it or the one after it
  pub crash : told → LeavesWorldsOnly old new (λ w. (w ≡ old.world) ⊎ ((w ≡ after) × Leads old.world q after))
  pub stays : OnAnswer result (Stays old new)
  pub counts : Counts old new
  pub unspent : OnAnswer result (new.spent ≡ false)
  pub faultless : OnAnswer result (new.faults ≡ old.faults)
  pub cause : IfErr result (λ e. e ≡ no.Device → Rose old.faults new.faults)
  pub spent : IfErr result (λ e. e ≡ no.Device → new.spent ≡ true)

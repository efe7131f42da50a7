-- New blocks in tables, one after another.
use Rattle.std.specs.Prelude.{◌≡◌, ◌⊎◌, ℕ, ◌+◌, ◌*◌, ◌<◌, ◌≤◌, ◌&&◌, Bool, true, false, List, [], ◌∷◌, length}
use Rattle.std.specs.Prelude.{replicate, slice_index}
use Rattle.tsd_model.specs.declared.geometry.Geometry.{Geometry}
use Rattle.tsd_model.specs.Geometry.{block_len}
use Rattle.tsd_model.specs.Pairs.{holds, count_to}
use Rattle.tsd_model.specs.Step.{with_new_blocks}
use Rattle.tsd_model.specs.World.{has_number}
use Rattle.image_layout.specs.Areas.{counts_start, data_start}
use Rattle.image_layout.specs.Image.{Image}
use Rattle.image_layout.specs.declared.offset.Patch.{Patch}
use Rattle.intent_journal.specs.Home.{overlaid}
use Rattle.pointer_table.specs.Table.{Table as Pointers, pairs, IsTable}
use Rattle.pointer_table.specs.Sectors.{IsStored as AreSlots}
use Rattle.ref_counts.specs.Table.{Table as Counts}
use Rattle.ref_counts.specs.Stored.{IsStored as AreCounts}
use Rattle.block_alloc.specs.LiveMap.{LiveMap, is_live}
use Rattle.block_alloc.specs.Stored.{IsStored as AreBits}
use Rattle.image_world.specs.Tables.{Tables}
use Rattle.image_world.specs.Raw.{world_with}

-- the tables that allocation changes
pub record Parts : Type 0 where
  pub pointers : Pointers
  pub counts : Counts
  pub live : LiveMap

abbrev pub parts_of : Pointers → Counts → LiveMap → Parts
parts_of p c l = record { pointers = p; counts = c; live = l }

-- tables with these parts
abbrev pub with_parts : Tables → Parts → Tables
with_parts t p = record t { live = p.live.live; slots = p.pointers.slots; counts = p.counts.counts }

-- the parts are of one disk, and fit one another
pub record PartsFit (g : Geometry) (p : Parts) : Type 0 where
  pub pointers : p.pointers.geometry ≡ g
  pub counts : p.counts.geometry ≡ g
  pub live : p.live.geometry ≡ g
  pub table : IsTable p.pointers
  pub each_block : length p.live.live ≡ g.blocks
  pub each_count : length p.counts.counts ≡ g.blocks
  pub primaries : (b : ℕ) → b < g.primaries → is_live p.live.live b ≡ true
  pub ends : (a b : ℕ) → holds (pairs p.pointers) a b ≡ true → (is_live p.live.live a && is_live p.live.live b) ≡ true
  pub counted : (b : ℕ) → b < g.blocks → slice_index p.counts.counts b ≡ count_to (pairs p.pointers) b

-- blocks of the disk that are free, none twice
abbrev pub AreFree : List Bool → ℕ → List ℕ → Type 0
AreFree live n [] = Unit {0}
AreFree live n (b ∷ bs) = (b < n) × (is_live live b ≡ false) × (has_number bs b ≡ false) × AreFree live n bs

-- there is room for these blocks, with a pair to each from a
pub record HasRoom (g : Geometry) (p : Parts) (a : ℕ) (bs : List ℕ) : Type 0 where
  pub source : is_live p.live.live a ≡ true
  pub free : AreFree p.live.live g.blocks bs
  pub room : length (pairs p.pointers) + length bs ≤ g.slots

-- each block that is live in the bitmap is shown
abbrev pub HidesNone : LiveMap → Type 0
HidesNone live = (b : ℕ) → is_live live.unhidden b ≡ is_live live.live b

-- each live block but a primary one has a pair to it
abbrev pub HasNoLost : Geometry → Parts → Type 0
HasNoLost g p = (b : ℕ) → b < g.blocks → is_live p.live.live b ≡ true → g.primaries ≤ b
    → 1 ≤ slice_index p.counts.counts b

-- the sectors have these parts
pub record PartsAreStored (g : Geometry) (p : Parts) (x : Image) : Type 0 where
  pub slots : AreSlots p.pointers.slots g x
  pub counts : AreCounts p.counts.counts g x
  pub live : AreBits p.live.live g x

-- Parts with these blocks more, and patches with what they change.
pub record IsGrown (g : Geometry) (a : ℕ) (bs : List ℕ) (p q : Parts) (ps qs : List Patch) : Type 0 where
  pub fit : PartsFit g q
  pub world : (t : Tables) (c : ℕ → List ℕ) → t.geometry ≡ g
      → ((b : ℕ) → has_number bs b ≡ true → c b ≡ replicate (block_len g) 0)
      → world_with (with_parts t q) c ≡ with_new_blocks (world_with (with_parts t p) c) a bs
  pub stored : (z : Image) → PartsAreStored g p (overlaid ps z) → PartsAreStored g q (overlaid qs z)
  pub others : (z : Image) (n : ℕ) → (n < counts_start) ⊎ (data_start g ≤ n) → overlaid qs z n ≡ overlaid ps z n
  pub few : length qs ≤ length ps + 3 * length bs
  pub full : HasNoLost g p → HasNoLost g q

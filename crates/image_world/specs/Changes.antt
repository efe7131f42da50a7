-- Changes of tables or of bytes, and the changes of the world that they are.
use Rattle.std.specs.Prelude.{◌≡◌, ◌≢◌, ℕ, ◌<◌, true, false, List, length, map, slice_set, Option}
use Rattle.tsd_model.specs.Doomed.{settle}
use Rattle.tsd_model.specs.Pairs.{with_pair}
use Rattle.tsd_model.specs.Reach.{swept}
use Rattle.tsd_model.specs.Records.{upgraded_record, upgraded}
use Rattle.tsd_model.specs.Step.{with_contents, with_pointer, with_caps, zeros}
use Rattle.tsd_model.specs.World.{World}
use Rattle.tsd_model.specs.World.{is_live as is_live_in}
use Rattle.tsd_model.specs.declared.records.Record.{Record}
use Rattle.block_alloc.specs.LiveMap.{is_live}
use Rattle.pointer_table.specs.Slots.{pairs_in}
use Rattle.image_world.specs.Raw.{world_with, left_of, zeros_of}
use Rattle.image_world.specs.Tables.{Tables, pairs_of}

-- the tables with these records
abbrev pub with_records : Tables → List Record → Tables
with_records t rs = record t { records = rs }

-- the tables in version 2, in which of each capability only the digest is kept
abbrev pub upgraded_tables : Tables → Tables
upgraded_tables t = record t { version = 2; records = map upgraded_record t.records }

-- ---- laws, whatever bytes the blocks have

-- A live block gets other bytes: the raw world has them, and so has what is left of it if the block is left.
abbrev pub BytesAreChange : Type 0
BytesAreChange =
    (t : Tables) (c d : ℕ → List ℕ) (b : ℕ) (bytes : List ℕ) → b < t.geometry.blocks → is_live t.live b ≡ true
    → d b ≡ bytes → ((k : ℕ) → k ≢ b → d k ≡ c k) → world_with t d ≡ with_contents (world_with t c) b bytes

abbrev pub BytesArePassedOn : Type 0
BytesArePassedOn =
    (t : Tables) (w : World) (b : ℕ) (bytes : List ℕ) → is_live_in (left_of t w) b ≡ true
    → left_of t (with_contents w b bytes) ≡ with_contents (left_of t w) b bytes

-- A primary block gets other records.
abbrev pub CapsAreChange : Type 0
CapsAreChange =
    (t : Tables) (c : ℕ → List ℕ) (b : ℕ) (r : Record) → let now = with_records t (slice_set t.records b r) in
    left_of now (world_with now c) ≡ with_caps (left_of t (world_with t c)) b r

-- The version becomes 2.
abbrev pub UpgradesAreChange : Type 0
UpgradesAreChange =
    (t : Tables) (c : ℕ → List ℕ) → let now = upgraded_tables t in
    left_of now (world_with now c) ≡ upgraded (left_of t (world_with t c))

-- Once the sweep flag is open, the swept world is left, and once it is closed, the settled one.
abbrev pub FlagsAreChange : Type 0
FlagsAreChange =
    (t : Tables) (w : World) → (left_of (record t { is_sweeping = true }) w ≡ swept w)
    × (left_of (record t { is_sweeping = false }) w ≡ settle w)

-- A block becomes live that has zeros, and a pair leads to it.
abbrev pub BlocksAreChange : Type 0
BlocksAreChange =
    (t : Tables) (slots : List (Option (ℕ × ℕ))) (counts : List ℕ) (a b : ℕ) (c : ℕ → List ℕ)
    → b < t.geometry.blocks → length t.live ≡ t.geometry.blocks → pairs_in slots ≡ with_pair (a, b) (pairs_of t)
    → c b ≡ zeros_of t b
    → world_with (record t { live = slice_set t.live b true; slots = slots; counts = counts }) c
    ≡ with_pointer (with_contents (world_with t c) b (zeros (world_with t c))) a b

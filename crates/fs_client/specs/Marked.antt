-- Sets of blocks.
use Rattle.std.specs.Prelude.{◌≡◌, ℕ, ◌<◌, ◌==◌, ◌||◌, Bool, false, List, slice_index_or}
use Rattle.tsd_model.specs.World.{has_number}
use Rattle.fs_client.specs.declared.block_set.BlockSet.{BlockSet}

abbrev pub has_block : BlockSet → ℕ → Bool
has_block m b = slice_index_or m.marks b false

abbrev pub HasNone : BlockSet → Type 0
HasNone m = (b : ℕ) → has_block m b ≡ false

-- a block of a disk is put in
abbrev pub Gains : BlockSet → BlockSet → ℕ → Type 0
Gains old new b = b < 1048576 → (a : ℕ) → has_block new a ≡ ((b == a) || has_block old a)

-- the blocks of the set are those of the list
abbrev pub Agrees : BlockSet → List ℕ → Type 0
Agrees m bs = (b : ℕ) → has_block m b ≡ has_number bs b

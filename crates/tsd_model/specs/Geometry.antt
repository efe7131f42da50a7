-- How large a disk may be.
use Rattle.std.specs.Prelude.{◌≡◌, ℕ, ◌*◌, ◌<◌, ◌≤◌, ◌⊎◌}
use Rattle.tsd_model.specs.declared.geometry.Geometry.{Geometry}

-- a block has 1, 2, 4 or 8 sectors; there are 8 to 1,048,576 blocks, 1 to 16 of them primary but not all, and 1 to
-- 4,194,304 pointer slots
pub record IsLawful (g : Geometry) : Type 0 where
  pub sectors : (g.sectors ≡ 1) ⊎ (g.sectors ≡ 2) ⊎ (g.sectors ≡ 4) ⊎ (g.sectors ≡ 8)
  pub blocks : (8 ≤ g.blocks) × (g.blocks ≤ 1048576)
  pub primaries : (1 ≤ g.primaries) × (g.primaries ≤ 16) × (g.primaries < g.blocks)
  pub slots : (1 ≤ g.slots) × (g.slots ≤ 4194304)

-- the bytes of a block
abbrev pub block_len : Geometry → ℕ
block_len g = 512 * g.sectors

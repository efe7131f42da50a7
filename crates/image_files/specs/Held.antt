-- The sectors of a file that are held in memory.
use Rattle.std.specs.Prelude.{ℕ, Bool, ◌<◌, ◌≤◌, ◌+◌, ◌-◌, ◌*◌, ◌≡◌, ◌⊎◌, ◌&&◌, nat_le, nat_lt, cond, slice_index}
use Rattle.image_files.specs.declared.held.Held.{Held}

-- each byte that is held is the one that the file has there
abbrev pub Holds : Held → (ℕ → ℕ) → Type 0
Holds held content = (i : ℕ) → i < 512 * held.count → slice_index held.room.items i ≡ content (512 * held.first + i)

-- a sector isn't held
abbrev pub IsOutside : Held → ℕ → Type 0
IsOutside held sector = (sector < held.first) ⊎ (held.first + held.count ≤ sector)

-- the bytes of a sector that is held stand there
pub record IsPlace (held : Held) (sector at : ℕ) : Type 0 where
  pub fits : at + 512 ≤ 512 * held.count
  pub is : 512 * held.first + at ≡ 512 * sector

-- a byte of the file lies in a sector that is held
abbrev pub is_within : Held → ℕ → Bool
is_within held offset = nat_le (512 * held.first) offset && nat_lt offset (512 * held.first + 512 * held.count)

-- the bytes of a file with the sectors that are held laid over them
abbrev pub overlaid : Held → (ℕ → ℕ) → ℕ → ℕ
overlaid held content offset =
    cond (is_within held offset) (slice_index held.room.items (offset - 512 * held.first)) (content offset)

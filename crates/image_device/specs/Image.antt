-- What a disk holds, and what of it a crash may change.
use Rattle.std.specs.Prelude.{ℕ, ◌<◌, ◌≡◌, ◌==◌, if◌then◌else◌, Bool, false, List, length, slice_index, replicate}

-- an image: the bytes of each sector
abbrev pub Image : Type 0
Image = ℕ → List ℕ

-- 512 bytes
pub record IsSector (bytes : List ℕ) : Type 0 where
  pub size : length bytes ≡ 512
  pub each : (i : ℕ) → slice_index bytes i < 256

-- A crash leaves this image of a disk: a loose sector holds any 512 bytes, and each other holds what a read gives.
pub record IsImage (reads : Image) (loose : ℕ → Bool) (x : Image) : Type 0 where
  pub agrees : (n : ℕ) → loose n ≡ false → x n ≡ reads n
  pub whole : (n : ℕ) → IsSector (x n)

-- a sector never written
abbrev pub zeros : List ℕ
zeros = replicate 512 0

-- an image with other bytes in one sector
abbrev pub put_at : ℕ → List ℕ → Image → Image
put_at sector bytes x n = if n == sector then bytes else x n

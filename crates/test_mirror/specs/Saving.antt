-- What a program leaves that writes a sector and then says so.
use Rattle.std.specs.Prelude.{ℕ, ◌≡◌, ◌≢◌, ◌⊎◌, Bool, false, List}
use Rattle.image_device.specs.Image.{Image}

-- Of a disk that read so, with these sectors loose and these bytes sent: no other sector has changed and, once more was
-- sent, the sector has these bytes.
pub record IsSaved (sector : ℕ) (bytes : List ℕ) (reads : Image) (loose : ℕ → Bool) (sent : List ℕ) (x : Image)
    (f : List ℕ) : Type 0 where
  pub others : (n : ℕ) → n ≢ sector → loose n ≡ false → x n ≡ reads n
  pub said : (f ≡ sent) ⊎ (x sector ≡ bytes)

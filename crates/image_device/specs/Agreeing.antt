-- Images that read the same in a row of sectors.
use Rattle.std.specs.Prelude.{ℕ, ◌<◌, ◌≤◌, ◌≡◌, Bool, false}
use Rattle.image_device.specs.Image.{Image}

-- from this sector on and before that one
abbrev pub AgreeWithin : ℕ → ℕ → Image → Image → Type 0
AgreeWithin start end x y = (n : ℕ) → start ≤ n → n < end → y n ≡ x n

-- the same, where some sectors don't matter
abbrev pub AgreeWithinBut : (ℕ → Bool) → ℕ → ℕ → Image → Image → Type 0
AgreeWithinBut some start end x y = (n : ℕ) → start ≤ n → n < end → some n ≡ false → y n ≡ x n

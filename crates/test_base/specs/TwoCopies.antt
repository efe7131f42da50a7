-- For the tests: an image of three sectors that shows one of two: the first byte of sector 0 says which.
use Rattle.std.specs.Prelude.{ℕ, ◌≡◌, ◌⊎◌, ◌==◌, if◌then◌else◌, List, slice_index}
use Rattle.image_device.specs.Image.{Image}

-- the sector that is shown
abbrev pub current : List ℕ → ℕ
current selector = if slice_index selector 0 == 1 then 2 else 1

-- the other one
abbrev pub spare : List ℕ → ℕ
spare selector = if slice_index selector 0 == 1 then 1 else 2

abbrev pub shown : Image → List ℕ
shown x = x (current (x 0))

-- it shows these bytes or those
abbrev pub ShowsEither : List ℕ → List ℕ → Image → Type 0
ShowsEither old new x = (shown x ≡ old) ⊎ (shown x ≡ new)

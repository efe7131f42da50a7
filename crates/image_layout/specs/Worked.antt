-- A worked image, with which the tests compare what the words of `Image` say of it. Of each sector only the first bytes
-- are given; the others count as zero.
use Rattle.std.specs.Prelude.{◌==◌, if◌then◌else◌, [], ◌∷◌, ◌++◌, replicate}
use Rattle.tsd_model.specs.declared.geometry.Geometry.{Geometry}
use Rattle.image_layout.specs.Image.{Image}

-- 2 sectors a block, so that the data begins in sector 137
abbrev pub worked_size : Geometry
worked_size = record { sectors = 2; blocks = 9; primaries = 9; slots = 32 }

abbrev pub worked : Image
worked sector =
    if sector == 2 then 1 ∷ 9 ∷ []
    else if sector == 117 then 2 ∷ 1 ∷ []
    else if sector == 132 then replicate 16 161 ++ replicate 16 178 ++ replicate 16 195
    else if sector == 133 then replicate 32 212 ++ replicate 32 229
    else if sector == 134 then 7 ∷ 0 ∷ 0 ∷ 0 ∷ 1 ∷ 2 ∷ 0 ∷ 3 ∷ []
    else if sector == 135 then 11 ∷ 1 ∷ []
    else if sector == 136 then replicate 8 0 ++ 4 ∷ 0 ∷ 0 ∷ 0 ∷ 8 ∷ 0 ∷ 0 ∷ 0 ∷ []
    else if sector == 139 then 17 ∷ 18 ∷ []
    else if sector == 140 then 19 ∷ []
    else []

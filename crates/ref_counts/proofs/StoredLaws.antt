-- What it is for an image to have the counts.
use Rattle.std.proofs.Common.{◌≡◌, ℕ, ◌+◌, ◌*◌, ◌/◌, ◌%◌, ◌<◌, ◌≤◌, Bool, false, List, length, refl, ◌∙◌, ap, sym, arith}
use Rattle.std.specs.Prelude.{map}
use Rattle.std.specs.List.{range_with_len}
use Rattle.std.proofs.lemmas.List.FromFn.{fill_by_all}
use Rattle.byteorder.specs.Endian.{little_from}
use Rattle.tsd_model.specs.declared.geometry.Geometry.{Geometry}
use Rattle.image_layout.specs.Areas.{bitmap_start, counts_start}
use Rattle.image_layout.specs.Image.{Image, stored_count}
use Rattle.ref_counts.specs.Stored.{IsStored, IsStoredBut}

-- an image has the counts of one table
pub one_table : (counts : List ℕ) (g : Geometry) (x : Image) → length counts ≡ g.blocks → IsStored counts g x → counts ≡ map (stored_count x g) (range_with_len 0 g.blocks)
one_table counts g x each stored = fill_by_all (stored_count x g) counts g.blocks 0 each (λ block inside. sym (stored block inside))

-- images with the same sectors of counts have the same counts
pub same_sectors_but : (some : ℕ → Bool) (counts : List ℕ) (g : Geometry) (x y : Image)
    → ((n : ℕ) → counts_start ≤ n → n < bitmap_start g → some n ≡ false → y n ≡ x n) → IsStoredBut some counts g x → IsStoredBut some counts g y
same_sectors_but some counts g x y same stored block inside out =
    let from : counts_start ≤ 134 + 4 * block / 512 = omega arith in
    let to : 134 + 4 * block / 512 < bitmap_start g = omega arith in
    ap (little_from (4 * block % 512) 4) (same (134 + 4 * block / 512) from to out) ∙ stored block inside out

pub same_sectors : (counts : List ℕ) (g : Geometry) (x y : Image) → ((n : ℕ) → counts_start ≤ n → n < bitmap_start g → y n ≡ x n) → IsStored counts g x → IsStored counts g y
same_sectors counts g x y same stored block inside =
    same_sectors_but (λ n. false) counts g x y (λ n from to out. same n from to) (λ b h out. stored b h) block inside refl

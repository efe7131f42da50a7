-- Sectors of counts that stand as they are written, and those of a fresh disk.
use Rattle.std.proofs.Common.{◌≡◌, inl, inr, ℕ, zero, suc, ◌+◌, ◌-◌, ◌*◌, ◌/◌, ◌%◌, ◌<◌, ◌≤◌, List, ◌∷◌, ◌++◌, length, take, replicate, refl, sym, ◌∙◌, ap, arith}
use Rattle.std.specs.Prelude.{slice_index}
use Rattle.std.specs.List.{flat_map}
use Rattle.std.proofs.lemmas.Bool.{cases_lt}
use Rattle.std.proofs.lemmas.List.{drop-replicate, get_or-replicate, get_or_past, length-replicate, replicate-append-replicate, take-replicate, take_all}
use Rattle.byteorder.specs.Endian.{little_bytes, little_from}
use Rattle.tsd_model.specs.declared.geometry.Geometry.{Geometry}
use Rattle.image_device.specs.Image.{zeros}
use Rattle.image_layout.specs.Areas.{bitmap_start, counts_start}
use Rattle.image_layout.specs.Image.{Image}
use Rattle.ref_counts.specs.Fresh.{fresh_counts}
use Rattle.ref_counts.specs.Stored.{counts_in, counts_sector_bytes, IsStored}
use Rattle.ref_counts.proofs.Reading.{stored_is}
use Rattle.ref_counts.proofs.Sectors.{count_back, AllFit}

-- the image has the counts whose sectors it has
pub written : (counts : List ℕ) (g : Geometry) (x : Image) → length counts ≡ g.blocks → AllFit counts
    → ((part : ℕ) → counts_start + part < bitmap_start g → x (counts_start + part) ≡ counts_sector_bytes counts part) → IsStored counts g x
written counts g x each fits same block inside =
    stored_is x g block ∙ ap (little_from (4 * (block % 128)) 4) (same (block / 128) (omega arith)) ∙ count_back counts block fits (omega arith)

-- ---- zeros
zero_number : (at n : ℕ) → little_from at n zeros ≡ 0
zero_number at zero = refl
zero_number at (suc n) = let rest = zero_number (suc at) n in elim (cases_lt at 512) [
  | inl h ↦ let first : slice_index zeros at ≡ 0 = get_or-replicate {A = ℕ} 512 at 0 0 h in omega (arith, first, rest)
  | inr h ↦ let first : slice_index zeros at ≡ 0 = get_or_past zeros at 0 h in omega (arith, first, rest)
]

pub fresh : (g : Geometry) (x : Image) → ((n : ℕ) → counts_start ≤ n → n < bitmap_start g → x n ≡ zeros) → IsStored (fresh_counts g) g x
fresh g x same block inside =
    stored_is x g block ∙ ap (little_from (4 * (block % 128)) 4) (same (134 + block / 128) (omega arith) (omega arith))
    ∙ zero_number (4 * (block % 128)) 4 ∙ sym (get_or-replicate g.blocks block 0 0 inside)

zero_bytes : (n : ℕ) → flat_map (little_bytes 4) (replicate n 0) ≡ replicate (4 * n) 0
zero_bytes zero = refl
zero_bytes (suc n) =
    let more : suc (suc (suc (suc (4 * n)))) ≡ 4 * suc n = omega arith in
    ap (λ (bs : List ℕ). 0 ∷ 0 ∷ 0 ∷ 0 ∷ bs) (zero_bytes n) ∙ ap (λ m. replicate m 0) more

-- the counts of a sector
zeros_in : (n part : ℕ) → (m : ℕ) × (m ≤ 128) × (counts_in (replicate n 0) part ≡ replicate m 0)
zeros_in n part = elim (cases_lt (n - 128 * part) 128) [
  | inl few ↦ (n - 128 * part, omega arith, ap (take 128) (drop-replicate (128 * part) n 0) ∙ take_all 128 (replicate (n - 128 * part) 0) (let long : length (replicate {A = ℕ} (n - 128 * part) 0) ≡ n - 128 * part = length-replicate {A = ℕ} (n - 128 * part) 0 in omega arith))
  | inr many ↦ (128, omega arith, ap (take 128) (drop-replicate (128 * part) n 0) ∙ take-replicate 128 (n - 128 * part) 0 many)
]

pub fresh_bytes : (g : Geometry) (part : ℕ) → zeros ≡ counts_sector_bytes (fresh_counts g) part
fresh_bytes g part =
    let here = zeros_in g.blocks part in
    let m : ℕ = here.0 in
    let long : length (replicate {A = ℕ} m 0) ≡ m = length-replicate {A = ℕ} m 0 in
    let most : m ≤ 128 = here.1 in
    let all : 4 * m + (512 - 4 * length (replicate {A = ℕ} m 0)) ≡ 512 = omega arith in
    sym (ap (λ (xs : List ℕ). flat_map (little_bytes 4) xs ++ replicate (512 - 4 * length xs) 0) here.2
    ∙ ap (λ (bs : List ℕ). bs ++ replicate (512 - 4 * length (replicate {A = ℕ} m 0)) 0) (zero_bytes m)
    ∙ replicate-append-replicate (4 * m) (512 - 4 * length (replicate {A = ℕ} m 0)) 0 ∙ ap (λ n. replicate n 0) all)

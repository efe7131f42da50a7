-- Whole sectors.
use Rattle.std.proofs.Common.{ℕ, zero, suc, ◌<◌, get_or, lit<, replicate}
use Rattle.std.proofs.lemmas.List.{length-replicate}
use Rattle.image_device.specs.Image.{IsSector, zeros}

-- equal bytes
pub torn_whole : (b : ℕ) → b < 256 → IsSector (replicate 512 b)
torn_whole b fits = record { size = length-replicate {A = ℕ} 512 b; each = λ i. same 512 i }
  where
    same : (n i : ℕ) → get_or (replicate n b) i 0 < 256
    same zero i = lit< tt
    same (suc n) zero = fits
    same (suc n) (suc i) = same n i

pub zeros_whole : IsSector zeros
zeros_whole = torn_whole 0 (lit< tt)

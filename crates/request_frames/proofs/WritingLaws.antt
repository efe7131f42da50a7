-- Numbers one after another.
use Rattle.std.proofs.Common.{◌≡◌, ℕ, suc, ◌^◌, ◌<◌, List, [], ◌∷◌, ◌++◌, flat_map, get_or, refl, ap}
use Rattle.byteorder.specs.Endian.{little_bytes}
use Rattle.request_frames.specs.Fields.{AllFit, bytes_of}
use Rattle.request_frames.specs.Replies.{number_fields}

pub numbers_bytes : (ns : List ℕ) → flat_map (λ n. little_bytes 4 n) ns ≡ bytes_of (number_fields ns)
numbers_bytes [] = refl
numbers_bytes (n ∷ ns) = ap (λ xs. little_bytes 4 n ++ xs) (numbers_bytes ns)

pub numbers_fit : (ns : List ℕ) → ((i : ℕ) → get_or ns i 0 < 2 ^ 32) → AllFit (number_fields ns)
numbers_fit [] h = tt
numbers_fit (n ∷ ns) h = (h 0, numbers_fit ns (λ i. h (suc i)))

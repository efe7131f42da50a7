-- Lists made by number.
use Rattle.std.proofs.Common.{◌≡◌, ℕ, ◌<◌, arith}
use Rattle.image_world.proofs.Common.{map, range_with_len}
use Rattle.tsd_model.proofs.RangeLaws.{map_range_alike}

pub same_below : {X : Type 0} (f h : ℕ → X) (n : ℕ) → ((k : ℕ) → k < n → f k ≡ h k) → map f (range_with_len 0 n) ≡ map h (range_with_len 0 n)
same_below f h n same = map_range_alike f h 0 n (λ k from to. same k (omega arith))

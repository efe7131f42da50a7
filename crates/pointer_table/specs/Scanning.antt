-- What a look at each slot computes, and what the code is compared with.
use Rattle.std.specs.Prelude.{ℕ, cond, Bool, false, Option, Some, None}
use Rattle.tsd_model.specs.Pairs.{is_pair, pair_lt}

-- the slot holds the pair (a, b)
abbrev pub is_at : ℕ → ℕ → Option (ℕ × ℕ) → Bool
is_at a b None = false
is_at a b (Some e) = is_pair a b e

-- the lesser of two pairs where each may be missing
abbrev pub lesser_pair : Option (ℕ × ℕ) → Option (ℕ × ℕ) → Option (ℕ × ℕ)
lesser_pair best None = best
lesser_pair None (Some f) = Some f
lesser_pair (Some e) (Some f) = cond (pair_lt f e) (Some f) (Some e)

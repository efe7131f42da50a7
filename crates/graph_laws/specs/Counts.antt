-- How much is doomed, and how many pairs lead to a block.
use Rattle.std.specs.Prelude.{◌≡◌, ℕ, ◌+◌, ◌<◌, Bool, not, ◌&&◌, ◌==◌, List, length, filter, slice_index}
use Rattle.tsd_model.specs.Pairs.{count_to}
use Rattle.tsd_model.specs.World.{World, has_number}
use Rattle.tsd_model.specs.Doomed.{doomed}

-- the block isn't doomed
abbrev pub stays : World → ℕ → Bool
stays w b = not (has_number (doomed w) b)

-- the pairs from doomed blocks
abbrev pub doomed_pairs : World → List (ℕ × ℕ)
doomed_pairs w = filter (λ e. has_number (doomed w) e.0) w.pairs

-- how many blocks are doomed, and how many pairs come from them
abbrev pub doomed_size : World → ℕ
doomed_size w = length (doomed w) + length (doomed_pairs w)

-- how many of the pairs that pass lead to b
abbrev pub count_where : ((ℕ × ℕ) → Bool) → List (ℕ × ℕ) → ℕ → ℕ
count_where test es b = length (filter (λ e. (e.1 == b) && test e) es)

-- how many pairs lead to b from blocks that stay
abbrev pub kept_count : World → ℕ → ℕ
kept_count w b = count_where (λ e. stays w e.0) w.pairs b

-- at each block the number of pairs that lead to it
abbrev pub AreCounts : List ℕ → World → Type 0
AreCounts counts w = (b : ℕ) → b < w.geometry.blocks → slice_index counts b ≡ count_to w.pairs b

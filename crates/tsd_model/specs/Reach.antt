-- Which blocks are reached, and the world without the others.
use Rattle.std.specs.Prelude.{ℕ, zero, suc, Bool, cond, ◌&&◌, ◌||◌, ◌==◌, List, filter, map, Option, None}
use Rattle.std.specs.List.{list_any}
use Rattle.tsd_model.specs.World.{World, contents, all_blocks, primary_blocks, has_number}

-- a pair leads to b from one of these blocks
abbrev pub is_led_from : World → List ℕ → ℕ → Bool
is_led_from w from b = list_any (λ e. (e.1 == b) && has_number from e.0) w.pairs

-- of the blocks of the disk these, and the targets of the pairs from them
abbrev pub reach_round : World → List ℕ → List ℕ
reach_round w reached = filter (λ b. has_number reached b || is_led_from w reached b) (all_blocks w)

abbrev pub reach_rounds : World → List ℕ → ℕ → List ℕ
reach_rounds w start zero = start
reach_rounds w start (suc r) = reach_round w (reach_rounds w start r)

-- as many rounds as there are blocks
abbrev pub reach_from : World → List ℕ → List ℕ
reach_from w start = reach_rounds w start w.geometry.blocks

-- what the primary blocks lead to, they included
abbrev pub reach : World → List ℕ
reach w = reach_from w (primary_blocks w)

-- the contents of the blocks that pass; the others become free
abbrev pub blocks_that : World → (ℕ → Bool) → List (Option (List ℕ))
blocks_that w keep = map (λ b. cond (keep b) (contents w b) None) (all_blocks w)

-- the world on the blocks that pass, with the pairs from them
abbrev pub restricted : World → (ℕ → Bool) → World
restricted w keep = record w { blocks = blocks_that w keep; pairs = filter (λ e. keep e.0) w.pairs }

-- the world on the blocks that are reached
abbrev pub swept : World → World
swept w = restricted w (has_number (reach w))

-- Which blocks are lost once their last pointer is gone, and the world without them.
use Rattle.std.specs.Prelude.{ℕ, zero, suc, Bool, not, ◌&&◌, ◌||◌, ◌==◌, List, [], filter}
use Rattle.std.specs.List.{list_all}
use Rattle.tsd_model.specs.World.{World, is_live, is_primary, all_blocks, has_number}
use Rattle.tsd_model.specs.Reach.{restricted}

-- every pair to b comes from one of these blocks
abbrev pub is_led_only_from : World → List ℕ → ℕ → Bool
is_led_only_from w gone b = list_all (λ e. not (e.1 == b) || has_number gone e.0) w.pairs

-- b is live and not primary, and every pair to it comes from one of these blocks
abbrev pub hangs_on : World → List ℕ → ℕ → Bool
hangs_on w gone b = (is_live w b && not (is_primary w b)) && is_led_only_from w gone b

abbrev pub doomed_round : World → List ℕ → List ℕ
doomed_round w gone = filter (hangs_on w gone) (all_blocks w)

-- first the blocks that no pair leads to, then those that hang on them, and so on
abbrev pub doomed_rounds : World → ℕ → List ℕ
doomed_rounds w zero = []
doomed_rounds w (suc r) = doomed_round w (doomed_rounds w r)

-- as many rounds as there are blocks
abbrev pub doomed : World → List ℕ
doomed w = doomed_rounds w w.geometry.blocks

-- the world without the doomed blocks and the pairs from them
abbrev pub settle : World → World
settle w = restricted w (λ b. not (has_number (doomed w) b))

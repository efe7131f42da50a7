-- A list that is to have one block.
use Rattle.std.specs.Prelude.{ℕ, List, [], ◌∷◌, Option, Some, None}

-- the block, where it is one
abbrev pub the_block : List ℕ → Option ℕ
the_block [] = None
the_block (b ∷ []) = Some b
the_block (b ∷ c ∷ bs) = None

-- What a stored closure has to answer, and why that settles which blocks are taken.
use Rattle.std.specs.Prelude.{◌≡◌, ℕ, ◌^◌, ◌<◌}
use Rattle.tsd_model.specs.declared.requests.PlaceKind.{PlaceKind}
use Rattle.tsd_model.specs.Rank.{rank_of}

-- what a closure gives for a hint and a block, where it gives an answer, is the rank of this kind
abbrev pub AnswersRanks : PlaceKind → (ℕ → ℕ → ℕ → Type 0) → Type 0
AnswersRanks kind gives =
    (hint block answer : ℕ) → hint < 2 ^ 32 → block < 2 ^ 32 → gives hint block answer
    → answer ≡ rank_of kind hint block

-- for this hint, blocks of one rank are one block
abbrev pub HasNoTies : PlaceKind → ℕ → Type 0
HasNoTies kind hint =
    (a b : ℕ) → a < 2 ^ 32 → b < 2 ^ 32 → rank_of kind hint a ≡ rank_of kind hint b → a ≡ b

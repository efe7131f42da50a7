-- Calls that are numbered.
use Rattle.std.specs.List.{list_any}
use Rattle.std.specs.Prelude.{ℕ, ◌==◌, Bool, List}

-- the number is one of these
abbrev pub is_one_of : ℕ → List ℕ → Bool
is_one_of number numbers = list_any (λ n. n == number) numbers

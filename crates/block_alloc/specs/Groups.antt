-- Runs up to a ceiling of their ranks, from a block on.
use Rattle.std.specs.Prelude.{◌≡◌, ℕ, ◌-◌, Bool, true, nat_le, ◌&&◌, List, length, filter, Option, Some, None}
use Rattle.std.specs.List.{range_with_len}
use Rattle.block_alloc.specs.Choosing.{is_free_run}
use Rattle.block_alloc.specs.Least.{least_of}
use Rattle.block_alloc.specs.declared.least.Ranked.{Ranked}

-- the rank is at most the ceiling, where there is one
abbrev pub is_within : Option ℕ → ℕ → Bool
is_within None rank = true
is_within (Some ceiling) rank = nat_le rank ceiling

-- so many blocks from b on are free, and the rank of b is at most the ceiling
abbrev pub is_run_within : (ℕ → ℕ) → List Bool → ℕ → Option ℕ → ℕ → Bool
is_run_within rank live run ceiling b = is_free_run live run b && is_within ceiling (rank b)

-- kept are the wanted ones of least rank among those of these blocks from `start` on
abbrev pub IsKeptFrom : (ℕ → ℕ) → List Bool → ℕ → Option ℕ → ℕ → ℕ → List Ranked → Type 0
IsKeptFrom rank live run ceiling wanted start kept =
    kept
    ≡ least_of rank wanted (filter (is_run_within rank live run ceiling) (range_with_len start (length live - start)))

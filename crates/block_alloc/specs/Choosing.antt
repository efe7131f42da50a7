-- Which free blocks are taken, and when none are.
use Rattle.std.specs.Prelude.{◌≡◌, ℕ, ◌<◌, ◌≤◌, Bool, List, [], filter, take, length, Option}
use Rattle.std.specs.List.{list_all, range_with_len}
use Rattle.tsd_model.specs.Rank.{rank_of}
use Rattle.tsd_model.specs.Placing.{sorted_by_rank, first_block}
use Rattle.tsd_model.specs.declared.requests.PlaceKind.{PlaceKind}
use Rattle.block_alloc.specs.LiveMap.{is_free, free_count}
use Rattle.block_alloc.specs.declared.choose.RunRefusal.{RunRefusal}
use Rattle.block_alloc.specs.declared.choose.RunRefusal.TheVariants as refusal

-- every block of the disk, ascending
abbrev pub all_blocks : List Bool → List ℕ
all_blocks live = range_with_len 0 (length live)

abbrev pub free_blocks : List Bool → List ℕ
free_blocks live = filter (is_free live) (all_blocks live)

-- so many free blocks, those of least rank, in the order of their ranks
abbrev pub chosen : PlaceKind → List Bool → ℕ → ℕ → List ℕ
chosen kind live hint count = take count (sorted_by_rank (rank_of kind hint) (free_blocks live))

-- so many blocks from b on are free
abbrev pub is_free_run : List Bool → ℕ → ℕ → Bool
is_free_run live count b = list_all (is_free live) (range_with_len b count)

-- where a run of so many free blocks begins
abbrev pub runs : List Bool → ℕ → List ℕ
runs live count = filter (is_free_run live count) (all_blocks live)

-- where the run begins whose first block has the least rank
abbrev pub chosen_run : PlaceKind → List Bool → ℕ → ℕ → Option ℕ
chosen_run kind live hint count = first_block (sorted_by_rank (rank_of kind hint) (runs live count))

-- ---- refusals, with both numbers
-- fewer blocks are free than are wanted
pub record IsShort (live : List Bool) (count free wanted : ℕ) : Type 0 where
  pub free_is : free ≡ free_count live
  pub wanted_is : wanted ≡ count
  pub fewer : free < wanted

-- enough blocks are free, but no run of them is that long
pub record HasNoRun (live : List Bool) (count free wanted : ℕ) : Type 0 where
  pub free_is : free ≡ free_count live
  pub wanted_is : wanted ≡ count
  pub enough : wanted ≤ free
  pub none : runs live count ≡ []

-- what each refusal of a run says; no two of them hold together
abbrev pub IsRunRefusal : List Bool → ℕ → RunRefusal → Type 0
IsRunRefusal live count (refusal.Short free wanted) = IsShort live count free wanted
IsRunRefusal live count (refusal.NoRun free wanted) = HasNoRun live count free wanted

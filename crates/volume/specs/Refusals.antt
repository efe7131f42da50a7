-- Why no free blocks were chosen.
use Rattle.std.specs.Prelude.{◌≡◌, ℕ, ◌<◌, ◌≤◌, []}
use Rattle.tsd_model.specs.Placing.{runs}
use Rattle.tsd_model.specs.World.{World, free_count}
use Rattle.block_alloc.specs.declared.choose.RunRefusal.{RunRefusal}
use Rattle.block_alloc.specs.declared.choose.RunRefusal.TheVariants as refusal

-- fewer blocks are free than are wanted
pub record IsShort (w : World) (count free wanted : ℕ) : Type 0 where
  pub free_is : free ≡ free_count w
  pub wanted_is : wanted ≡ count
  pub fewer : free < wanted

-- enough blocks are free, but no run of them is that long
pub record HasNoRun (w : World) (count free wanted : ℕ) : Type 0 where
  pub free_is : free ≡ free_count w
  pub wanted_is : wanted ≡ count
  pub enough : wanted ≤ free
  pub none : runs w count ≡ []

-- what each refusal of a run says; no two of them hold together
abbrev pub IsRunRefusal : World → ℕ → RunRefusal → Type 0
IsRunRefusal w count (refusal.Short free wanted) = IsShort w count free wanted
IsRunRefusal w count (refusal.NoRun free wanted) = HasNoRun w count free wanted

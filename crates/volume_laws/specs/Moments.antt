-- What a crash leaves of a call.
use Rattle.std.specs.Prelude.{◌≡◌, ◌⊎◌, ℕ, ◌+◌, ◌≤◌}
use Rattle.tsd_model.specs.Step.{without_pointer}
use Rattle.tsd_model.specs.World.{World}
use Rattle.image_device.specs.Image.{Image}
use Rattle.image_device.specs.View.{View}
use Rattle.image_device.specs.Runs.{LeavesOnly}
use Rattle.graph_laws.specs.Counts.{doomed_size}
use Rattle.image_world.specs.Stands.{Stands}
use Rattle.image_world.specs.Debt.{debt}
use Rattle.volume_laws.specs.Volume.{world_on}

-- the image stands for one of two worlds
abbrev pub StandsForEither : World → World → Image → Type 0
StandsForEither v w x = Stands x v ⊎ Stands x w

-- a crash at any moment leaves the world before or this one, and what was sent stays
abbrev pub LeavesEither : View → View → World → Type 0
LeavesEither old new w = LeavesOnly old new (λ x f. StandsForEither (world_on old) w x × (f ≡ old.sent))

-- a crash at any moment leaves the world before, and what was sent stays
abbrev pub LeavesWorld : View → View → Type 0
LeavesWorld old new = LeavesOnly old new (λ x f. Stands x (world_on old) × (f ≡ old.sent))

-- ---- what is still to be reclaimed
-- a crash at any moment leaves at most so much to be reclaimed
abbrev pub LeavesOwed : View → View → ℕ → Type 0
LeavesOwed old new most = LeavesOnly old new (λ x f. debt x ≤ most)

-- ---- worlds
-- how many blocks and pairs go where this pair is taken away, that pair included
abbrev pub made : World → ℕ → ℕ → ℕ
made w a b = doomed_size (without_pointer w a b) + 1

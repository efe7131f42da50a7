-- What `format` makes and says.
use Rattle.std.specs.Prelude.{◌≡◌, ◌⊎◌, ℕ, List, ◌++◌, take}
use Rattle.tsd_model.specs.World.{World}
use Rattle.tsd_model.specs.Run.{fresh_world}
use Rattle.tsd_model.specs.declared.caps.CapPair.{CapPair}
use Rattle.image_device.specs.View.{View, IsPart}
use Rattle.image_layout.specs.Image.{Image}
use Rattle.image_world.specs.Stands.{Stands}
use Rattle.cap_store.specs.Seeds.{seed_pairs}
use Rattle.recovery.specs.Formatting.{IsFormatting}
use Rattle.tsd_words.specs.declared.commands.Format.{Format}
use Rattle.tsd_words.specs.declared.status.Status.{Status}
use Rattle.tsd_words.specs.declared.status.Status.TheVariants as status
use Rattle.tsd_words.specs.Lines.{cap_lines}
use Rattle.image_runs.specs.Sending.{ProperFrontWasSent}
use Rattle.image_runs.specs.Served.{IsAtEase}

-- the capabilities of the primary blocks, which the seed gives
abbrev pub caps_of : Format → List CapPair
caps_of words = take words.geometry.primaries (seed_pairs words.seed)

-- the fresh world of the words' size and the seed's capabilities
abbrev pub world_for : Format → World
world_for words = fresh_world words.geometry (caps_of words)

-- the lines of all primary blocks
abbrev pub lines_for : Format → List ℕ
lines_for words = cap_lines 0 (caps_of words)

-- nothing is loose, the disk stands for the fresh world, and nothing is left to be done
abbrev pub IsFormatted : Format → View → Type 0
IsFormatted words v = IsAtEase v (world_for words)

-- What it has done by the time that it ended so: the disk is formatted, and the lines are sent whole or a proper front
-- of them; or nothing is sent.
abbrev pub HasFormatted : Status → Format → View → View → Type 0
HasFormatted status.Done words old new = IsFormatted words new × (new.sent ≡ old.sent ++ lines_for words)
HasFormatted status.PutFault words old new = IsFormatted words new
    × ProperFrontWasSent old.sent (lines_for words) new.sent
HasFormatted status.DeviceFault words old new = new.sent ≡ old.sent
HasFormatted r words old new = ⊥

-- What a crash leaves: with nothing sent, what formatting leaves; wherever a byte was sent, the fresh world, and a
-- front of the lines is sent.
abbrev pub IsLeftOfFormat : Format → View → Image → List ℕ → Type 0
IsLeftOfFormat words old x f =
    (IsFormatting old (world_for words) x f × (f ≡ old.sent))
    ⊎ (Stands x (world_for words) × IsPart old.sent (lines_for words) f)

-- What `upgrade` does and says.
use Rattle.std.specs.Prelude.{◌≡◌, ◌⊎◌, ℕ, ◌≤◌, List, ◌++◌}
use Rattle.tsd_model.specs.Records.{upgraded}
use Rattle.image_device.specs.Image.{zeros}
use Rattle.image_device.specs.View.{View, IsPart}
use Rattle.image_device.specs.Runs.{IsFirm}
use Rattle.image_layout.specs.Image.{Image}
use Rattle.image_world.specs.Faults.{IsGood, IsFirstFault}
use Rattle.intent_journal.specs.Records.{AreClosed}
use Rattle.image_world.specs.Stands.{Stands, world_of}
use Rattle.volume_laws.specs.Erased.{HasOnlyDigests}
use Rattle.recovery.specs.Opening.{StandAlike}
use Rattle.tsd_words.specs.declared.status.Status.{Status}
use Rattle.tsd_words.specs.declared.status.Status.TheVariants as status
use Rattle.tsd_words.specs.Lines.{upgrade_line}
use Rattle.image_runs.specs.Sending.{ProperFrontWasSent}

-- an image stands for the world of the image at the start, with digests in place of capabilities
pub record IsUpgradeOf (image x : Image) : Type 0 where
  pub good : IsGood image
  pub stands : Stands x (upgraded (world_of image))

-- Nothing is loose, the disk stands for the upgraded world, all gates of the journal are closed, and the sectors in
-- which it held earlier capabilities read as zeros. Where the image kept capabilities, the sectors of records hold
-- their digests and nothing else.
pub record IsUpgraded (image : Image) (v : View) : Type 0 where
  pub firm : IsFirm v
  pub upgrade : IsUpgradeOf image v.reads
  pub closed : AreClosed v.reads
  pub erased : (n : ℕ) → 4 ≤ n → n ≤ 116 → v.reads n ≡ zeros
  pub digests : (world_of image).version ≡ 1 → HasOnlyDigests (upgraded (world_of image)).records v.reads

-- What it has done by the time that it ended so: the disk is upgraded, and its line is sent whole or a proper front of
-- it; or nothing is sent.
abbrev pub HasUpgraded : Status → View → View → Type 0
HasUpgraded status.Done old new = IsUpgraded old.reads new × (new.sent ≡ old.sent ++ upgrade_line)
HasUpgraded status.PutFault old new = IsUpgraded old.reads new × ProperFrontWasSent old.sent upgrade_line new.sent
HasUpgraded (status.NotImage why) old new = IsFirstFault old.reads why × (new.sent ≡ old.sent)
HasUpgraded status.DeviceFault old new = new.sent ≡ old.sent
HasUpgraded status.NoMemory old new = new.sent ≡ old.sent
HasUpgraded r old new = ⊥

-- What a crash leaves: with nothing sent, the world before, or none where there was none, or the upgraded world;
-- wherever a byte was sent, the upgraded world, and a front of the line is sent.
abbrev pub IsLeftOfUpgrade : View → Image → List ℕ → Type 0
IsLeftOfUpgrade old x f =
    ((StandAlike old.reads x ⊎ IsUpgradeOf old.reads x) × (f ≡ old.sent))
    ⊎ (IsUpgradeOf old.reads x × IsPart old.sent upgrade_line f)

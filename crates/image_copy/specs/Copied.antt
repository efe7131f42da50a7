-- What one copy over an image did, from its start to its end.
use Rattle.std.specs.Prelude.{◌≡◌, ◌⊎◌, ℕ, false, List, ◌++◌, ⊤}
use Rattle.tsd_model.specs.World.{World}
use Rattle.tsd_model.specs.declared.requests.Level.{Level}
use Rattle.tsd_model.specs.declared.requests.Level.TheVariants as level
use Rattle.image_device.specs.View.{View, IsPart}
use Rattle.image_layout.specs.Image.{Image}
use Rattle.image_world.specs.Faults.{IsGood}
use Rattle.image_world.specs.Stands.{Stands, world_of}
use Rattle.recovery.specs.Opening.{StandAlike}
use Rattle.tsd_words.specs.declared.status.Status.{Status}
use Rattle.tsd_words.specs.declared.status.Status.TheVariants as status
use Rattle.fs_port.specs.Files.{FilesView}
use Rattle.image_runs.specs.Opened.{IsJudged}
use Rattle.image_runs.specs.Sending.{ProperFrontWasSent}
use Rattle.image_runs.specs.Served.{IsAtEase}
use Rattle.image_shell.specs.Served.{IsRootDenied, level_at}
use Rattle.image_copy.specs.Ends.{EndsAs, IsUnderWay}
use Rattle.image_copy.specs.Lines.{end_line}
use Rattle.image_copy.specs.declared.ending.CopyEnd.{CopyEnd}
use Rattle.tsd_words.specs.declared.commands.CopyFs.{CopyFs}
use Rattle.tsd_words.specs.declared.commands.TreeRoot.{TreeRoot}

-- ---- the two sides

-- a tree's file system before it is mounted, where it asks as this session
abbrev pub side : TreeRoot → ℕ → FilesView
side t session = record { kind = t.layout; root = t.root; cap = t.cap; session = session; mounted = false }

abbrev pub source_session : ℕ
source_session = 1

abbrev pub target_session : ℕ
target_session = 2

abbrev pub source : CopyFs → FilesView
source words = side words.from source_session

abbrev pub target : CopyFs → FilesView
target words = side words.into target_session

-- ---- who may come in

-- the level that a capability attains at the root of a tree
abbrev pub level_under : World → TreeRoot → Level
level_under w t = level_at w t.root t.cap

-- The source's capability doesn't attain write at its root, but this; or it does, and the target's doesn't.
abbrev pub IsSideDenied : World → CopyFs → Level → Type 0
IsSideDenied w words attained =
    IsRootDenied w words.from.root words.from.cap attained
    ⊎ ((level_under w words.from ≡ level.Write) × IsRootDenied w words.into.root words.into.cap attained)

-- both attain it
pub record AreAdmitted (w : World) (words : CopyFs) : Type 0 where
  pub from : level_under w words.from ≡ level.Write
  pub into : level_under w words.into ≡ level.Write

-- What a status says of the image at the start: NotImage comes exactly where it stands for no world, and RootDenied
-- exactly where a capability doesn't attain write at its root.
abbrev pub IsCopyJudged : CopyFs → Image → Status → Type 0
IsCopyJudged words image (status.RootDenied attained) = IsGood image × IsSideDenied (world_of image) words attained
IsCopyJudged words image (status.NotImage why) = IsJudged image (status.NotImage why)
IsCopyJudged words image status.DeviceFault = ⊤
IsCopyJudged words image status.NoMemory = ⊤
IsCopyJudged words image r = IsGood image × AreAdmitted (world_of image) words

-- it ends so
abbrev pub IsCopyEnding : Status → Type 0
IsCopyEnding status.Done = ⊤
IsCopyEnding (status.NotImage why) = ⊤
IsCopyEnding (status.RootDenied attained) = ⊤
IsCopyEnding status.NoMemory = ⊤
IsCopyEnding status.DeviceFault = ⊤
IsCopyEnding status.PutFault = ⊤
IsCopyEnding r = ⊥

-- no step of a copy was made
abbrev pub IsNotBegun : Status → Type 0
IsNotBegun (status.NotImage why) = ⊤
IsNotBegun (status.RootDenied attained) = ⊤
IsNotBegun status.NoMemory = ⊤
IsNotBegun r = ⊥

-- it ended before a step could be made: no image was opened, or a capability doesn't attain write
abbrev pub IsKeptOut : Status → Type 0
IsKeptOut (status.NotImage why) = ⊤
IsKeptOut (status.RootDenied attained) = ⊤
IsKeptOut r = ⊥

-- ---- the whole

-- The copy ended so, from the world for which the image stood at the start; nothing is loose, and nothing is left to be
-- done.
pub record HasEnded (words : CopyFs) (old new : View) (e : CopyEnd) : Type 0 where
  pub world : World
  pub ends : EndsAs (source words) (target words) (world_of old.reads) e world
  pub at_ease : IsAtEase new world

-- What it has done by the time that it ended so: the copy has ended, and its line is sent whole or a proper front of
-- it; or nothing is sent.
abbrev pub HasCopied : Status → CopyFs → View → View → Type 0
HasCopied status.Done words old new = (e : CopyEnd) × HasEnded words old new e × (new.sent ≡ old.sent ++ end_line e)
HasCopied status.PutFault words old new = (e : CopyEnd) × HasEnded words old new e
    × ProperFrontWasSent old.sent (end_line e) new.sent
HasCopied r words old new = new.sent ≡ old.sent

-- The image stands for a world that the copy may leave of the one at the start: with nothing sent, one on the way; or
-- the one in which the copy has ended, with a front of its line sent.
pub record StandsWithinCopy (words : CopyFs) (old : View) (x : Image) (sent : List ℕ) : Type 0 where
  pub good : IsGood old.reads
  pub world : World
  pub stands : Stands x world
  pub way : (IsUnderWay (source words) (target words) (world_of old.reads) world × (sent ≡ old.sent))
      ⊎ ((e : CopyEnd) × EndsAs (source words) (target words) (world_of old.reads) e world
      × IsPart old.sent (end_line e) sent)

-- What a crash leaves: with nothing sent, the world at the start, or none where there was none; or one of those.
abbrev pub IsLeftOfCopy : CopyFs → View → Image → List ℕ → Type 0
IsLeftOfCopy words old x sent = (StandAlike old.reads x × (sent ≡ old.sent)) ⊎ StandsWithinCopy words old x sent

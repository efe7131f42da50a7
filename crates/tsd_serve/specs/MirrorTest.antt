-- Before anything is written to the second side, the first one is put through the tests of an image.
use Rattle.std.specs.Prelude.{◌≡◌, ◌≢◌, ◌≤◌, ◌⊎◌, ⊤, ℕ, List, ◌∷◌, ◌++◌, [], Option, None, Some}
use Rattle.tsd_model.specs.World.{World}
use Rattle.image_device.specs.Counts.{Rose}
use Rattle.image_device.specs.Image.{Image, IsImage}
use Rattle.image_layout.specs.declared.fault.ImageFault.{ImageFault}
use Rattle.image_probe.specs.Reading.{OnlyReads, ReadCounts}
use Rattle.image_runs.specs.Check.{HasChecked}
use Rattle.image_runs.specs.Opened.{IsUnopened}
use Rattle.image_runs.specs.Sending.{ProperFrontWasSent}
use Rattle.image_runs.specs.declared.check.Telling.{Telling}
use Rattle.image_world.specs.Faults.{IsFirstFault, IsGood}
use Rattle.image_world.specs.Stands.{Stands}
use Rattle.mirror_device.specs.Putting.{SidesSend}
use Rattle.mirror_device.specs.SideCalls.{SidesPut}
use Rattle.mirror_device.specs.SidesView.{IsSideNow, Item, SidesView}
use Rattle.serving.specs.Ran.{Taking}
use Rattle.tsd_words.specs.StatusText.{fault_text}
use Rattle.tsd_words.specs.declared.commands.Command.{Command}
use Rattle.tsd_words.specs.declared.commands.Command.TheVariants as command
use Rattle.tsd_words.specs.declared.status.Status.{Status}
use Rattle.tsd_words.specs.declared.status.Status.TheVariants as status
use Rattle.tsd_serve.specs.MirrorStatus.{own_status}
use Rattle.tsd_serve.specs.declared.mirror_status.MirrorStatus.{MirrorStatus}
use Rattle.tsd_serve.specs.declared.mirror_status.MirrorStatus.TheVariants.{Ended}

-- The words are a command that opens an image: each does but those that make one.
abbrev pub OpensImage : Option Command → Type 0
OpensImage (Some (command.Fresh fresh)) = ⊥
OpensImage (Some (command.Format words)) = ⊥
OpensImage (Some words) = ⊤
OpensImage None = ⊥

-- They are one that tells what is wrong with an image, in a line.
abbrev pub TellsWhatIsWrong : Option Command → Type 0
TellsWhatIsWrong (Some command.Check) = ⊤
TellsWhatIsWrong (Some command.Info) = ⊤
TellsWhatIsWrong words = ⊥

abbrev pub StandsForNone : Image → Type 0
StandsForNone image = (w : World) → Stands image w → ⊥

-- Both sides are as they were, but for faults of the first one: each reads as before, the second one has the same
-- counts, and a crash since then left of each what one before leaves.
pub record AreSpared (old new : SidesView) : Type 0 where
  pub reads : new.first.reads ≡ old.first.reads
  pub loose : new.first.loose ≡ old.first.loose
  pub second : new.second ≡ old.second
  pub left_first : (i : Item) → new.left old.clock i → IsImage old.first.reads old.first.loose i.first.image
  pub left_second : (i : Item) → new.left old.clock i → IsSideNow old.second i.second

-- The first side was found to stand for no world. After a put that failed not all of that was told.
abbrev pub IsFound : Status → Type 0
IsFound (status.NotImage why) = ⊤
IsFound status.PutFault = ⊤
IsFound r = ⊥

-- ---- the tests

-- A command that opens an image found the first side to stand for a world; another made no test.
pub record HasPassed (told : Type 0) (words : Option Command) (old new : SidesView) : Type 0 where
  pub good : told → OpensImage words → IsGood old.first.reads
  pub reads : told → ∥ OnlyReads old new ∥₁
  pub counts : ReadCounts old new
  pub faults : new.first.faults ≡ old.first.faults

-- A command that opens an image ended so in the tests of the first side: that stands for no world, it failed in them,
-- or memory was short. A command that tells what is wrong with an image put that, and failed in it or not.
pub record HasStopped (told : Type 0) (words : Option Command) (r : Status) (old new : SidesView) : Type 0 where
  pub opens : OpensImage words
  pub ended : IsUnopened r ⊎ (TellsWhatIsWrong words × (r ≡ status.PutFault))
  pub judged : told → (why : ImageFault) → r ≡ status.NotImage why → IsFirstFault old.first.reads why
  pub none : told → IsFound r → StandsForNone old.first.reads
  pub spared : told → AreSpared old new
  pub said : told → TellsWhatIsWrong words → (t : Telling) → HasChecked t r old.first.reads old.sent new.sent
  -- where nothing was to tell, nothing was put
  pub quiet : told → (TellsWhatIsWrong words → IsFound r → ⊥) → ∥ OnlyReads old new ∥₁
  pub clock : old.clock ≤ new.clock
  pub second_faults : new.second.faults ≡ old.second.faults
  pub second_syncs : new.second.syncs ≡ old.second.syncs
  pub first_syncs : new.first.syncs ≡ old.first.syncs
  pub cause : r ≡ status.DeviceFault → Rose old.first.faults new.first.faults
  pub faults : r ≢ status.DeviceFault → new.first.faults ≡ old.first.faults
  pub put_cause : r ≡ status.PutFault → Rose old.put_faults new.put_faults
  pub put_faults : r ≢ status.PutFault → new.put_faults ≡ old.put_faults

-- The command ended in the tests of the first side, and nothing was taken.
pub record DidTest (told : Type 0) (words : Option Command) (r : MirrorStatus) (source : Taking) (old new : SidesView)
    : Type 0 where
  pub status : r ≡ Ended (own_status r)
  pub stopped : HasStopped told words (own_status r) old new
  pub untaken : source.untouched

-- ---- what is wrong, told

-- A text was put, and with it the status is s; or a put failed.
pub record HasPut (told : Type 0) (text : List ℕ) (s r : Status) (old new : SidesView) : Type 0 where
  pub sends : told → SidesSend text old new
  pub puts : SidesPut old new
  pub ended : ((r ≡ s) × (told → new.sent ≡ old.sent ++ text) × (new.put_faults ≡ old.put_faults))
      ⊎ ((r ≡ status.PutFault) × (told → ProperFrontWasSent old.sent text new.sent)
      × Rose old.put_faults new.put_faults)

-- A command that tells of faults put the line of this one.
pub record HasToldFault (told : Type 0) (words : Option Command) (s r : Status) (old new : SidesView) : Type 0 where
  pub tells : TellsWhatIsWrong words
  pub why : ImageFault
  pub is : s ≡ status.NotImage why
  pub put : HasPut told (fault_text why ++ 10 ∷ []) s r old new

-- nothing was put
pub record HasToldNothing {P : Type 0} (words : Option Command) (s r : Status) (old new : P) : Type 0 where
  pub status : r ≡ s
  pub same : new ≡ old
  pub silent : TellsWhatIsWrong words → IsFound s → ⊥

-- what is wrong was told, where the command tells that
abbrev pub HasTold : {P : Type 0} → Type 0 → (P → SidesView) → Option Command → Status → Status → P → P → Type 0
HasTold told view words s r old new =
    HasToldNothing words s r old new ⊎ HasToldFault told words s r (view old) (view new)

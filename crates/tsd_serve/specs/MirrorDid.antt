-- What a command did over two images as one disk, from its start to its end.
use Rattle.std.specs.Prelude.{◌≡◌, ◌⊎◌, ◌+◌, ◌-◌, ◌^◌, ◌<◌, ◌≤◌, ⊤, ℕ, List, Option, None, Some}
use Rattle.tsd_model.specs.World.{World}
use Rattle.tsd_model.specs.declared.requests.Request.{Request}
use Rattle.image_device.specs.Counts.{Rose}
use Rattle.image_device.specs.Image.{Image}
use Rattle.image_device.specs.Runs.{IsFirm}
use Rattle.image_device.specs.View.{IsSound, View}
use Rattle.mirror_device.specs.Copying.{Copying, IsBrokenOff, IsLeftOfFirst, differing}
use Rattle.mirror_device.specs.Mirror.{EachSound, IsShown, loose_of, reads_of, start_at}
use Rattle.mirror_device.specs.SidesView.{Item, SidesView}
use Rattle.mirror_device.specs.declared.side.Serving.{Serving}
use Rattle.mirror_device.specs.declared.side.Serving.TheVariants as serving
use Rattle.mirror_device.specs.declared.side.Side.{Side}
use Rattle.mirror_device.specs.declared.side.Side.TheVariants.{First, Second}
use Rattle.image_world.specs.Stands.{Stands}
use Rattle.recovery.specs.Formatting.{IsFormatting}
use Rattle.tsd_words.specs.declared.commands.Command.{Command}
use Rattle.tsd_words.specs.declared.commands.Command.TheVariants as command
use Rattle.tsd_words.specs.declared.status.Status.TheVariants as status
use Rattle.serving.specs.FrameSpelling.{frame_spelling, frame_voice}
use Rattle.serving.specs.Input.{Spelling}
use Rattle.serving.specs.LineSpelling.{line_spelling, line_voice}
use Rattle.serving.specs.Ran.{Moments, Taking}
use Rattle.image_runs.specs.Fresh.{single_world}
use Rattle.tsd_serve.specs.Did.{Did}
use Rattle.tsd_serve.specs.Headline.{AreOf, IsPrefixLeft}
use Rattle.tsd_serve.specs.MirrorStatus.{own_status}
use Rattle.tsd_serve.specs.declared.mirror_status.MirrorStatus.{MirrorStatus}
use Rattle.tsd_serve.specs.declared.mirror_status.MirrorStatus.TheVariants.{Ended, SideLost}

-- ---- the counts

-- A side failed in this run: its count of faults rose. One that stood at the greatest u64 counts as one that rose; so
-- does, for the second side, that of syncs.
abbrev pub HasFailed : Side → SidesView → SidesView → Type 0
HasFailed First old new = Rose old.first.faults new.first.faults
HasFailed Second old new = Rose old.second.faults new.second.faults ⊎ (2 ^ 64 - 1 ≤ old.second.syncs)

-- the side that is lost, if one is
abbrev pub lost_of : Serving → Option Side
lost_of serving.Both = None
lost_of serving.First = Some Second
lost_of serving.Second = Some First

-- A side is sound at the end: no call of it failed and, for the second one, the copying was done.
abbrev pub IsSoundAtEnd : Side → SidesView → SidesView → Type 0
IsSoundAtEnd First old new = new.first.faults ≤ old.first.faults
IsSoundAtEnd Second old new = (new.second.faults ≤ old.second.faults) × (old.second.syncs < new.second.syncs)

-- Which sides are sound at the end, by the status: both after Done; where one was lost, the other; and where no device
-- fault came, one.
abbrev pub AreSoundAtEnd : MirrorStatus → SidesView → SidesView → Type 0
AreSoundAtEnd (Ended status.Done) old new = IsSoundAtEnd First old new × IsSoundAtEnd Second old new
AreSoundAtEnd (SideLost First) old new = IsSoundAtEnd Second old new
AreSoundAtEnd (SideLost Second) old new = IsSoundAtEnd First old new
AreSoundAtEnd (Ended status.DeviceFault) old new = ⊤
AreSoundAtEnd (Ended r) old new = IsSoundAtEnd First old new ⊎ IsSoundAtEnd Second old new

-- The cause of a device fault: the first side failed in this run, and the second one failed too or wasn't synced, so
-- that the copying hadn't ended.
pub record NoSideIsLeft (old new : SidesView) : Type 0 where
  pub first : Rose old.first.faults new.first.faults
  pub second : new.second.faults ≤ old.second.faults → new.second.syncs ≤ old.second.syncs

-- ---- the command over both sides

-- The mirror as it began: it reads as the first side did, nothing is loose, and nothing was sent. What a crash left of
-- it since the start is what a crash then left of the first side.
pub record BeganAs (old : SidesView) (begun : View) : Type 0 where
  pub sound : IsSound begun
  pub reads : begun.reads ≡ old.first.reads
  pub firm : IsFirm begun
  pub sent : begun.sent ≡ old.sent
  pub later : old.clock ≤ begun.clock
  pub left : (x : Image) (f : List ℕ) → begun.left old.clock x f → IsLeftOfFirst old x f

-- The mirror as it ended, where these sides count: what a crash left of it is, of each item of the sides, the image of
-- each side that is sound in it and, where neither is, that of the side that is left.
pub record EndedAs (old new : SidesView) (c : Serving) (ended : View) : Type 0 where
  pub reads : ended.reads ≡ reads_of c new
  pub loose : ended.loose ≡ loose_of c new
  pub sent : ended.sent ≡ new.sent
  pub left : (t : ℕ) (x : Image) (f : List ℕ) → IsShown new (start_at old) c t x f → ended.left t x f

-- The command did over both sides, as one port, what it does over one image.
pub record DidOver (words : Option Command) (r : MirrorStatus) (source : Taking) (old new : SidesView) (c : Serving)
    (port : Moments) : Type 0 where
  pub did : Did words (own_status r) source port
  pub begins : port.tells → BeganAs old port.old
  pub ends : port.tells → EndedAs old new c port.new

-- No more sectors of the second side were written than differed from those of the first.
abbrev pub WritesWhatDiffers : SidesView → SidesView → Type 0
WritesWhatDiffers old new = new.second.writes ≤ old.second.writes + differing old

-- The first side failed in the copying, and nothing else was done.
pub record DidCopy (told : Type 0) (r : MirrorStatus) (source : Taking) (old new : SidesView) : Type 0 where
  pub status : r ≡ Ended status.DeviceFault
  pub untaken : source.untouched
  pub broken_off : IsBrokenOff old new
  pub left : told → ∥ Copying old new ∥₁
  pub differing : told → WritesWhatDiffers old new

-- ---- the headline on each side

-- For the requests of the input, and a crash at any moment since the start, the copying included: what is left on each
-- side that is sound then, with the bytes sent by then; and where neither is, on one side, the same one at all such
-- moments.
pub record EachSideKeeps (p : Spelling Request) (source : Taking) (old new : SidesView)
    (P : List Request → Image → List ℕ → Type 0) : Type 0 where
  pub bytes : List ℕ
  pub came_in : source.came bytes
  pub asked : List Request
  pub are : AreOf p bytes asked
  pub side_left : Serving
  pub any_moment : (i : Item) → new.left old.clock i → EachSound (start_at old) side_left i (λ x. P asked x i.sent)

-- the first side as one device
abbrev pub first_view : SidesView → View
first_view v = record {
  reads = v.first.reads;
  loose = v.first.loose;
  sent = v.sent;
  clock = v.clock;
  left = λ t x f. IsLeftOfFirst v x f;
  faults = v.first.faults;
  put_faults = v.put_faults;
  writes = 0;
}

-- The headline over two sides: what it says of one image holds of each side that is sound, with the world of the first
-- one at the start.
abbrev pub MirrorHeadline : Command → Taking → SidesView → SidesView → Type 0
MirrorHeadline (command.Run kind) source old new =
    IsFirm (first_view old) → (w : World) → Stands old.first.reads w
    → EachSideKeeps line_spelling source old new (IsPrefixLeft line_voice kind w old.sent)
MirrorHeadline (command.Serve kind) source old new =
    IsFirm (first_view old) → (w : World) → Stands old.first.reads w
    → EachSideKeeps frame_spelling source old new (IsPrefixLeft frame_voice kind w old.sent)
MirrorHeadline (command.Group kind) source old new =
    IsFirm (first_view old) → (w : World) → Stands old.first.reads w
    → ∥ EachSideKeeps frame_spelling source old new (IsPrefixLeft frame_voice kind w old.sent) ∥₁
MirrorHeadline (command.Fresh fresh) source old new =
    let w = single_world fresh.geometry fresh.caps in
    EachSideKeeps line_spelling source old new (λ asked x sent. (IsFormatting (first_view old) w x sent
    × (sent ≡ old.sent)) ⊎ IsPrefixLeft line_voice fresh.kind w old.sent asked x sent)
MirrorHeadline words source old new = ⊤

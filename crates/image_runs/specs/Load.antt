-- What `load` does and says.
use Rattle.std.specs.Prelude.{◌≡◌, ◌⊎◌, ℕ, ◌≤◌, Bool, true, false, not, List, [], ◌++◌, map, length, count_by}
use Rattle.std.specs.List.{range_with_len}
use Rattle.tsd_model.specs.World.{World, free_count}
use Rattle.tsd_model.specs.Step.{State}
use Rattle.tsd_model.specs.Run.{at_rest, after, replies}
use Rattle.tsd_model.specs.declared.geometry.Geometry.{Geometry}
use Rattle.tsd_model.specs.declared.requests.PlaceKind.{PlaceKind}
use Rattle.tsd_model.specs.declared.requests.Request.{Request}
use Rattle.tsd_model.specs.declared.replies.Reply.{Reply}
use Rattle.tsd_model.specs.declared.replies.Reply.TheVariants as reply
use Rattle.image_device.specs.View.{View, IsPart}
use Rattle.image_device.specs.Runs.{IsFirm}
use Rattle.image_layout.specs.Image.{Image}
use Rattle.image_world.specs.Faults.{IsGood, IsFirstFault}
use Rattle.image_world.specs.Stands.{Stands, world_of}
use Rattle.load_gen.specs.Requests.{seed_request}
use Rattle.recovery.specs.Opening.{StandAlike}
use Rattle.volume_laws.specs.Quiet.{IsQuiet}
use Rattle.tsd_words.specs.declared.status.Status.{Status}
use Rattle.tsd_words.specs.declared.status.Status.TheVariants as status
use Rattle.tsd_words.specs.Lines.{line_of, load_words}
use Rattle.image_runs.specs.Sending.{ProperFrontWasSent}

-- the first requests of a seed for a disk of this size
abbrev pub requests_of : List ℕ → Geometry → ℕ → List Request
requests_of seed geometry count = map (seed_request seed geometry) (range_with_len 0 count)

-- the replies to them by the rules of the disk, and the state after them, where no session is open at the start
abbrev pub loaded_replies : PlaceKind → List ℕ → World → ℕ → List Reply
loaded_replies kind seed w count = replies kind (at_rest w) [] (requests_of seed w.geometry count)

abbrev pub loaded : PlaceKind → List ℕ → World → ℕ → State
loaded kind seed w count = after kind (at_rest w) [] (requests_of seed w.geometry count)

abbrev pub is_refused : Reply → Bool
is_refused (reply.Refused rule) = true
is_refused r = false

-- how many of the requests are refused, and how many aren't
abbrev pub refused_count : List Reply → ℕ
refused_count rs = count_by is_refused rs

abbrev pub granted_count : List Reply → ℕ
granted_count rs = count_by (λ r. not (is_refused r)) rs

-- the line of a load over the world for which an image stands
abbrev pub load_line : PlaceKind → List ℕ → Image → ℕ → List ℕ
load_line kind seed image count =
    let rs = loaded_replies kind seed (world_of image) count in
    let w = (loaded kind seed (world_of image) count).world in
    line_of (load_words count (granted_count rs) (refused_count rs) (free_count w) (length w.pairs))

-- an image stands for the world after so many requests over the world of the image at the start
pub record IsLoadedBy (kind : PlaceKind) (seed : List ℕ) (image : Image) (count : ℕ) (x : Image) : Type 0 where
  pub good : IsGood image
  pub stands : Stands x (loaded kind seed (world_of image) count).world

-- nothing is loose, the disk stands for the world after all requests, and nothing is left to be done
pub record IsLoadDone (kind : PlaceKind) (seed : List ℕ) (image : Image) (count : ℕ) (v : View) : Type 0 where
  pub firm : IsFirm v
  pub load : IsLoadedBy kind seed image count v.reads
  pub quiet : IsQuiet v.reads

-- What it has done by the time that it ended so: all requests are carried out, and its line is sent whole or a proper
-- front of it; or nothing is sent.
abbrev pub HasLoaded : Status → PlaceKind → List ℕ → ℕ → View → View → Type 0
HasLoaded status.Done kind seed count old new =
    IsLoadDone kind seed old.reads count new × (new.sent ≡ old.sent ++ load_line kind seed old.reads count)
HasLoaded status.PutFault kind seed count old new =
    IsLoadDone kind seed old.reads count new
    × ProperFrontWasSent old.sent (load_line kind seed old.reads count) new.sent
HasLoaded (status.NotImage why) kind seed count old new = IsFirstFault old.reads why × (new.sent ≡ old.sent)
HasLoaded status.DeviceFault kind seed count old new = new.sent ≡ old.sent
HasLoaded status.NoMemory kind seed count old new = new.sent ≡ old.sent
HasLoaded r kind seed count old new = ⊥

-- What a crash leaves: with nothing sent, a world of the run of the requests, or none where there was none at the
-- start; wherever a byte was sent, the world after all requests, and a front of the line is sent.
abbrev pub IsLeftOfLoad : PlaceKind → List ℕ → ℕ → View → Image → List ℕ → Type 0
IsLeftOfLoad kind seed count old x f =
    ((StandAlike old.reads x ⊎ ((done : ℕ) × (done ≤ count) × IsLoadedBy kind seed old.reads done x)) × (f ≡ old.sent))
    ⊎ (IsLoadedBy kind seed old.reads count x × IsPart old.sent (load_line kind seed old.reads count) f)

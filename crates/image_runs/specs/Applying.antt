-- How far a load has come.
use Rattle.std.specs.Prelude.{◌≡◌, ℕ, ◌≤◌, List, length, cond}
use Rattle.tsd_model.specs.World.{World, free_count}
use Rattle.tsd_model.specs.Step.{State}
use Rattle.tsd_model.specs.declared.requests.PlaceKind.{PlaceKind}
use Rattle.tsd_model.specs.declared.replies.Reply.{Reply}
use Rattle.image_device.specs.View.{View}
use Rattle.image_device.specs.Runs.{LeavesOnly}
use Rattle.image_world.specs.Stands.{Stands, world_of}
use Rattle.image_runs.specs.Load.{is_refused, granted_count, refused_count, loaded, loaded_replies}
use Rattle.tsd_words.specs.declared.lines.Summary.{Summary}

-- after so many requests over a world: the state, and how many were granted and how many refused
pub record HasApplied (kind : PlaceKind) (seed : List ℕ) (w : World) (count : ℕ) (s : State)
    (granted refused : ℕ) : Type 0 where
  pub state : s ≡ loaded kind seed w count
  pub granted_are : granted ≡ granted_count (loaded_replies kind seed w count)
  pub refused_are : refused ≡ refused_count (loaded_replies kind seed w count)

-- what is said of so many requests over a world
pub record IsSummary (kind : PlaceKind) (seed : List ℕ) (w : World) (count : ℕ) (s : Summary) : Type 0 where
  pub count_is : s.count ≡ count
  pub granted_are : s.granted ≡ granted_count (loaded_replies kind seed w count)
  pub refused_are : s.refused ≡ refused_count (loaded_replies kind seed w count)
  pub free_is : s.free ≡ free_count (loaded kind seed w count).world
  pub pointers_are : s.pointers ≡ length (loaded kind seed w count).world.pairs

-- what a reply adds to either
abbrev pub more_refused : Reply → ℕ
more_refused r = cond (is_refused r) 1 0

abbrev pub more_granted : Reply → ℕ
more_granted r = cond (is_refused r) 0 1

-- a crash at any moment leaves the world after some of so many requests over the world at the start, and what was sent
-- stays
abbrev pub LeavesRun : PlaceKind → List ℕ → ℕ → View → View → Type 0
LeavesRun kind seed count old new =
    LeavesOnly old new (λ x f. ((n : ℕ) × (n ≤ count) × Stands x (loaded kind seed (world_of old.reads) n).world)
    × (f ≡ old.sent))

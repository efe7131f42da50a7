-- The abstract disk as rules, and its runs as lists of requests at which no memory was found.
use Rattle.std.specs.Prelude.{◌≡◌, ℕ, Bool, List, length, map}
use Rattle.image_device.specs.Image.{Image}
use Rattle.tsd_model.specs.World.{World}
use Rattle.tsd_model.specs.Step.{State}
use Rattle.tsd_model.specs.ReplyForm.{HasForm}
use Rattle.tsd_model.specs.Run.{IsAnswer, replies, after}
use Rattle.tsd_model.specs.declared.requests.PlaceKind.{PlaceKind}
use Rattle.tsd_model.specs.declared.requests.Request.{Request}
use Rattle.serving.specs.Handling.{DiskRules}
use Rattle.serving.specs.Voice.{Voice}

-- a state, and in which order free blocks are taken, which no request changes
pub record Placed : Type 0 where
  pub kind : PlaceKind
  pub state : State

abbrev pub model_rules : (Image → World → Type 0) → DiskRules
model_rules stands = record {
  States = Placed;
  gives = λ s q r t. IsAnswer s.kind s.state q r t.state × HasForm r × (t.kind ≡ s.kind);
  stands = λ s x. stands x s.state.world;
}

-- These are the texts of the model's replies, for some requests at which no memory was found, and this is its state
-- then.
pub record IsModelRun (v : Voice) (s : Placed) (qs : List Request) (answers : List (List ℕ)) (t : Placed) : Type 0 where
  pub wants : List Bool
  pub each : length wants ≡ length qs
  pub texts : answers ≡ map v.text (replies s.kind s.state wants qs)
  pub state : t.state ≡ after s.kind s.state wants qs
  pub kind : t.kind ≡ s.kind

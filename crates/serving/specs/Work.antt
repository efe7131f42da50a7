-- What work costs, and how much of it is left to be done.
use Rattle.std.specs.Prelude.{ℕ, ◌+◌}
use Rattle.image_device.specs.Image.{Image}
use Rattle.image_device.specs.View.{View}

-- How the work of requests is counted, where it is bounded.
pub record WorkCount (Q States : Type 0) : Type 1 where
  -- the work of this request is bounded
  pub bounded : Q → Type 0
  -- how many writes it costs in a state
  pub cost : States → Q → ℕ
  -- how much it adds in a state to what is left to be done
  pub made : States → Q → ℕ
  -- how much is left to be done in an image
  pub debt : Image → ℕ
  -- how often is written at most before the answer to a request is sent, in a state, where so much is left to be done
  pub before_answer : States → ℕ → Q → ℕ
  -- how often at most behind an answer
  pub behind_answer : ℕ

-- the writes so far, and those that are still due
abbrev pub used : ℕ → View → ℕ
used due v = v.writes + due

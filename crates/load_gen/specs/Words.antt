-- What holds inside a generator.
use Rattle.std.specs.Prelude.{◌≡◌, ◌≤◌, ℕ}
use Rattle.rand_chacha.specs.ChaCha.{ChaCha}
use Rattle.tsd_model.specs.declared.geometry.Geometry.{Geometry}
use Rattle.load_gen.specs.Requests.{words_place}

-- its words stand where those of the next request do, there is a block to name, and no more than 200,000 requests are
-- drawn
pub record StandsAtRequest (words : ChaCha) (geometry : Geometry) (drawn : ℕ) : Type 0 where
  pub stream : words.stream ≡ 0
  pub place : words.word_pos ≡ words_place drawn
  pub blocks : 1 ≤ geometry.blocks
  pub few : drawn ≤ 200000

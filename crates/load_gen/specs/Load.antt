-- A generator of requests.
use Rattle.std.specs.Prelude.{ℕ, List}
use Rattle.rand_chacha.specs.ChaCha.{key_of}
use Rattle.tsd_model.specs.declared.caps.CapPair.{CapPair}
use Rattle.tsd_model.specs.declared.geometry.Geometry.{Geometry}
use Rattle.tsd_model.specs.declared.requests.Request.{Request}
use Rattle.cap_store.specs.Seeds.{seed_pairs}
use Rattle.load_gen.specs.Requests.{stream_word, request_at}

-- the key of its words, the pairs of the primary blocks, the size of the disk, and how many requests are drawn
pub record Generator : Type 0 where
  pub key : List ℕ
  pub pairs : List CapPair
  pub geometry : Geometry
  pub drawn : ℕ

-- the generator of a seed and a size, after so many requests
abbrev pub load_after : List ℕ → Geometry → ℕ → Generator
load_after seed geometry drawn =
    record { key = key_of seed; pairs = seed_pairs seed; geometry = geometry; drawn = drawn }

-- the request that it draws next
abbrev pub next_request : Generator → Request
next_request load = request_at (stream_word load.key) load.pairs load.geometry load.drawn

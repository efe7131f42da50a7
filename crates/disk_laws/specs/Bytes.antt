-- What reads no bytes of blocks.
use Rattle.std.specs.Prelude.{◌≡◌, ℕ, List, length, IsTrue}
use Rattle.tsd_model.specs.World.{World, is_live}
use Rattle.tsd_model.specs.Placing.{chosen, chosen_run}
use Rattle.tsd_model.specs.Sessions.{Sessions}
use Rattle.tsd_model.specs.Attained.{attained_from, attained}
use Rattle.tsd_model.specs.Verdict.{verdict}
use Rattle.tsd_model.specs.Step.{with_contents}
use Rattle.tsd_model.specs.declared.caps.Shown.{Shown}
use Rattle.tsd_model.specs.declared.requests.Hint.{Hint}
use Rattle.tsd_model.specs.declared.requests.PlaceKind.{PlaceKind}
use Rattle.tsd_model.specs.declared.requests.Request.{Request}

-- Worlds that may differ in the bytes of their live blocks, and in nothing else.
pub record AreLike (v w : World) : Type 0 where
  pub geometry : v.geometry ≡ w.geometry
  pub version : v.version ≡ w.version
  pub count : length v.blocks ≡ length w.blocks
  pub live : (b : ℕ) → is_live v b ≡ is_live w b
  pub pairs : v.pairs ≡ w.pairs
  pub records : v.records ≡ w.records

-- Other bytes in a live block leave such a world.
abbrev pub BytesLeaveWorldsLike : Type 0
BytesLeaveWorldsLike = (w : World) (b : ℕ) (bytes : List ℕ) → IsTrue (is_live w b) → AreLike (with_contents w b bytes) w

-- At two such worlds the same rule refuses a request, or none at both.
abbrev pub VerdictsReadNoBytes : Type 0
VerdictsReadNoBytes = (v w : World) → AreLike v w → (s : Sessions) (q : Request) → verdict v s q ≡ verdict w s q

-- A session attains the same at both, from each origin and in all. What a request needs is said of the request alone.
abbrev pub LevelsReadNoBytes : Type 0
LevelsReadNoBytes =
    (v w : World) → AreLike v w → (s : Sessions) (n b : ℕ) (shown : Shown)
    → ((o : ℕ) → attained_from v s n b shown o ≡ attained_from w s n b shown o)
    × (attained v s n b shown ≡ attained w s n b shown)

-- The same free blocks are chosen, and the same run of them.
abbrev pub ChoicesReadNoBytes : Type 0
ChoicesReadNoBytes =
    (v w : World) → AreLike v w → (kind : PlaceKind) (h : Hint) (count : ℕ)
    → (chosen kind v h count ≡ chosen kind w h count) × (chosen_run kind v h count ≡ chosen_run kind w h count)

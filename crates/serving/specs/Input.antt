-- How requests are read from bytes.
use Rattle.std.specs.Prelude.{◌≡◌, ℕ, Bool, true, false, List, [], ◌∷◌, ◌++◌}
use Rattle.serving.specs.declared.protocol.Ending.{Ending}
use Rattle.serving.specs.declared.protocol.Ending.TheVariants as ending

pub record Spelling (Q : Type 0) : Type 0 where
  -- the requests that are whole in some bytes
  pub requests : List ℕ → List Q
  -- what stands after the last of them, where the bytes have come to their end
  pub ending : List ℕ → Ending Q

-- More bytes change no request that was whole.
pub record IsSpelling {Q : Type 0} (p : Spelling Q) : Type 0 where
  pub none : p.requests [] ≡ []
  pub more : (x y : List ℕ) → (qs : List Q) × (p.requests (x ++ y) ≡ p.requests x ++ qs)

-- the request that stands at the end, if one does
abbrev pub last : {Q : Type 0} → Ending Q → List Q
last ending.Nothing = []
last ending.CutOff = []
last (ending.One q) = q ∷ []

-- the requests of bytes that have come to their end
abbrev pub all_requests : {Q : Type 0} → Spelling Q → List ℕ → List Q
all_requests p x = p.requests x ++ last (p.ending x)

-- the request that stands in the room for it, if it was made whole
abbrev pub completed : {Q : Type 0} → Bool → Q → List Q
completed false q = []
completed true q = q ∷ []

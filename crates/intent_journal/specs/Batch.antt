-- What a batch may hold: new bytes for up to 113 homes.
use Rattle.std.specs.Prelude.{ℕ, ◌≡◌, ◌≤◌, ◌==◌, Bool, cond, List, [], ◌∷◌, length, map, slice_get, Some, IsTrue}
use Rattle.std.specs.List.{list_all}
use Rattle.image_device.specs.Image.{IsSector}
use Rattle.image_layout.specs.declared.offset.Patch.{Patch}
use Rattle.image_layout.specs.Ring.{bodies}
use Rattle.tsd_model.specs.World.{has_number, are_apart}
use Rattle.intent_journal.specs.Homes.{is_lawful_home}

abbrev pub homes_of : List Patch → List ℕ
homes_of ps = map (λ p. p.sector) ps

abbrev pub has_home : List Patch → ℕ → Bool
has_home ps sector = has_number (homes_of ps) sector

-- the patch takes the place of that with its home, or else comes last
abbrev pub with_patch : Patch → List Patch → List Patch
with_patch p [] = p ∷ []
with_patch p (q ∷ qs) = cond (q.sector == p.sector) (p ∷ qs) (q ∷ with_patch p qs)

-- at most 113, each with the bytes of a sector
pub record ArePatches (ps : List Patch) : Type 0 where
  pub most : length ps ≤ bodies
  pub whole : (i : ℕ) (p : Patch) → slice_get ps i ≡ Some p → IsSector p.bytes

-- distinct lawful homes, at most 113, each with the bytes of a sector
pub record IsBatch (ps : List Patch) : Type 0 where
  pub most : length ps ≤ bodies
  pub distinct : IsTrue (are_apart (homes_of ps))
  pub lawful : IsTrue (list_all is_lawful_home (homes_of ps))
  pub whole : (i : ℕ) (p : Patch) → slice_get ps i ≡ Some p → IsSector p.bytes

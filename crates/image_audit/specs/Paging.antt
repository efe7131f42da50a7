-- The targets of a block, of which some are read at a time.
use Rattle.std.specs.Prelude.{◌≡◌, ℕ, ◌&&◌, ◌==◌, ◌≤◌, nat_le, List, [], length, map, filter, take, drop}
use Rattle.image_audit.specs.declared.targets.Targets.{Targets}

-- the targets of a that are not below `from`, ascending
abbrev pub targets_on : List (ℕ × ℕ) → ℕ → ℕ → List ℕ
targets_on es a from = map (λ e. e.1) (filter (λ e. (e.0 == a) && nat_le from e.1) es)

-- of what was read this wasn't handed out
abbrev pub page_rest : Targets → List ℕ
page_rest t = drop t.position t.page

-- it is the first ones of the targets that weren't handed out
pub record IsPageOf (es : List (ℕ × ℕ)) (t : Targets) : Type 0 where
  pub many : ℕ
  pub first : page_rest t ≡ take many (targets_on es t.source t.from)
  pub position : t.position ≤ length t.page

-- and there is one, unless all were handed out
pub record HasRest (es : List (ℕ × ℕ)) (t : Targets) : Type 0 where
  pub page : IsPageOf es t
  pub some : page_rest t ≡ [] → targets_on es t.source t.from ≡ []

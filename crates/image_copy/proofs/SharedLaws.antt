-- The blocks that two roots reach, in worlds that differ in bytes alone.
use Rattle.std.proofs.Common.{◌≡◌, ℕ, zero, suc, ◌==◌, ◌&&◌, ◌||◌, List, [], ◌∷◌, refl, sym, ◌∙◌, ap, filter, Option, Some, None}
use Rattle.std.specs.List.{list_any, range_with_len}
use Rattle.image_shell.proofs.Common.{AreLike, Geometry, World, has_number, is_under}
use Rattle.tsd_model.specs.Reach.{reach_from, reach_round, reach_rounds}
use Rattle.image_copy.specs.Steps.{IsSharing}

round_like : (v w : World) → AreLike v w → (from : List ℕ) → reach_round v from ≡ reach_round w from
round_like v w like from = λ i. filter (λ b. has_number from b || list_any (λ e. (e.1 == b) && has_number from e.0) (like.pairs i)) (range_with_len 0 (like.count i))

rounds_like : (v w : World) → AreLike v w → (start : List ℕ) (n : ℕ) → reach_rounds v start n ≡ reach_rounds w start n
rounds_like v w like start zero = refl
rounds_like v w like start (suc n) = ap (reach_round v) (rounds_like v w like start n) ∙ round_like v w like (reach_rounds w start n)

reach_like : (v w : World) → AreLike v w → (start : List ℕ) → reach_from v start ≡ reach_from w start
reach_like v w like start = ap (λ (g : Geometry). reach_rounds v start g.blocks) like.geometry ∙ rounds_like v w like start w.geometry.blocks

under_like : (v w : World) → AreLike v w → (root b : ℕ) → is_under v root b ≡ is_under w root b
under_like v w like root b = ap (λ (r : List ℕ). has_number r b) (reach_like v w like (root ∷ []))

pub sharing_like : (v w : World) → AreLike v w → (root other : ℕ) (r : Option ℕ) → IsSharing v root other r → IsSharing w root other r
sharing_like v w like root other (Some b) first = record {
  shared = (sym (under_like v w like root b) ∙ first.shared.0, sym (under_like v w like other b) ∙ first.shared.1);
  least = λ c both. first.least c (under_like v w like root c ∙ both.0, under_like v w like other c ∙ both.1);
}
sharing_like v w like root other None apart = λ b h. sym (under_like v w like other b) ∙ apart b (under_like v w like root b ∙ h)

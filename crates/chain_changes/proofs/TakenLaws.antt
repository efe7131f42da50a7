-- What is taken for a new chain, counted.
use Rattle.std.proofs.Common.{◌≡◌, ℕ, suc, ◌+◌, true, false, ◌||◌, List, [], ◌∷◌, length, refl, sym, ◌∙◌, ap, subst}
use Rattle.chain_changes.proofs.Common.{or_left, or_right, is_some, block_len, World, is_live, has_number, IsValid, links, need, clusters_for, DiskView, KeepsRoom, Client, takes_these, Making, NewFile, clusters_more, NewTail}

-- a pair to each block of a chain
length-links : (b : ℕ) (bs : List ℕ) → length (links (b ∷ bs)) ≡ length bs
length-links b [] = refl
length-links b (c ∷ bs) = ap suc (length-links c bs)

making_takes : (root : ℕ) (first : World) (source : ℕ) (blocks : List ℕ) (w : World) → IsValid first → Making root first source blocks w → KeepsRoom (need (length blocks) (length blocks)) first w
making_takes root first source blocks w valid m =
    subst (λ n. KeepsRoom (need (length blocks) n) first w) (length-links source blocks)
    (takes_these first w valid m.valid m.geometry blocks (links (source ∷ blocks)) lives (λ a b h. sym (m.pairs a b) ∙ h))
  where
    lives : (b : ℕ) → is_live w b ≡ true → (is_live first b || has_number blocks b) ≡ true
    lives b h = elim (has_number blocks b) as (λ t. has_number blocks b ≡ t → (is_live first b || t) ≡ true) [
      | true ↦ λ e. or_right (is_live first b) true refl
      | false ↦ λ e. or_left (is_live first b) false (ap is_some (sym (m.bytes b e)) ∙ h)
    ] refl

pub file_takes : (c : Client) (old new : DiskView) (source ahead : ℕ) (bytes blocks : List ℕ) → IsValid old.world → NewFile c old new source ahead bytes blocks
    → KeepsRoom (need (clusters_for old.world.geometry (length bytes) + ahead) (clusters_for old.world.geometry (length bytes) + ahead)) old.world new.world
file_takes c old new source ahead bytes blocks valid made = subst (λ n. KeepsRoom (need n n) old.world new.world) made.many (making_takes c.root old.world source blocks new.world valid made.making)

pub tail_takes : (c : Client) (old new : DiskView) (source : ℕ) (bytes blocks : List ℕ) → IsValid old.world → NewTail c old new source bytes blocks
    → KeepsRoom (need (clusters_more (block_len old.world.geometry) bytes) (clusters_more (block_len old.world.geometry) bytes)) old.world new.world
tail_takes c old new source bytes blocks valid made = subst (λ n. KeepsRoom (need n n) old.world new.world) made.many (making_takes c.root old.world source blocks new.world valid made.making)

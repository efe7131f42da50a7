-- The world after a write.
use Rattle.std.proofs.Common.{◌≡◌, ◌⊎◌, ℕ, ◌*◌, ◌≤◌, true, false, ◌==◌, List, sym, ◌∙◌, ap, subst, arith, inl, inr, Some, refl}
use Rattle.fs_client.proofs.Common.{eq-eqb, eqb-true, is_some, block_len, World, contents, is_live, is_free, IsValid, filled, written, contents-other, contents-same, live_below}
use Rattle.fs_client.proofs.RunLaws.{clash_free_live}
use Rattle.tsd_model.proofs.ValueLaws.{clash}

-- a block has room for the head of an inode or a cluster
pub block_long : (w : World) → IsValid w → 16 ≤ block_len w.geometry
block_long w valid = by_sectors w.geometry.sectors valid.raw.sized.lawful.sectors
  where
    by_sectors : (k : ℕ) → (k ≡ 1) ⊎ (k ≡ 2) ⊎ (k ≡ 4) ⊎ (k ≡ 8) → 16 ≤ 512 * k
    by_sectors k h = elim h [ inl one ↦ omega (arith, one) | inr more ↦ elim more [ inl two ↦ omega (arith, two) | inr most ↦ elim most [ inl four ↦ omega (arith, four) | inr eight ↦ omega (arith, eight) ] ] ]

module _ (w : World) (d : ℕ) (bytes : List ℕ) where
  -- other blocks are as they were
  pub written_elsewhere : (b : ℕ) → (b == d) ≡ false → contents (written w d bytes) b ≡ contents w b
  written_elsewhere b off = contents-other w d b (filled (block_len w.geometry) bytes) (λ e. clash (b == d) (eq-eqb b d e) off)

  module _ (live : is_live w d ≡ true) where
    pub written_here : contents (written w d bytes) d ≡ Some (filled (block_len w.geometry) bytes)
    written_here = contents-same w d (filled (block_len w.geometry) bytes) (live_below w.blocks d live)

    -- what was free is so still
    pub written_free : (b : ℕ) → is_free w b ≡ true → is_live (written w d bytes) b ≡ true → ⊥
    written_free b free lives = elim (b == d) as (λ t. (b == d) ≡ t → ⊥) [
      | true ↦ λ e. clash_free_live w d (subst (λ x. is_free w x ≡ true) (eqb-true b d e) free) live
      | false ↦ λ e. clash_free_live w b free (ap is_some (sym (written_elsewhere b e)) ∙ lives)
    ] refl

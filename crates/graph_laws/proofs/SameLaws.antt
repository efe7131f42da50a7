-- Worlds that hold the same are one.
use Rattle.std.proofs.Common.{◌≡◌, ℕ, Bool, true, false, cond, ◌&&◌, List, length, refl, sym, ◌∙◌, Option, Some, None, is_some}
use Rattle.graph_laws.proofs.Common.{ext_get_or, length-map-range_with_len, holds, is_rising, World, contents, is_live, restricted, contents-restricted, holds-restricted, is_rising-filter, rising_same}

-- ---- worlds

-- worlds of one size, version and records, whose blocks contain the same and which hold the same pairs, are one
pub same_world : (v w : World) → v.geometry ≡ w.geometry → v.version ≡ w.version → v.records ≡ w.records → length v.blocks ≡ length w.blocks
    → is_rising v.pairs ≡ true → is_rising w.pairs ≡ true
    → ((b : ℕ) → contents v b ≡ contents w b) → ((a b : ℕ) → holds v.pairs a b ≡ holds w.pairs a b) → v ≡ w
same_world v w sizes versions records long vp wp inside held =
    let blocks : v.blocks ≡ w.blocks = ext_get_or None v.blocks w.blocks long (λ b _. inside b) in
    let pairs : v.pairs ≡ w.pairs = rising_same v.pairs w.pairs vp wp held in
    λ i. record { geometry = sizes i; version = versions i; blocks = blocks i; pairs = pairs i; records = records i }

pub length-restricted : (w : World) (keep : ℕ → Bool) → length (restricted w keep).blocks ≡ length w.blocks
length-restricted w keep = length-map-range_with_len (λ c. cond (keep c) (contents w c) None) 0 (length w.blocks)

-- restricted worlds are one where the same blocks that pass contain the same, and the same pairs come from these
pub restricted_same : (v w : World) (p q : ℕ → Bool) → v.geometry ≡ w.geometry → v.version ≡ w.version → v.records ≡ w.records → length v.blocks ≡ length w.blocks
    → is_rising v.pairs ≡ true → is_rising w.pairs ≡ true
    → ((b : ℕ) → cond (p b) (contents v b) None ≡ cond (q b) (contents w b) None)
    → ((a b : ℕ) → (holds v.pairs a b && p a) ≡ (holds w.pairs a b && q a))
    → restricted v p ≡ restricted w q
restricted_same v w p q sizes versions records long vp wp inside held = same_world (restricted v p) (restricted w q) sizes versions records
    (length-restricted v p ∙ long ∙ sym (length-restricted w q))
    (is_rising-filter (λ e. p e.0) v.pairs vp)
    (is_rising-filter (λ e. q e.0) w.pairs wp)
    (λ b. contents-restricted v p b ∙ inside b ∙ sym (contents-restricted w q b))
    (λ a b. holds-restricted v p a b ∙ held a b ∙ sym (holds-restricted w q a b))

-- a world on blocks that all live blocks are among is the world
pub restricted_whole : (w : World) (keep : ℕ → Bool) → is_rising w.pairs ≡ true → ((b : ℕ) → is_live w b ≡ true → keep b ≡ true) → ((a b : ℕ) → holds w.pairs a b ≡ true → keep a ≡ true) → restricted w keep ≡ w
restricted_whole w keep rising all from = same_world (restricted w keep) w refl refl refl (length-restricted w keep)
    (is_rising-filter (λ e. keep e.0) w.pairs rising) rising
    (λ b. contents-restricted w keep b ∙ whole (keep b) (contents w b) (all b))
    (λ a b. holds-restricted w keep a b ∙ kept (holds w.pairs a b) (keep a) (from a b))
  where
    whole : (t : Bool) (o : Option (List ℕ)) → (is_some o ≡ true → t ≡ true) → cond t o None ≡ o
    whole true o h = refl
    whole false None h = refl
    whole false (Some x) h = let never = h refl in absurd (cc)

    kept : (h t : Bool) → (h ≡ true → t ≡ true) → (h && t) ≡ h
    kept true t f = f refl
    kept false t f = refl

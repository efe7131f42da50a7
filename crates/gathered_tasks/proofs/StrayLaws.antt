-- No request writes a sector that no batch may hold.
use Rattle.std.proofs.Common.{◌≡◌, ◌⊎◌, inl, inr, ℕ, zero, suc, ◌+◌, ◌-◌, ◌*◌, ◌≤◌, ◌<◌, ◌==◌, true, false, List, replicate, get_or, lit<, sym, ◌∙◌, ap, subst, arith}
use Rattle.gathered_tasks.proofs.Common.{Core, FitsReads, Geometry, Image, LeavesEither, LeavesPart, LeavesStray, StandsForEither, Tables, View, World, behind, home, home_unlawful, is_journal, says_open, total, world_on}
use Rattle.std.proofs.lemmas.Bool.{cases_Bool}
use Rattle.std.proofs.lemmas.Bool.Decides.{nat_tests}
use Rattle.std.proofs.lemmas.Grind.{div_ceil_times}
use Rattle.std.proofs.lemmas.List.{length-replicate}
use Rattle.tsd_model.specs.Geometry.{IsLawful}
use Rattle.image_device.specs.Image.{IsSector}
use Rattle.intent_journal.specs.Homes.{is_lawful_home}
use Rattle.image_world.specs.Tables.{tables_of}

-- an image has 8462726 sectors at most
blocks_most : (s b : ℕ) → (s ≡ 1) ⊎ (s ≡ 2) ⊎ (s ≡ 4) ⊎ (s ≡ 8) → b ≤ 1048576 → s * b ≤ 8388608
blocks_most s b (inl e) le = subst (λ n. n * b ≤ 8388608) (sym e) (omega (arith, le))
blocks_most s b (inr (inl e)) le = subst (λ n. n * b ≤ 8388608) (sym e) (omega (arith, le))
blocks_most s b (inr (inr (inl e))) le = subst (λ n. n * b ≤ 8388608) (sym e) (omega (arith, le))
blocks_most s b (inr (inr (inr e))) le = subst (λ n. n * b ≤ 8388608) (sym e) (omega (arith, le))

pub total_most : (g : Geometry) → IsLawful g → total g ≤ 8462726
total_most g lawful =
    let counts = (div_ceil_times (4 * g.blocks) 512 (lit< tt)).1 in
    let bits = (div_ceil_times g.blocks 4096 (lit< tt)).1 in
    let slots = (div_ceil_times (8 * g.slots) 512 (lit< tt)).1 in
    let blocks = blocks_most g.sectors g.blocks lawful.sectors lawful.blocks.1 in
    let few = lawful.blocks.1 in
    let held = lawful.slots.1 in
    omega (arith, counts, bits, slots, blocks, few, held)

lawful_size : (c : Core) (x : Image) → FitsReads c x → IsLawful c.volume.tables.geometry
unfolding tables_of
lawful_size c x fits = subst IsLawful (ap (λ (t : Tables). t.geometry) fits.tables) fits.good.header.2

-- 512 bytes
bytes_of : (k : ℕ) → k < 256 → IsSector (replicate 512 k)
bytes_of k less = record { size = length-replicate {A = ℕ} 512 k; each = λ i. same 512 i }
  where
    same : (n i : ℕ) → get_or (replicate n k) i 0 < 256
    same zero i = lit< tt
    same (suc n) zero = less
    same (suc n) (suc i) = same n i

module _ (c : Core) (v w : View) (next : World) (fits : FitsReads c v.reads) (clock : v.clock ≡ 1) (leaves : LeavesEither v w next) (aside : LeavesPart (behind c.volume.tables.geometry) v w) where
  formatted : (x : Image) → StandsForEither (world_on v) next x → says_open (x 1) ≡ true
  formatted x (inl s) = s.good.formatted
  formatted x (inr s) = s.good.formatted

  begun : (x : Image) (f : List ℕ) → w.left 1 x f → w.left v.clock x f
  begun x f left = subst (λ t. w.left t x f) (sym clock) left

  -- what a crash leaves in such a sector behind the image is what was there
  kept : (sector : ℕ) → is_lawful_home sector ≡ false → 8462726 ≤ sector → (x : Image) (f : List ℕ) → w.left 1 x f → x sector ≡ home v.reads sector
  kept sector unlawful far x f left =
      let g = c.volume.tables.geometry in
      let few = total_most g (lawful_size c v.reads fits) in
      let at : total g + (sector - total g) ≡ sector = omega (arith, few, far) in
      sym (home_unlawful x sector unlawful) ∙ ap (home x) (sym at) ∙ (λ i. aside.each x f (begun x f left) i (sector - total g)) ∙ ap (home v.reads) at

  pub no_stray : LeavesStray w → ⊥
  no_stray stray = elim (cases_Bool (stray.0 == 1)) [
    | inl gate ↦
        let left = stray.3 (replicate 512 0) (bytes_of 0 (lit< tt)) in
        let open_gate : says_open (left.0 stray.0) ≡ true = ap (λ n. says_open (left.0 n)) (is_one stray.0 gate) ∙ formatted left.0 (leaves.each left.0 left.1 (begun left.0 left.1 left.3)).0 in
        let zeros : says_open (replicate 512 0) ≡ true = ap says_open (sym left.2) ∙ open_gate in
        absurd (cc)
    | inr other ↦
        let far = beyond stray.0 stray.1 stray.2 other in
        let none = stray.3 (replicate 512 0) (bytes_of 0 (lit< tt)) in
        let ones = stray.3 (replicate 512 1) (bytes_of 1 (lit< tt)) in
        let same : replicate 512 0 ≡ replicate 512 1 = sym none.2 ∙ kept stray.0 stray.2 far none.0 none.1 none.3 ∙ sym (kept stray.0 stray.2 far ones.0 ones.1 ones.3) ∙ ones.2 in
        let first : 0 ≡ 1 = ap (λ (l : List ℕ). get_or l 0 0) same in
        absurd (omega (arith, first))
  ]
    where
      is_one : (n : ℕ) → (n == 1) ≡ true → n ≡ 1
      is_one n is = grind (arith, nat_tests)

      beyond : (n : ℕ) → is_journal n ≡ false → is_lawful_home n ≡ false → (n == 1) ≡ false → 8462726 ≤ n
      beyond n out unlawful other = grind (arith, nat_tests)

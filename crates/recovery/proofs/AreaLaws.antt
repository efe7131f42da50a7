-- What the sectors that formatting writes say.
use Rattle.std.proofs.Common.{◌≡◌, ℕ, ◌+◌, ◌-◌, ◌*◌, ◌<◌, ◌≤◌, ◌&&◌, nat_le, nat_lt, true, false, if◌then◌else◌, Bool, List, length, refl, sym, ◌∙◌, ap, subst, arith, inl, inr}
use Rattle.recovery.proofs.Common.{cases_Bool, nat_tests, CapPair, Geometry, IsLawful, zeros, sweep_flag, bitmap_start, slots_start, says_open, bitmap_sector_bytes, fresh_live, fresh_records, AreRecords, IsWrittenFresh, fresh_sectors, fresh_end, fresh_bytes, HasAreas}
use Rattle.std.proofs.lemmas.List.{length-map}
use Rattle.std.proofs.Math.Nat.{mul-le-mul_left}
use Rattle.tsd_model.specs.Records.{kept}
use Rattle.image_device.specs.Image.{Image}
use Rattle.image_layout.specs.Offsets.{data_sector}
use Rattle.cap_store.specs.Stored.{caps_sector_bytes}
use Rattle.cap_store.proofs.Written.{written as written_records}

module _ (g : Geometry) (caps : List CapPair) where
  pub bits_at : (n : ℕ) → bitmap_start g ≤ n → n < slots_start g → fresh_bytes g caps n ≡ bitmap_sector_bytes (fresh_live g) (n - bitmap_start g)
  bits_at n from to = choose (nat_le 132 n && nat_lt n 134) (nat_le (bitmap_start g) n && nat_lt n (slots_start g)) no_caps (inside (bitmap_start g) n (slots_start g) from to) _ _ _
    where
      no_caps : (nat_le 132 n && nat_lt n 134) ≡ false
      no_caps = grind (arith, nat_tests)

      inside : (a m b : ℕ) → a ≤ m → m < b → (nat_le a m && nat_lt m b) ≡ true
      inside a m b h k = grind (arith, nat_tests)

      choose : (s t : Bool) → s ≡ false → t ≡ true → (xs ys zs : List ℕ) → (if s then xs else if t then ys else zs) ≡ ys
      choose s t is_s is_t xs ys zs = rw (is_s, is_t) refl

  pub zeros_at : (n : ℕ) → (132 ≤ n → n < 134 → ⊥) → (bitmap_start g ≤ n → n < slots_start g → ⊥) → fresh_bytes g caps n ≡ zeros
  zeros_at n no_caps no_bits = choose (nat_le 132 n && nat_lt n 134) (nat_le (bitmap_start g) n && nat_lt n (slots_start g)) (outside 132 n 134 no_caps) (outside (bitmap_start g) n (slots_start g) no_bits) _ _ _
    where
      outside : (a m b : ℕ) → (a ≤ m → m < b → ⊥) → (nat_le a m && nat_lt m b) ≡ false
      outside a m b none = elim (cases_Bool (nat_le a m && nat_lt m b)) [ inl e ↦ absurd (none (low a m b e) (high a m b e)) | inr e ↦ e ]
        where
          low : (a m b : ℕ) → (nat_le a m && nat_lt m b) ≡ true → a ≤ m
          low a m b e = grind (arith, nat_tests)

          high : (a m b : ℕ) → (nat_le a m && nat_lt m b) ≡ true → m < b
          high a m b e = grind (arith, nat_tests)

      choose : (s t : Bool) → s ≡ false → t ≡ false → (xs ys zs : List ℕ) → (if s then xs else if t then ys else zs) ≡ zs
      choose s t is_s is_t xs ys zs = rw (is_s, is_t) refl

  pub has_written : (x : Image) → IsLawful g → length caps ≡ g.primaries → AreRecords 1 (fresh_records caps) → HasAreas g caps x → IsWrittenFresh g caps x
  has_written x lawful each kept_are has = record {
    tables = fresh_sectors g caps x lawful (record {
      header = has.header;
      flag = ap says_open (zero sweep_flag (omega arith) (omega arith) (λ a b. omega arith) (λ a b. omega arith));
      kept = written_records 1 (fresh_records caps) x (inl refl) few kept_are (λ part less.
          let first : part ≡ 0 = omega (arith, few, less) in
          subst (λ (n : ℕ). x (132 + n) ≡ caps_sector_bytes 1 (fresh_records caps) n) (sym first) (has.areas 132 (omega arith) (omega arith)));
      counts = λ n from to. zero n (omega arith) (omega arith) (λ a b. omega arith) (λ a b. omega arith);
      bits = λ part less.
          has.areas (bitmap_start g + part) (omega arith) (omega arith)
          ∙ (bits_at (bitmap_start g + part) (omega arith) less ∙ ap (bitmap_sector_bytes (fresh_live g)) (omega arith));
      slots = λ n from to. zero n (omega arith) (omega arith) (λ a b. omega arith) (λ a b. omega arith);
    });
    zeroed = λ b part low inside.
        let more : g.sectors * (b + 1) ≤ g.sectors * g.primaries = mul-le-mul_left g.sectors (omega arith) in
        zero (data_sector g b part) (omega arith) (omega (arith, more)) (λ a h. omega arith) (λ a h. omega arith);
    closed = has.closed;
  }
    where
      few : length (fresh_records caps) ≤ 16
      few = omega (arith, length-map caps (kept 1), each, lawful.primaries.1)

      zero : (n : ℕ) → sweep_flag ≤ n → n < fresh_end g → (132 ≤ n → n < 134 → ⊥) → (bitmap_start g ≤ n → n < slots_start g → ⊥) → x n ≡ zeros
      zero n from to no_caps no_bits = has.areas n from to ∙ zeros_at n no_caps no_bits

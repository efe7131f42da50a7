-- Data sectors of some blocks, one after another.
use Rattle.std.proofs.Common.{◌≡◌, ◌≢◌, ℕ, zero, suc, ◌+◌, ◌<◌, ◌≤◌, true, false, ◌&&◌, ◌||◌, ◌==◌, nat_le, nat_lt, inl, inr, List, [], ◌∷◌, length, refl, sym, ◌∙◌, ap, arith}
use Rattle.volume_laws.proofs.Common.{slice_index, cases_Bool, or_parts, nat_tests, Geometry, has_number, Uses, View, data_sector, is_part, is_data}

same_number : (m k : ℕ) → m ≡ k → (m == k) ≡ true
same_number m k e = grind (arith, nat_tests)

equal_number : (m k : ℕ) → (m == k) ≡ true → m ≡ k
equal_number m k e = grind (arith, nat_tests)

pub at_number : (bs : List ℕ) (k : ℕ) → k < length bs → has_number bs (slice_index bs k) ≡ true
at_number [] k h = absurd (omega arith)
at_number (b ∷ bs) zero h = let e : (b == b) ≡ true = same_number b b refl in rw e refl
at_number (b ∷ bs) (suc k) h = elim (b == slice_index bs k) as (λ t. (t || has_number bs (slice_index bs k)) ≡ true) [ true ↦ refl | false ↦ at_number bs k (omega arith) ]

pub number_at : (bs : List ℕ) (b : ℕ) → has_number bs b ≡ true → (k : ℕ) × (k < length bs) × (slice_index bs k ≡ b)
number_at [] b h = absurd (cc)
number_at (c ∷ cs) b h = elim (cases_Bool (c == b)) [
  | inl e ↦ (0, omega arith, equal_number c b e)
  | inr e ↦ let rest : has_number cs b ≡ true = (λ i. sym e i || has_number cs b) ∙ h in let found = number_at cs b rest in (suc found.0, omega (arith, found.1), found.2)
]

pub part_is : (g : Geometry) (b part : ℕ) → part < g.sectors → is_part g b (data_sector g b part) ≡ true
part_is g b part h = inside (data_sector g b 0) g.sectors (data_sector g b part) (omega arith) (omega arith)
  where
    inside : (first k m : ℕ) → first ≤ m → m < first + k → (nat_le first m && nat_lt m (first + k)) ≡ true
    inside first k m one two = grind (arith, nat_tests)

pub data_wider : (g : Geometry) (bs : List ℕ) (k n : ℕ) → k < length bs → is_data g bs n ≡ false → is_part g (slice_index bs k) n ≡ false
data_wider g [] k n h out = absurd (omega arith)
data_wider g (b ∷ bs) zero n h out = (or_parts (is_part g b n) (is_data g bs n) out).0
data_wider g (b ∷ bs) (suc k) n h out = data_wider g bs k n (omega arith) (or_parts (is_part g b n) (is_data g bs n) out).1

pub data_apart : (g : Geometry) (b i j : ℕ) → i ≢ j → data_sector g b i ≢ data_sector g b j
data_apart g b i j other e = other (omega (arith, e))

pub is_data_part : (g : Geometry) (bs : List ℕ) (b part : ℕ) → has_number bs b ≡ true → part < g.sectors → is_data g bs (data_sector g b part) ≡ true
is_data_part g [] b part in_ h = absurd (cc)
is_data_part g (c ∷ cs) b part in_ h = elim (cases_Bool (c == b)) [
  | inl e ↦ let here : is_part g c (data_sector g b part) ≡ true = ap (λ m. is_part g m (data_sector g b part)) (equal_number c b e) ∙ part_is g b part h in rw here refl
  | inr e ↦ let rest : has_number cs b ≡ true = (λ i. sym e i || has_number cs b) ∙ in_ in elim (is_part g c (data_sector g b part)) as (λ t. (t || is_data g cs (data_sector g b part)) ≡ true) [ true ↦ refl | false ↦ is_data_part g cs b part rest h ]
]

pub uses_more : (a b k : ℕ) (old mid new : View) → a + b ≤ k → Uses a old mid → Uses b mid new → Uses k old new
uses_more a b k old mid new most one two = record {
  clock = omega (arith, one.clock, two.clock);
  faults = omega (arith, one.faults, two.faults);
  put_faults = two.put_faults ∙ one.put_faults;
  writes = omega (arith, one.writes, two.writes);
  most = omega (arith, one.most, two.most, most);
}

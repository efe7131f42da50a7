-- The writes of all sectors but the format gate, one group after another.
use Rattle.std.proofs.Common.{◌≡◌, ℕ, ◌<◌, ◌≤◌, ◌==◌, nat_le, nat_lt, inl, inr, Bool, true, false, not, List, length, sym, ◌∙◌, ap, subst, arith, refl, Ok}
use Rattle.recovery.proofs.Common.{cases_Bool, both_ways, nat_tests, CapPair, Geometry, IsLawful, fresh_records, AreRecords, Settles, Touches, IsConfined, View, IsSound, confined_start, confined_write, confined_joined, confined_wider, header_sector, format_gate, sweep_flag, IsHeaderReading, says_open, gate_sector, IsWrittenFresh, AreClosed, is_journal, gate_in, fresh_end, fresh_bytes, is_fresh}
use Rattle.image_device.specs.Image.{Image}
use Rattle.recovery.proofs.AreaLaws.{has_written}

abbrev pub but_gate : ℕ → Bool
but_gate n = not (n == format_gate)

is_gate : (n : ℕ) → but_gate n ≡ false → n ≡ 1
is_gate n out = grind (arith, nat_tests)

pub after_header : (v0 v1 : View) → IsSound v0 → Touches header_sector v0 v1 → IsConfined but_gate v0 v1
after_header v0 v1 sound touches = confined_write but_gate header_sector v0 v0 v1 refl (confined_start but_gate v0 sound) touches

pub after_gates : (v0 v1 v2 : View) → IsConfined but_gate v0 v1 → IsConfined is_journal v1 v2 → IsConfined but_gate v0 v2
after_gates v0 v1 v2 one two =
    confined_joined but_gate v0 v1 v2 one (confined_wider is_journal but_gate v1 v2 (λ n out. ap is_journal (is_gate n out)) two)

pub after_tables : (v0 v2 v3 : View) → IsConfined but_gate v0 v2 → IsConfined (nat_le sweep_flag) v2 v3 → IsConfined but_gate v0 v3
after_tables v0 v2 v3 two three =
    confined_joined but_gate v0 v2 v3 two (confined_wider (nat_le sweep_flag) but_gate v2 v3 (λ n out. ap (nat_le sweep_flag) (is_gate n out)) three)

gate_low : (n : ℕ) → is_journal n ≡ true → n < 131
gate_low n inside = grind (arith, nat_tests)

-- ---- the same of all that formatting writes
low_fresh : (g : Geometry) (n : ℕ) → n < 131 → is_fresh g n ≡ true
low_fresh g n low = below n (fresh_end g) (omega (arith, low))
  where
    below : (m k : ℕ) → m < k → nat_lt m k ≡ true
    below m k h = grind (arith, nat_tests)

-- what is outside of it is outside of what is written first
journal_out : (g : Geometry) (n : ℕ) → is_fresh g n ≡ false → is_journal n ≡ false
journal_out g n out = elim (cases_Bool (is_journal n)) [
  | inl inside ↦ absurd (both_ways (is_fresh g n) out (low_fresh g n (gate_low n inside)))
  | inr e ↦ e
]

pub header_inside : (g : Geometry) (v0 v1 : View) → IsSound v0 → Touches header_sector v0 v1 → IsConfined (is_fresh g) v0 v1
header_inside g v0 v1 sound touches = confined_write (is_fresh g) header_sector v0 v0 v1 (low_fresh g header_sector (omega arith)) (confined_start (is_fresh g) v0 sound) touches

pub gates_inside : (g : Geometry) (v0 v1 v2 : View) → IsConfined (is_fresh g) v0 v1 → IsConfined is_journal v1 v2 → IsConfined (is_fresh g) v0 v2
gates_inside g v0 v1 v2 one two = confined_joined (is_fresh g) v0 v1 v2 one (confined_wider is_journal (is_fresh g) v1 v2 (journal_out g) two)

pub gate_inside : (g : Geometry) (v0 v1 : View) → IsConfined (λ n. n == format_gate) v0 v1 → IsConfined (is_fresh g) v0 v1
gate_inside g v0 v1 one = confined_wider (λ n. n == format_gate) (is_fresh g) v0 v1 (λ n out. apart n out) one
  where
    first : (n : ℕ) → (n == format_gate) ≡ true → n < 131
    first n same = grind (arith, nat_tests)

    apart : (n : ℕ) → is_fresh g n ≡ false → (n == format_gate) ≡ false
    apart n out = elim (cases_Bool (n == format_gate)) [
      | inl same ↦ absurd (both_ways (is_fresh g n) out (low_fresh g n (first n same)))
      | inr e ↦ e
    ]

pub inside_joined : (g : Geometry) (v0 v1 v2 : View) → IsConfined (is_fresh g) v0 v1 → IsConfined (is_fresh g) v1 v2 → IsConfined (is_fresh g) v0 v2
inside_joined g v0 v1 v2 one two = confined_joined (is_fresh g) v0 v1 v2 one two

below_flag : (n : ℕ) → n < 131 → nat_le sweep_flag n ≡ false
below_flag n less = grind (arith, nat_tests)

no_gate : (n : ℕ) → 2 ≤ n → (n == format_gate) ≡ false
no_gate n more = grind (arith, nat_tests)

journal_high : (n : ℕ) → is_journal n ≡ true → 2 ≤ n
journal_high n inside = grind (arith, nat_tests)

-- every image that agrees with the device but at the format gate
pub all_written : (g : Geometry) (caps : List CapPair) (v1 v2 v3 v4 : View) → IsLawful g → length caps ≡ g.primaries → AreRecords 1 (fresh_records caps)
    → IsHeaderReading (v1.reads header_sector) (Ok (record { version = 1; geometry = g }))
    → IsConfined is_journal v1 v2 → AreClosed v2.reads
    → IsConfined (nat_le sweep_flag) v2 v3 → ((n : ℕ) → sweep_flag ≤ n → n < fresh_end g → v3.reads n ≡ fresh_bytes g caps n)
    → Settles v3 v4
    → (x : Image) → ((n : ℕ) → (n == format_gate) ≡ false → x n ≡ v4.reads n) → IsWrittenFresh g caps x
all_written g caps v1 v2 v3 v4 lawful each kept header two closed three fresh four x same = has_written g caps x lawful each kept (record {
  header = subst (λ bytes. IsHeaderReading bytes (Ok (record { version = 1; geometry = g }))) (sym (there header_sector refl ∙ (three.reads header_sector refl ∙ two.reads header_sector refl))) header;
  closed = λ i h.
      let inside = gate_in i h in
      ap says_open (there (gate_sector i) (no_gate (gate_sector i) (journal_high (gate_sector i) inside)) ∙ three.reads (gate_sector i) (below_flag (gate_sector i) (gate_low (gate_sector i) inside))) ∙ closed i h;
  areas = λ n from to. there n (no_gate n (omega arith)) ∙ fresh n from to;
})
  where
    there : (n : ℕ) → (n == format_gate) ≡ false → x n ≡ v3.reads n
    there n out = same n out ∙ ap (λ (reads : Image). reads n) four.reads

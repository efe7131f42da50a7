-- Pairs of hexadecimal digits that are all read, and judged by the greatest value.
use Rattle.std.proofs.Common.{◌≡◌, ℕ, ◌+◌, ◌*◌, ◌%◌, ◌<◌, ◌≤◌, List, length, take, drop, slice_index_or, slice_set, cond, nat_lt, Option, Some, None, Ok, Err, unwrap_or, refl, sym, ◌∙◌, ap, arith, inl, inr}
use Rattle.std.specs.Prelude.{max}
use Rattle.std.specs.Result.{result_ok}
use Rattle.std.proofs.lemmas.Bool.{cases_lt, lt-ltb, le-ltb}
use Rattle.hex.specs.Hex.{decode_pairs, decode_sized, hex_digit_value, pair_value}
use Rattle.hex.specs.declared.error.FromHexError.TheVariants.{InvalidHexCharacter}
use Rattle.hex.proofs.Pairs.{prepend, decode_start, decode_step, decode_err, decode_done, decode_sized-pairs}

-- so many pairs of a text are read, and the greatest value of a digit tells whether each of them was one
pub record AreRead (text bytes : List ℕ) (pairs worst : ℕ) : Type 0 where
  pub good : worst < 16 → decode_pairs 0 text ≡ prepend (take pairs bytes) (decode_pairs (2 * pairs) (drop (2 * pairs) text))
  pub bad : 16 ≤ worst → result_ok (decode_pairs 0 text) ≡ None

pub none_read : (text bytes : List ℕ) → AreRead text bytes 0 0
none_read text bytes = record {
  good = λ few. decode_start text bytes;
  bad = λ many. absurd (omega (arith, many));
}

small : (c v : ℕ) → hex_digit_value c ≡ Some v → v < 16
small c v h = grind (arith)

is_digit : (o : Option ℕ) (v : ℕ) → v ≡ unwrap_or o 255 → v < 16 → o ≡ Some v
is_digit (Some w) v e few = ap Some (sym e)
is_digit None v e few = absurd (omega (arith, e, few))

no_digit : (o : Option ℕ) (v : ℕ) → ((w : ℕ) → o ≡ Some w → w < 16) → v ≡ unwrap_or o 255 → 16 ≤ v → o ≡ None
no_digit (Some w) v below e many = absurd (let few = below w refl in omega (arith, e, few, many))
no_digit None v below e many = refl

two_digits : (a b i high low : ℕ) → hex_digit_value a ≡ Some high → hex_digit_value b ≡ Some low → pair_value a b i ≡ Ok (high * 16 + low)
two_digits a b i high low ea eb = rw (ea, eb) refl

first_is_none : (a b i : ℕ) → hex_digit_value a ≡ None → pair_value a b i ≡ Err (InvalidHexCharacter a i)
first_is_none a b i ea = rw ea refl

second_is_none : (a b i high : ℕ) → hex_digit_value a ≡ Some high → hex_digit_value b ≡ None → pair_value a b i ≡ Err (InvalidHexCharacter b (i + 1))
second_is_none a b i high ea eb = rw (ea, eb) refl

-- one pair more
pub one_more_read : (text bytes : List ℕ) (i worst high low : ℕ) → 2 * i + 1 < length text → i < length bytes
    → high ≡ unwrap_or (hex_digit_value (slice_index_or text (2 * i) 0)) 255
    → low ≡ unwrap_or (hex_digit_value (slice_index_or text (2 * i + 1) 0)) 255
    → AreRead text bytes i worst
    → AreRead text (slice_set bytes i (high % 16 * 16 + low % 16)) (i + 1) (max (max worst high) low)
one_more_read text bytes i worst high low inside room eh el are =
    let a = slice_index_or text (2 * i) 0 in
    let b = slice_index_or text (2 * i + 1) 0 in
    let refused : (e : _) → pair_value a b (2 * i) ≡ Err e → worst < 16 → result_ok (decode_pairs 0 text) ≡ None = λ e bad few. ap result_ok (decode_err text bytes i e inside bad (are.good few)) in
    record {
      good = λ few.
          let first : hex_digit_value a ≡ Some high = is_digit (hex_digit_value a) high eh (omega (arith, few)) in
          let second : hex_digit_value b ≡ Some low = is_digit (hex_digit_value b) low el (omega (arith, few)) in
          let byte : high * 16 + low ≡ high % 16 * 16 + low % 16 = omega (arith, few) in
          decode_step text bytes i (high % 16 * 16 + low % 16) inside room (two_digits a b (2 * i) high low first second ∙ ap Ok byte) (are.good (omega (arith, few)));
      bad = λ many. elim (cases_lt worst 16) [
        | inr before ↦ are.bad before
        | inl few ↦ elim (cases_lt high 16) [
          | inr one ↦ refused _ (first_is_none a b (2 * i) (no_digit (hex_digit_value a) high (small a) eh one)) few
          | inl digit ↦ refused _ (second_is_none a b (2 * i) high (is_digit (hex_digit_value a) high eh digit) (no_digit (hex_digit_value b) low (small b) el (omega (arith, many, few, digit)))) few
        ]
      ];
    }

-- all are read
pub all_read : (text bytes : List ℕ) (n i worst : ℕ) → length text ≡ 2 * n → length bytes ≡ n → n ≤ i → AreRead text bytes i worst
    → result_ok (decode_sized text n) ≡ cond (nat_lt worst 16) (Some bytes) None
all_read text bytes n i worst twice size past are =
    let pairs = decode_sized-pairs text n (omega (arith, twice)) (omega (arith, twice)) in
    elim (cases_lt worst 16) [
      | inl few ↦ ap result_ok (pairs ∙ decode_done text bytes i (omega (arith, size, past)) (omega (arith, twice, past)) (are.good few)) ∙ sym (ap (λ t. cond t (Some bytes) None) (lt-ltb worst 16 few))
      | inr many ↦ ap result_ok pairs ∙ (are.bad many ∙ sym (ap (λ t. cond t (Some bytes) None) (le-ltb worst 16 many)))
    ]
